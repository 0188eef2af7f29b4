use native.Mathlib.Omega.{arith}
use lib.ListN.{length-set}
use borrow.Author.Tests.{eq-eqb, le-leb, lt-leb, ne_eqb}
use Rattle.undo_chains.specs.UndoChains.{file_at}
use Rattle.undo_chains.proofs.append.Goals as goal

pub overflow_cast-last : goal.overflow_cast-last
overflow_cast-last c = omega (arith, c.slice_known-1.given c.args.d)

pub bounds-files-head : goal.bounds-files-head
bounds-files-head c = simp length-set (omega arith)

pub returns-then-last-eq0 : goal.returns-then-last-eq0
unfolding file_at
returns-then-last-eq0 c = simp (eq-eqb _ _ c.if-last-eq0.true)

pub returns-then-last-gt4096 : goal.returns-then-last-gt4096
unfolding file_at
returns-then-last-gt4096 c = simp (ne_eqb _ _ c.if-last-eq0.false, lt-leb _ _ c.if-last-gt4096.true)

pub bounds-files-link : goal.bounds-files-link
bounds-files-link c = simp length-set (omega arith)

pub returns : goal.returns
unfolding file_at
returns c = simp (ne_eqb _ _ c.if-last-eq0.false, le-leb _ _ c.if-last-gt4096.false)

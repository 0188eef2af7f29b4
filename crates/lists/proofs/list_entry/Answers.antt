use native.Mathlib.Omega.{arith}
use lib.ListN.{length-set}
use borrow.Author.Tests.{eq-eqb, ne_eqb}
use Rattle.marks.specs.Trail.{turned}
use Rattle.lists.specs.Lists.{list_entry}
use Rattle.lists.proofs.list_entry.Goals as goal

pub overflow_cast-group : goal.overflow_cast-group
overflow_cast-group c = omega (arith, c.slice_known-1.given c.args.e)

pub returns-then-group-d : goal.returns-then-group-d
unfolding list_entry
returns-then-group-d c = turned (simp (eq-eqb _ _ c.if-group-d.true))

pub bounds-lists-at : goal.bounds-lists-at
bounds-lists-at c = simp length-set (omega arith)

pub returns : goal.returns
unfolding list_entry
returns c = turned (simp (ne_eqb _ _ c.if-group-d.false))

use Prim.Native.Nat.{◌+◌}
use native.Mathlib.Omega.{arith}
use borrow.Author.Tests.{eq-eqb, ne_eqb}
use Rattle.marks.specs.Trail.{turned}
use Rattle.lists.specs.Lists.{unlist_entry}
use Rattle.lists.proofs.unlist_entry.Goals as goal

pub overflow_cast-group : goal.overflow_cast-group
overflow_cast-group c = omega (arith, c.slice_known-1.given c.args.e)

pub returns-then-group-d : goal.returns-then-group-d
unfolding unlist_entry
returns-then-group-d c = turned (simp (ne_eqb _ _ c.if-group-d.true))

pub overflow_cast-place : goal.overflow_cast-place
overflow_cast-place c = omega (arith, c.slice_known-2-1.given (1025 + c.args.e))

pub returns-then-place-i : goal.returns-then-place-i
unfolding unlist_entry
returns-then-place-i c = turned (simp (eq-eqb _ _ c.if-group-d.false, ne_eqb _ _ c.if-place-i.true))

pub returns : goal.returns
unfolding unlist_entry
returns c = turned (simp (eq-eqb _ _ c.if-group-d.false, eq-eqb _ _ c.if-place-i.false))

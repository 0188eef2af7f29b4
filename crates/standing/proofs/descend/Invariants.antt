use mathlib.Core.Path.{refl}
use Prim.Native.Nat.{◌-◌}
use native.Mathlib.Omega.{arith}
use borrow.Author.Rules.{rules}
use Rattle.marks.specs.Steps.{has_one}
use Rattle.standing.specs.Standing.{descend_from}
use Rattle.standing.proofs.Turns.{Sinking, sink-none, sink-past, sink-more, sink-end}
use Rattle.standing.proofs.descend.Given as goal

abbrev pub invariant-loop-level : goal.invariant-loop-level
invariant-loop-level l = Sinking (descend_from l.records.store.now l.records.m l.records.r l.key l.i l.levels) l.records.store.now l.records.m l.records.r l.key l.at (l.levels - l._level)

use Prim.Native.Nat.{◌-◌}
use Rattle.undo_log.specs.Undoing.{UndoneTo, undo_all}
use Rattle.undo_log.proofs.undo_all.Given as goal

abbrev pub invariant-loop-turn : goal.invariant-loop-turn
invariant-loop-turn l = UndoneTo (undo_all l.initial.store l.m l.r l.i) l.store l.m (l.r - l._turn) l.at

use Prim.Native.Nat.{◌-◌}
use Rattle.endings.proofs.Turns.{LeftTo}
use Rattle.endings.proofs.leave_entries.Given as goal

abbrev pub invariant-loop-e : goal.invariant-loop-e
invariant-loop-e l = LeftTo l.initial.store l.p (l.e - 1) l.store

use Prim.Native.Nat.{◌-◌}
use Rattle.endings.proofs.Turns.{ClearedTo}
use Rattle.endings.proofs.fresh_entries.Given as goal

abbrev pub invariant-loop-e : goal.invariant-loop-e
invariant-loop-e l = ClearedTo l.initial.store (l.e - 1) l.store

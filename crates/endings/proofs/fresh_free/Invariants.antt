use Prim.Native.Nat.{◌-◌, ◌≤◌}
use Rattle.endings.proofs.Turns.{FreedTo}
use Rattle.endings.proofs.fresh_free.Given as goal

abbrev pub invariant-loop-i : goal.invariant-loop-i
invariant-loop-i l = (3 ≤ l.i) × FreedTo l.initial.store l.m l.r (l.i - 1) l.store

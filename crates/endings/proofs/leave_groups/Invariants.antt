use Prim.Native.Nat.{◌-◌}
use Rattle.endings.specs.Leave.{leave_groups}
use Rattle.endings.proofs.Turns.{Leaving}
use Rattle.endings.proofs.leave_groups.Given as goal

abbrev pub invariant-loop-turn : goal.invariant-loop-turn
invariant-loop-turn l = Leaving (leave_groups l.initial.store l.m l.p l.r l.i) l.store l.m l.p (l.r - l._turn) l.d

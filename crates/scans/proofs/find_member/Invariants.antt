use Prim.Native.Nat.{◌-◌}
use Rattle.scans.specs.Scans.{membership_of}
use Rattle.scans.proofs.Turns.{Finding}
use Rattle.scans.proofs.find_member.Given as goal

abbrev pub invariant-loop-turn : goal.invariant-loop-turn
invariant-loop-turn l = Finding (membership_of l.store l.m l.r l.i l.e) l.store l.m l.at (l.r - l._turn) l.e

use Prim.Native.Nat.{◌-◌}
use Rattle.scans.specs.Scans.{last_upto}
use Rattle.scans.proofs.Turns.{Following}
use Rattle.scans.proofs.last_upto.Given as goal

abbrev pub invariant-loop-turn : goal.invariant-loop-turn
invariant-loop-turn l = Following (last_upto l.store l.m l.r l.i l.k) l.store l.m l.at (l.r - l._turn) l.k

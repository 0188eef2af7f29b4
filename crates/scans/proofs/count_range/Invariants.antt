use Prim.Native.Nat.{◌-◌}
use Rattle.scans.specs.Scans.{range_count}
use Rattle.scans.proofs.Turns.{CountingRange}
use Rattle.scans.proofs.count_range.Given as goal

abbrev pub invariant-loop-turn : goal.invariant-loop-turn
invariant-loop-turn l = CountingRange (range_count l.store l.m l.r l.r l.i l.hi) l.store l.m l.r l.at (l.r - l._turn) l.n l.hi

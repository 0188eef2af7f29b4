use Prim.Native.Nat.{◌-◌}
use lib.ListN.{length, drop}
use mathlib.Core.List.{◌++◌}
use Rattle.scans.specs.Scans.{range_words}
use Rattle.scans.proofs.Pairs.{Writing}
use Rattle.scans.proofs.write_pairs.Given as goal

abbrev pub invariant-loop-turn : goal.invariant-loop-turn
invariant-loop-turn l =
    Writing (range_words l.store l.m l.r l.r l.i l.hi ++ drop (length (range_words l.store l.m l.r l.r l.i l.hi)) l.initial.list)
    l.store l.m l.r l.hi l.list l.d (l.r - l._turn) l.at

use Prim.Native.Nat.{◌-◌}
use lib.ListN.{length}
use Rattle.scans.specs.Scans.{entries_in, rising, pair_words, over}
use Rattle.scans.proofs.Pairs.{Grouping}
use Rattle.scans.proofs.write_group.Given as goal

abbrev pub invariant-loop-n : goal.invariant-loop-n
invariant-loop-n l =
    Grouping (over (pair_words l.key (rising (entries_in l.store l.m l.r l.first))) l.initial.list) (length (entries_in l.store l.m l.r l.first))
    l.store l.m l.key l.list l.at (l.r - l.n) l.n

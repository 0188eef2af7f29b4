use Prim.Native.Nat.{◌-◌}
use lib.ListN.{length}
use Rattle.scans.specs.Scans.{entries_in}
use Rattle.scans.proofs.Turns.{Counting}
use Rattle.scans.proofs.count_members.Given as goal

abbrev pub invariant-loop-n : goal.invariant-loop-n
invariant-loop-n l = Counting (length (entries_in l.store l.m l.r l.i)) l.store l.m l.at (l.r - l.n) l.n

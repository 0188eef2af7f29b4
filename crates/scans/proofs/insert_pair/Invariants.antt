use Rattle.scans.specs.Scans.{insert_pair}
use Rattle.scans.proofs.Pairs.{Inserting}
use Rattle.scans.proofs.insert_pair.Given as goal

abbrev pub invariant-loop-i : goal.invariant-loop-i
invariant-loop-i l = Inserting (insert_pair l.n l.key l.e l.initial.list) l.n l.key l.list l.carry l.i

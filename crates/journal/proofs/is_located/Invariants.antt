use Rattle.journal.specs.Located.{Locating, going}
use Rattle.journal.proofs.is_located.Given as goal

abbrev pub invariant-loop-i : goal.invariant-loop-i
invariant-loop-i l = Locating l.bytes l.r l.db.keys l.db.entries l.db.count l.i (going l.at l.met)

use Rattle.std.proofs.Common.{◌-◌}
use Rattle.serial.specs.Model.{empty}
use Rattle.journal.specs.Loops.{GoingOn}
use Rattle.journal.proofs.is_replayed.Given as goal

abbrev pub invariant-loop-passed : goal.invariant-loop-passed
invariant-loop-passed l = GoingOn l.bytes empty l.db.values l.db.keys l.db.entries l.db.count l.at (l.records - l.passed)

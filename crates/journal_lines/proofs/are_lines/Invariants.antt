use Rattle.std.proofs.Common.{◌-◌}
use Rattle.journal_lines.specs.Loops.{Reading}
use Rattle.journal_lines.proofs.are_lines.Given as goal

abbrev pub invariant-loop-passed : goal.invariant-loop-passed
invariant-loop-passed l = Reading l.bytes (l.records - l.passed) l.at

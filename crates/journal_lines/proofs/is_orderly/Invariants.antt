use Rattle.std.proofs.Common.{◌-◌}
use Rattle.journal_lines.specs.Loops.{Going}
use Rattle.journal_lines.proofs.is_orderly.Given as goal

abbrev pub invariant-loop-passed : goal.invariant-loop-passed
invariant-loop-passed l = Going l.bytes (l.records - l.passed) l.at

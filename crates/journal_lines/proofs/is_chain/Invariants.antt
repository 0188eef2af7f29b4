use Rattle.std.proofs.Common.{◌-◌}
use Rattle.journal_lines.specs.Loops.{Chaining}
use Rattle.journal_lines.proofs.is_chain.Given as goal

abbrev pub invariant-loop-passed : goal.invariant-loop-passed
invariant-loop-passed l = Chaining l.bytes l.start (l.records - l.passed) l.at

use Rattle.std.proofs.Common.{◌-◌}
use Rattle.journal_lines.specs.Loops.{Seeking}
use Rattle.journal_lines.proofs.goes_on.Given as goal

abbrev pub invariant-loop-passed : goal.invariant-loop-passed
invariant-loop-passed l = Seeking l.bytes l.many l.start l.run (l.many - l.passed) l.at

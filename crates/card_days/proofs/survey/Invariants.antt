use Rattle.std.proofs.Common.{◌*◌}
use Rattle.card_days.specs.Loops.{Walking}
use Rattle.card_days.proofs.survey.Given as goal

abbrev pub invariant-loop-i : goal.invariant-loop-i
invariant-loop-i l = Walking l.bytes l.k l.walk (2 * l.i)

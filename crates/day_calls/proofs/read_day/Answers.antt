use Rattle.std.proofs.Common.{sym, ◌∙◌}
use borrow.Author.Tests.{not-false}
use Rattle.day_calls.specs.Accepting.{reads-day}
use Rattle.day_calls.proofs.read_day.Goals as goal

pub returns : goal.returns
returns c = reads-day _ _ _ _ _ _ _ _ _ (sym (not-false _ c.if-not-s.false) ∙ c.survey-s.ensures.0) c.survey-s.ensures.1 c.survey-s.ensures.2 c.request_from.ensures

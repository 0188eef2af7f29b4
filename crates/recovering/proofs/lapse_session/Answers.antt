use mathlib.Core.Path.{sym, ◌∙◌}
use Rattle.recovering.specs.Recovering.{session-stays, session-lapses}
use Rattle.recovering.proofs.lapse_session.Goals as goal

pub returns-then-lapses : goal.returns-then-lapses
returns-then-lapses c = c.ended_session.ensures ∙ session-lapses _ (sym c.lapses.ensures ∙ c.if-lapses.true)

pub returns-else-lapses : goal.returns-else-lapses
returns-else-lapses c = session-stays _ (sym c.lapses.ensures ∙ c.if-lapses.false)

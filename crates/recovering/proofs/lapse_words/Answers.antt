use mathlib.Core.Path.{sym, ◌∙◌}
use Rattle.recovering.specs.Recovering.{words-stay, words-lapse}
use Rattle.recovering.proofs.lapse_words.Goals as goal

pub abort_words-requires : goal.abort_words-requires
abort_words-requires c = c.requires (sym c.lapses.ensures ∙ c.if-lapses.true)

pub returns-then-lapses : goal.returns-then-lapses
returns-then-lapses c = c.abort_words.ensures ∙ words-lapse _ _ _ _ _ (sym c.lapses.ensures ∙ c.if-lapses.true)

pub returns-else-lapses : goal.returns-else-lapses
returns-else-lapses c = words-stay _ _ _ _ _ (sym c.lapses.ensures ∙ c.if-lapses.false)

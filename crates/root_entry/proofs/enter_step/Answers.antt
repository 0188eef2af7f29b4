use mathlib.Core.Path.{sym, ◌∙◌}
use Rattle.root_entry.specs.Runs.{held-run, open-run}
use Rattle.root_entry.proofs.enter_step.Goals as goal

pub returns-then-q-ne0 : goal.returns-then-q-ne0
returns-then-q-ne0 c = held-run _ _ _ _ c.root_in_way-q.ensures c.if-q-ne0.true

pub enter_free-requires : goal.enter_free-requires
enter_free-requires c = c.requires.clear (sym c.root_in_way-q.ensures ∙ c.if-q-ne0.false)

pub returns : goal.returns
returns c = open-run _ _ _ _ _ _ c.root_in_way-q.ensures c.if-q-ne0.false c.enter_free.ensures

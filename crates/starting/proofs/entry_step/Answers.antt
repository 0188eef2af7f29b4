use Rattle.starting.specs.Starting.{entry_step}
use Rattle.starting.specs.Runs.{held-run, open-run}
use Rattle.starting.proofs.entry_step.Goals as goal

pub returns-then-q-ne0 : goal.returns-then-q-ne0
unfolding entry_step
returns-then-q-ne0 c = held-run _ _ _ c.entry_blocker-q.ensures c.if-q-ne0.true

pub returns : goal.returns
unfolding entry_step
returns c = open-run _ _ _ _ _ c.entry_blocker-q.ensures c.if-q-ne0.false c.entry_done.ensures

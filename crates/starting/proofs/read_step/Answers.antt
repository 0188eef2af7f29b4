use Rattle.starting.specs.Starting.{read_step}
use Rattle.starting.specs.Runs.{held-run, open-run}
use Rattle.starting.proofs.read_step.Goals as goal

pub returns-then-q-ne0 : goal.returns-then-q-ne0
unfolding read_step
returns-then-q-ne0 c = held-run _ _ _ c.entry_blocker-q.ensures c.if-q-ne0.true

pub returns : goal.returns
unfolding read_step
returns c = open-run _ _ _ _ _ c.entry_blocker-q.ensures c.if-q-ne0.false c.read_done.ensures

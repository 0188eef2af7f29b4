use Rattle.starting.specs.Starting.{write_step_of}
use Rattle.starting.specs.Runs.{held-run, open-run}
use Rattle.starting.proofs.write_step.Goals as goal

pub returns-then-q-ne0 : goal.returns-then-q-ne0
unfolding write_step_of
returns-then-q-ne0 c = held-run _ _ _ c.entry_blocker-q.ensures c.if-q-ne0.true

pub returns : goal.returns
unfolding write_step_of
returns c = open-run _ _ _ _ _ c.entry_blocker-q.ensures c.if-q-ne0.false c.write_free.ensures

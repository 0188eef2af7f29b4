use Rattle.changing.specs.Runs.{refuse-run}
use Rattle.changing.proofs.refuse_step.Goals as goal

pub returns : goal.returns
returns c = refuse-run _ _ _ _ c.unpin_at.ensures c.idle_session.ensures

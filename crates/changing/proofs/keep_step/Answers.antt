use Rattle.changing.specs.Runs.{keep_run}
use Rattle.changing.proofs.keep_step.Goals as goal

pub returns : goal.returns
returns c = keep_run _ _ _ _ _ c.hold_and_end.ensures c.idle_session.ensures

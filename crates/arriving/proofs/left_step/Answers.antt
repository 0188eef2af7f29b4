use Rattle.arriving.specs.Runs.{left-run}
use Rattle.arriving.proofs.left_step.Goals as goal

pub returns : goal.returns
returns c = left-run _ _ _ c.set_latch.ensures c.idle_session.ensures

use Rattle.arriving.specs.Runs.{gone-run}
use Rattle.arriving.proofs.gone_step.Goals as goal

pub returns : goal.returns
returns c = gone-run _ _ _ _ _ c.tidy_at.ensures c.idle_session.ensures

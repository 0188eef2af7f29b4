use Rattle.starting.specs.Runs.{none-done-run}
use Rattle.starting.proofs.tidied_none.Goals as goal

pub returns : goal.returns
returns c = none-done-run _ c.idle_session.ensures

use Rattle.changing.specs.Runs.{blocker-run}
use Rattle.changing.proofs.change_blocker.Goals as goal

pub returns : goal.returns
returns c = blocker-run _ _ _ _ c.load-v.ensures c.lowest_blocker.ensures

use Rattle.splits.specs.Runs.{halved-run}
use Rattle.splits.proofs.halves.Goals as goal

pub returns : goal.returns
returns c = halved-run _ _ _ c.load.ensures c.split_node.ensures

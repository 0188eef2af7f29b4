use Rattle.splits.specs.Runs.{drop-run}
use Rattle.splits.proofs.drop_root.Goals as goal

pub returns : goal.returns
returns c =
    drop-run _ _ c.root-r.ensures c.height-height.ensures c.node_son-son.ensures c.set_top.ensures c.push_free.ensures

use Rattle.splits.specs.Runs.{top-run}
use Rattle.splits.proofs.set_top.Goals as goal

pub returns : goal.returns
returns c = top-run c.args.store.now c.args.root _ c.set_root.ensures c.set_height.ensures

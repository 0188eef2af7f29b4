use Rattle.root_entry.specs.Runs.{latched-run}
use Rattle.root_entry.proofs.enter_whole.Goals as goal

pub returns : goal.returns
returns c = latched-run _ _ _ _ c.root-root.ensures c.height-height.ensures c.set_latch.ensures c.stand.ensures

use Rattle.taking.specs.Runs.{way-run}
use Rattle.taking.proofs.in_way_of.Goals as goal

pub returns : goal.returns
returns c = way-run _ _ _ _ c.descriptor_locate-locate.ensures c.descriptor_update-update.ensures c.lowest_blocker.ensures

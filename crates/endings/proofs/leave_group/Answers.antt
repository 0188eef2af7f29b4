use Rattle.endings.proofs.Runs.{group-run}
use Rattle.endings.proofs.leave_group.Goals as goal

pub returns : goal.returns
returns c = group-run _ _ _ _ c.load-d.ensures c.left_descriptor.ensures c.write.ensures

use Rattle.changing.specs.Runs.{out-run}
use Rattle.changing.proofs.take_entry.Goals as goal

pub returns : goal.returns
returns c = out-run _ _ _ _ _ c.take_member.ensures c.log_taken.ensures

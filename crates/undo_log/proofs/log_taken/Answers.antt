use Rattle.undo_log.specs.Undoing.{log-taken-run}
use Rattle.undo_log.proofs.log_taken.Goals as goal

pub returns : goal.returns
returns c = log-taken-run _ _ _ _ _ _ c.taken.ensures c.write.ensures

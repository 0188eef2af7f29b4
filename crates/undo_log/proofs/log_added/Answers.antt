use Rattle.words.specs.Store.{has_kept}
use native.Mathlib.Omega.{arith}
use Rattle.undo_log.specs.Undoing.{loggable-pop, loggable-has, log-added-run}
use Rattle.undo_log.proofs.log_added.Goals as goal

-- The proof of log_added.
pub pop_free-a-requires : goal.pop_free-a-requires
pop_free-a-requires c = loggable-pop c.requires

pub write-requires : goal.write-requires
write-requires c = has_kept (loggable-has c.requires c.pop_free-a.ensures.0) (omega arith)

pub returns : goal.returns
returns c = log-added-run _ _ _ _ _ _ c.pop_free-a.ensures c.added.ensures c.write.ensures

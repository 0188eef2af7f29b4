use Rattle.std.proofs.Common.{rules}
use Rattle.journal.specs.Loops.{close-none}
use Rattle.journal.proofs.Loops.{close-replayable, close-run}
use Rattle.journal.proofs.close_run.Goals as goal

pub returns-then-ne : goal.returns-then-ne
returns-then-ne c = rw c.if-ne.true (close-none _ _ _ _ _ _ (search rules) c.requires.ready)

pub replay_run-requires : goal.replay_run-requires
replay_run-requires c = close-replayable _ _ _ _ _ _ (search rules) c.requires

pub returns-else-ne : goal.returns-else-ne
returns-else-ne c = close-run _ _ (search rules) c.replay_run.ensures

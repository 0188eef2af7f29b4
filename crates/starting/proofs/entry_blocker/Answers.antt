use Rattle.starting.specs.Runs.{blocker-run}
use Rattle.starting.proofs.entry_blocker.Goals as goal

pub returns : goal.returns
returns c = blocker-run _ _ _ _ c.entry_word-weak.ensures c.entry_word-strong.ensures c.lowest_blocker.ensures

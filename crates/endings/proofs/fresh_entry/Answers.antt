use Rattle.endings.proofs.Runs.{entry-run}
use Rattle.endings.proofs.fresh_entry.Goals as goal

pub returns : goal.returns
returns c = entry-run _ _ c.set_entry_word.ensures c.set_entry_word-2.ensures c.set_entry_word-3.ensures

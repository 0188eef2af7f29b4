use Rattle.endings.proofs.Runs.{leave-run}
use Rattle.endings.proofs.leave_entry.Goals as goal

pub returns : goal.returns
returns c = leave-run _ _ _ c.entry_word-share.ensures c.entry_word-exclusive.ensures c.without_session.ensures c.set_entry_word.ensures c.without_session-2.ensures c.set_entry_word-2.ensures

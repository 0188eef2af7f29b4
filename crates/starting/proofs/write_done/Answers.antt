use Rattle.starting.specs.Runs.{exclude-run, write-done-run}
use Rattle.starting.proofs.write_done.Goals as goal

pub returns : goal.returns
returns c = write-done-run _ _ _ _ c.entry_word-old.ensures c.log_value-i.ensures c.set_entry_word.ensures (exclude-run _ _ _ c.hold_entry.ensures) c.logged_session.ensures

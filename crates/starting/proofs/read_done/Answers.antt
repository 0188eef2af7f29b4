use Rattle.starting.specs.Runs.{share-run, read-done-run}
use Rattle.starting.proofs.read_done.Goals as goal

pub returns : goal.returns
returns c = read-done-run _ _ _ c.entry_word-value.ensures (share-run _ _ _ c.hold_entry.ensures) c.idle_session.ensures

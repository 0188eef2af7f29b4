use Rattle.starting.specs.Runs.{exclude-run, entry-done-run}
use Rattle.starting.proofs.entry_done.Goals as goal

pub returns : goal.returns
returns c = entry-done-run _ _ _ (exclude-run _ _ _ c.hold_entry.ensures) c.first_session.ensures

use Rattle.starting.specs.Runs.{put-run}
use Rattle.starting.proofs.hold_entry.Goals as goal

pub returns : goal.returns
returns c = put-run _ _ _ _ c.entry_word-word.ensures c.with_session.ensures c.set_entry_word.ensures

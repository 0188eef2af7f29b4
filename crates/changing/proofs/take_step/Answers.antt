use Rattle.changing.specs.Runs.{ends_as, take-run}
use Rattle.changing.proofs.take_step.Goals as goal

pub hold_and_end-requires : goal.hold_and_end-requires
hold_and_end-requires c = ends_as c.take_entry.ensures c.requires.ends

pub returns : goal.returns
returns c = take-run _ _ _ _ _ _ c.take_entry.ensures c.hold_and_end.ensures c.logged_session.ensures

use Rattle.changing.specs.Runs.{ends_as, add-run}
use Rattle.changing.proofs.add_step.Goals as goal

pub hold_and_end-requires : goal.hold_and_end-requires
hold_and_end-requires c = ends_as c.add_entry-b.ensures.1 c.requires.ends

pub returns : goal.returns
returns c = add-run _ _ _ _ _ c.add_entry-b.ensures c.hold_and_end.ensures c.logged_session.ensures

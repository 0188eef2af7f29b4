use Rattle.changing.specs.Runs.{end-ready, end-run}
use Rattle.changing.proofs.hold_and_end.Goals as goal

pub unpin_at-requires : goal.unpin_at-requires
unpin_at-requires c = end-ready _ _ _ _ c.hold_update.ensures c.requires.pinned

pub returns : goal.returns
returns c = end-run _ _ _ _ c.hold_update.ensures c.unpin_at.ensures

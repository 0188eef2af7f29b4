use Rattle.leaving.specs.Words.{walk_at, leave-run}
use Rattle.leaving.proofs.leave_all.Goals as goal

pub leave_groups-requires : goal.leave_groups-requires
leave_groups-requires c = (walk_at _ _ c.leave_entries.ensures c.first-first.ensures c.requires.groups, c.requires.session)

pub returns : goal.returns
returns c = leave-run _ _ _ _ c.first-first.ensures c.leave_entries.ensures c.leave_groups.ensures

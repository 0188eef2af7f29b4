use Rattle.locks.proofs.Conflict.{conflict-run}
use Rattle.locks.proofs.conflicting.Goals as goal

pub returns : goal.returns
returns c =
    conflict-run _ _ _ _ _ c.agrees.ensures c.unless-a.ensures c.agrees-2.ensures c.unless-b.ensures
    c.without_session.ensures

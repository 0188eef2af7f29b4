use Rattle.endings.proofs.Runs.{left-run}
use Rattle.endings.proofs.left_descriptor.Goals as goal

pub returns : goal.returns
returns c = left-run _ _ c.without_session-locate.ensures c.without_session-update.ensures c.without_session-gap.ensures c.release_session.ensures

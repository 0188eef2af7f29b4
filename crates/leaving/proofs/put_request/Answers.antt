use Rattle.leaving.specs.Words.{asked-run}
use Rattle.leaving.proofs.put_request.Goals as goal

pub returns : goal.returns
returns c = asked-run _ _ _ _ _ _ _ _ c.first_stage-aim.ensures c.put_session.ensures

use Rattle.taking.specs.Runs.{pass-run}
use Rattle.taking.proofs.pass_step.Goals as goal

pub returns : goal.returns
returns c = pass-run _ _ _ _ _ c.descriptor_key-key.ensures c.hold_pass.ensures c.took_key.ensures

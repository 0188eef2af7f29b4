use Rattle.taking.specs.Runs.{pass-free, last-free}
use Rattle.taking.proofs.free_step.Goals as goal

pub returns-then-key-x : goal.returns-then-key-x
returns-then-key-x c = pass-free _ _ _ _ _ _ _ c.descriptor_key-key.ensures c.if-key-x.true c.pass_step.ensures

pub returns : goal.returns
returns c = last-free _ _ _ _ _ _ _ _ c.descriptor_key-key.ensures c.if-key-x.false c.last_step.ensures

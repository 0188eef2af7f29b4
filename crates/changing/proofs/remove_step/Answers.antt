use Rattle.changing.specs.Runs.{remove-none, remove-there}
use Rattle.changing.proofs.remove_step.Goals as goal

pub returns-then-i-eq0 : goal.returns-then-i-eq0
returns-then-i-eq0 c = remove-none _ _ _ _ _ _ _ _ c.if-i-eq0.true c.keep_step.ensures

pub take_step-requires : goal.take_step-requires
take_step-requires c = c.requires.takes c.if-i-eq0.false

pub returns : goal.returns
returns c = remove-there _ _ _ _ _ _ _ _ c.if-i-eq0.false c.take_step.ensures

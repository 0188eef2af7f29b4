use Rattle.changing.specs.Runs.{code-three, code_other}
use Rattle.changing.proofs.code_step.Goals as goal

pub returns-then-x : goal.returns-then-x
returns-then-x c = code-three _ _ _ _ _ _ _ _ c.if-x.true c.insert_step.ensures

pub returns : goal.returns
returns c = code_other _ _ _ _ _ _ _ _ c.if-x.false c.remove_step.ensures

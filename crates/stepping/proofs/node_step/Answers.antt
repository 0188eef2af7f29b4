use Rattle.promises.specs.Stepping.{node-low, node-high}
use borrow.Author.Rules.{rules}
use Rattle.stepping.proofs.node_step.Goals as goal

pub lowest_step-requires : goal.lowest_step-requires
lowest_step-requires c = c.requires.low c.if-x-eq1.true

pub returns-then-x-eq1 : goal.returns-then-x-eq1
returns-then-x-eq1 c = node-low _ _ _ _ _ c.if-x-eq1.true c.lowest_step.ensures

pub level_step-requires : goal.level_step-requires
level_step-requires c = c.requires.high c.if-x-eq1.false

pub returns : goal.returns
returns c = node-high _ _ _ _ _ c.if-x-eq1.false c.level_step.ensures

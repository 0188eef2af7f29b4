use Rattle.promises.specs.Stepping.{early-one, early-two, early-three, early-four}
use borrow.Author.Rules.{rules}
use Rattle.stepping.proofs.early_step.Goals as goal

pub first_step-requires : goal.first_step-requires
first_step-requires c = c.requires.first c.if-x.true

pub returns-then-x : goal.returns-then-x
returns-then-x c = early-one _ _ _ _ _ c.if-x.true c.first_step.ensures

pub enter_step-requires : goal.enter_step-requires
enter_step-requires c = c.requires.enters c.if-x-2.true

pub returns-then-x-2 : goal.returns-then-x-2
returns-then-x-2 c = early-two _ _ _ _ _ c.if-x.false c.if-x-2.true c.enter_step.ensures

pub node_step-requires : goal.node_step-requires
node_step-requires c = c.requires.node c.if-x-3.true

pub returns-then-x-3 : goal.returns-then-x-3
returns-then-x-3 c = early-three _ _ _ _ _ c.if-x.false c.if-x-2.false c.if-x-3.true c.node_step.ensures

pub change_step-requires : goal.change_step-requires
change_step-requires c = c.requires.changes c.if-x.false c.if-x-2.false c.if-x-3.false

pub returns : goal.returns
returns c = early-four _ _ _ _ _ c.if-x.false c.if-x-2.false c.if-x-3.false c.change_step.ensures

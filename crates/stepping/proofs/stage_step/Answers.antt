use Rattle.promises.specs.Stepping.{stage-take, stage-early}
use borrow.Author.Rules.{rules}
use Rattle.stepping.proofs.stage_step.Goals as goal

pub take_step-requires : goal.take_step-requires
take_step-requires c = c.requires.takes c.if-x.true

pub returns-then-x : goal.returns-then-x
returns-then-x c = stage-take c.args.store.now c.args.list.now c.args.m c.args.r c.args.p c.args.x c.if-x.true c.take_step.ensures

pub early_step-requires : goal.early_step-requires
early_step-requires c = c.requires.early c.if-x.false

pub returns : goal.returns
returns c = stage-early c.args.store.now c.args.list.now c.args.m c.args.r c.args.p c.args.x c.if-x.false c.early_step.ensures

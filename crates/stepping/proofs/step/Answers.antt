use Rattle.promises.specs.Ways.{any-party}
use Rattle.promises.specs.Steps.{step-can, step-names, step_run}
use borrow.Author.Rules.{rules}
use Rattle.stepping.proofs.step.Goals as goal

pub stage_step-z-requires : goal.stage_step-z-requires
stage_step-z-requires c = step-can c.args.store.now c.args.t c.args.p c.requires.0 c.requires.1 c.entries-m.ensures c.records-r.ensures c.seat-x.ensures

pub settle-after-requires : goal.settle-after-requires
settle-after-requires c = any-party _ _ c.requires.1

pub name_wait-named-requires : goal.name_wait-named-requires
name_wait-named-requires c = step-names c.args.store.now c.args.t c.args.p c.args.list.now c.requires.0 c.requires.1 c.entries-m.ensures c.records-r.ensures c.seat-x.ensures c.stage_step-z.ensures

pub returns : goal.returns
returns c = step_run c.args.store.now c.args.t c.args.p c.args.list.now c.requires.0 c.requires.1 c.entries-m.ensures c.records-r.ensures c.seat-x.ensures c.stage_step-z.ensures c.settle-after.ensures c.name_wait-named.ensures

use native.Mathlib.Omega.{arith}
use Rattle.nodes.specs.Paths.{has-at}
use Rattle.arriving.specs.Runs.{tidy-able, tidy-goes, tidy-stays}
use Rattle.arriving.proofs.tidy_step.Goals as goal

pub descriptor_gap-gap-requires : goal.descriptor_gap-gap-requires
descriptor_gap-gap-requires c = has-at c.requires.able.before (omega arith) c.pred_of-b.ensures

pub load-v-requires : goal.load-v-requires
load-v-requires c = has-at c.requires.toward.son (omega arith) c.son_toward-d.ensures

pub gone_step-requires : goal.gone_step-requires
gone_step-requires c = tidy-able c.requires c.pred_of-b.ensures c.son_toward-d.ensures

pub returns-then-is_removable : goal.returns-then-is_removable
returns-then-is_removable c = tidy-goes _ _ _ _ _ c.pred_of-b.ensures c.son_toward-d.ensures c.descriptor_gap-gap.ensures c.load-v.ensures c.is_removable.ensures c.if-is_removable.true c.gone_step.ensures

pub left_step-requires : goal.left_step-requires
left_step-requires c = c.requires.toward.node

pub returns : goal.returns
returns c = tidy-stays _ _ _ _ _ c.pred_of-b.ensures c.son_toward-d.ensures c.descriptor_gap-gap.ensures c.load-v.ensures c.is_removable.ensures c.if-is_removable.false c.left_step.ensures

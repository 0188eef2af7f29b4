use mathlib.Core.Path.{◌∙◌}
use Rattle.walking.specs.Runs.{mends-run}
use Rattle.walking.specs.Walking.{level_step}
use Rattle.walking.proofs.level_step.Goals as goal

pub pair_step-requires : goal.pair_step-requires
pair_step-requires c =
    c.requires.pair
    (mends-run _ _ _ _ c.args.p c.son_toward-son.ensures c.node_count-count.ensures c.mends.ensures ∙ c.if-mends.true)

pub returns-then-mends : goal.returns-then-mends
unfolding level_step
returns-then-mends c =
    rw (mends-run _ _ _ _ c.args.p c.son_toward-son.ensures c.node_count-count.ensures c.mends.ensures ∙ c.if-mends.true)
    c.pair_step.ensures

pub alone_step-requires : goal.alone_step-requires
alone_step-requires c =
    c.requires.alone
    (mends-run _ _ _ _ c.args.p c.son_toward-son.ensures c.node_count-count.ensures c.mends.ensures ∙ c.if-mends.false)

pub returns : goal.returns
unfolding level_step
returns c =
    rw (mends-run _ _ _ _ c.args.p c.son_toward-son.ensures c.node_count-count.ensures c.mends.ensures ∙ c.if-mends.false)
    c.alone_step.ensures

use mathlib.Core.Path.{◌∙◌}
use Rattle.walking.specs.Runs.{splits-run}
use Rattle.walking.specs.Walking.{down_step}
use Rattle.walking.proofs.down_step.Goals as goal

pub split_step-requires : goal.split_step-requires
split_step-requires c =
    c.requires.split
    (splits-run _ _ _ _ c.args.p c.son_toward-son.ensures c.node_count-count.ensures c.splits.ensures ∙ c.if-splits.true)

pub returns-then-splits : goal.returns-then-splits
unfolding down_step
returns-then-splits c =
    rw (splits-run _ _ _ _ c.args.p c.son_toward-son.ensures c.node_count-count.ensures c.splits.ensures ∙ c.if-splits.true)
    c.split_step.ensures

pub returns : goal.returns
unfolding down_step
returns c =
    rw (splits-run _ _ _ _ c.args.p c.son_toward-son.ensures c.node_count-count.ensures c.splits.ensures ∙ c.if-splits.false)
    c.plain_step.ensures

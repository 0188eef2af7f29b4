use Rattle.walking.specs.Runs.{there-run, half-low}
use Rattle.walking.proofs.halved_step.Goals as goal

pub stands-requires : goal.stands-requires
stands-requires c =
    (half-low _ _ _ _ c.requires.1 c.split_son-half.ensures.0, c.requires.0.level)

pub returns : goal.returns
returns c =
    (c.split_son-half.ensures.1, there-run c.args.x _ c.stands.ensures c.split_son-half.ensures.0)

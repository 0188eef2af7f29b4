use Rattle.walking.specs.Runs.{there-run}
use Rattle.walking.specs.Walking.{plain_step}
use Rattle.walking.proofs.plain_step.Goals as goal

pub returns : goal.returns
unfolding plain_step
returns c =
    (c.enter_son-son.ensures.1, there-run c.args.x _ c.stands.ensures c.enter_son-son.ensures.0)

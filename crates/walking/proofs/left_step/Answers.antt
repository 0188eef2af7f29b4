use Rattle.walking.specs.Runs.{there-run}
use Rattle.walking.proofs.left_step.Goals as goal

pub returns : goal.returns
returns c =
    (c.move_left-left.ensures.1, there-run c.args.x _ c.stands.ensures c.move_left-left.ensures.0)

use Rattle.walking.specs.Runs.{there-run}
use Rattle.walking.proofs.right_step.Goals as goal

pub returns : goal.returns
returns c =
    (c.move_right-right.ensures.1, there-run c.args.x _ c.stands.ensures c.move_right-right.ensures.0)

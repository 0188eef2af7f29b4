use Rattle.walking.specs.Runs.{there-run}
use Rattle.walking.proofs.join_step.Goals as goal

pub returns : goal.returns
returns c =
    (c.join_sons-one.ensures.1, there-run c.args.x _ c.stands.ensures c.join_sons-one.ensures.0)

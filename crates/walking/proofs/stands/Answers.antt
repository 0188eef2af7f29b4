use Rattle.walking.specs.Runs.{stands-run}
use Rattle.walking.proofs.stands.Goals as goal

pub returns : goal.returns
returns c = stands-run c.args.x c.stand.ensures

use Rattle.std.proofs.Common.{rules}
use Rattle.local_stamps.specs.Answers.{served-small}
use Rattle.local_stamps.proofs.local_stamp_to_utc.Goals as goal

pub read-requires : goal.read-requires
read-requires c = served-small _ (search rules)

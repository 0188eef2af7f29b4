use Rattle.std.proofs.Common.{rules}
use Rattle.local_stamps.specs.Answers.{served-small}
use Rattle.local_stamps.proofs.Calls.{filled-1, filled-2, filled-3, filled-4, stamp-fits}
use Rattle.local_stamps.proofs.local_stamp_of_utc.Goals as goal
use Rattle.local_stamps.proofs.local_stamp_of_utc.Goals.{then-not-serves-via-then-not-serves, then-not-serves-via-else-not-serves+then-not-covers, then-not-serves-via-else-not-serves+else-not-covers+then-bytes-ne7}

pub returns-then-not-serves : goal.returns-then-not-serves
returns-then-not-serves c =
    elim c.then-not-serves.branch [
      | then-not-serves-via-then-not-serves w ↦ filled-1 _ _ _ (search rules)
      | then-not-serves-via-else-not-serves+then-not-covers w ↦ filled-2 _ _ _ (search rules) (search rules)
      | then-not-serves-via-else-not-serves+else-not-covers+then-bytes-ne7 w ↦ filled-3 _ _ _ (search rules) (search rules) (search rules)
    ]

pub stamp_of-requires : goal.stamp_of-requires
stamp_of-requires c = (served-small _ (search rules), search rules)

pub bytes_of-requires : goal.bytes_of-requires
bytes_of-requires c = stamp-fits c.args.base c.args.utc (search rules) (search rules) c.stamp_of.ensures

pub returns : goal.returns
returns c = filled-4 _ _ _ (search rules) (search rules) (search rules) c.stamp_of.ensures (search rules)

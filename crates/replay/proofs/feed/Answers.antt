use Rattle.std.proofs.Common.{rules}
use Rattle.replay.specs.Feeding.{feeds-read, feeds-write}
use Rattle.replay.proofs.feed.Goals as goal

pub returns-in-1 : goal.returns-in-1
returns-in-1 c = feeds-read _ _ _ _ _ _ _ c.requires.0 _ (search rules) (search rules)

pub returns-in-2 : goal.returns-in-2
returns-in-2 c = feeds-write _ _ _ _ _ _ _ c.requires.0 _ _ (search rules) (search rules) (search rules) (search rules)

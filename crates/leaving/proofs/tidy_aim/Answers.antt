use lib.Dec.{lit<}
use Rattle.leaving.specs.Words.{follow-at, found_at, next-at, tidy-run}
use Rattle.leaving.proofs.tidy_aim.Goals as goal

pub last_upto-last-requires : goal.last_upto-last-requires
last_upto-last-requires c = follow-at c.first-start.ensures c.requires

pub word-next-requires : goal.word-next-requires
word-next-requires c = (found_at c.first-start.ensures c.last_upto-last.ensures c.requires, lit< tt)

pub choose-requires : goal.choose-requires
choose-requires c = next-at c.first-start.ensures c.last_upto-last.ensures c.word-next.ensures c.requires

pub returns : goal.returns
returns c = tidy-run _ _ _ _ c.first-start.ensures c.last_upto-last.ensures c.word-next.ensures c.choose.ensures

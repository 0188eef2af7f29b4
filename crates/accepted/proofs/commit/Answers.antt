use Rattle.promises.specs.Ways.{session-party, commit-can}
use Rattle.promises.proofs.Ways.{commit-run}
use borrow.Author.Rules.{rules}
use Rattle.accepted.proofs.commit.Goals as goal

pub commit_words-requires : goal.commit_words-requires
commit_words-requires c = commit-can _ _ _ c.requires.0 c.requires.1 c.entries-m.ensures c.records-r.ensures c.seat-x.ensures

pub settle-after-requires : goal.settle-after-requires
settle-after-requires c = session-party _ _ c.requires.1

pub returns : goal.returns
returns c = commit-run _ _ _ c.requires.0 c.requires.1 c.entries-m.ensures c.records-r.ensures c.seat-x.ensures c.commit_words.ensures c.ended_session-y.ensures c.settle-after.ensures

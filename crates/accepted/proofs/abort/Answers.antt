use Rattle.promises.specs.Ways.{session-party, abort-can, abort-run}
use borrow.Author.Rules.{rules}
use Rattle.accepted.proofs.abort.Goals as goal

pub abort_words-requires : goal.abort_words-requires
abort_words-requires c = abort-can _ _ _ c.requires.0 c.requires.1 c.entries-m.ensures c.records-r.ensures c.seat-x.ensures

pub settle-after-requires : goal.settle-after-requires
settle-after-requires c = session-party _ _ c.requires.1

pub returns : goal.returns
returns c = abort-run _ _ _ c.requires.0 c.requires.1 c.entries-m.ensures c.records-r.ensures c.seat-x.ensures c.abort_words.ensures c.ended_session-y.ensures c.settle-after.ensures

use Rattle.promises.specs.Ways.{session-party, ask-run}
use borrow.Author.Rules.{rules}
use Rattle.accepted.proofs.ask.Goals as goal

pub settle-after-requires : goal.settle-after-requires
settle-after-requires c = session-party _ _ c.requires.1

pub returns : goal.returns
returns c = ask-run _ _ _ c.requires.0 c.requires.1 c.seat-x.ensures c.asked_session-y.ensures c.settle-after.ensures

use Rattle.aborting.specs.Words.{undos-at}
use Rattle.aborting.proofs.Words.{leave-at, abort-run}
use borrow.Author.Rules.{rules}
use Rattle.aborting.proofs.abort_words.Goals as goal

-- The proof of abort_words.
pub end_hand-requires : goal.end_hand-requires
end_hand-requires c = c.requires.hand

pub undo_all-requires : goal.undo_all-requires
undo_all-requires c = undos-at c.requires c.end_hand.ensures

pub leave_all-requires : goal.leave_all-requires
leave_all-requires c = leave-at c.requires c.end_hand.ensures c.undo_all.ensures

pub returns : goal.returns
returns c = abort-run _ _ _ _ _ c.end_hand.ensures c.undo_all.ensures c.leave_all.ensures

use borrow.Author.Rules.{rules}
use Rattle.recovering.specs.Recovering.{going_start, first-ready, recover-run}
use Rattle.recovering.proofs.recover_words.Goals as goal

pub end_hand-requires : goal.end_hand-requires
end_hand-requires c = first-ready c.requires

pub lapse_all-requires : goal.lapse_all-requires
lapse_all-requires c = going_start c.requires c.end_hand.ensures c.idle_session-idle.ensures

pub returns : goal.returns
returns c = recover-run _ _ _ _ c.end_hand.ensures c.idle_session-idle.ensures c.lapse_all.ensures

use Rattle.leaving.specs.Words.{leave-at, commit-run}
use Rattle.leaving.proofs.commit_words.Goals as goal

pub leave_all-requires : goal.leave_all-requires
leave_all-requires c = leave-at c.free_chain.ensures c.requires.leave

pub returns : goal.returns
returns c = commit-run _ _ _ _ _ c.free_chain.ensures c.leave_all.ensures

use Rattle.locks.specs.Blockers.{count-holders}
use borrow.Author.Rules.{rules}
use Rattle.locks.proofs.lock_count.Goals as goal

-- The proof of `lock_count`.
pub returns : goal.returns
returns c = count-holders 32 _ (search rules)

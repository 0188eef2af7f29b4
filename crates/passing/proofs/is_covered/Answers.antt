use borrow.Author.Tests.{le-leb, lt-leb}
use Rattle.passing.proofs.is_covered.Goals as goal

-- The proof of `is_covered`.
pub returns-then-k-so : goal.returns-then-k-so
returns-then-k-so c = simp (lt-leb _ _ c.if-k-so.true)

pub returns : goal.returns
returns c = simp (le-leb _ _ c.if-k-so.false)

use borrow.Author.Tests.{le-leb, lt-leb}
use Rattle.splits.proofs.half_of.Goals as goal

pub returns-then-key-up : goal.returns-then-key-up
returns-then-key-up g c = simp (le-leb _ _ c.if-key-up.true)

pub returns-else-key-up : goal.returns-else-key-up
returns-else-key-up g c = simp (lt-leb _ _ c.if-key-up.false)

use borrow.Author.Tests.{lt-ltb, le-ltb}
use Rattle.reshaping.specs.Ops.{remove_son}
use Rattle.reshaping.proofs.remove_son.Goals as goal

pub returns-then-i-count : goal.returns-then-i-count
unfolding remove_son
returns-then-i-count c = rw (lt-ltb _ _ c.if-i-count.true) c.remove_before.ensures

pub returns : goal.returns
unfolding remove_son
returns c = rw (le-ltb _ _ c.if-i-count.false) c.remove_behind.ensures

use borrow.Author.Tests.{eq-eqb, le-ltb, lt-ltb, ne_eqb}
use Rattle.tree_walk.specs.TreeWalk.{count_latch}
use Rattle.tree_walk.proofs.count_latch.Goals as goal

-- The proof of `count_latch`.
pub returns-then-n-eq0 : goal.returns-then-n-eq0
unfolding count_latch
returns-then-n-eq0 c = simp (eq-eqb _ _ c.if-n-eq0.true)

pub returns-then-w-ge4096 : goal.returns-then-w-ge4096
unfolding count_latch
returns-then-w-ge4096 c = simp (ne_eqb _ _ c.if-n-eq0.false, le-ltb _ _ c.if-w-ge4096.true)

pub returns : goal.returns
unfolding count_latch
returns c = simp (ne_eqb _ _ c.if-n-eq0.false, lt-ltb _ _ c.if-w-ge4096.false)

use borrow.Author.Tests.{le-leb, lt-leb}
use Rattle.tree_walk.specs.TreeWalk.{fanout_ok}
use Rattle.tree_walk.proofs.fanout_ok.Goals as goal

pub returns-then-count-least : goal.returns-then-count-least
unfolding fanout_ok
returns-then-count-least c = simp (lt-leb _ _ c.if-count-least.true)

pub returns : goal.returns
unfolding fanout_ok
returns c = simp (le-leb _ _ c.if-count-least.false)

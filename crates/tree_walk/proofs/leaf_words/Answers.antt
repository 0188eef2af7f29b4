use mathlib.Core.Path.{sym}
use borrow.Author.Tests.{le-leb, lt-leb}
use Rattle.tree_walk.specs.TreeWalk.{leaf_words, stop}
use Rattle.tree_walk.proofs.leaf_words.Goals as goal

pub returns-then-key-w : goal.returns-then-key-w
unfolding leaf_words stop
returns-then-key-w c = simp (lt-leb _ _ c.if-key-w.true, sym c.descriptor_key-key.ensures)

pub returns-then-key-least : goal.returns-then-key-least
unfolding leaf_words stop
returns-then-key-least c = simp (le-leb _ _ c.if-key-w.false, lt-leb _ _ c.if-key-least.true, sym c.descriptor_key-key.ensures)

pub returns-then-top-key : goal.returns-then-top-key
unfolding leaf_words stop
returns-then-top-key c = simp (le-leb _ _ c.if-key-w.false, le-leb _ _ c.if-key-least.false, lt-leb _ _ c.if-top-key.true, sym c.descriptor_key-key.ensures)

pub returns : goal.returns
unfolding leaf_words stop
returns c = simp (le-leb _ _ c.if-key-w.false, le-leb _ _ c.if-key-least.false, le-leb _ _ c.if-top-key.false, sym c.descriptor_next-next.ensures, sym c.descriptor_key-key.ensures)

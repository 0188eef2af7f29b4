use mathlib.Core.Path.{refl}
use Rattle.tree_walk.specs.TreeWalk.{met_walk}
use Rattle.marks.specs.Steps.{has_one}
use Rattle.tree_walk.proofs.Turns.{leaf-off, leaf-full, leaf-twice, leaf-met}
use Rattle.tree_walk.proofs.walk_leaf.Goals as goal

pub returns-then-i-w : goal.returns-then-i-w
returns-then-i-w c = leaf-off _ _ _ _ _ _ _ _ _ c.if-i-w.true

pub returns-then-k-gt4096 : goal.returns-then-k-gt4096
returns-then-k-gt4096 c = leaf-full _ _ _ _ _ _ _ _ _ c.if-i-w.false c.if-k-gt4096.true

pub returns-in_default : goal.returns-in_default
returns-in_default c = leaf-twice _ _ _ _ _ _ _ _ _ c.if-i-w.false c.if-k-gt4096.false c.meet.ensures c.in_default.is

pub leaf_words-requires : goal.leaf_words-requires
leaf_words-requires c = (has_one c.args.records.inside (c.meet.ensures.inside _ c.in-Ok.is), c.if-k-gt4096.false)

pub returns : goal.returns
unfolding met_walk
returns c = leaf-met _ _ _ _ _ _ _ _ _ c.if-i-w.false c.if-k-gt4096.false c.meet.ensures c.in-Ok.is refl c.leaf_words.ensures

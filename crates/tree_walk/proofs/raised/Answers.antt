use mathlib.Core.Path.{refl}
use Rattle.tree_walk.specs.TreeWalk.{raise}
use Rattle.tree_walk.proofs.raised.Goals as goal

pub returns : goal.returns
unfolding raise
returns c = refl

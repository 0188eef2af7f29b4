use mathlib.Core.Path.{refl}
use Rattle.tree_walk.specs.TreeWalk.{start_walk}
use Rattle.tree_walk.proofs.starting.Goals as goal

-- The proof of `starting`.
pub returns : goal.returns
unfolding start_walk
returns c = refl

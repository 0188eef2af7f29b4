use mathlib.Core.Path.{refl}
use Rattle.arriving.specs.Arriving.{to_change}
use Rattle.arriving.proofs.to_change.Goals as goal

-- The proof of `to_change`.
pub returns : goal.returns
unfolding to_change
returns c = refl

use mathlib.Core.Path.{refl}
use Rattle.arriving.specs.Arriving.{to_second}
use Rattle.arriving.proofs.to_second.Goals as goal

-- The proof of `to_second`.
pub returns : goal.returns
unfolding to_second
returns c = refl

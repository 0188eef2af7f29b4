use mathlib.Core.Path.{refl}
use Rattle.taking.specs.Pass.{took_key}
use Rattle.taking.proofs.took_key.Goals as goal

-- The proof of `took_key`.
pub returns : goal.returns
unfolding took_key
returns c = refl

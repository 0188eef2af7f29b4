use Rattle.endings.specs.Fresh.{zero_descriptor}
use mathlib.Core.Path.{refl}
use Rattle.endings.proofs.zero_descriptor.Goals as goal

-- The proof of `zero_descriptor`.
pub returns : goal.returns
unfolding zero_descriptor
returns c = refl

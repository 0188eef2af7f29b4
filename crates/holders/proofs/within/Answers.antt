use mathlib.Core.Path.{refl}
use Rattle.holders.specs.Holders.{within}
use Rattle.holders.proofs.within.Goals as goal

-- The proof of `within`.
pub returns : goal.returns
unfolding within
returns c = refl

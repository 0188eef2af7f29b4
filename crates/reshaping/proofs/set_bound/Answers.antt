use mathlib.Core.Path.{refl}
use Rattle.reshaping.specs.Ops.{set_bound}
use Rattle.reshaping.proofs.set_bound.Goals as goal

pub returns : goal.returns
unfolding set_bound
returns c = refl

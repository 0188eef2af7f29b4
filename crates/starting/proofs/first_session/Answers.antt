use mathlib.Core.Path.{refl}
use Rattle.starting.specs.Starting.{to_first}
use Rattle.starting.proofs.first_session.Goals as goal

-- The proof of `first_session`.
pub returns : goal.returns
unfolding to_first
returns c = refl

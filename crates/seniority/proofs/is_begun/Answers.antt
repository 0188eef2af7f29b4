use mathlib.Core.Path.{refl}
use Rattle.sessions.specs.Sessions.{is_begun}
use Rattle.seniority.proofs.is_begun.Goals as goal

-- The proof of `is_begun`.
pub returns : goal.returns
unfolding is_begun
returns c = refl

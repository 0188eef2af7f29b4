use Rattle.endings.specs.Table.{newly_begun}
use mathlib.Core.Path.{refl}
use Rattle.endings.proofs.begun_session.Goals as goal

-- The proof of `begun_session`.
pub returns : goal.returns
unfolding newly_begun
returns c = refl

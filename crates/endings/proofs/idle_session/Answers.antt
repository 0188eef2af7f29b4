use Rattle.endings.specs.Table.{idled}
use mathlib.Core.Path.{refl}
use Rattle.endings.proofs.idle_session.Goals as goal

-- The proof of `idle_session`.
pub returns : goal.returns
unfolding idled
returns c = refl

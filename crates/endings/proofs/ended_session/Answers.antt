use Rattle.endings.specs.Table.{unbegun}
use mathlib.Core.Path.{refl}
use Rattle.endings.proofs.ended_session.Goals as goal

-- The proof of `ended_session`.
pub returns : goal.returns
unfolding unbegun
returns c = refl

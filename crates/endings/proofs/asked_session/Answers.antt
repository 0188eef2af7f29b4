use Rattle.endings.specs.Table.{asked_now}
use mathlib.Core.Path.{refl}
use Rattle.endings.proofs.asked_session.Goals as goal

-- The proof of `asked_session`.
pub returns : goal.returns
unfolding asked_now
returns c = refl

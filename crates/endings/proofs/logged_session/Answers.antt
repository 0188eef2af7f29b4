use mathlib.Core.Path.{refl}
use Rattle.endings.specs.Table.{logged_by}
use Rattle.endings.proofs.logged_session.Goals as goal

-- The proof of logged_session.
pub returns : goal.returns
unfolding logged_by
returns c = refl

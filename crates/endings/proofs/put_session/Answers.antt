use Rattle.endings.specs.Table.{requested}
use mathlib.Core.Path.{refl}
use Rattle.endings.proofs.put_session.Goals as goal

-- The proof of `put_session`.
pub returns : goal.returns
unfolding requested
returns c = refl

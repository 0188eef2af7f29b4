use mathlib.Core.Path.{refl}
use Rattle.reshaping.proofs.Laws.{neighbours-same}
use Rattle.reshaping.specs.Ops.{move_from_right}
use Rattle.reshaping.proofs.move_from_right.Goals as goal

pub returns : goal.returns
unfolding move_from_right
returns c = neighbours-same c.insert_behind.ensures refl c.remove_before.ensures

use native.Mathlib.Omega.{arith}
use Rattle.nodes.specs.Paths.{has-at}
use Rattle.descents.specs.Runs.{enter-run}
use Rattle.descents.proofs.enter_son.Goals as goal

pub set_latch-requires-2 : goal.set_latch-requires-2
set_latch-requires-2 c = has-at c.requires.son (omega arith) c.son_toward-son.ensures

pub returns : goal.returns
returns c = enter-run _ _ _ _ _ c.son_toward-son.ensures c.set_latch.ensures c.set_latch-2.ensures

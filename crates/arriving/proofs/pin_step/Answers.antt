use native.Mathlib.Omega.{arith}
use Rattle.arriving.specs.Runs.{pin-able, pin-run}
use Rattle.arriving.proofs.pin_step.Goals as goal

pub set_latch-requires : goal.set_latch-requires
set_latch-requires c = c.requires.toward.node

pub pin_at-requires : goal.pin_at-requires
pin_at-requires c = pin-able c.requires c.son_toward-d.ensures c.set_latch.ensures

pub overflow_cast-d : goal.overflow_cast-d
overflow_cast-d c = omega (arith, c.requires.toward.son.last, c.son_toward-d.ensures)

pub returns : goal.returns
returns c = pin-run _ _ _ c.son_toward-d.ensures c.set_latch.ensures c.pin_at.ensures c.arrive_at.ensures

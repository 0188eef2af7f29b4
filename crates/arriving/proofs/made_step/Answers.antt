use native.Mathlib.Omega.{arith}
use Rattle.arriving.specs.Runs.{made-run, make-able}
use Rattle.arriving.proofs.made_step.Goals as goal

pub make_at-a-requires : goal.make_at-a-requires
make_at-a-requires c = make-able c.requires c.pred_of-b.ensures

pub overflow_cast-a : goal.overflow_cast-a
overflow_cast-a c = omega (arith, c.make_at-a.ensures.0, (c.requires.able.free.first c.requires.able.some).last)

pub returns : goal.returns
returns c = made-run _ _ _ _ c.pred_of-b.ensures c.make_at-a.ensures.0 c.make_at-a.ensures.1 c.arrive_at.ensures

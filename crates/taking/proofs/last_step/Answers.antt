use native.Mathlib.Omega.{arith}
use Rattle.taking.specs.Runs.{count-few, short-run, short-last, done-last}
use Rattle.taking.proofs.last_step.Goals as goal

pub overflow_mul-n : goal.overflow_mul-n
overflow_mul-n c = record { fits = omega (arith, count-few _ _ _ _ _ _ c.requires c.count_range-n.ensures) }

pub overflow_cast-n : goal.overflow_cast-n
overflow_cast-n c = record { fits = omega (arith, count-few _ _ _ _ _ _ c.requires c.count_range-n.ensures) }

pub returns-then-list-n : goal.returns-then-list-n
returns-then-list-n c = short-last _ _ _ _ _ _ _ c.count_range-n.ensures c.if-list-n.true (short-run _ _ _ _ c.refuse_request.ensures)

pub overflow_cast-n-2 : goal.overflow_cast-n-2
overflow_cast-n-2 c = record { fits = omega (arith, count-few _ _ _ _ _ _ c.requires c.count_range-n.ensures) }

pub returns : goal.returns
returns c = done-last _ _ _ _ _ _ _ c.count_range-n.ensures c.if-list-n.false c.write_pairs.ensures c.done_step.ensures

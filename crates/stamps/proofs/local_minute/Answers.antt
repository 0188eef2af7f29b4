use native.Mathlib.Omega.{arith}
use Rattle.stamps.specs.Laws.{proper_is}
use Rattle.stamps.proofs.local_minute.Goals as goal

-- The proof of `local_minute`.
pub day_number-n-requires : goal.day_number-n-requires
day_number-n-requires c = (proper_is c.args.s c.requires).dated.is

pub overflow_mul-result-2 : goal.overflow_mul-result-2
overflow_mul-result-2 c = let p = proper_is c.args.s c.requires in let h = p.hour in omega arith

pub overflow_add-result : goal.overflow_add-result
overflow_add-result c = let p = proper_is c.args.s c.requires in let h = p.hour in omega arith

pub overflow_add-result-2 : goal.overflow_add-result-2
overflow_add-result-2 c = let p = proper_is c.args.s c.requires in let h = p.hour in let m = p.minute in omega arith

use Rattle.std.proofs.Common.{arith}
use Rattle.stamps.specs.Minutes.{covered-is}
use Rattle.stamps.proofs.stamp_of.Goals as goal

pub overflow_add-t : goal.overflow_add-t
overflow_add-t c = omega (arith, covered-is c.args.t c.requires.1)

pub overflow_add-t-then-is_summer : goal.overflow_add-t-then-is_summer
overflow_add-t-then-is_summer c = omega (arith, covered-is c.args.t c.requires.1)

pub stamp_at-requires : goal.stamp_at-requires
stamp_at-requires c = omega (arith, covered-is c.args.t c.requires.1)

pub overflow_add-t-else-is_summer : goal.overflow_add-t-else-is_summer
overflow_add-t-else-is_summer c = omega (arith, covered-is c.args.t c.requires.1)

pub stamp_at-requires-else-is_summer : goal.stamp_at-requires-else-is_summer
stamp_at-requires-else-is_summer c = omega (arith, covered-is c.args.t c.requires.1)

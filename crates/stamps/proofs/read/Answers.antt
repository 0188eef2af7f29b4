use Rattle.std.proofs.Common.{arith, rules}
use Rattle.stamps.proofs.Cases.{late}
use Rattle.stamps.proofs.read.Goals as goal

pub overflow_sub-local_minute : goal.overflow_sub-local_minute
overflow_sub-local_minute c = omega (arith, late c.args.s (search rules))

pub settle_minute-requires : goal.settle_minute-requires
settle_minute-requires c = omega (arith, late c.args.s (search rules))

use Rattle.std.proofs.Common.{arith}
use Rattle.calendar.specs.Dates.{month-most}
use Rattle.local_stamps.proofs.bytes_of.Goals as goal

pub overflow_cast-result-4 : goal.overflow_cast-result-4
overflow_cast-result-4 c = let d = c.requires.dated.is in omega (arith, d.day_upto, month-most c.args.s.year c.args.s.month)

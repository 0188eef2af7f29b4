use Rattle.calendar.specs.Calendar.{day_number}
use native.Mathlib.Omega.{arith}
use Rattle.calendar.specs.Dates.{month-most}
use Rattle.calendar.proofs.day_number.Goals as goal

pub overflow_add-result-2 : goal.overflow_add-result-2
overflow_add-result-2 c = omega (arith, month-most c.args.year c.args.month)

pub returns : goal.returns
unfolding day_number
returns c = (cc, omega (arith, month-most c.args.year c.args.month))

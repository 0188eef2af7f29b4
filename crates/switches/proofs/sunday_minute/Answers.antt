use native.Mathlib.Omega.{arith}
use Rattle.calendar.specs.Calendar.{day_number}
use Rattle.switches.proofs.sunday_minute.Goals as goal

pub last_sunday-requires : goal.last_sunday-requires
unfolding day_number
last_sunday-requires c = omega arith

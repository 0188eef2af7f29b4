use borrow.Author.Rules.{rules}
use Rattle.calendar.specs.Calendar.{month_days, thirty}
use Rattle.switches.proofs.switches_of.Goals as goal

-- The proof of `switches_of`.
pub sunday_minute-requires : goal.sunday_minute-requires
unfolding month_days thirty
sunday_minute-requires c = search rules

pub sunday_minute-requires-2 : goal.sunday_minute-requires-2
unfolding month_days thirty
sunday_minute-requires-2 c = search rules

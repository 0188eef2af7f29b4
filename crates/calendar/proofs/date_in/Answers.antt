use Rattle.std.proofs.Common.{arith, ap, rules}
use Rattle.calendar.specs.Calendar.{month_days, date_in, dated}
use Rattle.calendar.proofs.date_in.Goals as goal

pub overflow_add-result : goal.overflow_add-result
overflow_add-result c = omega (arith, c.find-place.ensures.within)

pub returns : goal.returns
unfolding date_in
returns c = ap (dated c.args.year) (c.find-place.ensures.found (month_days c.args.year) (λ k x l p. search rules))

use Rattle.std.proofs.Common.{◌*◌, ◌-◌, ◌≤◌}
use Rattle.calendar.specs.Calendar.{month_days, days_before}
use Rattle.calendar.proofs.Loops.{Summing}
use Rattle.calendar.proofs.days_before.Given as goal

abbrev pub invariant-loop-m : goal.invariant-loop-m
invariant-loop-m l = (l.n ≤ 31 * (l.m - 1)) × Summing (month_days l.year) l.month (days_before l.year l.month) l.m l.n

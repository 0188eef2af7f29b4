-- What the code that computes a switch asks for: a month of 31 days of a year covered.
use Rattle.std.specs.Prelude.{◌≡◌, ℕ, ◌≤◌}
use Rattle.calendar.specs.Calendar.{month_days}

pub record LongMonth (y m : ℕ) : Type 0 where
  pub from : 2002 ≤ y
  pub upto : y ≤ 2105
  pub month_from : 1 ≤ m
  pub month_upto : m ≤ 12
  pub long : month_days y m ≡ 31

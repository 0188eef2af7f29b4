-- A year from which that of day n is looked for: it has begun by then.
use Rattle.std.specs.Prelude.{ℕ, ◌≤◌}
use Rattle.calendar.specs.Calendar.{first_day}

pub record Near (n y : ℕ) : Type 0 where
  pub from : 1970 ≤ y
  pub upto : y ≤ 2106
  pub begun : first_day y ≤ n

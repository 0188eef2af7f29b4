-- Summer time runs from the last Sunday of March to the last Sunday of October, 01:00 UTC each (Directive 2000/84/EC). Minutes since 1 January 1970, UTC.
use Rattle.std.specs.Prelude.{ℕ, ◌+◌, ◌*◌}
use Rattle.calendar.specs.Calendar.{day_number, last_sunday}

-- 01:00 UTC of the last Sunday of a month of 31 days
unfoldable pub sunday_minute : ℕ → ℕ → ℕ
sunday_minute y m = last_sunday (day_number y m 31) * 1440 + 60

abbrev pub spring : ℕ → ℕ
spring y = sunday_minute y 3

abbrev pub autumn : ℕ → ℕ
autumn y = sunday_minute y 10

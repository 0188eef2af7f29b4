-- Each switch is at 01:00 UTC of a Sunday of its month, and no later day of that month is a Sunday.
use Rattle.std.specs.Prelude.{◌≡◌, Bool, ℕ, ◌-◌, ◌/◌, ◌%◌, ◌≤◌, ◌<◌}
use Rattle.std.proofs.Math.Path.{refl, ap₂}
use Rattle.std.proofs.Common.{ap, ◌∙◌, rules}
use Rattle.std.proofs.Math.Bool.{true, false}
use native.Mathlib.Omega.{arith}
use Rattle.std.proofs.Math.Dec.{ltb}
use borrow.Author.Tests.{ltb-true, ltb-false}
use Rattle.calendar.specs.declared.Date.{Date}
use Rattle.calendar.specs.Calendar.{thirty, month_days, day_number, date, date_in, date_of, IsDate, weekday, last_sunday}
use Rattle.calendar.specs.Dates.{number_of, year-past, sunday}
use Rattle.calendar.specs.Days.{by_number}
use Rattle.switches.specs.Switches.{sunday_minute, spring, autumn}
use Rattle.switches.specs.LongMonths.{LongMonth}

-- the minute t is 01:00 of the last Sunday of month m of year y
pub record LastSunday (y m t : ℕ) : Type 0 where
  pub hour : t % 1440 ≡ 60
  pub of_year : (date_of (t / 1440)).year ≡ y
  pub of_month : (date_of (t / 1440)).month ≡ m
  pub sunday : weekday (t / 1440) ≡ 0
  pub last : (n : ℕ) → t / 1440 < n → (date_of n).year ≡ y → (date_of n).month ≡ m → weekday n ≡ 0 → ⊥

module _ {y m : ℕ} (h : LongMonth y m) where
  its-day : sunday_minute y m / 1440 ≡ last_sunday (day_number y m 31)
  unfolding sunday_minute
  its-day = omega arith

  its-hour : sunday_minute y m % 1440 ≡ 60
  unfolding sunday_minute
  its-hour = omega arith

  its-date : date_of (last_sunday (day_number y m 31)) ≡ date y m (31 - weekday (day_number y m 31))
  unfolding last_sunday weekday day_number
  its-date = by_number (search rules) (omega arith)

  a-sunday : weekday (last_sunday (day_number y m 31)) ≡ 0
  unfolding day_number
  a-sunday = sunday (day_number y m 31) (omega arith)

  -- a day of the month is the 31st or an earlier one
  upto-last : {x k d n : ℕ} → IsDate x k d → day_number x k d ≡ n → x ≡ y → k ≡ m → n ≤ day_number y m 31
  unfolding day_number
  upto-last {x} {k} {d} p e a b =
      let l : month_days x k ≡ 31 = ap₂ month_days a b ∙ h.long in let q : day_number x k d ≡ day_number y m d = ap₂ (λ (i j : ℕ). day_number i j d) a b in omega arith

  no-later : (n : ℕ) → last_sunday (day_number y m 31) < n → n ≤ day_number y m 31 → weekday n ≡ 0 → ⊥
  unfolding last_sunday weekday
  no-later n l u w = omega arith

  -- a day of one of these years is below day 50,038
  few : (n : ℕ) → (date_of n).year ≡ y → n < 50038
  unfolding date_of date_in
  few n a = go (ltb n 50038) refl
    where
      go : (c : Bool) → ltb n 50038 ≡ c → n < 50038
      go true e = ltb-true _ _ e
      go false e = absurd (let l = ltb-false n 50038 e in let u = h.upto in omega (arith, year-past n (omega arith)))

  pub at-last-sunday : LastSunday y m (sunday_minute y m)
  at-last-sunday =
      record {
        hour = its-hour;
        of_year = rw its-day (ap (λ (d : Date). d.year) its-date);
        of_month = rw its-day (ap (λ (d : Date). d.month) its-date);
        sunday = rw its-day a-sunday;
        last = rw its-day (λ n l a b w. let s = few n a in no-later n l (upto-last (number_of n s).0 (number_of n s).1 a b) w);
      }

pub at-last-sundays : (y : ℕ) → 2002 ≤ y → y ≤ 2105 → LastSunday y 3 (spring y) × LastSunday y 10 (autumn y)
unfolding month_days thirty
at-last-sundays y a b = (at-last-sunday (search rules), at-last-sunday (search rules))

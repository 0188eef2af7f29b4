-- The laws of the calendar: dates and day numbers are inverse, and the last Sunday is a Sunday of the last seven days.
use Rattle.std.specs.Prelude.{◌≡◌, refl, Bool, true, false, cond, ℕ, ◌+◌, ◌-◌, ◌≤◌, ◌<◌}
use Rattle.std.proofs.Math.Path.{ap, ap₂}
use Rattle.std.proofs.Common.{◌∙◌, add-sub_of_le, arith, rules}
use Rattle.calendar.specs.declared.Place.{Place}
use Rattle.calendar.specs.declared.Date.{Date}
use Rattle.calendar.specs.Spans.{total, total-lt, find, find_at, find-beyond, found, Found, place}
use Rattle.calendar.specs.Calendar.{leap, year_days, thirty, month_days, first_day, days_before, day_number, date, year_of, dated, date_in, date_of, IsDate, weekday, last_sunday}

-- the months of a year are its days
pub months-year : (y : ℕ) → total (month_days y) 1 12 ≡ year_days y
unfolding total month_days year_days thirty
months-year y = go (leap y)
  where
    go : (b : Bool) → 31 + (cond b 29 28 + (31 + (30 + (31 + (30 + (31 + (31 + (30 + (31 + (30 + (31 + 0))))))))))) ≡ cond b 366 365
    go true = refl
    go false = refl

-- ---- how many days a year and a month have

pub year-most : (y : ℕ) → year_days y ≤ 366
unfolding year_days
year-most y = go (leap y)
  where
    go : (b : Bool) → cond b 366 365 ≤ 366
    go true = omega arith
    go false = omega arith

pub month-between : (y m : ℕ) → (28 ≤ month_days y m) × (month_days y m ≤ 31)
unfolding month_days
month-between y m = go (lib.Dec.eqb m 2) (leap y) (thirty m)
  where
    go : (a b c : Bool) → (28 ≤ cond a (cond b 29 28) (cond c 30 31)) × (cond a (cond b 29 28) (cond c 30 31) ≤ 31)
    go true true c = omega arith
    go true false c = omega arith
    go false b true = omega arith
    go false b false = omega arith

pub month-most : (y m : ℕ) → month_days y m ≤ 31
month-most y m = (month-between y m).1

-- ---- a date, its day's number, and back

module _ {y m d : ℕ} (h : IsDate y m d) where
  month-over : 1 + (m - 1) ≡ m
  month-over = omega arith

  day-short : d - 1 < month_days y (1 + (m - 1))
  day-short = rw month-over (omega arith)

  day-over : d - 1 + 1 ≡ d
  day-over = omega arith

  pub in-year : days_before y m + (d - 1) < year_days y
  unfolding days_before
  in-year = rw (months-year y) at (total-lt (month_days y) 1 (m - 1) 12 (d - 1) (omega arith) day-short)

  date-back : date_in y (days_before y m + (d - 1)) ≡ date y m d
  unfolding date_in days_before
  date-back = ap (dated y) (find_at (month_days y) 11 1 (m - 1) (d - 1) (omega arith) day-short) ∙ ap₂ (date y) month-over day-over

pub year-back : (y n : ℕ) → 1970 ≤ y → y ≤ 2106 → n < year_days y → year_of (first_day y + n) ≡ place y n
unfolding year_of first_day
year-back y n a b h = rw (add-sub_of_le a) at (find_at year_days 136 1970 (y - 1970) n (omega arith) (rw (add-sub_of_le a) h))

-- the date of a date's day number is that date
pub of_number : {y m d : ℕ} → IsDate y m d → date_of (day_number y m d) ≡ date y m d
unfolding date_of day_number
of_number {y} {m} {d} h =
    ap (λ (n : ℕ). date_in (year_of n).at (year_of n).rest) (omega arith)
    ∙ ap (λ (p : Place). date_in p.at p.rest) (year-back y (days_before y m + (d - 1)) h.from h.upto (in-year h))
    ∙ date-back h

-- the days up to the end of 2106
pub all-days : total year_days 1970 137 ≡ 50038
unfolding total year_days leap
all-days = refl

-- a day of those years lies in the year found for it
pub record InYear (n : ℕ) (p : Place) : Type 0 where
  pub from : 1970 ≤ p.at
  pub upto : p.at ≤ 2106
  pub sums : first_day p.at + p.rest ≡ n
  pub short : p.rest < year_days p.at

pub year-found : (n : ℕ) → n < 50038 → InYear n (year_of n)
unfolding year_of first_day
year-found n h = go (found year_days 136 1970 n (rw all-days h))
  where
    go : {p : Place} → Found year_days 136 1970 n p → InYear n p
    go {p} f =
        record { from = omega arith; upto = omega arith; sums = ap (λ (i : ℕ). total year_days 1970 i + p.rest) over ∙ f.sums; short = f.short }
      where
        over : p.at - 1970 ≡ f.passed
        over = omega arith

-- 2106, the last year, starts with day 49,673, and every day from then on is found in it
days-before-last : total year_days 1970 136 ≡ 49673
unfolding total year_days leap
days-before-last = refl

pub year-past : (n : ℕ) → 49673 ≤ n → (year_of n).at ≡ 2106
unfolding year_of
year-past n h = find-beyond year_days 136 1970 n (rw days-before-last h)

-- a day of a year has a date of that year
pub record InMonth (y n : ℕ) (d : Date) : Type 0 where
  pub same_year : d.year ≡ y
  pub month_from : 1 ≤ d.month
  pub month_upto : d.month ≤ 12
  pub day_from : 1 ≤ d.day
  pub day_upto : d.day ≤ month_days y d.month
  pub sums : days_before y d.month + (d.day - 1) ≡ n

pub month-found : (y n : ℕ) → n < year_days y → InMonth y n (date_in y n)
unfolding date_in days_before
month-found y n h = go (found (month_days y) 11 1 n (rw (months-year y) h))
  where
    go : {p : Place} → Found (month_days y) 11 1 n p → InMonth y n (dated y p)
    go {p} f =
        record {
          same_year = refl;
          month_from = omega arith;
          month_upto = omega arith;
          day_from = omega arith;
          day_upto = let s = f.short in omega arith;
          sums = ap₂ (λ (i r : ℕ). total (month_days y) 1 i + r) over back ∙ f.sums;
        }
      where
        over : p.at - 1 ≡ f.passed
        over = omega arith

        back : p.rest + 1 - 1 ≡ p.rest
        back = omega arith

-- the date of a day is a date, and its number is that day's
pub number_of : (n : ℕ) → n < 50038 → IsDate (date_of n).year (date_of n).month (date_of n).day × (day_number (date_of n).year (date_of n).month (date_of n).day ≡ n)
unfolding date_of day_number
number_of n h = go (year-found n h) (month-found (year_of n).at (year_of n).rest (year-found n h).short)
  where
    go : {p : Place} {d : Date} → InYear n p → InMonth p.at p.rest d
        → IsDate d.year d.month d.day × (first_day d.year + days_before d.year d.month + (d.day - 1) ≡ n)
    go {p} {d} a b = rw b.same_year (search rules, omega arith)

-- ---- the last Sunday up to a day

pub sunday : (n : ℕ) → 4 ≤ n → weekday (last_sunday n) ≡ 0
unfolding weekday last_sunday
sunday n h = omega arith

pub seven : (n : ℕ) → 4 ≤ n → (last_sunday n ≤ n) × (n < last_sunday n + 7)
unfolding weekday last_sunday
seven n h = omega arith

-- ---- examples

-- 27 October 2024 is day 20,023, a Sunday, and the last one of its month
pub example-day : day_number 2024 10 27 ≡ 20023
unfolding day_number first_day days_before total year_days month_days leap thirty
example-day = refl

pub example-sunday : last_sunday (day_number 2024 10 31) ≡ day_number 2024 10 27
unfolding last_sunday weekday day_number first_day days_before total year_days month_days leap thirty
example-sunday = refl

pub example-date : date_of 20023 ≡ date 2024 10 27
unfolding date_of date_in year_of find year_days month_days leap thirty
example-date = refl

pub no-leap-2100 : (month_days 2100 2 ≡ 28) × (month_days 2104 2 ≡ 29) × (month_days 2000 2 ≡ 29)
unfolding month_days leap
no-leap-2100 = (refl, refl, refl)

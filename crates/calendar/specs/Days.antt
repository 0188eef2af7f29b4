-- Day by day from 1 January 1970, a Thursday: each day has the date and the weekday after those of the day before.
use Rattle.std.specs.Prelude.{◌≡◌, Bool, [], ◌∷◌, ◌⊎◌, ◌↔◌, eqb}
use Rattle.std.proofs.Math.Path.{refl}
use Rattle.std.proofs.Common.{sym, ap, ◌∙◌, true≢false, inl, inr, arith, ltb-true, ltb-false, eqb-true, eq-eqb, rules}
use Rattle.std.proofs.Math.Bool.{true, false, cond}
use Prim.Native.Nat.{ℕ, suc, ◌+◌, ◌-◌, ◌%◌, ◌≤◌, ◌<◌}
use Rattle.std.proofs.Math.Dec.{ltb}
use Rattle.std.proofs.lemmas.Bool.{eqb-false}
use Rattle.calendar.specs.declared.Date.{Date}
use Rattle.calendar.specs.Spans.{total, total-next, find}
use Rattle.calendar.specs.Calendar.{leap, year_days, thirty, month_days, first_day, days_before, day_number, date, year_of, date_in, date_of, IsDate, weekday}
use Rattle.calendar.specs.Dates.{months-year, month-between, of_number, all-days, number_of}

-- ---- leap years and months, in the words of a calendar

pub leap-exactly : (y : ℕ) → (leap y ≡ true) ↔ (((y % 4 ≡ 0) × (y % 100 ≡ 0 → ⊥)) ⊎ (y % 400 ≡ 0))
unfolding leap
leap-exactly y = (there (eqb (y % 400) 0) (eqb (y % 100) 0) refl refl, back (eqb (y % 400) 0) (eqb (y % 100) 0) refl refl)
  where
    there : (a b : Bool) → eqb (y % 400) 0 ≡ a → eqb (y % 100) 0 ≡ b → cond a true (cond b false (eqb (y % 4) 0)) ≡ true → ((y % 4 ≡ 0) × (y % 100 ≡ 0 → ⊥)) ⊎ (y % 400 ≡ 0)
    there true b p q e = inr (eqb-true _ _ p)
    there false true p q e = absurd (true≢false (sym e))
    there false false p q e = inl (eqb-true _ _ e, eqb-false _ _ q)

    back : (a b : Bool) → eqb (y % 400) 0 ≡ a → eqb (y % 100) 0 ≡ b → ((y % 4 ≡ 0) × (y % 100 ≡ 0 → ⊥)) ⊎ (y % 400 ≡ 0) → cond a true (cond b false (eqb (y % 4) 0)) ≡ true
    back true b p q k = refl
    back false true p q (inl k) = absurd (k.1 (eqb-true _ _ q))
    back false false p q (inl k) = eq-eqb _ _ k.0
    back false b p q (inr k) = absurd (eqb-false _ _ p k)

-- the days of January, February and so on up to December
pub month-lengths : (y : ℕ) → month_days y 1 ∷ month_days y 2 ∷ month_days y 3 ∷ month_days y 4 ∷ month_days y 5 ∷ month_days y 6 ∷ month_days y 7 ∷ month_days y 8 ∷ month_days y 9 ∷ month_days y 10 ∷ month_days y 11 ∷ month_days y 12 ∷ []
    ≡ 31 ∷ cond (leap y) 29 28 ∷ 31 ∷ 30 ∷ 31 ∷ 30 ∷ 31 ∷ 31 ∷ 30 ∷ 31 ∷ 30 ∷ 31 ∷ []
unfolding month_days thirty
month-lengths y = refl

-- ---- day after day

-- the day after: the next of the month, else the first of the next month, else 1 January
unfoldable pub tomorrow : Date → Date
tomorrow d =
    cond (ltb d.day (month_days d.year d.month)) (date d.year d.month (d.day + 1)) (cond (ltb d.month 12) (date d.year (d.month + 1) 1) (date (d.year + 1) 1 1))

pub first-date : date_of 0 ≡ date 1970 1 1
unfolding date_of date_in year_of find year_days month_days leap thirty
first-date = refl

-- ---- the number of the first of a month, and of 1 January

pub next-month : (y m : ℕ) → 1 ≤ m → days_before y (m + 1) ≡ days_before y m + month_days y m
unfolding days_before
next-month y m h = total-next (month_days y) 1 m h

pub next-year : (y : ℕ) → 1970 ≤ y → first_day (y + 1) ≡ first_day y + year_days y
unfolding first_day
next-year y h = total-next year_days 1970 y h

year-end : (y : ℕ) → days_before y 13 ≡ year_days y
unfolding days_before
year-end y = months-year y

after-december : (y m : ℕ) → 1970 ≤ y → m ≡ 12 → first_day y + days_before y m + month_days y m ≡ first_day (y + 1)
after-december y m h e = rw e (omega (arith, next-month y 12 (omega arith), year-end y, next-year y h))

-- a 1 January below day 50,038 is that of 2106 or an earlier one
not-past : (y : ℕ) → y ≤ 2106 → first_day (y + 1) < 50038 → y < 2106
unfolding first_day
not-past y h s = go (ltb y 2106) refl
  where
    go : (b : Bool) → ltb y 2106 ≡ b → y < 2106
    go true p = ltb-true y 2106 p
    go false p = let l = ltb-false y 2106 p in let one : y + 1 - 1970 ≡ 137 = omega arith in let e = ap (total year_days 1970) one ∙ all-days in absurd (omega arith)

-- ---- the day after a date has the next number

pub by_number : {y m d n : ℕ} → IsDate y m d → day_number y m d ≡ n → date_of n ≡ date y m d
by_number h e = sym (ap date_of e) ∙ of_number h

module _ {y m d : ℕ} (h : IsDate y m d) where
  in-month : d < month_days y m → date_of (suc (day_number y m d)) ≡ date y m (d + 1)
  unfolding day_number
  in-month l = by_number (search rules) (omega arith)

  month-after : month_days y m ≤ d → m < 12 → date_of (suc (day_number y m d)) ≡ date y (m + 1) 1
  unfolding day_number
  month-after e l = let a = month-between y (m + 1) in by_number (search rules) (omega (arith, next-month y m h.month_from))

  year-after : month_days y m ≤ d → 12 ≤ m → suc (day_number y m d) < 50038 → date_of (suc (day_number y m d)) ≡ date (y + 1) 1 1
  unfolding day_number days_before total
  year-after e l s = let a = month-between (y + 1) 1 in let b = not-past y h.upto (rw next s) in by_number (search rules) (let c = next in omega arith)
    where
      next : first_day (y + 1) ≡ suc (day_number y m d)
      next = omega (arith, after-december y m h.from (omega arith))

  day-after : suc (day_number y m d) < 50038 → date_of (suc (day_number y m d)) ≡ tomorrow (date y m d)
  unfolding tomorrow
  day-after s = go (ltb d (month_days y m)) (ltb m 12) refl refl
    where
      go : (a b : Bool) → ltb d (month_days y m) ≡ a → ltb m 12 ≡ b → date_of (suc (day_number y m d)) ≡ cond a (date y m (d + 1)) (cond b (date y (m + 1) 1) (date (y + 1) 1 1))
      go true b p q = in-month (ltb-true _ _ p)
      go false true p q = month-after (ltb-false _ _ p) (ltb-true _ _ q)
      go false false p q = year-after (ltb-false _ _ p) (ltb-false _ _ q) s

pub next-date : (n : ℕ) → suc n < 50038 → date_of (suc n) ≡ tomorrow (date_of n)
next-date n s = go (number_of n (omega arith))
  where
    go : {d : Date} → IsDate d.year d.month d.day × (day_number d.year d.month d.day ≡ n) → date_of (suc n) ≡ tomorrow d
    go (h, e) = ap (λ (k : ℕ). date_of (suc k)) (sym e) ∙ day-after h (omega arith)

-- ---- weekdays, 0 is Sunday

pub a-thursday : weekday 0 ≡ 4
unfolding weekday
a-thursday = refl

pub next-weekday : (n : ℕ) → weekday (suc n) ≡ (weekday n + 1) % 7
unfolding weekday
next-weekday n = omega arith

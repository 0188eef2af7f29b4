-- The years of UTC minutes: each minute covered lies in one year, and summer is between that year's switches.
use Rattle.std.specs.Prelude.{◌≡◌, refl, Bool, true, false, ◌&&◌, ◌↔◌, ℕ, zero, suc, ◌+◌, ◌-◌, ◌/◌, ◌≤◌, ◌<◌, leb, ltb}
use Rattle.std.proofs.Common.{sym, ap, ◌∙◌, add-one, arith, leb-true, leb-false, ltb-true, ltb-false, le-leb, lt-ltb, le-ltb}
use Rattle.std.proofs.lemmas.Bool.{lt-leb}
use Rattle.calendar.specs.Tests.{and_left, and_right}
use Rattle.calendar.specs.declared.Place.{Place}
use Rattle.calendar.specs.Spans.{total}
use Rattle.calendar.specs.Calendar.{leap, year_days, first_day, year_of}
use Rattle.calendar.specs.Days as Days
use Rattle.calendar.specs.Dates.{InYear, year-found, year-past, year-back}
use Rattle.switches.specs.Switches.{spring, autumn}
use Rattle.switches.specs.Years.{start, clear_at}
use Rattle.stamps.specs.Stamps.{first_minute, end_minute, covered, year, summer}

-- ---- the first days of years

pub next-year : (y : ℕ) → 1970 ≤ y → first_day (suc y) ≡ first_day y + year_days y
next-year y h = ap first_day (sym (add-one y)) ∙ Days.next-year y h

total_mono : (len : ℕ → ℕ) (k i j : ℕ) → i ≤ j → total len k i ≤ total len k j
unfolding total
total_mono len k zero j h = omega arith
total_mono len k (suc i) zero h = absurd (omega arith)
total_mono len k (suc i) (suc j) h = let t = total_mono len (suc k) i j (omega arith) in omega arith

pub year-mono : (x y : ℕ) → x ≤ y → first_day x ≤ first_day y
unfolding first_day
year-mono x y h = total_mono year_days 1970 (x - 1970) (y - 1970) (omega arith)

pub first-2002 : first_day 2002 ≡ 11688
unfolding first_day total year_days leap
first-2002 = refl

pub first-2106 : first_day 2106 ≡ 49673
unfolding first_day total year_days leap
first-2106 = refl

-- the minutes covered are those from 1 January 2002 to 31 December 2105
pub first-minute : start 2002 ≡ first_minute
unfolding first_day total year_days leap
first-minute = refl

pub end-minute : start 2106 ≡ end_minute
unfolding first_day total year_days leap
end-minute = refl

-- ---- a minute and its year

pub record In (t y : ℕ) : Type 0 where
  pub from : 2002 ≤ y
  pub upto : y ≤ 2105
  pub after : start y ≤ t
  pub before : t < start (suc y)

-- a minute of a year has that year
pub has-year : {t y : ℕ} → In t y → year t ≡ y
has-year {t} {y} i =
    ap (λ (n : ℕ). (year_of n).at) day ∙ ap (λ (p : Place). p.at) (year-back y (t / 1440 - first_day y) (omega arith) (omega arith) (let n = next-year y (omega arith) in omega arith))
  where
    day : t / 1440 ≡ first_day y + (t / 1440 - first_day y)
    day = let a = i.after in omega arith

pub one-year : {t x y : ℕ} → In t x → In t y → x ≡ y
one-year i j = sym (has-year i) ∙ has-year j

-- a minute lies in its year, if that is a year covered
lies_in : (t : ℕ) → 2002 ≤ year t → year t ≤ 2105 → In t (year t)
lies_in t a b = go (year-found (t / 1440) (few (ltb (t / 1440) 50038) refl))
  where
    few : (c : Bool) → ltb (t / 1440) 50038 ≡ c → t / 1440 < 50038
    few true e = ltb-true _ _ e
    few false e = absurd (let l = ltb-false (t / 1440) 50038 e in omega (arith, year-past (t / 1440) (omega arith)))

    go : InYear (t / 1440) (year_of (t / 1440)) → In t (year t)
    go f = let s = f.sums in record { from = a; upto = b; after = omega arith; before = omega (arith, next-year (year t) f.from) }

-- a minute covered lies in its year
pub in-year-of : (t : ℕ) → first_minute ≤ t → t < end_minute → In t (year t)
in-year-of t a b = lies_in t (low (leb 2002 (year t)) refl) (high (leb (year t) 2105) refl)
  where
    f : InYear (t / 1440) (year_of (t / 1440))
    f = year-found (t / 1440) (omega arith)

    low : (c : Bool) → leb 2002 (year t) ≡ c → 2002 ≤ year t
    low true e = leb-true _ _ e
    low false e = absurd (let l = leb-false 2002 (year t) e in omega (arith, year-mono (suc (year t)) 2002 l, next-year (year t) f.from, first-2002, f.sums, f.short))

    high : (c : Bool) → leb (year t) 2105 ≡ c → year t ≤ 2105
    high true e = leb-true _ _ e
    high false e = absurd (let l = leb-false (year t) 2105 e in omega (arith, year-mono 2106 (year t) l, first-2106, f.sums))

-- ---- covered

pub covered-yes : {t : ℕ} → first_minute ≤ t → t < end_minute → covered t ≡ true
unfolding covered
covered-yes {t} a b = ap {A = Bool} (λ x. x && ltb t end_minute) (le-leb first_minute t a) ∙ lt-ltb t end_minute b

pub covered-low : {t : ℕ} → t < first_minute → covered t ≡ false
unfolding covered
covered-low {t} a = ap {A = Bool} (λ x. x && ltb t end_minute) (lt-leb first_minute t a)

pub covered-high : {t : ℕ} → end_minute ≤ t → covered t ≡ false
unfolding covered
covered-high {t} a = ap {A = Bool} (λ x. x && ltb t end_minute) (le-leb first_minute t (omega arith)) ∙ le-ltb t end_minute a

pub covered-is : (t : ℕ) → covered t ≡ true → (first_minute ≤ t) × (t < end_minute)
unfolding covered
covered-is t e = (leb-true _ _ (and_left (leb first_minute t) (ltb t end_minute) e), ltb-true _ _ (and_right (leb first_minute t) (ltb t end_minute) e))

pub covered-not : (t : ℕ) → covered t ≡ false → first_minute ≤ t → end_minute ≤ t
covered-not t e a = go (ltb t end_minute) refl
  where
    go : (b : Bool) → ltb t end_minute ≡ b → end_minute ≤ t
    go true q = absurd (let z : ◌≡◌ {A = ℕ} 0 1 = cc (covered-yes a (ltb-true t end_minute q)) in omega arith)
    go false q = ltb-false t end_minute q

pub in-covered : {t y : ℕ} → In t y → (first_minute ≤ t) × (t < end_minute)
in-covered {t} {y} i = let a = i.after in let b = i.before in omega (arith, year-mono 2002 y i.from, year-mono (suc y) 2106 (omega arith), first-2002, first-2106)

-- those of the UTC years 2002 to 2105
pub covered-years : (t : ℕ) → (covered t ≡ true) ↔ ((2002 ≤ year t) × (year t ≤ 2105))
covered-years t = (λ c. let i = in-year-of t (covered-is t c).0 (covered-is t c).1 in (i.from, i.upto), λ q. let c = in-covered (lies_in t q.0 q.1) in covered-yes c.0 c.1)

-- ---- summer

pub summer-in : {t y : ℕ} → In t y → summer t ≡ (leb (spring y) t && ltb t (autumn y))
unfolding summer
summer-in {t} i = ap (λ (n : ℕ). (leb (spring n) t && ltb t (autumn n))) (has-year i)

-- a summer minute, by its year
pub record Summer (t : ℕ) : Type 0 where
  pub y : ℕ
  pub lies : In t y
  pub after : spring y ≤ t
  pub before : t < autumn y

pub summer-is : (t : ℕ) → covered t ≡ true → summer t ≡ true → Summer t
unfolding summer
summer-is t c e =
    record {
      y = year t;
      lies = in-year-of t (covered-is t c).0 (covered-is t c).1;
      after = leb-true _ _ (and_left (leb (spring (year t)) t) (ltb t (autumn (year t))) e);
      before = ltb-true _ _ (and_right (leb (spring (year t)) t) (ltb t (autumn (year t))) e);
    }

-- what lies from four hours before a switch to four hours after lies in its year
pub by-spring : {y t : ℕ} → 2002 ≤ y → y ≤ 2105 → spring y ≤ t + 240 → t < autumn y + 240 → In t y
by-spring {y} {t} a b l h = let c = clear_at y a b in let early = c.early in let late = c.late in record { from = a; upto = b; after = omega arith; before = omega arith }

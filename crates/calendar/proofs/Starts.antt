-- Where a year starts, by the leap days before it, and that the year from which a day's year is looked for is not past it.
use mathlib.Core.Path.{◌≡◌, refl, subst}
use mathlib.Core.Bool.{Bool, true}
use Prim.Native.Nat.{ℕ, ◌+◌, ◌-◌, ◌*◌, ◌/◌, ◌≤◌}
use native.Mathlib.Omega.{arith}
use lib.Dec.{eqb}
use borrow.Author.Tests.{eqb-true}
use Rattle.calendar.specs.Tests.{all, all-at}
use Rattle.calendar.specs.Spans.{total}
use Rattle.calendar.specs.Calendar.{leap, year_days, first_day}
use Rattle.calendar.specs.Near.{Near}

-- the first day of a year: 365 days a year since 1970, and the leap days
abbrev pub starts : ℕ → ℕ
starts y = 365 * (y - 1970) + ((y - 1969) / 4 - (y - 1901) / 100 + (y - 1601) / 400)

-- one computed test over the years 1970 to 2106
unfoldable same : ℕ → Bool
same y = eqb (starts y) (first_day y)

all_same : all same 137 1970 ≡ true
unfolding all same first_day total year_days leap
all_same = refl

pub starts_first : (y : ℕ) → 1970 ≤ y → y ≤ 2106 → starts y ≡ first_day y
unfolding same
starts_first y a b = eqb-true _ _ (subst (λ (n : ℕ). same n ≡ true) over (all-at same 137 1970 (y - 1970) all_same (omega arith)))
  where
    over : 1970 + (y - 1970) ≡ y
    over = omega arith

-- years have at most 366 days
starts-early : (y : ℕ) → 1970 ≤ y → y ≤ 2106 → first_day y ≤ 366 * (y - 1970)
starts-early y a b = omega (arith, starts_first y a b)

-- a year is near if so many times 366 days have passed
pub near : {n y : ℕ} → 1970 ≤ y → y ≤ 2106 → 366 * (y - 1970) ≤ n → Near n y
near {n} {y} a b h = record { from = a; upto = b; begun = omega (arith, starts-early y a b) }

-- One computed test over the years 2002 to 2105: each switch stands four hours clear of the other and of the ends of its year.
use Rattle.std.specs.Prelude.{◌≡◌, refl, Bool, true, ◌&&◌, ℕ, suc, ◌+◌, ◌-◌, ◌*◌, ◌≤◌, leb}
use Rattle.std.proofs.Common.{subst, arith, leb-true}
use Rattle.calendar.specs.Tests.{and_left, and_right, all, all-at}
use Rattle.calendar.specs.Spans.{total}
use Rattle.calendar.specs.Calendar.{leap, year_days, thirty, month_days, first_day, days_before, day_number, weekday, last_sunday}
use Rattle.switches.specs.Switches.{sunday_minute, spring, autumn}

-- the first minute of a year
abbrev pub start : ℕ → ℕ
start y = first_day y * 1440

-- ---- the test

unfoldable pub clear : ℕ → Bool
clear y = leb (start y + 240) (spring y) && (leb (spring y + 240) (autumn y) && leb (autumn y + 240) (start (suc y)))

all-clear : all clear 104 2002 ≡ true
unfolding all clear sunday_minute last_sunday weekday day_number first_day days_before total year_days month_days leap thirty
all-clear = refl

pub record Clear (y : ℕ) : Type 0 where
  pub early : start y + 240 ≤ spring y
  pub apart : spring y + 240 ≤ autumn y
  pub late : autumn y + 240 ≤ start (suc y)

pub clear_at : (y : ℕ) → 2002 ≤ y → y ≤ 2105 → Clear y
unfolding clear
clear_at y a b = go (subst (λ (n : ℕ). clear n ≡ true) over (all-at clear 104 2002 (y - 2002) all-clear (omega arith)))
  where
    over : 2002 + (y - 2002) ≡ y
    over = omega arith

    go : clear y ≡ true → Clear y
    go e =
        record {
          early = leb-true _ _ (and_left (leb (start y + 240) (spring y)) _ e);
          apart = leb-true _ _ (and_left (leb (spring y + 240) (autumn y)) _ (and_right (leb (start y + 240) (spring y)) _ e));
          late = leb-true _ _ (and_right (leb (spring y + 240) (autumn y)) _ (and_right (leb (start y + 240) (spring y)) _ e));
        }

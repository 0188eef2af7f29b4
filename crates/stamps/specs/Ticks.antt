-- The stamps of local minutes go on as a clock does, minute by minute from 1 January 1970, 00:00.
use Rattle.std.specs.Prelude.{◌≡◌, Bool, true, false, cond, ℕ, suc, ◌+◌, ◌/◌, ◌%◌, ◌≤◌, ◌<◌, ltb}
use Rattle.std.proofs.Math.Path.{refl}
use Rattle.std.proofs.Common.{ap, ◌∙◌, arith, ltb-true, ltb-false}
use Rattle.calendar.specs.declared.Date.{Date}
use Rattle.calendar.specs.Calendar.{date, date_of}
use Rattle.calendar.specs.Days.{tomorrow, first-date, next-date}
use Rattle.stamps.specs.declared.Stamp.{Stamp}
use Rattle.stamps.specs.Stamps.{end_minute, summer, stamped, stamp_at, stamp}

-- a date, an hour and a minute with a mark
abbrev pub shown : ℕ → Date → ℕ → ℕ → Stamp
shown m d h i = record { year = d.year; month = d.month; day = d.day; hour = h; minute = i; mark = m }

abbrev pub dated : Stamp → Date
dated s = date s.year s.month s.day

-- a minute later, with the same mark: the next minute, else the next hour, else 00:00 of the day after
unfoldable pub later : Stamp → Stamp
later s =
    cond (ltb s.minute 59) (shown s.mark (dated s) s.hour (s.minute + 1))
    (cond (ltb s.hour 23) (shown s.mark (dated s) (s.hour + 1) 0) (shown s.mark (tomorrow (dated s)) 0 0))

pub first-stamp : (m : ℕ) → stamp_at m 0 ≡ shown m (date 1970 1 1) 0 0
unfolding stamp_at stamped
first-stamp m = ap (λ (d : Date). shown m d 0 0) first-date

module _ (m l : ℕ) (small : suc l < 72054720) where
  -- the next local minute has this day, hour and minute
  next-is : {d : Date} {h i : ℕ} → date_of (suc l / 1440) ≡ d → suc l % 1440 / 60 ≡ h → suc l % 1440 % 60 ≡ i → stamp_at m (suc l) ≡ shown m d h i
  unfolding stamp_at stamped
  next-is p q r = cc

  pub next-stamp : stamp_at m (suc l) ≡ later (stamp_at m l)
  unfolding later stamp_at stamped tomorrow
  next-stamp = go (ltb (l % 1440 % 60) 59) (ltb (l % 1440 / 60) 23) refl refl
    where
      d : Date
      d = date_of (l / 1440)

      go : (a b : Bool) → ltb (l % 1440 % 60) 59 ≡ a → ltb (l % 1440 / 60) 23 ≡ b
          → stamp_at m (suc l) ≡ cond a (shown m d (l % 1440 / 60) (l % 1440 % 60 + 1)) (cond b (shown m d (l % 1440 / 60 + 1) 0) (shown m (tomorrow d) 0 0))
      go true b p q = let h : l % 1440 % 60 < 59 = ltb-true _ _ p in next-is (ap date_of (omega arith)) (omega arith) (omega arith)
      go false true p q = let h : 59 ≤ l % 1440 % 60 = ltb-false _ _ p in let k : l % 1440 / 60 < 23 = ltb-true _ _ q in next-is (ap date_of (omega arith)) (omega arith) (omega arith)
      go false false p q =
          let h : 59 ≤ l % 1440 % 60 = ltb-false _ _ p in
          let k : 23 ≤ l % 1440 / 60 = ltb-false _ _ q in
          let n : suc l / 1440 ≡ suc (l / 1440) = omega arith in
          next-is (ap date_of n ∙ next-date (l / 1440) (omega arith)) (omega arith) (omega arith)

-- so do the stamps of UTC minutes, but where the season changes
pub ticks : (b t : ℕ) → b ≤ 180 → t < end_minute → summer (suc t) ≡ summer t → stamp b (suc t) ≡ later (stamp b t)
unfolding stamp
ticks b t small before same = ap {A = Bool} (λ c. cond c (stamp_at 1 (suc t + b + 60)) (stamp_at 2 (suc t + b))) same ∙ go (summer t)
  where
    go : (c : Bool) → cond c (stamp_at 1 (suc t + b + 60)) (stamp_at 2 (suc t + b)) ≡ later (cond c (stamp_at 1 (t + b + 60)) (stamp_at 2 (t + b)))
    go true = ap (stamp_at 1) (omega arith) ∙ next-stamp 1 (t + b + 60) (omega arith)
    go false = ap (stamp_at 2) (omega arith) ∙ next-stamp 2 (t + b) (omega arith)

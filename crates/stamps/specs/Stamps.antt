-- The season of a UTC minute, the stamp of a UTC minute, and the reading of a stamp, for any base offset.
use Rattle.std.specs.Prelude.{Bool, cond, not, ◌&&◌, ℕ, ◌+◌, ◌-◌, ◌*◌, ◌/◌, ◌%◌, leb, ltb, eqb, Result, Ok, Err}
use Rattle.calendar.specs.declared.Date.{Date}
use Rattle.calendar.specs.Calendar.{year_of, date_of, day_number, month_days}
use Rattle.switches.specs.Switches.{spring, autumn}
use Rattle.stamps.specs.declared.Stamp.{Stamp}
use Rattle.stamps.specs.declared.Refusal.{Refusal}
use Rattle.stamps.specs.declared.Refusal.TheVariants.{Outside, Skipped, Doubled}

-- ---- UTC minutes

-- the first minute of 2002, and of 2106
abbrev pub first_minute : ℕ
first_minute = 16830720

abbrev pub end_minute : ℕ
end_minute = 71529120

unfoldable pub covered : ℕ → Bool
covered t = leb first_minute t && ltb t end_minute

abbrev pub year : ℕ → ℕ
year t = (year_of (t / 1440)).at

unfoldable pub summer : ℕ → Bool
summer t = leb (spring (year t)) t && ltb t (autumn (year t))

-- ---- the stamp of a UTC minute: 1 marks summer, 2 winter

unfoldable pub stamped : ℕ → ℕ → Date → Stamp
stamped m r d = record { year = d.year; month = d.month; day = d.day; hour = r / 60; minute = r % 60; mark = m }

-- the stamp of a local minute
unfoldable pub stamp_at : ℕ → ℕ → Stamp
stamp_at m l = stamped m (l % 1440) (date_of (l / 1440))

unfoldable pub stamp : ℕ → ℕ → Stamp
stamp b t = cond (summer t) (stamp_at 1 (t + b + 60)) (stamp_at 2 (t + b))

-- ---- the reading of a stamp: a UTC minute, or why it is refused

abbrev pub Reading : Type 0
Reading = Result ℕ Refusal

unfoldable pub within : ℕ → ℕ → ℕ → Bool
within a x e = leb a x && leb x e

-- 1 January 2106
abbrev pub last_day : ℕ
last_day = 49673

-- a date of 1 January 2002 to 1 January 2106
unfoldable pub proper_date : ℕ → ℕ → ℕ → Bool
proper_date y m d = within 2002 y 2106 && (within 1 m 12 && (within 1 d (month_days y m) && leb (day_number y m d) last_day))

unfoldable pub proper : Stamp → Bool
proper s = proper_date s.year s.month s.day && (ltb s.hour 24 && (ltb s.minute 60 && ltb s.mark 3))

unfoldable pub local : Stamp → ℕ
local s = day_number s.year s.month s.day * 1440 + s.hour * 60 + s.minute

-- w is the local minute less the base offset. With a mark: the minute that it gives, if the UTC year is covered and the season is the mark's
unfoldable pub as_summer : ℕ → Reading
as_summer w = cond (covered (w - 60) && summer (w - 60)) (Ok (w - 60)) (Err Outside)

unfoldable pub as_winter : ℕ → Reading
as_winter w = cond (covered w && not (summer w)) (Ok w) (Err Outside)

-- without one: clocks skip the hour from the spring switch on, and repeat the hour from the autumn switch on
abbrev pub hour_from : ℕ → ℕ → Bool
hour_from s w = leb s w && ltb w (s + 60)

unfoldable pub unmarked : ℕ → Reading
unmarked w =
    cond (covered w)
    (cond (hour_from (spring (year w)) w) (Err Skipped)
    (cond (hour_from (autumn (year w)) w) (Err Doubled)
    (cond (summer w) (Ok (w - 60)) (Ok w))))
    (Err Outside)

unfoldable pub settle : ℕ → ℕ → Reading
settle m w = cond (eqb m 1) (as_summer w) (cond (eqb m 2) (as_winter w) (unmarked w))

unfoldable pub reading : ℕ → Stamp → Reading
reading b s = cond (proper s) (settle s.mark (local s - b)) (Err Outside)

-- ---- the numbers of document 02

abbrev pub refusal_number : Refusal → ℕ
refusal_number Outside = 18
refusal_number Skipped = 19
refusal_number Doubled = 20

abbrev pub number : Reading → ℕ
number (Ok t) = t
number (Err r) = refusal_number r

-- the same stamp with another mark
abbrev pub marked : ℕ → Stamp → Stamp
marked m s = record { year = s.year; month = s.month; day = s.day; hour = s.hour; minute = s.minute; mark = m }

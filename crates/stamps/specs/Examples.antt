-- Document 02's example, computed: on 27 October 2024 at offset 60, 02:30 occurs twice; on 31 March 2024 it is skipped.
use Rattle.std.specs.Prelude.{◌≡◌, refl, ℕ, Ok, Err}
use Rattle.std.proofs.Common.{arith}
use Rattle.calendar.specs.Spans.{total, find}
use Rattle.calendar.specs.Calendar.{leap, year_days, thirty, month_days, first_day, days_before, day_number, year_of, date_in, date_of, weekday, last_sunday}
use Rattle.switches.specs.Switches.{sunday_minute}
use Rattle.stamps.specs.declared.Stamp.{Stamp}
use Rattle.stamps.specs.Stamps.{last_day, covered, summer, stamped, stamp_at, stamp, within, proper_date, proper, local, as_summer, as_winter, unmarked, settle, reading}
use Rattle.stamps.specs.Occurs.{Twice, twice-exactly}
use Rattle.stamps.specs.declared.Refusal.TheVariants.{Skipped, Doubled}

abbrev pub half_past : ℕ → Stamp
half_past k = record { year = 2024; month = 10; day = 27; hour = 2; minute = 30; mark = k }

pub twice : (reading 60 (half_past 0) ≡ Err Doubled) × (reading 60 (half_past 1) ≡ Ok 28833150) × (reading 60 (half_past 2) ≡ Ok 28833210)
unfolding total find leap year_days thirty month_days first_day days_before day_number year_of date_in date_of weekday last_sunday sunday_minute covered summer stamped stamp_at stamp within proper_date proper local as_summer as_winter unmarked settle reading
twice = (refl, refl, refl)

pub twice-back : (stamp 60 28833150 ≡ half_past 1) × (stamp 60 28833210 ≡ half_past 2)
unfolding total find leap year_days thirty month_days first_day days_before day_number year_of date_in date_of weekday last_sunday sunday_minute covered summer stamped stamp_at stamp within proper_date proper local as_summer as_winter unmarked settle reading
twice-back = (refl, refl)

pub occurs-twice : Twice 60 (half_past 0)
occurs-twice = (twice-exactly 60 (half_past 0) (omega arith) refl).0 twice.0

pub skipped : reading 60 (record { year = 2024; month = 3; day = 31; hour = 2; minute = 30; mark = 0 }) ≡ Err Skipped
unfolding total find leap year_days thirty month_days first_day days_before day_number year_of date_in date_of weekday last_sunday sunday_minute covered summer stamped stamp_at stamp within proper_date proper local as_summer as_winter unmarked settle reading
skipped = refl

-- the last date that a stamp may have, 1 January 2106
pub last-date : day_number 2106 1 1 ≡ last_day
unfolding total leap year_days thirty month_days first_day days_before day_number
last-date = refl

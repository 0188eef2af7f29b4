-- The laws of stamps, for every base offset b up to 180: every covered minute has a marked stamp that reads back; an accepted marked stamp is the stamp of its
-- minute; one with no mark reads as with the one mark that is accepted; 19 exactly in skipped hours, 20 exactly in doubled ones.
use Rattle.std.specs.Prelude.{◌≡◌, refl, Bool, true, false, cond, not, ◌&&◌, ◌⊎◌, ◌↔◌, ℕ, zero, suc, ◌+◌, ◌-◌, ◌*◌, ◌/◌, ◌%◌, ◌≤◌, ◌<◌, leb, ltb, Ok, Err}
use Rattle.std.proofs.Common.{sym, ap, ap₂, subst, ◌∙◌, true≢false, inl, inr, arith, leb-true, leb-false, ltb-true, le-leb, lt-ltb}
use Rattle.calendar.specs.Tests.{and_left, and_right, and_yes}
use Rattle.calendar.specs.declared.Date.{Date}
use Rattle.calendar.specs.Calendar.{day_number, month_days, date_of, IsDate}
use Rattle.calendar.specs.Dates.{in-year, of_number, number_of}
use Rattle.switches.specs.Switches.{sunday_minute, spring, autumn}
use Rattle.stamps.specs.declared.Stamp.{Stamp}
use Rattle.stamps.specs.Stamps.{Reading, first_minute, end_minute, last_day, covered, summer, stamped, stamp_at, stamp, within, proper_date, proper, local, as_summer, as_winter, unmarked, settle, reading, marked}
use Rattle.stamps.specs.Minutes.{year-mono, next-year, first-2002, covered-is, covered-yes}
use Rattle.stamps.specs.Settled.{summer-of, winter-of, Agree, summer_alone, winter_alone, an_hour_apart, none_skipped, none, agree, Hour, skipped-in, in-skipped, doubled-in, in-doubled}
use Rattle.stamps.specs.declared.Refusal.TheVariants.{Outside, Skipped, Doubled}

-- ---- a proper stamp

-- its date is one of 1 January 2002 to 1 January 2106
pub record ProperDate (y m d : ℕ) : Type 0 where
  pub is : IsDate y m d
  pub late : 2002 ≤ y
  pub upto : day_number y m d ≤ last_day

pub record Proper (s : Stamp) : Type 0 where
  pub dated : ProperDate s.year s.month s.day
  pub hour : s.hour < 24
  pub minute : s.minute < 60
  pub mark : s.mark < 3

pub within-is : (a x e : ℕ) → within a x e ≡ true → (a ≤ x) × (x ≤ e)
unfolding within
within-is a x e h = (leb-true _ _ (and_left (leb a x) (leb x e) h), leb-true _ _ (and_right (leb a x) (leb x e) h))

pub within-yes : (a x e : ℕ) → a ≤ x → x ≤ e → within a x e ≡ true
unfolding within
within-yes a x e l h = ap {A = Bool} (λ b. b && leb x e) (le-leb a x l) ∙ le-leb x e h

date-is : (y m d : ℕ) → proper_date y m d ≡ true → ProperDate y m d
unfolding proper_date
date-is y m d e = go (within-is 2002 y 2106 (and_left (within 2002 y 2106) _ e)) (and_right (within 2002 y 2106) _ e)
  where
    go : (2002 ≤ y) × (y ≤ 2106) → (within 1 m 12 && (within 1 d (month_days y m) && leb (day_number y m d) last_day)) ≡ true → ProperDate y m d
    go a e = next (within-is 1 m 12 (and_left (within 1 m 12) _ e)) (and_right (within 1 m 12) _ e)
      where
        next : (1 ≤ m) × (m ≤ 12) → (within 1 d (month_days y m) && leb (day_number y m d) last_day) ≡ true → ProperDate y m d
        next b e = last (within-is 1 d (month_days y m) (and_left (within 1 d (month_days y m)) _ e)) (leb-true _ _ (and_right (within 1 d (month_days y m)) _ e))
          where
            last : (1 ≤ d) × (d ≤ month_days y m) → day_number y m d ≤ last_day → ProperDate y m d
            last c u = record { is = record { from = omega arith; upto = a.1; month_from = b.0; month_upto = b.1; day_from = c.0; day_upto = c.1 }; late = a.0; upto = u }

date-yes : {y m d : ℕ} → ProperDate y m d → proper_date y m d ≡ true
unfolding proper_date
date-yes {y} {m} {d} p =
    and_yes (within-yes 2002 y 2106 p.late p.is.upto)
    (and_yes (within-yes 1 m 12 p.is.month_from p.is.month_upto)
    (and_yes (within-yes 1 d (month_days y m) p.is.day_from p.is.day_upto) (le-leb _ _ p.upto)))

pub proper_is : (s : Stamp) → proper s ≡ true → Proper s
unfolding proper
proper_is s e =
    record {
      dated = date-is s.year s.month s.day (and_left (proper_date s.year s.month s.day) _ e);
      hour = ltb-true _ _ (and_left (ltb s.hour 24) _ more);
      minute = ltb-true _ _ (and_left (ltb s.minute 60) _ (and_right (ltb s.hour 24) _ more));
      mark = ltb-true _ _ (and_right (ltb s.minute 60) _ (and_right (ltb s.hour 24) _ more));
    }
  where
    more : (ltb s.hour 24 && (ltb s.minute 60 && ltb s.mark 3)) ≡ true
    more = and_right (proper_date s.year s.month s.day) _ e

pub proper-yes : {s : Stamp} → Proper s → proper s ≡ true
unfolding proper
proper-yes {s} p = and_yes (date-yes p.dated) (and_yes (lt-ltb s.hour 24 p.hour) (and_yes (lt-ltb s.minute 60 p.minute) (lt-ltb s.mark 3 p.mark)))

-- its mark is 0, or else 1 or 2
pub which-mark : {s : Stamp} → Proper s → (s.mark ≡ 0) ⊎ ((s.mark ≡ 1) ⊎ (s.mark ≡ 2))
which-mark {s} p = go s.mark p.mark
  where
    go : (m : ℕ) → m < 3 → (m ≡ 0) ⊎ ((m ≡ 1) ⊎ (m ≡ 2))
    go zero h = inl refl
    go (suc zero) h = inr (inl refl)
    go (suc (suc zero)) h = inr (inr refl)
    go (suc (suc (suc m))) h = absurd (omega arith)

-- a proper stamp's local minute lies in no year before 2002
pub local-late : {s : Stamp} → Proper s → first_minute ≤ local s
unfolding local day_number
local-late {s} p = omega (arith, year-mono 2002 s.year p.dated.late, first-2002)

-- ---- stamps and local minutes

pub stamp-local : {s : Stamp} → Proper s → stamp_at s.mark (local s) ≡ s
unfolding stamp_at stamped local
stamp-local {s} p =
    ap₂ (stamped s.mark) low (ap date_of high ∙ of_number p.dated.is)
    ∙ ap₂ (λ (h m : ℕ). record { year = s.year; month = s.month; day = s.day; hour = h; minute = m; mark = s.mark }) hours minutes
  where
    n : ℕ
    n = day_number s.year s.month s.day

    ph : s.hour < 24
    ph = p.hour

    pm : s.minute < 60
    pm = p.minute

    low : (n * 1440 + s.hour * 60 + s.minute) % 1440 ≡ s.hour * 60 + s.minute
    low = omega arith

    high : (n * 1440 + s.hour * 60 + s.minute) / 1440 ≡ n
    high = omega arith

    hours : (s.hour * 60 + s.minute) / 60 ≡ s.hour
    hours = omega arith

    minutes : (s.hour * 60 + s.minute) % 60 ≡ s.minute
    minutes = omega arith

pub local-stamp : (m l : ℕ) → l / 1440 < 50038 → local (stamp_at m l) ≡ l
unfolding stamp_at stamped local
local-stamp m l h = let n = (number_of (l / 1440) h).1 in omega arith

late-year : {y m d : ℕ} → IsDate y m d → 11688 ≤ day_number y m d → 2002 ≤ y
unfolding day_number
late-year {y} {m} {d} i h = go (leb 2002 y) refl
  where
    go : (b : Bool) → leb 2002 y ≡ b → 2002 ≤ y
    go true e = leb-true _ _ e
    go false e = absurd (let l = leb-false 2002 y e in omega (arith, in-year i, next-year y i.from, year-mono (suc y) 2002 l, first-2002))

pub stamp-proper : (m l : ℕ) → first_minute ≤ l → l / 1440 ≤ last_day → m < 3 → Proper (stamp_at m l)
unfolding stamp_at stamped
stamp-proper m l a b h = record { dated = go (number_of (l / 1440) (omega arith)); hour = omega arith; minute = omega arith; mark = h }
  where
    go : {d : Date} → IsDate d.year d.month d.day × (day_number d.year d.month d.day ≡ l / 1440) → ProperDate d.year d.month d.day
    go {d} e = record { is = e.0; late = late-year e.0 (let z = e.1 in omega arith); upto = let z = e.1 in omega arith }

-- ---- law 1: every minute covered has a marked stamp that reads back

pub proper-reading : (b : ℕ) {s : Stamp} → Proper s → reading b s ≡ settle s.mark (local s - b)
unfolding reading
proper-reading b p = cc (proper-yes p)

reading-at : (b m l : ℕ) → Proper (stamp_at m l) → l / 1440 < 50038 → reading b (stamp_at m l) ≡ settle m (l - b)
unfolding stamp_at stamped
reading-at b m l p h = proper-reading b p ∙ ap (λ (n : ℕ). settle m (n - b)) (local-stamp m l h)

as-summer : (w : ℕ) {t : ℕ} → w - 60 ≡ t → covered t ≡ true → summer t ≡ true → as_summer w ≡ Ok t
unfolding as_summer
as-summer w e c d = cc

as-winter : {w t : ℕ} → w ≡ t → covered t ≡ true → summer t ≡ false → as_winter w ≡ Ok t
unfolding as_winter
as-winter e c d = cc

pub record Stamps (b t : ℕ) (s : Stamp) : Type 0 where
  pub proper : Proper s
  pub marks : (s.mark ≡ 1) ⊎ (s.mark ≡ 2)
  pub reads : reading b s ≡ Ok t

pub reads-back : (b t : ℕ) → b ≤ 180 → first_minute ≤ t → t < end_minute → Stamps b t (stamp b t)
unfolding stamp settle stamp_at stamped
reads-back b t small from before = go (summer t) refl
  where
    go : (c : Bool) → summer t ≡ c → Stamps b t (cond c (stamp_at 1 (t + b + 60)) (stamp_at 2 (t + b)))
    go true e =
        record {
          proper = p;
          marks = inl refl;
          reads = reading-at b 1 (t + b + 60) p (omega arith) ∙ as-summer (t + b + 60 - b) (omega arith) (covered-yes from before) e;
        }
      where
        p : Proper (stamp_at 1 (t + b + 60))
        p = stamp-proper 1 (t + b + 60) (omega arith) (omega arith) (omega arith)
    go false e =
        record {
          proper = p;
          marks = inr refl;
          reads = reading-at b 2 (t + b) p (omega arith) ∙ as-winter (omega arith) (covered-yes from before) e;
        }
      where
        p : Proper (stamp_at 2 (t + b))
        p = stamp-proper 2 (t + b) (omega arith) (omega arith) (omega arith)

-- ---- law 2: an accepted marked stamp is the stamp of its minute

-- what a reading that is not Outside settles
pub settled : {r : Reading} (b : ℕ) (s : Stamp) → reading b s ≡ r → (r ≡ Err Outside → ⊥) → Proper s × (settle s.mark (local s - b) ≡ r)
unfolding reading
settled {r} b s e n = go (proper s) refl e
  where
    go : (c : Bool) → proper s ≡ c → cond c (settle s.mark (local s - b)) (Err Outside) ≡ r → Proper s × (settle s.mark (local s - b) ≡ r)
    go true p q = (proper_is s p, q)
    go false p q = absurd (n (sym q))

minute-in : {t : ℕ} → Ok t ≡ Err Outside → ⊥
minute-in e = true≢false (cc)

-- a mark that is accepted at w: the minute t is covered, and its stamp has that mark and shows w with the base offset put on
record Fits (m w t : ℕ) : Type 0 where
  early : t ≤ w
  covers : (first_minute ≤ t) × (t < end_minute)
  shows : (b : ℕ) → stamp b t ≡ stamp_at m (w + b)

fits : (m w t : ℕ) → (m ≡ 1) ⊎ (m ≡ 2) → settle m w ≡ Ok t → Fits m w t
unfolding settle stamp
fits m w t (inl e) q =
    let f = summer-of w t (cc) in
    let c = covered-is t f.1 in
    let z = f.0 in
    record { early = omega arith; covers = c; shows = λ b. let over : t + b + 60 ≡ w + b = omega arith in cc }
fits m w t (inr e) q = let f = winter-of w t (cc) in let z = f.0 in record { early = omega arith; covers = covered-is t f.1; shows = λ b. cc }

pub is-stamp : (b : ℕ) (s : Stamp) (t : ℕ) → (s.mark ≡ 1) ⊎ (s.mark ≡ 2) → reading b s ≡ Ok t → (first_minute ≤ t) × (t < end_minute) × (stamp b t ≡ s)
is-stamp b s t m e =
    let q = settled b s e minute-in in
    let f = fits s.mark (local s - b) t m q.1 in
    let c = f.covers in
    let early = f.early in
    let over : local s - b + b ≡ local s = omega arith in
    (c.0, c.1, f.shows b ∙ ap (stamp_at s.mark) over ∙ stamp-local q.0)

-- so the marked stamps accepted are those of the minutes covered, each of one minute
pub marked-exactly : (b : ℕ) (s : Stamp) (t : ℕ) → b ≤ 180 → (s.mark ≡ 1) ⊎ (s.mark ≡ 2) → (reading b s ≡ Ok t) ↔ ((first_minute ≤ t) × (t < end_minute) × (stamp b t ≡ s))
marked-exactly b s t small m = (is-stamp b s t m, λ q. ap (reading b) (sym q.2) ∙ (reads-back b t small q.0 q.1).reads)

-- ---- law 3: the readings of one stamp with no mark, with that of summer and with that of winter

pub marks-agree : (b : ℕ) (s : Stamp) → Agree (reading b (marked 0 s)) (reading b (marked 1 s)) (reading b (marked 2 s))
unfolding reading proper local settle
marks-agree b s = go (proper_date s.year s.month s.day && (ltb s.hour 24 && (ltb s.minute 60 && true)))
  where
    w : ℕ
    w = local s - b

    go : (c : Bool) → Agree (cond c (unmarked w) (Err Outside)) (cond c (as_summer w) (Err Outside)) (cond c (as_winter w) (Err Outside))
    go true = agree w
    go false = none

-- an accepted stamp with no mark reads as with the one mark that is accepted
pub one-mark : (b : ℕ) (s : Stamp) (t : ℕ) → s.mark ≡ 0 → reading b s ≡ Ok t
    → ((reading b (marked 1 s) ≡ Ok t) × (reading b (marked 2 s) ≡ Err Outside)) ⊎ ((reading b (marked 1 s) ≡ Err Outside) × (reading b (marked 2 s) ≡ Ok t))
one-mark b s t m e = go (marks-agree b s) (ap (λ (n : ℕ). reading b (marked n s)) (sym m) ∙ e)
  where
    go : {x y z : Reading} → Agree x y z → x ≡ Ok t → ((y ≡ Ok t) × (z ≡ Err Outside)) ⊎ ((y ≡ Err Outside) × (z ≡ Ok t))
    go summer_alone q = inl (q, refl)
    go winter_alone q = inr (refl, q)
    go an_hour_apart q = let z : ◌≡◌ {A = ℕ} 0 1 = cc in absurd (omega arith)
    go none_skipped q = let z : ◌≡◌ {A = ℕ} 0 1 = cc in absurd (omega arith)
    go none q = let z : ◌≡◌ {A = ℕ} 0 1 = cc in absurd (omega arith)

-- ---- law 4: 19 exactly in skipped hours, 20 exactly in doubled ones

-- l lies in the hour that local clocks skip or repeat at a year's switch
pub record LocalHour (b : ℕ) (switch : ℕ → ℕ) (l : ℕ) : Type 0 where
  pub y : ℕ
  pub from : 2002 ≤ y
  pub upto : y ≤ 2105
  pub after : switch y + b ≤ l
  pub before : l < switch y + b + 60

-- of a stamp with no mark
unmarked-reading : (b : ℕ) (s : Stamp) → s.mark ≡ 0 → Proper s → reading b s ≡ unmarked (local s - b)
unfolding settle
unmarked-reading b s m p = proper-reading b p ∙ ap (λ (n : ℕ). settle n (local s - b)) m

-- the base offset taken off
off-base : {b l : ℕ} {switch : ℕ → ℕ} → LocalHour b switch l → Hour switch (l - b)
off-base h = record { y = h.y; from = h.from; upto = h.upto; after = omega (arith, h.after); before = omega (arith, h.before, h.after) }

on-base : (b l : ℕ) {switch : ℕ → ℕ} → ((n : ℕ) → 0 < switch n) → Hour switch (l - b) → LocalHour b switch l
on-base b l pos h = record { y = h.y; from = h.from; upto = h.upto; after = omega (arith, pos h.y, h.after); before = omega (arith, pos h.y, h.before, h.after) }

late-switch : (m y : ℕ) → 0 < sunday_minute y m
unfolding sunday_minute
late-switch m y = omega arith

-- one law for both
hour-exactly : (b : ℕ) (s : Stamp) {r : Reading} {switch : ℕ → ℕ} → s.mark ≡ 0 → (r ≡ Err Outside → ⊥) → ((n : ℕ) → 0 < switch n) → ((w : ℕ) → unmarked w ≡ r → Hour switch w)
    → ((w : ℕ) → Hour switch w → unmarked w ≡ r) → (reading b s ≡ r) ↔ (Proper s × LocalHour b switch (local s))
hour-exactly b s {r} {switch} m n pos f g = (there, λ q. unmarked-reading b s m q.0 ∙ g (local s - b) (off-base q.1))
  where
    there : reading b s ≡ r → Proper s × LocalHour b switch (local s)
    there e = let p = (settled b s e n).0 in (p, on-base b (local s) pos (f (local s - b) (sym (unmarked-reading b s m p) ∙ e)))

pub skipped-exactly : (b : ℕ) (s : Stamp) → s.mark ≡ 0 → (reading b s ≡ Err Skipped) ↔ (Proper s × LocalHour b spring (local s))
skipped-exactly b s m = hour-exactly b s m (λ e. true≢false (cc)) (late-switch 3) in-skipped skipped-in

pub doubled-exactly : (b : ℕ) (s : Stamp) → s.mark ≡ 0 → (reading b s ≡ Err Doubled) ↔ (Proper s × LocalHour b autumn (local s))
doubled-exactly b s m = hour-exactly b s m (λ e. true≢false (cc)) (late-switch 10) in-doubled doubled-in

-- a marked stamp reads as a minute or is Outside, never Skipped or Doubled
pub data Plain : Reading → Type 0 where
  read : {t : ℕ} → Plain (Ok t)
  refused : Plain (Err Outside)

plain : (c : Bool) (t : ℕ) → Plain (cond c (Ok t) (Err Outside))
plain true t = read
plain false t = refused

pub marked-plain : (b : ℕ) (s : Stamp) → (s.mark ≡ 1) ⊎ (s.mark ≡ 2) → Plain (reading b s)
unfolding reading settle as_summer as_winter
marked-plain b s m = go (proper s) m
  where
    w : ℕ
    w = local s - b

    go : (c : Bool) → (s.mark ≡ 1) ⊎ (s.mark ≡ 2) → Plain (cond c (settle s.mark w) (Err Outside))
    go true (inl e) = subst (λ (n : ℕ). Plain (settle n w)) (sym e) (plain (covered (w - 60) && summer (w - 60)) (w - 60))
    go true (inr e) = subst (λ (n : ℕ). Plain (settle n w)) (sym e) (plain (covered w && not (summer w)) w)
    go false e = refused

-- ---- what is read lies in the years covered, marked or not

pub read-covered : (b : ℕ) (s : Stamp) (t : ℕ) → reading b s ≡ Ok t → (first_minute ≤ t) × (t < end_minute)
read-covered b s t e = go (which-mark (settled b s e minute-in).0)
  where
    by-mark : (r : Stamp) → (r.mark ≡ 1) ⊎ (r.mark ≡ 2) → reading b r ≡ Ok t → (first_minute ≤ t) × (t < end_minute)
    by-mark r m e = let q = is-stamp b r t m e in (q.0, q.1)

    either : ((reading b (marked 1 s) ≡ Ok t) × (reading b (marked 2 s) ≡ Err Outside)) ⊎ ((reading b (marked 1 s) ≡ Err Outside) × (reading b (marked 2 s) ≡ Ok t)) → (first_minute ≤ t) × (t < end_minute)
    either (inl p) = by-mark (marked 1 s) (inl refl) p.0
    either (inr p) = by-mark (marked 2 s) (inr refl) p.1

    go : (s.mark ≡ 0) ⊎ ((s.mark ≡ 1) ⊎ (s.mark ≡ 2)) → (first_minute ≤ t) × (t < end_minute)
    go (inl m) = either (one-mark b s t m e)
    go (inr m) = by-mark s m e

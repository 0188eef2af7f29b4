-- How many local minutes are skipped and how many are doubled: 104 hours each, for every base offset up to 180.
use Rattle.std.specs.Prelude.{◌≡◌, refl, Bool, true, false, cond, ◌↔◌, ℕ, zero, suc, ◌+◌, ◌-◌, ◌*◌, ◌≤◌, ◌<◌, eqb}
use Rattle.std.proofs.Common.{sym, ap, ap₂, subst, ◌∙◌, add-zero, zero-add, arith, eqb-true, eq-eqb}
use Rattle.switches.specs.Switches.{spring, autumn}
use Rattle.switches.specs.Years.{start, clear_at}
use Rattle.stamps.specs.declared.Stamp.{Stamp}
use Rattle.stamps.specs.Stamps.{first_minute, end_minute, stamped, stamp_at, local, reading, number}
use Rattle.stamps.specs.Minutes.{year-mono, first-minute, end-minute, In, one-year, in-covered}
use Rattle.stamps.specs.Laws.{Proper, local-late, stamp-local, local-stamp, stamp-proper, LocalHour, skipped-exactly, doubled-exactly}
use Rattle.stamps.specs.Numbers.{reading_of, number-exactly}

-- how many of k, k + 1, .., n of them, pass the test
unfoldable pub count : (ℕ → Bool) → ℕ → ℕ → ℕ
count f k zero = 0
count f k (suc n) = cond (f k) 1 0 + count f (suc k) n

-- ---- the local minutes of proper stamps: those of 1 January 2002 to 1 January 2106, 37,986 days, each with one stamp for each mark

abbrev pub proper_minutes : ℕ
proper_minutes = 54699840

pub minutes-of-stamps : (s : Stamp) → Proper s → (first_minute ≤ local s) × (local s < first_minute + proper_minutes) × (stamp_at s.mark (local s) ≡ s)
unfolding local
minutes-of-stamps s p = (local-late p, let n = p.dated.upto in let h = p.hour in let m = p.minute in omega arith, stamp-local p)

pub stamp-of-minute : (m l : ℕ) → m < 3 → first_minute ≤ l → l < first_minute + proper_minutes → Proper (stamp_at m l) × (local (stamp_at m l) ≡ l) × ((stamp_at m l).mark ≡ m)
unfolding stamp_at stamped
stamp-of-minute m l h a b = (stamp-proper m l a (omega arith) h, local-stamp m l (omega arith), refl)

-- ---- laws of counting

count-over : (f : ℕ → Bool) (k i j : ℕ) → count f k (i + j) ≡ count f k i + count f (k + i) j
unfolding count
count-over f k zero j = rw (zero-add j, add-zero k, zero-add (count f k j)) refl
count-over f k (suc i) j =
    ap (count f k) next ∙ (let r = count-over f (suc k) i j in let z = ap (λ (n : ℕ). count f n j) over in omega arith)
  where
    next : suc i + j ≡ suc (i + j)
    next = omega arith

    over : k + suc i ≡ suc k + i
    over = omega arith

-- where the test is always true each is counted, where it is always false none
count_same : (f : ℕ → Bool) (c : Bool) (k n : ℕ) → ((l : ℕ) → k ≤ l → l < k + n → f l ≡ c) → count f k n ≡ cond c n 0
unfolding count
count_same f true k zero h = refl
count_same f false k zero h = refl
count_same f c k (suc n) h = go c (h k (omega arith) (omega arith)) (count_same f c (suc k) n (λ l p q. h l (omega arith) (omega arith)))
  where
    go : (c : Bool) → f k ≡ c → count f (suc k) n ≡ cond c n 0 → cond (f k) 1 0 + count f (suc k) n ≡ cond c (suc n) 0
    go true e r = let a = ap {A = Bool} {B = ℕ} (λ x. cond x 1 0) e in omega arith
    go false e r = let a = ap {A = Bool} {B = ℕ} (λ x. cond x 1 0) e in omega arith

-- those from a on that lie below e
abbrev between : (ℕ → Bool) → ℕ → ℕ → ℕ
between f a e = count f a (e - a)

between-over : (f : ℕ → Bool) (a m e : ℕ) → a ≤ m → m ≤ e → between f a e ≡ between f a m + between f m e
between-over f a m e p q = ap (count f a) whole ∙ count-over f a (m - a) (e - m) ∙ ap (λ (k : ℕ). between f a m + count f k (e - m)) over
  where
    whole : e - a ≡ (m - a) + (e - m)
    whole = omega arith

    over : a + (m - a) ≡ m
    over = omega arith

between-same : (f : ℕ → Bool) (c : Bool) (a e : ℕ) → ((l : ℕ) → a ≤ l → l < e → f l ≡ c) → between f a e ≡ cond c (e - a) 0
between-same f c a e h = count_same f c a (e - a) (λ l p q. h l p (omega arith))

-- ---- the hours of 104 switches

-- the hour from a year's switch on lies in that year
record Placed (switch : ℕ → ℕ) (y : ℕ) : Type 0 where
  from : start y ≤ switch y
  upto : switch y + 60 ≤ start (suc y)

-- a test that is true exactly in those hours, of the local minutes of proper stamps
module _ (b : ℕ) (switch : ℕ → ℕ) (f : ℕ → Bool) (small : b ≤ 180) (placed : (y : ℕ) → 2002 ≤ y → y ≤ 2105 → Placed switch y)
    (exactly : (l : ℕ) → first_minute ≤ l → l < first_minute + proper_minutes → (f l ≡ true) ↔ LocalHour b switch l) where
  hour-lies : {l : ℕ} (h : LocalHour b switch l) → In (l - b) h.y
  hour-lies h =
      let p = placed h.y h.from h.upto in
      record { from = h.from; upto = h.upto; after = omega (arith, p.from, h.after); before = omega (arith, p.upto, h.before) }

  -- a stretch with none
  none : (a e : ℕ) → first_minute ≤ a → e ≤ first_minute + proper_minutes → ((l : ℕ) → a ≤ l → l < e → LocalHour b switch l → ⊥) → between f a e ≡ 0
  none a e low high out = between-same f false a e (λ l p q. go l p q (f l) refl)
    where
      go : (l : ℕ) → a ≤ l → l < e → (c : Bool) → f l ≡ c → f l ≡ false
      go l p q true t = absurd (out l p q ((exactly l (omega arith) (omega arith)).0 t))
      go l p q false t = t

  module _ (y : ℕ) (from : 2002 ≤ y) (upto : y ≤ 2105) where
    place : Placed switch y
    place = placed y from upto

    ends : (first_minute ≤ start y) × (start (suc y) ≤ end_minute)
    ends = omega (arith, year-mono 2002 y from, year-mono (suc y) 2106 (omega arith), first-minute, end-minute)

    -- an hour that lies in the year is the one from its switch on
    its-hour : (l : ℕ) → start y + b ≤ l → l < start (suc y) + b → LocalHour b switch l → (switch y + b ≤ l) × (l < switch y + b + 60)
    its-hour l p q h =
        subst (λ (n : ℕ). (switch n + b ≤ l) × (l < switch n + b + 60)) (one-year (hour-lies h) here) (h.after, h.before)
      where
        here : In (l - b) y
        here = record { from = from; upto = upto; after = omega arith; before = omega (arith, ends.0) }

    hour-of : (l : ℕ) → switch y + b ≤ l → l < switch y + b + 60 → LocalHour b switch l
    hour-of l p q = record { y = y; from = from; upto = upto; after = p; before = q }

    of_year : between f (start y + b) (start (suc y) + b) ≡ 60
    of_year =
        let p = place.from in
        let q = place.upto in
        let r = ends in
        let one = between-over f (start y + b) (switch y + b) (start (suc y) + b) (omega arith) (omega arith) in
        let two = between-over f (switch y + b) (switch y + b + 60) (start (suc y) + b) (omega arith) (omega arith) in
        let early = none (start y + b) (switch y + b) (omega arith) (omega arith) (λ l g h t. let i = (its-hour l g (omega arith) t).0 in omega arith) in
        let hour = between-same f true (switch y + b) (switch y + b + 60) (λ l g h. (exactly l (omega arith) (omega arith)).1 (hour-of l g h)) in
        let late = none (switch y + b + 60) (start (suc y) + b) (omega arith) (omega arith) (λ l g h t. let i = (its-hour l (omega arith) h t).1 in omega arith) in
        omega arith

  of-years : (n : ℕ) → n ≤ 104 → between f (start 2002 + b) (start (2002 + n) + b) ≡ n * 60
  of-years zero h = between-same f false (start 2002 + b) (start (2002 + 0) + b) (λ l p q. absurd (omega arith))
  of-years (suc n) h =
      let p = year-mono 2002 (2002 + n) (omega arith) in
      let q = year-mono (2002 + n) (suc (2002 + n)) (omega arith) in
      let one = between-over f (start 2002 + b) (start (2002 + n) + b) (start (suc (2002 + n)) + b) (omega arith) (omega arith) in
      let last = of_year (2002 + n) (omega arith) (omega arith) in
      let r = of-years n (omega arith) in
      ap (λ (m : ℕ). between f (start 2002 + b) (start m + b)) over ∙ omega arith
    where
      over : 2002 + suc n ≡ suc (2002 + n)
      over = omega arith

  -- a base offset's minutes at either end have none
  of-hours : count f first_minute proper_minutes ≡ 6240
  of-hours =
      let r : between f (first_minute + b) (end_minute + b) ≡ 6240 = ap₂ (λ (i j : ℕ). between f (i + b) (j + b)) (sym first-minute) (sym end-minute) ∙ of-years 104 (omega arith) in
      let one = between-over f first_minute (first_minute + b) (first_minute + proper_minutes) (omega arith) (omega arith) in
      let two = between-over f (first_minute + b) (end_minute + b) (first_minute + proper_minutes) (omega arith) (omega arith) in
      let early = none first_minute (first_minute + b) (omega arith) (omega arith) (λ l g h t. let i = (in-covered (hour-lies t)).0 in omega arith) in
      let late = none (end_minute + b) (first_minute + proper_minutes) (omega arith) (omega arith) (λ l g h t. let i = (in-covered (hour-lies t)).1 in omega arith) in
      omega arith

-- ---- 104 hours are skipped, 104 are doubled

-- the minutes with a number that is had exactly in the hours of a switch
hour-minutes : (b n : ℕ) (switch : ℕ → ℕ) → b ≤ 180 → ((y : ℕ) → 2002 ≤ y → y ≤ 2105 → Placed switch y) → number (reading_of n) ≡ n
    → ((s : Stamp) → s.mark ≡ 0 → (reading b s ≡ reading_of n) ↔ (Proper s × LocalHour b switch (local s)))
    → count (λ l. eqb (number (reading b (stamp_at 0 l))) n) first_minute proper_minutes ≡ 6240
hour-minutes b n switch small placed same read = of-hours b switch (λ l. eqb (number (reading b (stamp_at 0 l))) n) small placed exactly
  where
    exactly : (l : ℕ) → first_minute ≤ l → l < first_minute + proper_minutes → (eqb (number (reading b (stamp_at 0 l))) n ≡ true) ↔ LocalHour b switch l
    exactly l p q =
        let s = stamp-of-minute 0 l (omega arith) p q in
        let e = read (stamp_at 0 l) s.2 in
        let i = number-exactly b (stamp_at 0 l) n same in
        (λ t. subst (LocalHour b switch) s.1 (e.0 (i.0 (eqb-true _ _ t))).1, λ h. eq-eqb _ _ (i.1 (e.1 (s.0, subst (LocalHour b switch) (sym s.1) h))))

switches-placed : (y : ℕ) → 2002 ≤ y → y ≤ 2105 → Placed spring y × Placed autumn y
switches-placed y from upto =
    let c = clear_at y from upto in
    let i = c.early in
    let j = c.apart in
    let k = c.late in
    (record { from = omega arith; upto = omega arith }, record { from = omega arith; upto = omega arith })

pub skipped-minutes : (b : ℕ) → b ≤ 180 → count (λ l. eqb (number (reading b (stamp_at 0 l))) 19) first_minute proper_minutes ≡ 6240
unfolding reading_of
skipped-minutes b small = hour-minutes b 19 spring small (λ y p q. (switches-placed y p q).0) refl (skipped-exactly b)

pub doubled-minutes : (b : ℕ) → b ≤ 180 → count (λ l. eqb (number (reading b (stamp_at 0 l))) 20) first_minute proper_minutes ≡ 6240
unfolding reading_of
doubled-minutes b small = hour-minutes b 20 autumn small (λ y p q. (switches-placed y p q).1) refl (doubled-exactly b)

-- The refusals of a stamp, each exactly as document 02 lists it: for every stamp, with any mark, and any base offset.
use Rattle.std.specs.Prelude.{◌≡◌, Bool, ◌⊎◌, ◌↔◌, ℕ, zero, suc, ◌-◌, ◌≤◌, eqb, leb, Err}
use Rattle.std.proofs.Math.Path.{refl, sym}
use Rattle.std.proofs.Common.{ap, subst, ◌∙◌, true≢false, inl, inr, arith, leb-true, leb-false}
use Rattle.std.proofs.Math.Bool.{true, false, cond, and-false}
use Rattle.calendar.specs.Spans.{total}
use Rattle.calendar.specs.Calendar.{thirty, month_days, first_day, days_before, day_number, IsDate}
use Rattle.calendar.specs.Dates.{in-year}
use Rattle.switches.specs.Switches.{spring, autumn}
use Rattle.stamps.specs.declared.Stamp.{Stamp}
use Rattle.stamps.specs.Stamps.{Reading, last_day, covered, year, summer, proper, local, as_summer, as_winter, unmarked, settle, reading}
use Rattle.stamps.specs.Minutes.{next-year, year-mono, first-2106, covered-years}
use Rattle.stamps.specs.Settled.{unmarked-left}
use Rattle.stamps.specs.Laws.{ProperDate, Proper, which-mark, settled, proper_is, proper-yes, proper-reading, LocalHour, skipped-exactly, doubled-exactly, Plain, refused, marked-plain}
use Rattle.stamps.specs.declared.Refusal.TheVariants.{Outside, Skipped, Doubled}

-- ---- the dates that a stamp may have, 1 January 2002 to 1 January 2106

pub dates-exactly : (y m d : ℕ) → IsDate y m d → ProperDate y m d ↔ ((2002 ≤ y) × ((y ≤ 2105) ⊎ ((y ≡ 2106) × (m ≡ 1) × (d ≡ 1))))
unfolding day_number days_before total month_days thirty
dates-exactly y m d i = (λ p. (p.late, there p (leb y 2105) refl), λ q. record { is = i; late = q.0; upto = back q.1 })
  where
    january : (n : ℕ) → total (month_days y) 1 n ≡ 0 → n ≡ 0
    january zero e = refl
    january (suc n) e = omega arith

    there : ProperDate y m d → (c : Bool) → leb y 2105 ≡ c → (y ≤ 2105) ⊎ ((y ≡ 2106) × (m ≡ 1) × (d ≡ 1))
    there p true e = inl (leb-true _ _ e)
    there p false e =
        let l = leb-false y 2105 e in
        let same : y ≡ 2106 = omega arith in
        let u = p.upto in
        let first : first_day y ≡ 49673 = ap first_day same ∙ first-2106 in
        inr (same, omega (arith, january (m - 1) (omega arith)), omega arith)

    back : (y ≤ 2105) ⊎ ((y ≡ 2106) × (m ≡ 1) × (d ≡ 1)) → day_number y m d ≤ last_day
    back (inl h) = omega (arith, in-year i, next-year y i.from, year-mono (suc y) 2106 (omega arith), first-2106)
    back (inr h) =
        let one = h.1 in
        let none : m - 1 ≡ 0 = omega arith in
        omega (arith, ap first_day h.0, first-2106, ap (total (month_days y) 1) none, h.2)

-- ---- 18

-- the UTC minute that a stamp gives: an hour less by the mark of summer. One with no mark gives that of winter, which it is where the years end: if that leaves
-- them, its date and time occurs at no minute covered (Occurs, never-exactly)
unfoldable pub given : ℕ → Stamp → ℕ
given b s = cond (eqb s.mark 1) (local s - b - 60) (local s - b)

-- a field, the mark or the date is out of range; the UTC year leaves 2002 to 2105; the mark contradicts the season of the UTC minute that it gives
pub data Listed (b : ℕ) (s : Stamp) : Type 0 where
  improper : (Proper s → ⊥) → Listed b s
  leaves : Proper s → ((2002 ≤ year (given b s)) × (year (given b s) ≤ 2105) → ⊥) → Listed b s
  summer_in_winter : Proper s → s.mark ≡ 1 → summer (given b s) ≡ false → Listed b s
  winter_in_summer : Proper s → s.mark ≡ 2 → summer (given b s) ≡ true → Listed b s

module _ (b : ℕ) (s : Stamp) where
  there : Proper s → reading b s ≡ Err Outside → Listed b s
  unfolding given settle as_summer as_winter
  there p q = by-year (covered (given b s)) refl
    where
      out : settle s.mark (local s - b) ≡ Err Outside
      out = sym (proper-reading b p) ∙ q

      by-season : covered (given b s) ≡ true → (s.mark ≡ 0) ⊎ ((s.mark ≡ 1) ⊎ (s.mark ≡ 2)) → (c : Bool) → summer (given b s) ≡ c → Listed b s
      by-season k (inl m) c e = absurd (true≢false (cc (unmarked-left (local s - b) (cc (out)))))
      by-season k (inr (inl m)) true e = absurd (true≢false (cc (out)))
      by-season k (inr (inl m)) false e = summer_in_winter p m e
      by-season k (inr (inr m)) true e = winter_in_summer p m e
      by-season k (inr (inr m)) false e = absurd (true≢false (cc (out)))

      by-year : (c : Bool) → covered (given b s) ≡ c → Listed b s
      by-year true k = by-season k (which-mark p) (summer (given b s)) refl
      by-year false k = leaves p (λ y. true≢false (cc ((covered-years (given b s)).1 y)))

  back : Listed b s → reading b s ≡ Err Outside
  unfolding given reading settle as_summer as_winter unmarked
  back (improper n) = go (proper s) refl
    where
      go : (c : Bool) → proper s ≡ c → cond c (settle s.mark (local s - b)) (Err Outside) ≡ Err Outside
      go true e = absurd (n (proper_is s e))
      go false e = refl
  back (leaves p n) = proper-reading b p ∙ go (covered (given b s)) refl (which-mark p)
    where
      go : (c : Bool) → covered (given b s) ≡ c → (s.mark ≡ 0) ⊎ ((s.mark ≡ 1) ⊎ (s.mark ≡ 2)) → settle s.mark (local s - b) ≡ Err Outside
      go true k m = absurd (n ((covered-years (given b s)).0 k))
      go false k (inl m) = cc
      go false k (inr (inl m)) = cc
      go false k (inr (inr m)) = cc
  back (summer_in_winter p m e) = cc (proper-yes p, and-false (covered (local s - b - 60)))
  back (winter_in_summer p m e) = cc (proper-yes p, and-false (covered (local s - b)))

pub outside-exactly : (b : ℕ) (s : Stamp) → (reading b s ≡ Err Outside) ↔ Listed b s
outside-exactly b s = (go (proper s) refl, back b s)
  where
    go : (c : Bool) → proper s ≡ c → reading b s ≡ Err Outside → Listed b s
    go true e q = there b s (proper_is s e) q
    go false e q = improper (λ p. true≢false (cc (proper-yes p)))

-- ---- 19 and 20

-- a reading that no marked stamp has is one of stamps with no mark
any-mark : (b : ℕ) (s : Stamp) {r : Reading} {switch : ℕ → ℕ} → (Plain r → ⊥) → (s.mark ≡ 0 → (reading b s ≡ r) ↔ (Proper s × LocalHour b switch (local s)))
    → (reading b s ≡ r) ↔ ((s.mark ≡ 0) × Proper s × LocalHour b switch (local s))
any-mark b s {r} {switch} n f = (λ e. go e (which-mark (settled b s e (λ q. n (subst Plain (sym q) refused))).0), λ q. (f q.0).1 (q.1, q.2))
  where
    go : reading b s ≡ r → (s.mark ≡ 0) ⊎ ((s.mark ≡ 1) ⊎ (s.mark ≡ 2)) → (s.mark ≡ 0) × Proper s × LocalHour b switch (local s)
    go e (inl m) = let q = (f m).0 e in (m, q.0, q.1)
    go e (inr m) = absurd (n (subst Plain e (marked-plain b s m)))

pub skipped-any : (b : ℕ) (s : Stamp) → (reading b s ≡ Err Skipped) ↔ ((s.mark ≡ 0) × Proper s × LocalHour b spring (local s))
skipped-any b s = any-mark b s (elim [ ]) (skipped-exactly b s)

pub doubled-any : (b : ℕ) (s : Stamp) → (reading b s ≡ Err Doubled) ↔ ((s.mark ≡ 0) × Proper s × LocalHour b autumn (local s))
doubled-any b s = any-mark b s (elim [ ]) (doubled-exactly b s)

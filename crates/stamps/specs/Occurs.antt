-- How often a date and time occurs: with no mark it reads as the one UTC minute at which local clocks show it; it is doubled if it occurs twice, an hour apart;
-- it is skipped or out of range if it never occurs.
use Rattle.std.specs.Prelude.{◌≡◌, refl, ◌⊎◌, ◌↔◌, ℕ, ◌+◌, ◌≤◌, ◌<◌, Ok, Err}
use Rattle.std.proofs.Common.{sym, ap, subst, ◌∙◌, true≢false, inl, inr, ⊎_elim, arith}
use Rattle.std.proofs.Math.Logic.{⊎_map}
use Rattle.stamps.specs.declared.Stamp.{Stamp}
use Rattle.stamps.specs.Stamps.{Reading, first_minute, end_minute, stamp, reading, marked}
use Rattle.stamps.specs.Settled.{Agree, summer_alone, winter_alone, an_hour_apart, none_skipped, none}
use Rattle.stamps.specs.Laws.{Stamps, reads-back, is-stamp, marks-agree}
use Rattle.stamps.specs.declared.Refusal.TheVariants.{Outside, Skipped, Doubled}

-- at a minute of the UTC years covered the local clock shows the date and time of s, whatever the marks
pub record Occurs (b : ℕ) (s : Stamp) (t : ℕ) : Type 0 where
  pub from : first_minute ≤ t
  pub before : t < end_minute
  pub shows : marked 0 (stamp b t) ≡ marked 0 s

-- at two minutes, an hour apart, and at no other
pub record Twice (b : ℕ) (s : Stamp) : Type 0 where
  pub first : ℕ
  pub at : Occurs b s first
  pub again : Occurs b s (first + 60)
  pub only : (u : ℕ) → Occurs b s u → (u ≡ first) ⊎ (u ≡ first + 60)

-- the ways of a reading with no mark
data Times (b : ℕ) (s : Stamp) : Reading → Type 0 where
  once : {t : ℕ} → Occurs b s t → ((u : ℕ) → Occurs b s u → u ≡ t) → Times b s (Ok t)
  twice : Twice b s → Times b s (Err Doubled)
  skipped : ((u : ℕ) → Occurs b s u → ⊥) → Times b s (Err Skipped)
  outside : ((u : ℕ) → Occurs b s u → ⊥) → Times b s (Err Outside)

-- a date and time occurs at the minutes that it reads as with a mark
pub occurs-exactly : (b : ℕ) (s : Stamp) (t : ℕ) → b ≤ 180 → Occurs b s t ↔ ((reading b (marked 1 s) ≡ Ok t) ⊎ (reading b (marked 2 s) ≡ Ok t))
occurs-exactly b s t small = (there, ⊎_elim (back 1 (inl refl)) (back 2 (inr refl)))
  where
    there : Occurs b s t → (reading b (marked 1 s) ≡ Ok t) ⊎ (reading b (marked 2 s) ≡ Ok t)
    there o = ⊎_map read read r.marks
      where
        r : Stamps b t (stamp b t)
        r = reads-back b t small o.from o.before

        read : {m : ℕ} → (stamp b t).mark ≡ m → reading b (marked m s) ≡ Ok t
        read {m} e = ap (reading b) (ap (marked m) (sym o.shows) ∙ ap (λ (n : ℕ). marked n (stamp b t)) (sym e)) ∙ r.reads

    back : (m : ℕ) → (m ≡ 1) ⊎ (m ≡ 2) → reading b (marked m s) ≡ Ok t → Occurs b s t
    back m k e = let q = is-stamp b (marked m s) t k e in record { from = q.0; before = q.1; shows = ap (marked 0) q.2 }

-- of a stamp with no mark
module _ (b : ℕ) (s : Stamp) (small : b ≤ 180) (m : s.mark ≡ 0) where
  times : Times b s (reading b s)
  times = rw (ap (λ (n : ℕ). reading b (marked n s)) m) (go (marks-agree b s) (λ t. occurs-exactly b s t small))
    where
      go : {x y z : Reading} → Agree x y z → ((t : ℕ) → Occurs b s t ↔ ((y ≡ Ok t) ⊎ (z ≡ Ok t))) → Times b s x
      go (summer_alone {t}) f = once ((f t).1 (inl refl)) (λ u o. ⊎_elim (λ e. cc) (λ e. cc) ((f u).0 o))
      go (winter_alone {t}) f = once ((f t).1 (inr refl)) (λ u o. ⊎_elim (λ e. cc) (λ e. cc) ((f u).0 o))
      go (an_hour_apart {t}) f = twice (record { first = t; at = (f t).1 (inl refl); again = (f (t + 60)).1 (inr refl); only = λ u o. ⊎_map (λ e. cc) (λ e. cc) ((f u).0 o) })
      go none_skipped f = skipped (λ u o. ⊎_elim (λ e. true≢false (cc)) (λ e. true≢false (cc)) ((f u).0 o))
      go none f = outside (λ u o. ⊎_elim (λ e. true≢false (cc)) (λ e. true≢false (cc)) ((f u).0 o))

  pub once-exactly : (t : ℕ) → (reading b s ≡ Ok t) ↔ (Occurs b s t × ((u : ℕ) → Occurs b s u → u ≡ t))
  once-exactly t = (λ e. there (subst (Times b s) e times), back times)
    where
      there : Times b s (Ok t) → Occurs b s t × ((u : ℕ) → Occurs b s u → u ≡ t)
      there (once o f) = (o, f)

      back : {r : Reading} → Times b s r → Occurs b s t × ((u : ℕ) → Occurs b s u → u ≡ t) → r ≡ Ok t
      back (once o f) q = ap Ok (q.1 _ o)
      back (twice w) q = absurd (omega (arith, q.1 _ w.at, q.1 _ w.again))
      back (skipped n) q = absurd (n t q.0)
      back (outside n) q = absurd (n t q.0)

  pub twice-exactly : (reading b s ≡ Err Doubled) ↔ Twice b s
  twice-exactly = (λ e. there (subst (Times b s) e times), back times)
    where
      there : Times b s (Err Doubled) → Twice b s
      there (twice w) = w

      back : {r : Reading} → Times b s r → Twice b s → r ≡ Err Doubled
      back (once o f) w = absurd (omega (arith, f _ w.at, f _ w.again))
      back (twice v) w = refl
      back (skipped n) w = absurd (n _ w.at)
      back (outside n) w = absurd (n _ w.at)

  pub never-exactly : ((reading b s ≡ Err Skipped) ⊎ (reading b s ≡ Err Outside)) ↔ ((t : ℕ) → Occurs b s t → ⊥)
  never-exactly = (⊎_elim (λ e. skip (subst (Times b s) e times)) (λ e. out (subst (Times b s) e times)), back times)
    where
      skip : Times b s (Err Skipped) → (t : ℕ) → Occurs b s t → ⊥
      skip (skipped n) = n

      out : Times b s (Err Outside) → (t : ℕ) → Occurs b s t → ⊥
      out (outside n) = n

      back : {r : Reading} → Times b s r → ((t : ℕ) → Occurs b s t → ⊥) → (r ≡ Err Skipped) ⊎ (r ≡ Err Outside)
      back (once o f) n = absurd (n _ o)
      back (twice w) n = absurd (n _ w.at)
      back (skipped f) n = inl refl
      back (outside f) n = inr refl

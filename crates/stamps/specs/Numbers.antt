-- A number tells what a stamp reads as: 18, 19 and 20 are no UTC minutes of the years covered.
use Rattle.std.specs.Prelude.{◌≡◌, refl, cond, ◌↔◌, ℕ, ◌≤◌, eqb, Ok, Err}
use Rattle.std.proofs.Common.{sym, ap, ◌∙◌, arith, ne_eqb}
use Rattle.stamps.specs.declared.Stamp.{Stamp}
use Rattle.stamps.specs.Stamps.{Reading, first_minute, reading, number}
use Rattle.stamps.specs.Laws.{read-covered}
use Rattle.stamps.specs.declared.Refusal.TheVariants.{Outside, Skipped, Doubled}

-- the reading that a number tells
unfoldable pub reading_of : ℕ → Reading
reading_of n = cond (eqb n 18) (Err Outside) (cond (eqb n 19) (Err Skipped) (cond (eqb n 20) (Err Doubled) (Ok n)))

-- a number that is no refusal
abbrev pub Accepted : ℕ → Type 0
Accepted n = (n ≡ 18 → ⊥) × (n ≡ 19 → ⊥) × (n ≡ 20 → ⊥)

pub accepted-late : {t : ℕ} → first_minute ≤ t → Accepted t
accepted-late l = (λ e. omega arith, λ e. omega arith, λ e. omega arith)

pub reading-of : (t : ℕ) → Accepted t → reading_of t ≡ Ok t
unfolding reading_of
reading-of t a = cc (ne_eqb t 18 a.0, ne_eqb t 19 a.1, ne_eqb t 20 a.2)

pub number-back : (b : ℕ) (s : Stamp) → reading b s ≡ reading_of (number (reading b s))
unfolding reading_of
number-back b s = go (reading b s) refl
  where
    go : (r : Reading) → reading b s ≡ r → r ≡ reading_of (number r)
    go (Ok t) q = sym (reading-of t (accepted-late (read-covered b s t q).0))
    go (Err Outside) q = refl
    go (Err Skipped) q = refl
    go (Err Doubled) q = refl

-- a stamp has the number n exactly if it reads as n tells
pub number-exactly : (b : ℕ) (s : Stamp) (n : ℕ) → number (reading_of n) ≡ n → (number (reading b s) ≡ n) ↔ (reading b s ≡ reading_of n)
number-exactly b s n e = (λ q. number-back b s ∙ ap reading_of q, λ q. ap number q ∙ e)

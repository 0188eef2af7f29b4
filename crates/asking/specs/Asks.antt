-- The asks of a batch, as they stand in words.
use Rattle.std.specs.Prelude.{◌≡◌, cond, List, ℕ, ◌+◌, ◌*◌, ◌≤◌, ◌<◌, eqb, leb, length, get_or}
use Rattle.std.proofs.Math.Path.{refl, ap}
use Rattle.std.proofs.Common.{sym}
use borrow.Author.Tests.{ne_eqb, le-leb, lt-leb}
use Rattle.asking.specs.declared.Asking.{Asking}
use Rattle.asking.specs.declared.Asking.TheVariants.{Begin, Put, Step, Commit, Abort, Run, Request, Ask, Other}

-- Kind, party, code, entry, first, second, and how many steps at most.
unfoldable pub asking : ℕ → ℕ → ℕ → ℕ → ℕ → ℕ → ℕ → Asking
asking k p c e f g b =
    cond (eqb k 1) (Begin p)
    (cond (eqb k 2) (Put p c e f g)
    (cond (eqb k 3) (Step p)
    (cond (eqb k 4) (Commit p)
    (cond (eqb k 5) (Abort p)
    (cond (eqb k 6) (Run p b)
    (cond (eqb k 7) (Request p c e f g b)
    (cond (eqb k 8) (Ask p) Other)))))))

-- Ask i stands in the seven words from 7 i on. Where fewer are left it is none.
unfoldable pub asking_at : List ℕ → ℕ → Asking
asking_at w i = cond (leb (7 * i + 7) (length w)) (asking (get_or w (7 * i) 0) (word 1) (word 2) (word 3) (word 4) (word 5) (word 6)) Other
  where
    word : ℕ → ℕ
    word j = get_or w (7 * i + j) 0

-- ---- the code's ways

module _ (p c e f g b : ℕ) where
  pub kind_1 : (k : ℕ) → k ≡ 1 → Begin p ≡ asking k p c e f g b
  unfolding asking
  kind_1 k h = ap (λ z. asking z p c e f g b) (sym h)

  pub kind_2 : (k : ℕ) → k ≡ 2 → Put p c e f g ≡ asking k p c e f g b
  unfolding asking
  kind_2 k h = ap (λ z. asking z p c e f g b) (sym h)

  pub kind_3 : (k : ℕ) → k ≡ 3 → Step p ≡ asking k p c e f g b
  unfolding asking
  kind_3 k h = ap (λ z. asking z p c e f g b) (sym h)

  pub kind-4 : (k : ℕ) → k ≡ 4 → Commit p ≡ asking k p c e f g b
  unfolding asking
  kind-4 k h = ap (λ z. asking z p c e f g b) (sym h)

  pub kind-5 : (k : ℕ) → k ≡ 5 → Abort p ≡ asking k p c e f g b
  unfolding asking
  kind-5 k h = ap (λ z. asking z p c e f g b) (sym h)

  pub kind-6 : (k : ℕ) → k ≡ 6 → Run p b ≡ asking k p c e f g b
  unfolding asking
  kind-6 k h = ap (λ z. asking z p c e f g b) (sym h)

  pub kind-7 : (k : ℕ) → k ≡ 7 → Request p c e f g b ≡ asking k p c e f g b
  unfolding asking
  kind-7 k h = ap (λ z. asking z p c e f g b) (sym h)

  pub kind-8 : (k : ℕ) → k ≡ 8 → Ask p ≡ asking k p c e f g b
  unfolding asking
  kind-8 k h = ap (λ z. asking z p c e f g b) (sym h)

  pub kind_0 : (k : ℕ) → k ≡ 0 → Other ≡ asking k p c e f g b
  unfolding asking
  kind_0 k h = ap (λ z. asking z p c e f g b) (sym h)

  pub kind-other : (k : ℕ) → ¬ (k ≡ 1) → ¬ (k ≡ 2) → ¬ (k ≡ 3) → ¬ (k ≡ 4) → ¬ (k ≡ 5) → ¬ (k ≡ 6) → ¬ (k ≡ 7) → ¬ (k ≡ 8) → Other ≡ asking k p c e f g b
  unfolding asking
  kind-other k a₁ a₂ a₃ a₄ a₅ a₆ a₇ a₈ = rw (ne_eqb k 1 a₁, ne_eqb k 2 a₂, ne_eqb k 3 a₃, ne_eqb k 4 a₄, ne_eqb k 5 a₅, ne_eqb k 6 a₆, ne_eqb k 7 a₇, ne_eqb k 8 a₈) refl

pub at_rest : (w : List ℕ) (i : ℕ) → length w < 7 * i + 7 → Other ≡ asking_at w i
unfolding asking_at
at_rest w i h = rw (lt-leb (7 * i + 7) (length w) h) refl

pub at_words : (w : List ℕ) (i : ℕ) → 7 * i + 7 ≤ length w
    → asking (get_or w (7 * i) 0) (get_or w (7 * i + 1) 0) (get_or w (7 * i + 2) 0) (get_or w (7 * i + 3) 0) (get_or w (7 * i + 4) 0) (get_or w (7 * i + 5) 0) (get_or w (7 * i + 6) 0) ≡ asking_at w i
unfolding asking_at
at_words w i h = rw (le-leb (7 * i + 7) (length w) h) refl

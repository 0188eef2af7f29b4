-- A table that has what the rule says in each of its eight cells is read as the rule says.
use mathlib.Core.Path.{◌≡◌, refl, ap, ◌∙◌}
use mathlib.Core.List.{List, [], ◌∷◌}
use mathlib.Core.Bool.{Bool, false}
use Prim.Native.Nat.{ℕ, zero, suc, ◌<◌}
use native.Mathlib.Omega.{arith}
use lib.ListN.{get_or}
use Rattle.locks.specs.Rule.{agrees_of}

two : (P : ℕ → Type 0) → P 0 → P 1 → (n : ℕ) → n < 2 → P n
two P p q zero h = p
two P p q (suc zero) h = q
two P p q (suc (suc n)) h = absurd (omega arith)

abbrev row : ℕ → ℕ → List Bool
row k h = agrees_of k h 0 ∷ agrees_of k h 1 ∷ []

abbrev pub rule : List (List (List Bool))
rule = (row 0 0 ∷ row 0 1 ∷ []) ∷ (row 1 0 ∷ row 1 1 ∷ []) ∷ []

abbrev at : List (List (List Bool)) → ℕ → ℕ → ℕ → Bool
at t k h a = get_or (get_or (get_or t k []) h []) a false

pub cell : (t : List (List (List Bool))) → t ≡ rule → (k h a : ℕ) → k < 2 → h < 2 → a < 2 → at t k h a ≡ agrees_of k h a
cell t e k h a hk hh ha =
    ap (λ (t : List (List (List Bool))). at t k h a) e
    ∙ two (λ (k : ℕ). at rule k h a ≡ agrees_of k h a) (kind 0 refl refl refl refl) (kind 1 refl refl refl refl) k hk
  where
    kind : (k : ℕ) → at rule k 0 0 ≡ agrees_of k 0 0 → at rule k 0 1 ≡ agrees_of k 0 1 → at rule k 1 0 ≡ agrees_of k 1 0
        → at rule k 1 1 ≡ agrees_of k 1 1 → at rule k h a ≡ agrees_of k h a
    kind k p q r s =
        two (λ (h : ℕ). at rule k h a ≡ agrees_of k h a) (two (λ (a : ℕ). at rule k 0 a ≡ agrees_of k 0 a) p q a ha)
        (two (λ (a : ℕ). at rule k 1 a ≡ agrees_of k 1 a) r s a ha) h hh

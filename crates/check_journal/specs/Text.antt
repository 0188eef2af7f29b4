-- What is printed.
use Rattle.std.specs.Prelude.{◌≡◌, cond, List, [], ◌∷◌, ℕ, eqb}
use Rattle.std.proofs.Common.{ne_eqb}

-- The bytes of `ok`, `15`, `16` or `17` and a line end.
unfoldable pub text_of : ℕ → List ℕ
text_of verdict =
    cond (eqb verdict 0) (111 ∷ 107 ∷ 10 ∷ [])
    (cond (eqb verdict 15) (49 ∷ 53 ∷ 10 ∷ [])
    (cond (eqb verdict 16) (49 ∷ 54 ∷ 10 ∷ []) (49 ∷ 55 ∷ 10 ∷ [])))

pub text-other : (verdict : ℕ) → (verdict ≡ 0 → ⊥) → (verdict ≡ 15 → ⊥) → (verdict ≡ 16 → ⊥) → (49 ∷ 55 ∷ 10 ∷ []) ≡ text_of verdict
unfolding text_of
text-other verdict a b c = simp (ne_eqb verdict 0 a, ne_eqb verdict 15 b, ne_eqb verdict 16 c)

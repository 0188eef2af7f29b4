-- A walk that has passed as many records as there are: it stands at the end of its chain, or its chain has none.
use Rattle.std.specs.Prelude.{◌≡◌, refl, Bool, true, false, ℕ, zero, suc, ◌≤◌, eqb}
use Rattle.std.proofs.Common.{◌∙◌, arith, eq-eqb, ne_eqb}

pub at-end : (at left : ℕ) → ((at ≡ 0 → ⊥) → 1 ≤ left) → left ≡ 0 → at ≡ 0
at-end zero left h e = refl
at-end (suc at) left h e = let l = h (λ z. omega (arith, z)) in absurd (omega (arith, l))

pub tells-end : (at : ℕ) {b : Bool} → (at ≡ 0 → true ≡ b) → ((at ≡ 0 → ⊥) → false ≡ b) → eqb at 0 ≡ b
tells-end zero f g = eq-eqb zero 0 refl ∙ f refl
tells-end (suc at) f g = let n : suc at ≡ 0 → ⊥ = λ z. omega (arith, z) in ne_eqb (suc at) 0 n ∙ g n

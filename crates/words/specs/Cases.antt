-- Cases on the order of two numbers.
use Rattle.std.specs.Prelude.{◌≡◌, refl, Bool, true, false, ◌⊎◌, ℕ, ◌≤◌, ◌<◌, ltb}
use Rattle.std.proofs.Common.{inl, inr, ltb-true, ltb-false}

pub order : (i j : ℕ) → (i < j) ⊎ (j ≤ i)
order i j = by (ltb i j) refl
  where
    by : (b : Bool) → ltb i j ≡ b → (i < j) ⊎ (j ≤ i)
    by true e = inl (ltb-true i j e)
    by false e = inr (ltb-false i j e)

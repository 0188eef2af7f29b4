-- What the layout with the new descriptor means, and the row.
use Rattle.std.specs.Prelude.{◌≡◌, List, [], ◌∷◌}
use Rattle.std.proofs.Math.Path.{sym, ap}
use Prim.Native.Nat.{ℕ}
use Rattle.meaning.specs.Reading.{Chained}

-- A chain that begins has a first record.
pub chain-some : (s : List ℕ) (m i : ℕ) (l : List ℕ) → Chained s m i l → ¬ (i ≡ 0) → (f : List ℕ) × (l ≡ i ∷ f)
chain-some s m i [] c n = absurd (n c)
chain-some s m i (j ∷ l) c n = (l, ap (λ k. k ∷ l) (sym c.0))

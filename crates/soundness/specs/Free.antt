-- The free chain is gone along without a question: nothing is asked of a free record.
use Rattle.std.specs.Prelude.{◌≡◌, refl, true, List, [], ◌∷◌, ℕ, set}
use Rattle.std.proofs.Common.{sym, ap, subst}
use Rattle.marks.specs.Trail.{Turn, turn}
use Rattle.soundness.specs.Chains.{Turns}

-- Turns that are always in order and keep what they are given.
pub record Idle (A : Type 0) (f : List ℕ → A → ℕ → Turn A) : Type 0 where
  pub is : (seen : List ℕ) (a : A) (i : ℕ) → f seen a i ≡ turn true a

module _ {A : Type 0} (f : List ℕ → A → ℕ → Turn A) (idle : Idle A f) where
  pub idle-turns : (kind : ℕ) (seen : List ℕ) (a : A) (l : List ℕ) → Turns f kind seen a l a
  idle-turns kind seen a [] = refl
  idle-turns kind seen a (i ∷ l) =
      let e = idle.is (set seen i kind) a i in
      (ap (λ (t : Turn A). t.ok) e, subst (λ (b : A). Turns f kind (set seen i kind) b l a) (sym (ap (λ (t : Turn A). t.held) e)) (idle-turns kind (set seen i kind) a l))

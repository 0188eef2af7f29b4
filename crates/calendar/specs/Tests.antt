-- Tests joined by `&&`, and a test at each number of a row: what each gives, and what it is got from.
use Rattle.std.specs.Prelude.{◌≡◌, refl, Bool, true, false, ◌&&◌, ℕ, zero, suc, ◌+◌, ◌<◌}
use Rattle.std.proofs.Common.{ap, ◌∙◌, add-zero, arith}

pub and_left : (a b : Bool) → (a && b) ≡ true → a ≡ true
and_left true b e = refl
and_left false b e = e

pub and_right : (a b : Bool) → (a && b) ≡ true → b ≡ true
and_right true b e = e
and_right false b e = let z : ◌≡◌ {A = ℕ} 0 1 = cc in absurd (omega arith)

pub and_yes : {a b : Bool} → a ≡ true → b ≡ true → (a && b) ≡ true
and_yes {a} {b} p q = ap {A = Bool} (λ c. c && b) p ∙ q

-- a test at each number from k on, j of them
unfoldable pub all : (ℕ → Bool) → ℕ → ℕ → Bool
all f zero k = true
all f (suc j) k = f k && all f j (suc k)

pub all-at : (f : ℕ → Bool) (j k i : ℕ) → all f j k ≡ true → i < j → f (k + i) ≡ true
unfolding all
all-at f zero k i e h = absurd (omega arith)
all-at f (suc j) k zero e h = ap f (add-zero k) ∙ and_left (f k) (all f j (suc k)) e
all-at f (suc j) k (suc i) e h = ap f over ∙ all-at f j (suc k) i (and_right (f k) (all f j (suc k)) e) (omega arith)
  where
    over : k + suc i ≡ suc k + i
    over = omega arith

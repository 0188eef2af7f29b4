-- The numbers from k on that pass a test, rising: which they are, and which is the first.
use Rattle.std.specs.Prelude.{◌≡◌, refl, Bool, true, false, cond, List, [], ◌∷◌, map, ◌⊎◌, ℕ, zero, suc, ◌+◌, ◌≤◌, ◌<◌, length}
use Rattle.std.proofs.Common.{ap, ◌∙◌, inl, inr, ⊎_elim, arith}
use Rattle.locks.specs.Holders.{count_from, filter, first_of}

unfoldable pub In : ℕ → List ℕ → Type 0
In t [] = ⊥
In t (x ∷ l) = (t ≡ x) ⊎ In t l

in-cond : (b : Bool) (x t : ℕ) (l : List ℕ) → In t (cond b (x ∷ l) l) → ((b ≡ true) × (t ≡ x)) ⊎ In t l
unfolding In
in-cond true x t l (inl e) = inl (refl, e)
in-cond true x t l (inr h) = inr h
in-cond false x t l h = inr h

-- the list has exactly the numbers that pass
pub in-passing : (f : ℕ → Bool) (k n t : ℕ) → In t (filter f (count_from k n)) → (k ≤ t) × (t < k + n) × (f t ≡ true)
unfolding In
in-passing f k zero t h = absurd h
in-passing f k (suc n) t h =
    ⊎_elim (λ (q : (f k ≡ true) × (t ≡ k)). (omega (arith, q.1), omega (arith, q.1), ap f q.1 ∙ q.0))
    (λ (q : In t (filter f (count_from (suc k) n))). let r = in-passing f (suc k) n t q in (omega (arith, r.0), omega (arith, r.1), r.2))
    (in-cond (f k) k t (filter f (count_from (suc k) n)) h)

-- tests that agree from k on pass the same numbers
pub same-passing : (f g : ℕ → Bool) (k n : ℕ) → ((t : ℕ) → k ≤ t → f t ≡ g t) → filter f (count_from k n) ≡ filter g (count_from k n)
same-passing f g k zero h = refl
same-passing f g k (suc n) h =
    let i : filter f (count_from (suc k) n) ≡ filter g (count_from (suc k) n) = same-passing f g (suc k) n (λ t p. h t (omega arith)) in
    ap (λ (b : Bool). cond b (k ∷ filter f (count_from (suc k) n)) (filter f (count_from (suc k) n))) (h k (omega arith))
    ∙ ap (λ (l : List ℕ). cond (g k) (k ∷ l) l) i

-- a test of the next number, passed from k on, is the test passed from k + 1 on
pub shift-passing : (f g : ℕ → Bool) (k n : ℕ) → ((t : ℕ) → k ≤ t → f (suc t) ≡ g t)
    → filter f (count_from (suc k) n) ≡ map suc (filter g (count_from k n))
shift-passing f g k zero h = refl
shift-passing f g k (suc n) h =
    let i : filter f (count_from (suc (suc k)) n) ≡ map suc (filter g (count_from (suc k) n)) =
    shift-passing f g (suc k) n (λ t p. h t (omega arith)) in
    ap (λ (b : Bool). cond b (suc k ∷ filter f (count_from (suc (suc k)) n)) (filter f (count_from (suc (suc k)) n))) (h k (omega arith))
    ∙ ap (λ (l : List ℕ). cond (g k) (suc k ∷ l) l) i ∙ mapped (g k) k (filter g (count_from (suc k) n))
  where
    mapped : (b : Bool) (x : ℕ) (l : List ℕ) → cond b (suc x ∷ map suc l) (map suc l) ≡ map suc (cond b (x ∷ l) l)
    mapped true x l = refl
    mapped false x l = refl

pub length-passing : (f : ℕ → Bool) (k n : ℕ) → length (filter f (count_from k n)) ≤ n
length-passing f k zero = omega arith
length-passing f k (suc n) = one (f k) (filter f (count_from (suc k) n)) (length-passing f (suc k) n)
  where
    one : (b : Bool) (l : List ℕ) → length l ≤ n → length (cond b (k ∷ l) l) ≤ suc n
    one true l h = omega arith
    one false l h = omega arith

pub first-in : (l : List ℕ) → (first_of l ≡ 0 → ⊥) → In (first_of l) l
unfolding In
first-in [] ne = absurd (ne refl)
first-in (t ∷ l) ne = inl refl

pub first-none : (f : ℕ → Bool) (k n : ℕ) → 1 ≤ k → first_of (filter f (count_from k n)) ≡ 0 → filter f (count_from k n) ≡ []
unfolding In
first-none f k n h e = one (filter f (count_from k n)) (λ t p. (in-passing f k n t p).0) e
  where
    one : (l : List ℕ) → ((t : ℕ) → In t l → k ≤ t) → first_of l ≡ 0 → l ≡ []
    one [] s e = refl
    one (t ∷ l) s e = let r = s t (inl refl) in absurd (omega arith)

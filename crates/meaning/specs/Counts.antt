-- As many record numbers as there are places: numbers from 1 to r, none twice, are at most r, and r of them are all.
use Rattle.std.specs.Prelude.{◌≡◌, refl, List, [], ◌∷◌, ℕ, zero, suc, ◌+◌, ◌≤◌, ◌<◌, length}
use Rattle.std.proofs.Common.{sym, subst, arith}
use Rattle.std.proofs.Math.Decide.{ℕ_discrete}
use Rattle.machine.specs.Sound.{times}
use Rattle.meaning.specs.Sound.{All}
use Rattle.meaning.specs.Numbers.{one-is, one-not}

-- How many of l are among 1 to r.
pub count : ℕ → List ℕ → ℕ
count zero l = 0
count (suc r) l = times (suc r) l + count r l

pub count_none : (r : ℕ) → count r [] ≡ 0
unfolding count
count_none zero = refl
count_none (suc r) = omega (arith, count_none r)

pub count_past : (r x : ℕ) (l : List ℕ) → r < x → count r (x ∷ l) ≡ count r l
unfolding count
count_past zero x l h = refl
count_past (suc r) x l h = omega (arith, one-not x (suc r) (λ e. omega (arith, e, h)), count_past r x l (omega (arith, h)))

pub count-one : (r x : ℕ) (l : List ℕ) → 1 ≤ x → x ≤ r → count r (x ∷ l) ≡ 1 + count r l
unfolding count
count-one zero x l a b = absurd (omega (arith, a, b))
count-one (suc r) x l a b = go (ℕ_discrete x (suc r)) (count-one r x l a)
  where
    go : Dec (x ≡ suc r) → (x ≤ r → count r (x ∷ l) ≡ 1 + count r l) → times (suc r) (x ∷ l) + count r (x ∷ l) ≡ 1 + (times (suc r) l + count r l)
    go (yes e) ih = omega (arith, one-is x (suc r) e, count_past r x l (omega (arith, e)))
    go (no n) ih = omega (arith, one-not x (suc r) n, ih (omega (arith, n, b)))

pub count-all : (r : ℕ) (l : List ℕ) → All (λ i. (1 ≤ i) × (i ≤ r)) l → count r l ≡ length l
count-all r [] p = count_none r
count-all r (x ∷ l) p = omega (arith, count-one r x l p.0.0 p.0.1, count-all r l p.1)

pub count_most : (r : ℕ) (l : List ℕ) → ((k : ℕ) → times k l ≤ 1) → count r l ≤ r
unfolding count
count_most zero l h = omega arith
count_most (suc r) l h = omega (arith, h (suc r), count_most r l h)

pub count-full : (r : ℕ) (l : List ℕ) → ((k : ℕ) → times k l ≤ 1) → count r l ≡ r → (k : ℕ) → 1 ≤ k → k ≤ r → times k l ≡ 1
unfolding count
count-full zero l h e k a b = absurd (omega (arith, a, b))
count-full (suc r) l h e k a b = go (ℕ_discrete k (suc r)) (count-full r l h (omega (arith, e, h (suc r), count_most r l h)) k a)
  where
    go : Dec (k ≡ suc r) → (k ≤ r → times k l ≡ 1) → times k l ≡ 1
    go (yes q) ih = subst (λ (x : ℕ). ◌≡◌ {A = ℕ} (times x l) 1) (sym q) (omega (arith, e, h (suc r), count_most r l h))
    go (no n) ih = ih (omega (arith, n, b))

pub count_ones : (r : ℕ) (l : List ℕ) → ((k : ℕ) → 1 ≤ k → k ≤ r → times k l ≡ 1) → count r l ≡ r
unfolding count
count_ones zero l h = refl
count_ones (suc r) l h = omega (arith, h (suc r) (omega arith) (omega arith), count_ones r l (λ k a b. h k a (omega (arith, b))))

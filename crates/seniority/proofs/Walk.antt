-- The walk over the sessions of a holders word: the lowest, and the sessions of the word without it.
use mathlib.Core.Path.{◌≡◌, refl, sym, ap, ◌∙◌}
use mathlib.Core.Bool.{Bool, true, false, cond, true≢false}
use mathlib.Core.List.{List, [], ◌∷◌, map}
use mathlib.Core.Logic.{◌⊎◌, inl, inr}
use Prim.Native.Nat.{ℕ, zero, suc, ◌+◌, ◌*◌, ◌/◌, ◌^◌, ◌≤◌, ◌<◌}
use native.Mathlib.Nat.{pow-suc}
use native.Mathlib.Decide.{ℕ_discrete}
use native.Mathlib.Omega.{arith}
use Rattle.locks.specs.Holders.{holds, left_by, holders, filter, count_from, first_of}
use Rattle.locks.specs.Bits.{left-same, left_other, left_le}
use Rattle.locks.specs.Lists.{in-passing, same-passing, first-in}
use Rattle.locks.specs.Blockers.{halves, even-holders, odd-holders}

-- ---- the numbers from k on that pass a test

-- none below the first passes
below-first : (f : ℕ → Bool) (k n q : ℕ) → (first_of (filter f (count_from k n)) ≡ 0 → ⊥) → k ≤ q → q < first_of (filter f (count_from k n)) → f q ≡ false
below-first f k zero q some a l = absurd (some refl)
below-first f k (suc n) q some a l = go (f k) refl some l (ℕ_discrete q k) (below-first f (suc k) n q)
  where
    R : List ℕ
    R = filter f (count_from (suc k) n)

    go : (b : Bool) → f k ≡ b → (first_of (cond b (k ∷ R) R) ≡ 0 → ⊥) → q < first_of (cond b (k ∷ R) R) → Dec (q ≡ k)
        → ((first_of R ≡ 0 → ⊥) → suc k ≤ q → q < first_of R → f q ≡ false) → f q ≡ false
    go true e s l d i = let h : q < k = l in absurd (omega (arith, a, h))
    go false e s l (yes d) i = ap f d ∙ e
    go false e s l (no d) i = i s (omega (arith, a, d)) l

-- where none passes there is none
none-passing : (f : ℕ → Bool) (k n : ℕ) → ((q : ℕ) → k ≤ q → q < k + n → f q ≡ false) → filter f (count_from k n) ≡ []
none-passing f k zero h = refl
none-passing f k (suc n) h =
    ap (λ (b : Bool). cond b (k ∷ filter f (count_from (suc k) n)) (filter f (count_from (suc k) n))) (h k (omega arith) (omega arith))
    ∙ none-passing f (suc k) n (λ q a l. h q (omega (arith, a)) (omega (arith, l)))

-- the first, and those that pass a test which differs at the first alone
first-passing : (f g : ℕ → Bool) (k n p : ℕ) → k ≤ p → p < k + n → f p ≡ true → g p ≡ false → ((q : ℕ) → k ≤ q → q < p → f q ≡ false)
    → ((q : ℕ) → (p ≡ q → ⊥) → g q ≡ f q) → filter f (count_from k n) ≡ p ∷ filter g (count_from k n)
first-passing f g k zero p a l x y below same = absurd (omega (arith, a, l))
first-passing f g k (suc n) p a l x y below same = go (ℕ_discrete p k) (λ h m c. first-passing f g (suc k) n p h m x y c same)
  where
    F : List ℕ
    F = filter f (count_from (suc k) n)

    G : List ℕ
    G = filter g (count_from (suc k) n)

    go : Dec (p ≡ k) → (suc k ≤ p → p < suc k + n → ((q : ℕ) → suc k ≤ q → q < p → f q ≡ false) → F ≡ p ∷ G) → cond (f k) (k ∷ F) F ≡ p ∷ cond (g k) (k ∷ G) G
    go (yes d) i =
        ap (λ (b : Bool). cond b (k ∷ F) F) (ap f (sym d) ∙ x) ∙ ap (λ (j : ℕ). j ∷ F) (sym d)
        ∙ ap (λ (r : List ℕ). p ∷ r) (sym (same-passing g f (suc k) n (λ q h. same q (λ e. omega (arith, e, h, d)))))
        ∙ ap (λ (b : Bool). p ∷ cond b (k ∷ G) G) (sym (ap g (sym d) ∙ y))
    go (no d) i =
        let z : f k ≡ false = below k (omega arith) (omega (arith, a, d)) in
        ap (λ (b : Bool). cond b (k ∷ F) F) z ∙ i (omega (arith, a, d)) (omega (arith, l)) (λ q h m. below q (omega (arith, h)) m)
        ∙ ap (λ (b : Bool). p ∷ cond b (k ∷ G) G) (sym (same k d ∙ z))

-- ---- the sessions of a word

-- a word that is not 0 has one
has_first : (n w : ℕ) → 0 < w → w < 2 ^ n → first_of (holders n w) ≡ 0 → ⊥
has_first zero w pos lt z = absurd (omega arith)
has_first (suc n) w pos lt z = by (has_first n (w / 2)) (halves w)
  where
    shifted : (l : List ℕ) → (first_of l ≡ 0 → ⊥) → first_of (map suc l) ≡ 0 → ⊥
    shifted [] h e = h refl
    shifted (x ∷ l) h e = let d : suc x ≡ 0 = e in omega (arith, d)

    by : (0 < w / 2 → w / 2 < 2 ^ n → first_of (holders n (w / 2)) ≡ 0 → ⊥) → (w ≡ w / 2 * 2) ⊎ (w ≡ w / 2 * 2 + 1) → ⊥
    by i (inl e) =
        let p : 2 ^ suc n ≡ 2 ^ n * 2 = pow-suc 2 n in
        shifted (holders n (w / 2)) (i (omega arith) (omega arith)) (ap first_of (sym (even-holders n w (w / 2) e)) ∙ z)
    by i (inr e) = let d : suc zero ≡ zero = ap first_of (sym (odd-holders n w (w / 2) e)) ∙ z in omega (arith, d)

-- of n sessions, p is the lowest of the word
pub record First (n w p : ℕ) : Type 0 where
  pub from : 1 ≤ p
  pub within : p ≤ n
  pub held : holds w p ≡ true
  pub below : (q : ℕ) → 1 ≤ q → q < p → holds w q ≡ false

pub first-is : (n w : ℕ) {p : ℕ} → 0 < w → w < 2 ^ n → p ≡ first_of (holders n w) → First n w p
unfolding holders
first-is n w {p} pos lt e =
    let s : first_of (holders n w) ≡ 0 → ⊥ = has_first n w pos lt in
    let h = in-passing (holds w) 1 n (first_of (holders n w)) (first-in (holders n w) s) in
    record {
      from = omega (arith, e, h.0);
      within = omega (arith, e, h.1);
      held = ap (holds w) e ∙ h.2;
      below = λ q a l. below-first (holds w) 1 n q s a (omega (arith, l, e));
    }

module _ (m : ℕ) {n w p : ℕ} (F : First n w p) where
  -- where it is above m, the word has none up to m
  pub none_within : m < p → holders m w ≡ []
  unfolding holders
  none_within l = none-passing (holds w) 1 m (λ q a h. F.below q a (omega (arith, h, l)))

  -- else they are it and those of the word without it
  pub first-within : p ≤ m → holders m w ≡ p ∷ holders m (left_by p w)
  unfolding holders
  first-within l = first-passing (holds w) (holds (left_by p w)) 1 m p F.from (omega (arith, l)) F.held (left-same p w) F.below (λ q d. left_other p q w d)

-- the word without it is less
pub left_less : {n w p : ℕ} → First n w p → left_by p w < w
left_less {n} {w} {p} F = go (ℕ_discrete (left_by p w) w) (left_le p w)
  where
    go : Dec (left_by p w ≡ w) → left_by p w ≤ w → left_by p w < w
    go (yes e) h = absurd (true≢false (sym F.held ∙ ap (λ (v : ℕ). holds v p) (sym e) ∙ left-same p w))
    go (no d) h = omega (arith, h, d)

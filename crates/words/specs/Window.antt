-- A window of k words of a list, read and replaced, with the laws of the two.
use Rattle.std.specs.Prelude.{◌≡◌, refl, List, [], ◌∷◌, ◌++◌, ◌⊎◌, length, take, set}
use Rattle.std.proofs.Common.{sym, ◌∙◌, inl, inr, arith, add-zero, length-set, length-append, length-drop, drop-cons, get_or-set_other, ext_get_or, take_all, get_or-set_same}
use Rattle.std.proofs.Math.Path.{ap}
use Prim.Native.Nat.{ℕ, zero, suc, ◌+◌, ◌-◌, ◌≤◌, ◌<◌}
use Rattle.std.proofs.Math.Decide.{ℕ_discrete}
use Rattle.std.proofs.Math.ListN.{drop, get_or, length-take, get_or-append}
use Rattle.std.proofs.Math.Seq.{get_or-take, get_or-drop, get_or-append-add, length-take-le}
use Rattle.words.specs.Cases.{order}

-- the k words from index a, 0 past the list's end
unfoldable pub words_at : List ℕ → ℕ → ℕ → List ℕ
words_at l a zero = []
words_at l a (suc k) = get_or l a 0 ∷ words_at l (suc a) k

-- the list with w in place of the k words from `at`
unfoldable pub put_at : List ℕ → ℕ → ℕ → List ℕ → List ℕ
put_at s at k w = take at s ++ (w ++ drop k (drop at s))

-- ---- laws

pub length-words : (l : List ℕ) (a k : ℕ) → length (words_at l a k) ≡ k
unfolding words_at
length-words l a zero = refl
length-words l a (suc k) = ap suc (length-words l (suc a) k)

at_same : (l : List ℕ) (i j : ℕ) → i ≡ j → get_or l i 0 ≡ get_or l j 0
at_same l i j e = ap (λ (k : ℕ). get_or l k 0) e

pub words_same : (l m : List ℕ) (a b k : ℕ) → ((j : ℕ) → j < k → get_or l (a + j) 0 ≡ get_or m (b + j) 0) → words_at l a k ≡ words_at m b k
unfolding words_at
words_same l m a b zero h = refl
words_same l m a b (suc k) h =
    let here : get_or l a 0 ≡ get_or m b 0 = rw (← add-zero a, ← add-zero b) (h 0 (omega arith)) in
    let rest : words_at l (suc a) k ≡ words_at m (suc b) k =
    words_same l m (suc a) (suc b) k
    (λ j p. at_same l (suc a + j) (a + suc j) (omega arith) ∙ h (suc j) (omega arith) ∙ at_same m (b + suc j) (suc b + j) (omega arith)) in
    cc

-- word j of a window
pub words-get : (l : List ℕ) (a k j : ℕ) → j < k → get_or (words_at l a k) j 0 ≡ get_or l (a + j) 0
unfolding words_at
words-get l a zero j h = absurd (omega arith)
words-get l a (suc k) zero h = at_same l a (a + 0) (omega arith)
words-get l a (suc k) (suc j) h = words-get l (suc a) k j (omega arith) ∙ at_same l (suc a + j) (a + suc j) (omega arith)

-- within the list the words are those of take and drop
pub words-part : (l : List ℕ) (a k : ℕ) → a + k ≤ length l → take k (drop a l) ≡ words_at l a k
unfolding words_at
words-part l a zero h = refl
words-part l a (suc k) h =
    rw (drop-cons l a 0 (omega arith)) (ap (λ (r : List ℕ). get_or l a 0 ∷ r) (words-part l (suc a) k (omega arith)))

-- a list is its words
pub words-all : (l : List ℕ) (k : ℕ) → length l ≡ k → words_at l 0 k ≡ l
words-all l k h = sym (words-part l 0 k (omega arith)) ∙ take_all k l (omega arith)

module _ (s : List ℕ) (at k : ℕ) (w : List ℕ) (fits : at + k ≤ length s) (whole : length w ≡ k) where
  pub length-put : length (put_at s at k w) ≡ length s
  unfolding put_at
  length-put = simp (length-append, length-take, length-drop) (omega arith)

  pub put_in : (j : ℕ) → j < k → get_or (put_at s at k w) (at + j) 0 ≡ get_or w j 0
  unfolding put_at
  put_in j h =
      ap (λ (n : ℕ). get_or (take at s ++ (w ++ drop k (drop at s))) (n + j) 0) (sym (length-take-le at s (omega arith)))
      ∙ get_or-append-add (take at s) (w ++ drop k (drop at s)) j 0
      ∙ get_or-append w (drop k (drop at s)) 0 j (omega arith)

  pub put-before : (j : ℕ) → j < at → get_or (put_at s at k w) j 0 ≡ get_or s j 0
  unfolding put_at
  put-before j h =
      get_or-append (take at s) (w ++ drop k (drop at s)) 0 j (rw (length-take-le at s (omega arith)) h) ∙ get_or-take at s j 0 h

  pub put-after : (j : ℕ) → at + k ≤ j → get_or (put_at s at k w) j 0 ≡ get_or s j 0
  unfolding put_at
  put-after j h =
      let i : ℕ = j - (at + k) in
      ap (λ (n : ℕ). get_or (take at s ++ (w ++ drop k (drop at s))) n 0) (omega (arith, length-take-le at s (omega arith)))
      ∙ get_or-append-add (take at s) (w ++ drop k (drop at s)) (length w + i) 0
      ∙ get_or-append-add w (drop k (drop at s)) i 0
      ∙ get_or-drop k (drop at s) i 0
      ∙ get_or-drop at s (k + i) 0
      ∙ at_same s (at + (k + i)) j (omega arith)

  pub words-put : words_at (put_at s at k w) at k ≡ w
  words-put =
      words_same (put_at s at k w) w at 0 k (λ j h. put_in j h ∙ at_same w j (0 + j) (omega arith)) ∙ words-all w k whole

  pub words-put-before : (b n : ℕ) → b + n ≤ at → words_at (put_at s at k w) b n ≡ words_at s b n
  words-put-before b n h = words_same (put_at s at k w) s b b n (λ j p. put-before (b + j) (omega arith))

  pub words-put-after : (b n : ℕ) → at + k ≤ b → words_at (put_at s at k w) b n ≡ words_at s b n
  words-put-after b n h = words_same (put_at s at k w) s b b n (λ j p. put-after (b + j) (omega arith))

  pub drop-put : (n : ℕ) → at + k ≤ n → drop n (put_at s at k w) ≡ drop n s
  drop-put n h =
      ext_get_or 0 (drop n (put_at s at k w)) (drop n s)
      (rw (length-drop n (put_at s at k w), length-drop n s, length-put) refl)
      (λ j p. get_or-drop n (put_at s at k w) j 0 ∙ put-after (n + j) (omega arith) ∙ sym (get_or-drop n s j 0))

-- ---- writes of windows: the later one counts, what was read is put back, and windows apart are written in either order

-- a word that is replaced leaves each window that it is not in
pub words-set : (s : List ℕ) (at v b n : ℕ) → (at < b) ⊎ (b + n ≤ at) → words_at (set s at v) b n ≡ words_at s b n
words-set s at v b n h = words_same (set s at v) s b b n (λ j p. get_or-set_other s at (b + j) v 0 (apart j p h))
  where
    apart : (j : ℕ) → j < n → (at < b) ⊎ (b + n ≤ at) → b + j ≡ at → ⊥
    apart j p (inl q) e = omega arith
    apart j p (inr q) e = omega arith

-- a window written with one word replaced is the list with that word replaced
pub put-set : (s : List ℕ) (at k j v : ℕ) → at + k ≤ length s → j < k → put_at s at k (set (words_at s at k) j v) ≡ set s (at + j) v
put-set s at k j v fits h = ext_get_or 0 (put_at s at k w) (set s (at + j) v) (length-put s at k w fits whole ∙ sym (length-set s (at + j) v)) (λ i p. each i (order i at))
  where
    w : List ℕ
    w = set (words_at s at k) j v

    whole : length w ≡ k
    whole = length-set (words_at s at k) j v ∙ length-words s at k

    inside : (i : ℕ) → i < k → Dec (i ≡ j) → get_or w i 0 ≡ get_or (set s (at + j) v) (at + i) 0
    inside i p (yes e) =
        ap (λ n. get_or w n 0) e ∙ get_or-set_same (words_at s at k) j v 0 (omega (arith, length-words s at k)) ∙ sym (get_or-set_same s (at + j) v 0 (omega arith))
        ∙ ap (λ n. get_or (set s (at + j) v) (at + n) 0) (sym e)
    inside i p (no n) =
        get_or-set_other (words_at s at k) j i v 0 n ∙ words-get s at k i p ∙ sym (get_or-set_other s (at + j) (at + i) v 0 (λ e. n (omega (arith, e))))

    from : (i : ℕ) → (i < at + k) ⊎ (at + k ≤ i) → at ≤ i → get_or (put_at s at k w) i 0 ≡ get_or (set s (at + j) v) i 0
    from i (inl p) q =
        ap (λ n. get_or (put_at s at k w) n 0) (omega (arith, q)) ∙ put_in s at k w fits whole (i - at) (omega (arith, q)) ∙ inside (i - at) (omega (arith, q)) (ℕ_discrete (i - at) j)
        ∙ ap (λ n. get_or (set s (at + j) v) n 0) (omega (arith, q))
    from i (inr p) q = put-after s at k w fits whole i p ∙ sym (get_or-set_other s (at + j) i v 0 (λ e. omega (arith, e)))

    each : (i : ℕ) → (i < at) ⊎ (at ≤ i) → get_or (put_at s at k w) i 0 ≡ get_or (set s (at + j) v) i 0
    each i (inl p) = put-before s at k w fits whole i p ∙ sym (get_or-set_other s (at + j) i v 0 (λ e. omega (arith, e)))
    each i (inr p) = from i (order i (at + k)) p

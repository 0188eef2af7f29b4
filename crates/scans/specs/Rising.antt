-- Entries put in rising order, and how many words a range has.
use Rattle.std.specs.Prelude.{◌≡◌, refl, List, [], ◌∷◌, ◌++◌, Bool, true, false, cond, ℕ, zero, suc, ◌+◌, ◌*◌, ◌≤◌, ◌<◌, leb, eqb, length}
use Rattle.std.proofs.Common.{sym, ap, ◌∙◌, arith, length-append, le-leb, leb-true, leb-false}
use Rattle.std.proofs.lemmas.Bool.{lt-leb}
use Rattle.words.specs.Store.{word_of}
use Rattle.scans.specs.Scans.{raise, rising, pair_words, entries_in, range_words, range_count}

-- x is at most the first of the list, and so on
unfoldable pub Least : ℕ → List ℕ → Type 0
Least x [] = Unit {0}
Least x (y ∷ l) = (x ≤ y) × Least y l

unfoldable pub Rising : List ℕ → Type 0
Rising [] = Unit {0}
Rising (x ∷ l) = Least x l

-- ---- one entry put in

pub length-raise : (e : ℕ) (l : List ℕ) → length (raise e l) ≡ suc (length l)
unfolding raise
length-raise e [] = refl
length-raise e (x ∷ l) = go (leb e x) (length-raise e l)
  where
    go : (b : Bool) → length (raise e l) ≡ suc (length l) → length (cond b (e ∷ x ∷ l) (x ∷ raise e l)) ≡ suc (suc (length l))
    go true h = refl
    go false h = ap suc h

pub raise-least : (x e : ℕ) (l : List ℕ) → x ≤ e → Least x l → Least x (raise e l)
unfolding raise Least
raise-least x e [] h k = (h, tt)
raise-least x e (y ∷ l) h (k, n) = go (leb e y) refl (λ f. raise-least y e l f n)
  where
    go : (b : Bool) → leb e y ≡ b → (y ≤ e → Least y (raise e l)) → Least x (cond b (e ∷ y ∷ l) (y ∷ raise e l))
    go true q on = (h, (leb-true e y q, n))
    go false q on = (k, on (let z : y < e = leb-false e y q in omega arith))

pub raise-rising : (e : ℕ) (l : List ℕ) → Rising l → Rising (raise e l)
unfolding raise Least Rising
raise-rising e [] r = tt
raise-rising e (x ∷ l) r = go (leb e x) refl
  where
    go : (b : Bool) → leb e x ≡ b → Rising (cond b (e ∷ x ∷ l) (x ∷ raise e l))
    go true q = (leb-true e x q, r)
    go false q = raise-least x e l (let z : x < e = leb-false e x q in omega arith) r

pub length-rising : (l : List ℕ) → length (rising l) ≡ length l
unfolding rising
length-rising [] = refl
length-rising (e ∷ l) = length-raise e (rising l) ∙ ap suc (length-rising l)

-- two entries put in, in either order
raise-both : (e f : ℕ) (l : List ℕ) → e < f → raise e (raise f l) ≡ raise f (raise e l)
unfolding raise
raise-both e f [] h = simp (le-leb e f (omega arith), lt-leb f e h)
raise-both e f (x ∷ l) h = go (leb e x) refl (leb f x) refl (raise-both e f l h)
  where
    go : (b : Bool) → leb e x ≡ b → (d : Bool) → leb f x ≡ d → raise e (raise f l) ≡ raise f (raise e l) → raise e (raise f (x ∷ l)) ≡ raise f (raise e (x ∷ l))
    go true p true q on = simp (p, q, le-leb e f (omega arith), lt-leb f e h)
    go true p false q on = simp (p, q, lt-leb f e h)
    go false p true q on = let z = leb-false e x p in let y = leb-true f x q in absurd (let w : ◌≡◌ {A = ℕ} 0 1 = omega arith in omega arith)
    go false p false q on = simp (p, q) (ap (λ (w : List ℕ). x ∷ w) on)

pub raise-raise : (e f : ℕ) (l : List ℕ) → raise e (raise f l) ≡ raise f (raise e l)
raise-raise e f l = go (leb e f) refl (leb f e) refl
  where
    go : (b : Bool) → leb e f ≡ b → (d : Bool) → leb f e ≡ d → raise e (raise f l) ≡ raise f (raise e l)
    go false p d q = sym (raise-both f e l (leb-false e f p))
    go true p false q = raise-both e f l (leb-false f e q)
    go true p true q =
        let a : e ≤ f = leb-true e f p in
        let b : f ≤ e = leb-true f e q in
        let w : e ≡ f = omega arith in
        ap (λ (k : ℕ). raise k (raise f l)) w ∙ ap (λ (k : ℕ). raise f (raise k l)) (sym w)

-- ---- how many words

pub length_pairs : (k : ℕ) (l : List ℕ) → length (pair_words k l) ≡ 2 * length l
unfolding pair_words
length_pairs k [] = refl
length_pairs k (e ∷ l) = let h = length_pairs k l in omega arith

pub length-range : (s : List ℕ) (m r n i hi : ℕ) → length (range_words s m r n i hi) ≡ 2 * range_count s m r n i hi
unfolding range_words range_count
length-range s m r zero i hi = refl
length-range s m r (suc n) i hi = go (eqb i 0) (leb (word_of s m i 1) hi) (length-range s m r n (word_of s m i 0) hi)
  where
    l : List ℕ
    l = entries_in s m r (word_of s m i 6)

    go : (b d : Bool) → length (range_words s m r n (word_of s m i 0) hi) ≡ 2 * range_count s m r n (word_of s m i 0) hi
        → length (cond b [] (cond d (pair_words (word_of s m i 1) (rising l) ++ range_words s m r n (word_of s m i 0) hi) []))
        ≡ 2 * cond b 0 (cond d (length l + range_count s m r n (word_of s m i 0) hi) 0)
    go true d h = refl
    go false false h = refl
    go false true h = length-append (pair_words (word_of s m i 1) (rising l)) (range_words s m r n (word_of s m i 0) hi)
        ∙ (let a = length_pairs (word_of s m i 1) (rising l) in let b = length-rising l in omega arith)

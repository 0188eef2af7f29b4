-- A chain of records given back to the free chain, record by record.
use Rattle.std.specs.Prelude.{◌≡◌, refl, Bool, true, false, cond, List, ℕ, zero, suc, ◌-◌, ◌≤◌, ◌<◌, eqb, length, get_or, set}
use Rattle.std.proofs.Common.{sym, ap, subst, ◌∙◌, arith, lit<, length-set, eq-eqb, ne_eqb, eqb-true}
use Rattle.std.proofs.lemmas.Bool.{eqb-false}
use Rattle.words.specs.Store.{HasRecord, record_at, put_record, word_of, has_kept, length-record, length-put_record, record-other}
use Rattle.words.specs.Header.{header_word, free_place}
use Rattle.words.specs.Frames.{length-header, header-record}
use Rattle.chain.specs.Free.{push_free}
use Rattle.chain.specs.Walk.{Walk}

-- at most n records from i on are given back; the next one is known before a record is freed
unfoldable pub free_chain : List ℕ → ℕ → ℕ → ℕ → List ℕ
free_chain s m zero i = s
free_chain s m (suc n) i = cond (eqb i 0) s (free_chain (push_free s m i) m n (word_of s m i 0))

-- ---- a record freed leaves every other record, and the length

pub length_push : (s : List ℕ) (m i : ℕ) → HasRecord s m i → length (push_free s m i) ≡ length s
unfolding push_free
length_push s m i has =
    let w : List ℕ = set (record_at s m i) 0 (header_word s free_place) in
    let lw : length w ≡ 20 = length-set (record_at s m i) 0 (header_word s free_place) ∙ length-record s m i in
    length-header (put_record s m i w) free_place i (lit< tt) ∙ length-put_record s m i w has lw

pub push-other : (s : List ℕ) (m i : ℕ) → HasRecord s m i → (j : ℕ) → 1 ≤ j → ¬ (i ≡ j) → record_at (push_free s m i) m j ≡ record_at s m j
unfolding push_free
push-other s m i has j h ne =
    let w : List ℕ = set (record_at s m i) 0 (header_word s free_place) in
    let lw : length w ≡ 20 = length-set (record_at s m i) 0 (header_word s free_place) ∙ length-record s m i in
    header-record (put_record s m i w) free_place i (lit< tt) m j ∙ record-other s m i w has lw j h ne

-- ---- a walk that ends meets no record twice, so that freeing its first record leaves the rest of it

-- how many records are met before the end
unfoldable steps : List ℕ → ℕ → ℕ → ℕ → ℕ
steps s m zero i = 0
steps s m (suc n) i = cond (eqb i 0) 0 (suc (steps s m n (word_of s m i 0)))

-- record i is not met from record j on
unfoldable Avoids : List ℕ → ℕ → ℕ → ℕ → ℕ → Type 0
Avoids s m zero j i = Unit {0}
Avoids s m (suc n) j i = ¬ (j ≡ 0) → (¬ (i ≡ j)) × Avoids s m n (word_of s m j 0) i

steps-end : (s : List ℕ) (m n : ℕ) {i : ℕ} → i ≡ 0 → steps s m n i ≡ 0
unfolding steps
steps-end s m zero e = refl
steps-end s m (suc n) {i} e = simp (eq-eqb i 0 e)

steps-more : (s : List ℕ) (m n : ℕ) {i : ℕ} → ¬ (i ≡ 0) → steps s m (suc n) i ≡ suc (steps s m n (word_of s m i 0))
unfolding steps
steps-more s m n {i} ne = simp (ne_eqb i 0 ne)

-- the count is the same wherever both walks end
steps-same : (s : List ℕ) (m n k i : ℕ) → Walk s m n i → Walk s m k i → steps s m n i ≡ steps s m k i
unfolding Walk
steps-same s m zero k i w v = steps-end s m zero w ∙ sym (steps-end s m k w)
steps-same s m (suc n) zero i w v = steps-end s m (suc n) v ∙ sym (steps-end s m zero v)
steps-same s m (suc n) (suc k) i w v = go (eqb i 0) refl (λ ne. steps-same s m n k (word_of s m i 0) (w ne).1 (v ne).1)
  where
    go : (b : Bool) → eqb i 0 ≡ b → (¬ (i ≡ 0) → steps s m n (word_of s m i 0) ≡ steps s m k (word_of s m i 0)) → steps s m (suc n) i ≡ steps s m (suc k) i
    go true e rest = steps-end s m (suc n) (eqb-true i 0 e) ∙ sym (steps-end s m (suc k) (eqb-true i 0 e))
    go false e rest =
        let ne : ¬ (i ≡ 0) = eqb-false i 0 e in
        steps-more s m n ne ∙ ap suc (rest ne) ∙ sym (steps-more s m k ne)

-- a record that is further from the end is not met
steps-avoid : (s : List ℕ) (m k i n j : ℕ) → Walk s m k i → Walk s m n j → steps s m n j < steps s m k i → Avoids s m n j i
unfolding Walk Avoids
steps-avoid s m k i zero j wi w h = tt
steps-avoid s m k i (suc n) j wi w h = λ ne. (
  λ (e : i ≡ j). let q : steps s m (suc n) i ≡ steps s m k i = steps-same s m (suc n) k i (subst (λ (x : ℕ). Walk s m (suc n) x) (sym e) w) wi in
      let r : steps s m (suc n) i ≡ steps s m (suc n) j = ap (steps s m (suc n)) e in omega arith,
  steps-avoid s m k i n (word_of s m j 0) wi (w ne).1 (let q = steps-more s m n ne in omega arith),
)

avoid-push : (s : List ℕ) (m i n j : ℕ) → HasRecord s m i → Walk s m n j → Avoids s m n j i → Walk (push_free s m i) m n j
unfolding Walk Avoids
avoid-push s m i zero j has w a = w
avoid-push s m i (suc n) j has w a = λ ne.
    let h : HasRecord s m j = (w ne).0 in
    let e : word_of (push_free s m i) m j 0 ≡ word_of s m j 0 = ap (λ (v : List ℕ). get_or v 0 0) (push-other s m i has j h.first (a ne).0) in (
      has_kept h (length_push s m i has),
      subst (λ (x : ℕ). Walk (push_free s m i) m n x) (sym e) (avoid-push s m i n (word_of s m j 0) has (w ne).1 (a ne).1),
    )

pub walk-push : (s : List ℕ) (m n i : ℕ) → Walk s m (suc n) i → ¬ (i ≡ 0) → Walk (push_free s m i) m n (word_of s m i 0)
unfolding Walk
walk-push s m n i w ne =
    avoid-push s m i n (word_of s m i 0) (w ne).0 (w ne).1
    (steps-avoid s m (suc n) i n (word_of s m i 0) w (w ne).1 (let q = steps-more s m n ne in omega arith))

-- ---- the run of the code: what is left of the chain, freed, gives the whole

pub record FreedTo (whole s : List ℕ) (m n i : ℕ) : Type 0 where
  pub is : free_chain s m n i ≡ whole
  pub rest : Walk s m n i

pub freed-stop : {whole s : List ℕ} {m n i : ℕ} → FreedTo whole s m n i → i ≡ 0 → s ≡ whole
unfolding free_chain
freed-stop {whole} {s} {m} {n} {i} u e = go n u.is
  where
    go : (n : ℕ) → free_chain s m n i ≡ whole → s ≡ whole
    go zero q = q
    go (suc n) q = sym (ap (λ (b : Bool). cond b s (free_chain (push_free s m i) m n (word_of s m i 0))) (eq-eqb i 0 e)) ∙ q

pub freed-end : {whole s : List ℕ} {m n i : ℕ} → FreedTo whole s m n i → n ≡ 0 → s ≡ whole
unfolding free_chain
freed-end {whole} {s} {m} {n} {i} u e = ap (λ (k : ℕ). free_chain s m k i) (sym e) ∙ u.is

pub freed-has : {whole s : List ℕ} {m n i : ℕ} → FreedTo whole s m n i → ¬ (n ≡ 0) → ¬ (i ≡ 0) → HasRecord s m i
unfolding Walk
freed-has {whole} {s} {m} {n} {i} u nz ne = go n u.rest nz
  where
    go : (n : ℕ) → Walk s m n i → ¬ (n ≡ 0) → HasRecord s m i
    go zero r nz = absurd (nz refl)
    go (suc n) r nz = (r ne).0

pub freed-more : {whole s t : List ℕ} {m n i next : ℕ} → FreedTo whole s m n i → ¬ (n ≡ 0) → ¬ (i ≡ 0) → next ≡ word_of s m i 0 → t ≡ push_free s m i
    → FreedTo whole t m (n - 1) next
unfolding free_chain
freed-more {whole} {s} {t} {m} {n} {i} {next} u nz ne en et =
    subst (λ (k : ℕ). FreedTo whole t m (n - 1) k) (sym en)
    (subst (λ (k : List ℕ). FreedTo whole k m (n - 1) (word_of s m i 0)) (sym et) (go n u.is u.rest nz))
  where
    go : (n : ℕ) → free_chain s m n i ≡ whole → Walk s m n i → ¬ (n ≡ 0) → FreedTo whole (push_free s m i) m (n - 1) (word_of s m i 0)
    go zero q r nz = absurd (nz refl)
    go (suc n) q r nz =
        let k : n ≡ suc n - 1 = omega arith in
        subst (λ (k : ℕ). FreedTo whole (push_free s m i) m k (word_of s m i 0)) k
        (record {
          is = sym (ap (λ (b : Bool). cond b s (free_chain (push_free s m i) m n (word_of s m i 0))) (ne_eqb i 0 ne)) ∙ q;
          rest = walk-push s m n i r ne;
        })

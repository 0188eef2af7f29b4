-- The words after a chain of records was given back to the free chain.
use Rattle.std.specs.Prelude.{◌≡◌, refl, cond, List, [], ◌∷◌, ℕ, zero, suc, ◌+◌, ◌≤◌, ◌<◌, length, set}
use Rattle.std.proofs.Math.Path.{sym, ap}
use Rattle.std.proofs.Common.{subst, ◌∙◌, arith, lit<, eq-eqb, ne_eqb}
use Rattle.std.proofs.Math.ListN.{get_or, length-set}
use Rattle.std.proofs.Math.Seq.{get_or-set_same}
use Rattle.words.specs.Store.{entry_words, HasRecord, record_at, put_record, word_of, beyond, has_kept, length-record, length-put_record, record_same}
use Rattle.words.specs.Header.{header_word, put_header_word, free_place}
use Rattle.words.specs.Entries.{entry_word}
use Rattle.words.specs.Frames.{header-same, header-other, header-entry, header-record, header-beyond, record-header, record-entry, record-beyond}
use Rattle.chain.specs.Free.{push_free}
use Rattle.machine.specs.Sound.{times}
use Rattle.meaning.specs.Reading.{Chained}
use Rattle.meaning.specs.Sound.{All, Apart, Once}
use Rattle.meaning.specs.Numbers.{all-as, all_both, apart-all}
use Rattle.meaning.specs.Frame.{SameAt, chain_words, all_words, chain-push}
use Rattle.meaning.specs.Parts.{entry_at}
use Rattle.layout.specs.Keep.{chained-keep}
use Rattle.undo_log.specs.Freeing.{free_chain, length_push, push-other}

-- The records of l before f, the last one first.
unfoldable pub onto : List ℕ → List ℕ → List ℕ
onto [] f = f
onto (i ∷ l) f = onto l (i ∷ f)

pub onto-times : (k : ℕ) (l f : List ℕ) → times k (onto l f) ≡ times k l + times k f
unfolding onto
onto-times k [] f = omega arith
onto-times k (i ∷ l) f = omega (arith, onto-times k l (i ∷ f))

pub onto-length : (l f : List ℕ) → length (onto l f) ≡ length l + length f
unfolding onto
onto-length [] f = omega arith
onto-length (i ∷ l) f = omega (arith, onto-length l (i ∷ f))

-- ---- one record

module _ (s : List ℕ) (m i : ℕ) (has : HasRecord s m i) where
  linked : List ℕ
  linked = set (record_at s m i) 0 (header_word s free_place)

  linked-whole : length linked ≡ 20
  unfolding linked
  linked-whole = length-set (record_at s m i) 0 (header_word s free_place) ∙ length-record s m i

  pub push-head : (k : ℕ) → k < 16 → ¬ (k ≡ free_place) → header_word (push_free s m i) k ≡ header_word s k
  unfolding push_free linked
  push-head k h ne = header-other (put_record s m i linked) free_place i (lit< tt) k ne ∙ record-header s m i linked has linked-whole k h

  pub push-first : 16 ≤ length s → header_word (push_free s m i) free_place ≡ i
  unfolding push_free linked
  push-first l = header-same (put_record s m i linked) free_place i (lit< tt) (subst (λ n. 16 ≤ n) (sym (length-put_record s m i linked has linked-whole)) l)

  pub push-ents : (e : ℕ) → 1 ≤ e → e ≤ m → entry_at s e ≡ entry_at (push_free s m i) e
  unfolding push_free linked
  push-ents e a b =
      let q = put_record s m i linked in
      let f : (k : ℕ) → k < entry_words → entry_word s e k ≡ entry_word (put_header_word q free_place i) e k =
      λ k l. sym (header-entry q free_place i (lit< tt) e k ∙ record-entry s m i linked has linked-whole e k a b l) in
      λ j. record { value = f 0 (lit< tt) j; share = f 1 (lit< tt) j; exclusive = f 2 (lit< tt) j }

  pub push-rest : (r : ℕ) → i ≤ r → beyond (push_free s m i) m r ≡ beyond s m r
  unfolding push_free linked
  push-rest r l = header-beyond (put_record s m i linked) free_place i (lit< tt) m r ∙ record-beyond s m i linked has linked-whole r l

  pub push-link : word_of (push_free s m i) m i 0 ≡ header_word s free_place
  unfolding push_free linked
  push-link =
      let k = length-record s m i in
      ap (λ w. get_or w 0 0) (header-record (put_record s m i linked) free_place i (lit< tt) m i ∙ record_same s m i linked has linked-whole)
      ∙ get_or-set_same (record_at s m i) 0 (header_word s free_place) 0 (omega (arith, k))

-- ---- a chain of them

pub record Freed (s s' : List ℕ) (m : ℕ) (W f : List ℕ) : Type 0 where
  pub long : length s' ≡ length s
  pub head : (k : ℕ) → k < 16 → ¬ (k ≡ free_place) → header_word s' k ≡ header_word s k
  pub ents : (e : ℕ) → 1 ≤ e → e ≤ m → entry_at s e ≡ entry_at s' e
  pub same : (j : ℕ) → 1 ≤ j → Apart j W → SameAt s s' m j
  pub rest : (r : ℕ) → All (λ i. i ≤ r) W → beyond s' m r ≡ beyond s m r
  pub free : Chained s' m (header_word s' free_place) (onto W f)

free-none : (s : List ℕ) (m n i : ℕ) → i ≡ 0 → free_chain s m n i ≡ s
unfolding free_chain
free-none s m zero i e = refl
free-none s m (suc n) i e = ap (λ b. cond b s (free_chain (push_free s m i) m n (word_of s m i 0))) (eq-eqb i 0 e)

free_more : (s : List ℕ) (m n i j : ℕ) → ¬ (i ≡ 0) → i ≡ j → free_chain s m (suc n) i ≡ free_chain (push_free s m j) m n (word_of s m j 0)
unfolding free_chain
free_more s m n i j ne e =
    ap (λ b. cond b s (free_chain (push_free s m i) m n (word_of s m i 0))) (ne_eqb i 0 ne) ∙ ap (λ k. free_chain (push_free s m k) m n (word_of s m k 0)) e

pub freed : (s : List ℕ) (m : ℕ) (W f : List ℕ) (n i : ℕ) → 16 ≤ length s → Chained s m i W → Chained s m (header_word s free_place) f → All (HasRecord s m) W → All (λ j. 1 ≤ j) f
    → Once W → All (λ j. Apart j f) W → length W ≤ n → Freed s (free_chain s m n i) m W f
unfolding onto
freed s m [] f n i l c cf h low o a b =
    subst (λ z. Freed s z m [] f) (sym (free-none s m n i c))
    (record { long = refl; head = λ k z ne. refl; ents = λ e x y. refl; same = λ j x y. refl; rest = λ r x. refl; free = cf })
freed s m (j ∷ W) f zero i l c cf h low o a b = absurd (omega (arith, b))
freed s m (j ∷ W) f (suc n) i l c cf h low o a b =
    let t = push_free s m j in
    let has = h.0 in
    let long : length t ≡ length s = length_push s m j has in
    let lowW : All (λ k. 1 ≤ k) W = all-as {P = HasRecord s m} {Q = λ k. 1 ≤ k} (λ k z. z.first) W h.1 in
    let same : (k : ℕ) → 1 ≤ k → (j ≡ k → ⊥) → SameAt s t m k = λ k z ne. sym (push-other s m j has k z ne) in
    let sameW : All (SameAt s t m) W = all_both {P = λ k. 1 ≤ k} {Q = λ k. j ≡ k → ⊥} {R = SameAt s t m} (λ k z ne. same k z ne) W lowW (apart-all j W o.0) in
    let sameF : All (SameAt s t m) f = all_both {P = λ k. 1 ≤ k} {Q = λ k. j ≡ k → ⊥} {R = SameAt s t m} (λ k z ne. same k z ne) f low (apart-all j f a.0) in
    let next : Chained t m (word_of s m j 0) W = subst (λ k. Chained t m (word_of s m k 0) W) c.0 (chained-keep s t m (word_of s m i 0) W sameW c.2) in
    let nz : ¬ (j ≡ 0) = λ z. omega (arith, z, has.first) in
    let free : Chained t m (header_word t free_place) (j ∷ f) =
    subst (λ k. Chained t m k (j ∷ f)) (sym (push-first s m j has l)) (chain-push s t m j (header_word s free_place) f cf (all_words s t m chain_words f sameF) (push-link s m j has) nz) in
    let there : All (HasRecord t m) W = all-as {P = HasRecord s m} {Q = HasRecord t m} (λ k z. has_kept z long) W h.1 in
    let apart : All (λ k. Apart k (j ∷ f)) W =
    all_both {P = λ k. j ≡ k → ⊥} {Q = λ k. Apart k f} {R = λ k. Apart k (j ∷ f)} (λ k ne z. (λ e. ne (sym e), z)) W (apart-all j W o.0) a.1 in
    let I = freed t m W (j ∷ f) n (word_of s m j 0) (omega (arith, l, long)) next free there (has.first, low) o.1 apart (omega (arith, b)) in
    subst (λ z. Freed s z m (j ∷ W) f) (sym (free_more s m n i j c.1 c.0))
    (record {
      long = I.long ∙ long;
      head = λ k z ne. I.head k z ne ∙ push-head s m j has k z ne;
      ents = λ e x y. push-ents s m j has e x y ∙ I.ents e x y;
      same = λ k z y. same k z (λ e. y.0 (sym e)) ∙ I.same k z y.1;
      rest = λ r z. I.rest r z.1 ∙ push-rest s m j has r z.0;
      free = I.free;
    })

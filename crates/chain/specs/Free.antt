-- The words of a store after a record is taken off the free chain, and after one is given back.
use Rattle.std.specs.Prelude.{◌≡◌, List, Bool, true, false, ℕ, ◌+◌, ◌-◌, ◌≤◌, eqb, set, length, take, drop}
use Rattle.std.proofs.Common.{sym, ap, subst, ◌∙◌, eq-eqb, ne_eqb}
use borrow.Rule.Slice.PartMut.{put_mid}
use Rattle.words.specs.Store.{base_of, HasRecord, record_at, put_record, word_of, lent_back, lent-part}
use Rattle.words.specs.Header.{header_word, put_header_word, free_place}

abbrev pub pick_list : Bool → List ℕ → List ℕ → List ℕ
pick_list true a b = a
pick_list false a b = b

-- there is a header, and where the chain is not empty its first record is there
pub record Poppable (s : List ℕ) (m : ℕ) : Type 0 where
  pub header : 16 ≤ length s
  pub first : (header_word s free_place ≡ 0 → ⊥) → HasRecord s m (header_word s free_place)

-- the second record of the chain becomes its first; an empty chain stays
unfoldable pub pop_free : List ℕ → ℕ → List ℕ
pop_free s m =
    pick_list (eqb (header_word s free_place) 0) s (put_header_word s free_place (word_of s m (header_word s free_place) 0))

-- record i is the first of the chain, and the former first one is its next; its other words stay
unfoldable pub push_free : List ℕ → ℕ → ℕ → List ℕ
push_free s m i = put_header_word (put_record s m i (set (record_at s m i) 0 (header_word s free_place))) free_place i

pub pop-none : (s : List ℕ) (m : ℕ) → header_word s free_place ≡ 0 → pop_free s m ≡ s
unfolding pop_free
pop-none s m e = simp (eq-eqb (header_word s free_place) 0 e)

pub pop-some : (s : List ℕ) (m : ℕ) → (header_word s free_place ≡ 0 → ⊥)
    → pop_free s m ≡ put_header_word s free_place (word_of s m (header_word s free_place) 0)
unfolding pop_free
pop-some s m ne = simp (ne_eqb (header_word s free_place) 0 ne)

-- ---- the runs of the code, as equations

pub first-has : {s : List ℕ} {m i : ℕ} → Poppable s m → i ≡ header_word s free_place → (i ≡ 0 → ⊥) → HasRecord s m i
first-has {s} {m} {i} p e ne = subst (λ (j : ℕ). HasRecord s m j) (sym e) (p.first (λ z. ne (e ∙ z)))

pub none-run : {s : List ℕ} (m : ℕ) {i : ℕ} → i ≡ header_word s free_place → i ≡ 0 → (0 ≡ header_word s free_place) × (s ≡ pop_free s m)
none-run {s} m e z = (sym z ∙ e, sym (pop-none s m (sym e ∙ z)))

pub pop-run : (s : List ℕ) {t : List ℕ} (m : ℕ) {i next : ℕ} → i ≡ header_word s free_place → (i ≡ 0 → ⊥) → next ≡ word_of s m i 0
    → t ≡ put_header_word s free_place next → t ≡ pop_free s m
pop-run s m {i} {next} e ne n w =
    w ∙ ap (put_header_word s free_place) (n ∙ ap (λ (j : ℕ). word_of s m j 0) e) ∙ sym (pop-some s m (λ z. ne (e ∙ z)))

pub push-run : (s : List ℕ) {p u : List ℕ} (m i : ℕ) {at next : ℕ} → HasRecord s m i → next ≡ header_word s free_place → at ≡ base_of m i
    → p ≡ set (take (at + 20 - at) (drop at s)) 0 next → u ≡ put_header_word (put_mid at (at + 20 - at) s p) free_place i → u ≡ push_free s m i
unfolding push_free
push-run s {p} m i {at} {next} has e b l w =
    let q : p ≡ set (record_at s m i) 0 (header_word s free_place) = l ∙ ap (λ (r : List ℕ). set r 0 next) (lent-part b has) ∙ ap (set (record_at s m i) 0) e in
    w ∙ ap (λ (r : List ℕ). put_header_word r free_place i) (lent_back s m i b q)

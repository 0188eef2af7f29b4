-- The records of a store of m entries: 16 header words, `entry_words` words an entry, then records of 20 words, numbered from 1.
use Rattle.std.specs.Prelude.{◌≡◌, refl, List, ◌⊎◌, take, drop, length, get_or, set, ℕ, ◌+◌, ◌-◌, ◌*◌, ◌≤◌, ◌<◌}
use Rattle.std.proofs.Common.{ap, ◌∙◌, inl, inr, eq-or-lt_of_le, length-set}
use Rattle.std.proofs.Math.Logic.{⊎_elim}
use Rattle.words.specs.Cases.{order}
use borrow.Rule.Slice.PartMut.{put_mid}
use native.Mathlib.Omega.{arith}
pub use Rattle.words.specs.Sizes.{entry_words}
use Rattle.words.specs.Window.{words_at, put_at, length-put, words-put, words-put-before, words-put-after, words-get, words-part, length-words, put-set}

-- where record i starts
abbrev pub base_of : ℕ → ℕ → ℕ
base_of m i = 16 + entry_words * m + 20 * (i - 1)

-- the store has a record i
pub record HasRecord (s : List ℕ) (m i : ℕ) : Type 0 where
  pub entries : m ≤ 1024
  pub first : 1 ≤ i
  pub last : i ≤ 4096
  pub inside : base_of m i + 20 ≤ length s

unfoldable pub record_at : List ℕ → ℕ → ℕ → List ℕ
record_at s m i = words_at s (base_of m i) 20

unfoldable pub put_record : List ℕ → ℕ → ℕ → List ℕ → List ℕ
put_record s m i w = put_at s (base_of m i) 20 w

-- word k of record i
abbrev pub word_of : List ℕ → ℕ → ℕ → ℕ → ℕ
word_of s m i k = get_or (record_at s m i) k 0

-- the store with another word in place of word k of record i
abbrev pub put_word_of : List ℕ → ℕ → ℕ → ℕ → ℕ → List ℕ
put_word_of s m i k w = set s (base_of m i + k) w

-- the words beyond r records
abbrev pub beyond : List ℕ → ℕ → ℕ → List ℕ
beyond s m r = drop (16 + entry_words * m + 20 * r) s

add-sub-left : (a k : ℕ) → a + k - a ≡ k
add-sub-left a k = omega arith

-- a record stays where the length does
pub has_kept : {s t : List ℕ} {m i : ℕ} → HasRecord s m i → length t ≡ length s → HasRecord t m i
has_kept has e =
    record { entries = has.entries; first = has.first; last = has.last; inside = let h = has.inside in omega arith }

-- a word of a record, where it lies
pub word-place : (s : List ℕ) (m i k : ℕ) → k < 20 → word_of s m i k ≡ get_or s (base_of m i + k) 0
unfolding record_at
word-place s m i k h = words-get s (base_of m i) 20 k h

-- ---- laws, once for every kind of record

module _ (s : List ℕ) (m i : ℕ) (w : List ℕ) (has : HasRecord s m i) (whole : length w ≡ 20) where
  pub length-put_record : length (put_record s m i w) ≡ length s
  unfolding put_record
  length-put_record = length-put s (base_of m i) 20 w has.inside whole

  pub record_same : record_at (put_record s m i w) m i ≡ w
  unfolding put_record record_at
  record_same = words-put s (base_of m i) 20 w has.inside whole

  pub record-other : (j : ℕ) → 1 ≤ j → (i ≡ j → ⊥) → record_at (put_record s m i w) m j ≡ record_at s m j
  unfolding put_record record_at
  record-other j h ne =
      ⊎_elim
      (λ (p : j < i). words-put-before s (base_of m i) 20 w has.inside whole (base_of m j) 20 (omega arith))
      (λ (p : i ≤ j). words-put-after s (base_of m i) 20 w has.inside whole (base_of m j) 20 (after p (eq-or-lt_of_le p)))
      (order j i)
    where
      after : i ≤ j → (i ≡ j) ⊎ (i < j) → base_of m i + 20 ≤ base_of m j
      after p (inl e) = absurd (ne e)
      after p (inr q) = let f : 1 ≤ i = has.first in omega arith

pub length-record : (s : List ℕ) (m i : ℕ) → length (record_at s m i) ≡ 20
unfolding record_at
length-record s m i = length-words s (base_of m i) 20

-- ---- one word of a record

module _ (s : List ℕ) (m i k w : ℕ) where
  pub length-word : length (set (record_at s m i) k w) ≡ 20
  length-word = length-set (record_at s m i) k w ∙ length-record s m i

  -- the record is written with that word replaced
  pub put_word : HasRecord s m i → k < 20 → put_record s m i (set (record_at s m i) k w) ≡ put_word_of s m i k w
  unfolding put_record record_at
  put_word has h = put-set s (base_of m i) 20 k w has.inside h

-- a part of 20 words that was lent at record i and has come back, as the borrow checker says it
pub lent_back : (s : List ℕ) (m i : ℕ) {w w' : List ℕ} {at : ℕ} → at ≡ base_of m i → w ≡ w' → put_mid at (at + 20 - at) s w ≡ put_record s m i w'
unfolding put_record put_at
lent_back s m i {w} {w'} {at} e q = rw (add-sub-left at 20, q, e) refl

-- the part that is lent
pub lent-part : {s : List ℕ} {m i at : ℕ} → at ≡ base_of m i → HasRecord s m i → take (at + 20 - at) (drop at s) ≡ record_at s m i
unfolding record_at
lent-part {s} {m} {i} {at} e has = rw (add-sub-left at 20, e) (words-part s (base_of m i) 20 has.inside)

-- word k of the part is written while it is lent
pub word-lent : (s : List ℕ) {p : List ℕ} (m i k w : ℕ) {at : ℕ} → k < 20 → HasRecord s m i → at ≡ base_of m i → p ≡ set (take (at + 20 - at) (drop at s)) k w
    → put_mid at (at + 20 - at) s p ≡ put_word_of s m i k w
word-lent s m i k w h has e l = lent_back s m i e (l ∙ ap (λ r. set r k w) (lent-part e has)) ∙ put_word s m i k w has h

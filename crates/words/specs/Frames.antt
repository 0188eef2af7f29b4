-- What a write of a header word, of an entry's word or of a record leaves of every other header word, entry and record, and of the
-- words beyond the records.
use Rattle.std.specs.Prelude.{◌≡◌, List, ℕ, ◌+◌, ◌*◌, ◌≤◌, ◌<◌, length}
use Rattle.std.proofs.Common.{inl, arith}
use Rattle.std.proofs.Math.ListN.{length-set}
use Rattle.std.proofs.Math.Seq.{get_or-set_same, get_or-set_other, drop-set-lt}
use Rattle.words.specs.Window.{words-set, put-before, drop-put}
use Rattle.words.specs.Store.{entry_words, base_of, HasRecord, record_at, put_record, beyond}
use Rattle.words.specs.Header.{header_word, put_header_word}
use Rattle.words.specs.Entries.{entry_place, HasEntry, entry_word, put_entry_word}

-- ---- a header word
module _ (s : List ℕ) (k w : ℕ) (h : k < 16) where
  pub length-header : length (put_header_word s k w) ≡ length s
  length-header = length-set s k w

  pub header-same : 16 ≤ length s → header_word (put_header_word s k w) k ≡ w
  header-same l = get_or-set_same s k w 0 (omega arith)

  pub header-other : (j : ℕ) → (j ≡ k → ⊥) → header_word (put_header_word s k w) j ≡ header_word s j
  header-other j ne = get_or-set_other s k j w 0 ne

  pub header-entry : (e field : ℕ) → entry_word (put_header_word s k w) e field ≡ entry_word s e field
  unfolding entry_word
  header-entry e field = get_or-set_other s k (entry_place e field) w 0 (λ (q : entry_place e field ≡ k). omega arith)

  pub header-record : (m i : ℕ) → record_at (put_header_word s k w) m i ≡ record_at s m i
  unfolding record_at
  header-record m i = words-set s k w (base_of m i) 20 (inl (omega arith))

  pub header-beyond : (m r : ℕ) → beyond (put_header_word s k w) m r ≡ beyond s m r
  header-beyond m r = drop-set-lt (16 + entry_words * m + 20 * r) s k w (omega arith)

-- ---- a word of entry e
module _ (s : List ℕ) (e field w : ℕ) (first : 1 ≤ e) (h : field < entry_words) where
  pub length-entry : length (put_entry_word s e field w) ≡ length s
  unfolding put_entry_word
  length-entry = length-set s (entry_place e field) w

  pub entry-same : HasEntry s e → entry_word (put_entry_word s e field w) e field ≡ w
  unfolding put_entry_word entry_word
  entry-same has = get_or-set_same s (entry_place e field) w 0 (let l = has.inside in omega arith)

  pub entry_other : (d g : ℕ) → 1 ≤ d → g < entry_words → (d ≡ e → g ≡ field → ⊥) → entry_word (put_entry_word s e field w) d g ≡ entry_word s d g
  unfolding put_entry_word entry_word
  entry_other d g f j ne =
      get_or-set_other s (entry_place e field) (entry_place d g) w 0 (λ (q : entry_place d g ≡ entry_place e field). ne (omega arith) (omega arith))

  pub entry-header : (k : ℕ) → k < 16 → header_word (put_entry_word s e field w) k ≡ header_word s k
  unfolding put_entry_word
  entry-header k j = get_or-set_other s (entry_place e field) k w 0 (λ (q : k ≡ entry_place e field). omega arith)

  pub entry-record : (m i : ℕ) → e ≤ m → record_at (put_entry_word s e field w) m i ≡ record_at s m i
  unfolding put_entry_word record_at
  entry-record m i l = words-set s (entry_place e field) w (base_of m i) 20 (inl (omega arith))

  pub entry-beyond : (m r : ℕ) → e ≤ m → beyond (put_entry_word s e field w) m r ≡ beyond s m r
  unfolding put_entry_word
  entry-beyond m r l = drop-set-lt (16 + entry_words * m + 20 * r) s (entry_place e field) w (omega arith)

-- ---- record i; its length and the other records are in Store
module _ (s : List ℕ) (m i : ℕ) (w : List ℕ) (has : HasRecord s m i) (whole : length w ≡ 20) where
  pub record-header : (k : ℕ) → k < 16 → header_word (put_record s m i w) k ≡ header_word s k
  unfolding put_record
  record-header k h = put-before s (base_of m i) 20 w has.inside whole k (omega arith)

  pub record-entry : (e field : ℕ) → 1 ≤ e → e ≤ m → field < entry_words → entry_word (put_record s m i w) e field ≡ entry_word s e field
  unfolding put_record entry_word
  record-entry e field f l h = put-before s (base_of m i) 20 w has.inside whole (entry_place e field) (omega arith)

  pub record-beyond : (r : ℕ) → i ≤ r → beyond (put_record s m i w) m r ≡ beyond s m r
  unfolding put_record
  record-beyond r l = drop-put s (base_of m i) 20 w has.inside whole (16 + entry_words * m + 20 * r) (let f = has.first in omega arith)

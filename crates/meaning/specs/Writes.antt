-- What a write of a record, a header word or an entry's word leaves of the records and of the entries that are read.
use Rattle.std.specs.Prelude.{◌≡◌, List, ℕ, zero, suc, ◌≤◌, ◌<◌, length}
use Rattle.std.proofs.Common.{sym, arith}
use Rattle.words.specs.Store.{entry_words, HasRecord, put_record, record-other}
use Rattle.words.specs.Header.{put_header_word}
use Rattle.words.specs.Entries.{HasEntry, entry_word, put_entry_word}
use Rattle.words.specs.Frames.{header-record, entry-same, entry_other, entry-record, record-entry}
use Rattle.machine.specs.Tree.{leaves}
use Rattle.machine.specs.State.{Entry}
use Rattle.meaning.specs.Reading.{meaning}
use Rattle.meaning.specs.Sound.{All, Apart}
use Rattle.meaning.specs.Numbers.{all_both, apart-all}
use Rattle.meaning.specs.Frame.{SameAt}
use Rattle.meaning.specs.Parts.{entry_at}

-- ---- a record

module _ (s : List ℕ) (m i : ℕ) (w : List ℕ) (has : HasRecord s m i) (whole : length w ≡ 20) where
  -- Every other record is the same.
  pub put_other : (j : ℕ) → 1 ≤ j → (i ≡ j → ⊥) → SameAt s (put_record s m i w) m j
  put_other j h n = sym (record-other s m i w has whole j h n)

  pub put-others : (l : List ℕ) → All (λ j. 1 ≤ j) l → Apart i l → All (SameAt s (put_record s m i w) m) l
  put-others l a n = all_both put_other l a (apart-all i l n)

  pub put-entry : (e : ℕ) → 1 ≤ e → e ≤ m → entry_at s e ≡ entry_at (put_record s m i w) e
  put-entry e a b =
      let f : (k : ℕ) → k < entry_words → entry_word s e k ≡ entry_word (put_record s m i w) e k = λ k h. sym (record-entry s m i w has whole e k a b h) in
      λ j. record { value = f 0 (omega arith) j; share = f 1 (omega arith) j; exclusive = f 2 (omega arith) j }

-- ---- a header word

module _ (s : List ℕ) (k w : ℕ) (h : k < 16) where
  pub header_at : (m j : ℕ) → SameAt s (put_header_word s k w) m j
  header_at m j = sym (header-record s k w h m j)

-- ---- an entry's word

-- An entry with another word in a field.
unfoldable pub with_field : ℕ → ℕ → Entry → Entry
with_field zero w x = record { value = w; share = x.share; exclusive = x.exclusive }
with_field (suc zero) w x = record { value = x.value; share = w; exclusive = x.exclusive }
with_field (suc (suc f)) w x = record { value = x.value; share = x.share; exclusive = w }

module _ (s : List ℕ) (e field w : ℕ) (has : HasEntry s e) (h : field < entry_words) where
  pub entry-records : (m j : ℕ) → e ≤ m → SameAt s (put_entry_word s e field w) m j
  entry-records m j l = sym (entry-record s e field w has.first h m j l)

  pub entry-others : (d : ℕ) → 1 ≤ d → (d ≡ e → ⊥) → entry_at s d ≡ entry_at (put_entry_word s e field w) d
  entry-others d a n =
      let f : (k : ℕ) → k < entry_words → entry_word s d k ≡ entry_word (put_entry_word s e field w) d k = λ k l. sym (entry_other s e field w has.first h d k a l (λ q z. n q)) in
      λ j. record { value = f 0 (omega arith) j; share = f 1 (omega arith) j; exclusive = f 2 (omega arith) j }

-- Only that field of that entry is another.
pub entry-put : (s : List ℕ) (e field w : ℕ) → HasEntry s e → field < entry_words → entry_at (put_entry_word s e field w) e ≡ with_field field w (entry_at s e)
unfolding with_field
entry-put s e field w has h = go field h (entry-same s e field w has.first h has) (λ k l n. entry_other s e field w has.first h e k has.first l (λ q. n))
  where
    go : (f : ℕ) → f < entry_words → entry_word (put_entry_word s e field w) e f ≡ w
        → ((k : ℕ) → k < entry_words → (k ≡ f → ⊥) → entry_word (put_entry_word s e field w) e k ≡ entry_word s e k) → entry_at (put_entry_word s e field w) e ≡ with_field f w (entry_at s e)
    go zero l q g =
        let x = g 1 (omega arith) (λ z. omega arith) in
        let y = g 2 (omega arith) (λ z. omega arith) in
        λ j. record { value = q j; share = x j; exclusive = y j }
    go (suc zero) l q g =
        let x = g 0 (omega arith) (λ z. omega arith) in
        let y = g 2 (omega arith) (λ z. omega arith) in
        λ j. record { value = x j; share = q j; exclusive = y j }
    go (suc (suc zero)) l q g =
        let x = g 0 (omega arith) (λ z. omega arith) in
        let y = g 1 (omega arith) (λ z. omega arith) in
        λ j. record { value = x j; share = y j; exclusive = q j }
    go (suc (suc (suc f))) l q g = absurd (omega (arith, l))

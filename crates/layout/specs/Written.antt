-- What single writes leave: which records, header words and entries are the same.
use Rattle.std.specs.Prelude.{◌≡◌, refl, ℕ, ◌≤◌, ◌<◌, length, set}
use Rattle.std.proofs.Common.{sym, ap, subst, ◌∙◌, arith, lit<, length-set}
use mathlib.Core.List.{List, [], ◌∷◌, ◌++◌}
use Rattle.words.specs.Store.{entry_words, HasRecord, record_at, put_record, word_of, beyond, has_kept, length-record, length-put_record}
use Rattle.words.specs.Header.{header_word, put_header_word, entries_place, records_place, free_place}
use Rattle.words.specs.Entries.{HasEntry, entry_word, put_entry_word}
use Rattle.words.specs.Frames.{length-header, header-same, header-other, header-entry, header-beyond, length-entry, entry-header, entry-beyond, record-header, record-beyond}
use Rattle.chain.specs.Free.{pop_free, push_free, pop-some}
use Rattle.meaning.specs.Reading.{M-of, R-of}
use Rattle.meaning.specs.Sound.{Apart}
use Rattle.meaning.specs.Numbers.{apart-left, apart-right}
use Rattle.meaning.specs.Frame.{SameAt}
use Rattle.meaning.specs.Parts.{entry_at}
use Rattle.meaning.specs.Writes.{put_other, put-entry, header_at, entry-records}

-- Only the records of W, entries, and of the header only root, height, first and free may be others.
pub record Written (s s' : List ℕ) (W : List ℕ) : Type 0 where
  pub long : length s' ≡ length s
  pub entries : M-of s' ≡ M-of s
  pub records : R-of s' ≡ R-of s
  pub same : (j : ℕ) → 1 ≤ j → Apart j W → SameAt s s' (M-of s) j
  pub rest : beyond s' (M-of s) (R-of s) ≡ beyond s (M-of s) (R-of s)

-- All entries are the same; all header words are.
abbrev pub SameEntries : List ℕ → List ℕ → Type 0
SameEntries s s' = (e : ℕ) → 1 ≤ e → e ≤ M-of s → entry_at s e ≡ entry_at s' e

abbrev pub SameHead : List ℕ → List ℕ → Type 0
SameHead s s' = (k : ℕ) → k < 16 → header_word s' k ≡ header_word s k

pub written_none : (s : List ℕ) → Written s s []
written_none s = record { long = refl; entries = refl; records = refl; same = λ j h a. refl; rest = refl }

pub written_then : (s s' s'' : List ℕ) (U W : List ℕ) → Written s s' U → Written s' s'' W → Written s s'' (U ++ W)
written_then s s' s'' U W A B = record {
  long = B.long ∙ A.long;
  entries = B.entries ∙ A.entries;
  records = B.records ∙ A.records;
  same = λ j h a. A.same j h (apart-left j U W a) ∙ subst (λ m. SameAt s' s'' m j) A.entries (B.same j h (apart-right j U W a));
  rest = subst (λ m. beyond s'' m (R-of s) ≡ beyond s' m (R-of s)) A.entries (subst (λ r. beyond s'' (M-of s') r ≡ beyond s' (M-of s') r) A.records B.rest) ∙ A.rest;
}

pub entries-then : (s s' s'' : List ℕ) → M-of s' ≡ M-of s → SameEntries s s' → SameEntries s' s'' → SameEntries s s''
entries-then s s' s'' e a b d h l = a d h l ∙ b d h (subst (λ m. d ≤ m) (sym e) l)

-- A record that is there is there still.
pub has-written : (s s' : List ℕ) (W : List ℕ) (m i : ℕ) → Written s s' W → HasRecord s m i → HasRecord s' m i
has-written s s' W m i A h = has_kept h A.long

-- ---- a record

module _ (s : List ℕ) (i : ℕ) (w : List ℕ) (has : HasRecord s (M-of s) i) (whole : length w ≡ 20) where
  pub put-head : SameHead s (put_record s (M-of s) i w)
  put-head = record-header s (M-of s) i w has whole

  pub put_written : i ≤ R-of s → Written s (put_record s (M-of s) i w) (i ∷ [])
  put_written l = record {
    long = length-put_record s (M-of s) i w has whole;
    entries = put-head entries_place (lit< tt);
    records = put-head records_place (lit< tt);
    same = λ j h a. put_other s (M-of s) i w has whole j h (λ e. a.0 (sym e));
    rest = record-beyond s (M-of s) i w has whole (R-of s) l;
  }

  pub put_entries : SameEntries s (put_record s (M-of s) i w)
  put_entries = put-entry s (M-of s) i w has whole

-- ---- a header word but M and R

module _ (s : List ℕ) (k w : ℕ) (low : 2 ≤ k) (high : k < 16) where
  pub head-written : Written s (put_header_word s k w) []
  head-written = record {
    long = length-header s k w high;
    entries = header-other s k w high entries_place (λ e. omega (arith, e, low));
    records = header-other s k w high records_place (λ e. omega (arith, e, low));
    same = λ j h a. header_at s k w high (M-of s) j;
    rest = header-beyond s k w high (M-of s) (R-of s);
  }

  pub head-entries : SameEntries s (put_header_word s k w)
  head-entries e a b =
      let f : (n : ℕ) → entry_word s e n ≡ entry_word (put_header_word s k w) e n = λ n. sym (header-entry s k w high e n) in
      λ j. record { value = f 0 j; share = f 1 j; exclusive = f 2 j }

-- ---- a word of an entry

module _ (s : List ℕ) (e field w : ℕ) (has : HasEntry s e) (h : field < entry_words) (l : e ≤ M-of s) where
  pub entry-head : SameHead s (put_entry_word s e field w)
  entry-head = entry-header s e field w has.first h

  pub entry-written : Written s (put_entry_word s e field w) []
  entry-written = record {
    long = length-entry s e field w has.first h;
    entries = entry-head entries_place (lit< tt);
    records = entry-head records_place (lit< tt);
    same = λ j a b. entry-records s e field w has h (M-of s) j l;
    rest = entry-beyond s e field w has.first h (M-of s) (R-of s) l;
  }

-- ---- the free chain

pub pop-written : (s : List ℕ) (m : ℕ) → ¬ (header_word s free_place ≡ 0) → Written s (pop_free s m) []
pop-written s m n = subst (λ z. Written s z []) (sym (pop-some s m n)) (head-written s free_place (word_of s m (header_word s free_place) 0) (omega arith) (lit< tt))

pub pop-entries : (s : List ℕ) (m : ℕ) → ¬ (header_word s free_place ≡ 0) → SameEntries s (pop_free s m)
pop-entries s m n = subst (λ z. SameEntries s z) (sym (pop-some s m n)) (head-entries s free_place (word_of s m (header_word s free_place) 0) (omega arith) (lit< tt))

-- The free word is then the second record of the chain; the other header words are the same.
pub pop-free : (s : List ℕ) (m : ℕ) → 16 ≤ length s → ¬ (header_word s free_place ≡ 0) → header_word (pop_free s m) free_place ≡ word_of s m (header_word s free_place) 0
pop-free s m l n = ap (λ z. header_word z free_place) (pop-some s m n) ∙ header-same s free_place (word_of s m (header_word s free_place) 0) (lit< tt) l

pub pop-head : (s : List ℕ) (m k : ℕ) → ¬ (header_word s free_place ≡ 0) → ¬ (k ≡ free_place) → header_word (pop_free s m) k ≡ header_word s k
pop-head s m k n e = ap (λ z. header_word z k) (pop-some s m n) ∙ header-other s free_place (word_of s m (header_word s free_place) 0) (lit< tt) k e

module _ (s : List ℕ) (i : ℕ) (has : HasRecord s (M-of s) i) where
  whole-free : length (set (record_at s (M-of s) i) 0 (header_word s free_place)) ≡ 20
  whole-free = length-set (record_at s (M-of s) i) 0 (header_word s free_place) ∙ length-record s (M-of s) i

  linked : List ℕ
  linked = put_record s (M-of s) i (set (record_at s (M-of s) i) 0 (header_word s free_place))

  pub push-written : i ≤ R-of s → Written s (push_free s (M-of s) i) (i ∷ [])
  unfolding push_free linked
  push-written l =
      written_then s linked (put_header_word linked free_place i) (i ∷ []) [] (put_written s i (set (record_at s (M-of s) i) 0 (header_word s free_place)) has whole-free l)
      (head-written linked free_place i (omega arith) (lit< tt))

  pub push-entries : SameEntries s (push_free s (M-of s) i)
  unfolding push_free linked
  push-entries =
      entries-then s linked (put_header_word linked free_place i) (put-head s i (set (record_at s (M-of s) i) 0 (header_word s free_place)) has whole-free entries_place (lit< tt))
      (put_entries s i (set (record_at s (M-of s) i) 0 (header_word s free_place)) has whole-free) (head-entries linked free_place i (omega arith) (lit< tt))

  pub push-head : (k : ℕ) → k < 16 → ¬ (k ≡ free_place) → header_word (push_free s (M-of s) i) k ≡ header_word s k
  unfolding push_free linked
  push-head k h e = header-other linked free_place i (lit< tt) k e ∙ put-head s i (set (record_at s (M-of s) i) 0 (header_word s free_place)) has whole-free k h

  pub push-free : 16 ≤ length s → header_word (push_free s (M-of s) i) free_place ≡ i
  unfolding push_free linked
  push-free l = header-same linked free_place i (lit< tt) (subst (λ n. 16 ≤ n) (sym (length-put_record s (M-of s) i (set (record_at s (M-of s) i) 0 (header_word s free_place)) has whole-free)) l)

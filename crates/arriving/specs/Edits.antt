-- Writes one after another, and the words of a record written.
use Rattle.std.specs.Prelude.{◌≡◌, List, [], ◌∷◌, ◌++◌, ℕ, ◌≤◌, ◌<◌, length}
use Rattle.std.proofs.Common.{subst, ◌∙◌, arith}
use Rattle.words.specs.Store.{HasRecord, put_record, has_kept}
use Rattle.words.specs.Header.{header_word, free_place}
use Rattle.chain.specs.Free.{pop_free, push_free}
use Rattle.meaning.specs.Reading.{M-of, R-of}
use Rattle.layout.specs.Written.{Written, SameEntries, written_then, entries-then, put_written, put_entries, put-head, pop-written, pop-entries, pop-head, push-written, push-entries, push-head}

-- Only the records of W, and of the header only the first free record, are others.
pub record Edit (s s' W : List ℕ) : Type 0 where
  pub written : Written s s' W
  pub entries : SameEntries s s'
  pub head : (k : ℕ) → k < 16 → ¬ (k ≡ free_place) → header_word s' k ≡ header_word s k

pub edit-then : (s s' s'' U W : List ℕ) → Edit s s' U → Edit s' s'' W → Edit s s'' (U ++ W)
edit-then s s' s'' U W A B = record {
  written = written_then s s' s'' U W A.written B.written;
  entries = entries-then s s' s'' A.written.entries A.entries B.entries;
  head = λ k h n. B.head k h n ∙ A.head k h n;
}

-- M as it was before.
pub edit-put : (s : List ℕ) (m i : ℕ) (w : List ℕ) → M-of s ≡ m → HasRecord s m i → length w ≡ 20 → i ≤ R-of s → Edit s (put_record s m i w) (i ∷ [])
edit-put s m i w e has whole l = subst (λ n. HasRecord s n i → Edit s (put_record s n i w) (i ∷ [])) e
    (λ h. record { written = put_written s i w h whole l; entries = put_entries s i w h whole; head = λ k b n. put-head s i w h whole k b }) has

pub free-put : (s : List ℕ) (m i : ℕ) (w : List ℕ) → M-of s ≡ m → HasRecord s m i → length w ≡ 20 → header_word (put_record s m i w) free_place ≡ header_word s free_place
free-put s m i w e has whole = subst (λ n. HasRecord s n i → header_word (put_record s n i w) free_place ≡ header_word s free_place) e (λ h. put-head s i w h whole free_place (omega arith)) has

pub edit-pop : (s : List ℕ) (m : ℕ) → ¬ (header_word s free_place ≡ 0) → Edit s (pop_free s m) []
edit-pop s m n = record { written = pop-written s m n; entries = pop-entries s m n; head = λ k b e. pop-head s m k n e }

pub edit-push : (s : List ℕ) (m i : ℕ) → M-of s ≡ m → HasRecord s m i → i ≤ R-of s → Edit s (push_free s m i) (i ∷ [])
edit-push s m i e has l = subst (λ n. HasRecord s n i → Edit s (push_free s n i) (i ∷ [])) e
    (λ h. record { written = push-written s i h l; entries = push-entries s i h; head = λ k b n. push-head s i h k b n }) has

-- One record more, with M as it was at the start.
pub edit-more : (s s' W : List ℕ) → Edit s s' W → (i : ℕ) (w : List ℕ) → HasRecord s (M-of s) i → length w ≡ 20 → i ≤ R-of s → Edit s (put_record s' (M-of s) i w) (W ++ (i ∷ []))
edit-more s s' W E i w has whole l =
    edit-then s s' (put_record s' (M-of s) i w) W (i ∷ []) E
    (edit-put s' (M-of s) i w E.written.entries (has_kept has E.written.long) whole (omega (arith, l, E.written.records)))

pub free_more : (s s' W : List ℕ) → Edit s s' W → (i : ℕ) (w : List ℕ) → HasRecord s (M-of s) i → length w ≡ 20 → header_word (put_record s' (M-of s) i w) free_place ≡ header_word s' free_place
free_more s s' W E i w has whole = free-put s' (M-of s) i w E.written.entries (has_kept has E.written.long) whole

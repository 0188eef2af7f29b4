-- The parts of the meaning, each with the words that it is read from: entries, tree, free records, sessions; and laws of entries.
use Rattle.std.specs.Prelude.{◌≡◌, refl, List, ◌∷◌, ℕ, zero, suc, ◌+◌, ◌≤◌, ◌<◌, length, get_or, set}
use Rattle.std.proofs.Common.{sym, ap, ap₂, ◌∙◌, arith}
use Rattle.words.specs.Header.{header_word, root_place, free_place}
use Rattle.words.specs.Entries.{entry_word}
use Rattle.sessions.specs.declared.Session.{Session}
use Rattle.machine.specs.State.{Entry, Root, State, top, no_entry, entry_of}
use Rattle.meaning.specs.Reading.{chain, read_tree, erase, sessions_of, entries_of, M-of, R-of, height_of, tree_of, meaning}

-- ---- the parts

abbrev pub entry_at : List ℕ → ℕ → Entry
entry_at s e = record { value = entry_word s e 0; share = entry_word s e 1; exclusive = entry_word s e 2 }

-- The tree of a root record.
unfoldable pub root_from : List ℕ → ℕ → ℕ → ℕ → ℕ → Root
root_from s m r h i = record { height = h; node = erase (suc h) (read_tree s m r (suc h) i top) }

-- The state that is read by the header's words: M, R, height, root and first free record.
unfoldable pub state_from : List ℕ → List Session → (m r h i f : ℕ) → State
state_from s t m r h i f = record { entries = entries_of s 1 m; root = root_from s m r h i; free = length (chain s m r f); table = sessions_of s m r 0 t; records = r }

pub meaning-from : (s : List ℕ) (t : List Session) → meaning s t ≡ state_from s t (M-of s) (R-of s) (height_of s) (header_word s root_place) (header_word s free_place)
unfolding meaning tree_of state_from root_from
meaning-from s t = refl

pub entries-are : (s : List ℕ) (t : List Session) → (meaning s t).entries ≡ entries_of s 1 (M-of s)
unfolding meaning
entries-are s t = refl

-- ---- entries

module _ (s s' : List ℕ) where
  pub entries_same : (e n : ℕ) → ((d : ℕ) → e ≤ d → d < e + n → entry_at s d ≡ entry_at s' d) → entries_of s' e n ≡ entries_of s e n
  entries_same e zero h = refl
  entries_same e (suc n) h =
      ap₂ (λ x l. x ∷ l) (sym (h e (omega arith) (omega arith))) (entries_same (suc e) n (λ d a b. h d (omega arith) (omega arith)))

  entries-put : (e n i : ℕ) → i < n → ((d : ℕ) → e ≤ d → d < e + n → (d ≡ e + i → ⊥) → entry_at s d ≡ entry_at s' d)
      → entries_of s' e n ≡ set (entries_of s e n) i (entry_at s' (e + i))
  entries-put e zero i k h = absurd (omega arith)
  entries-put e (suc n) zero k h =
      ap₂ (λ x l. x ∷ l) (ap (entry_at s') (omega arith)) (entries_same (suc e) n (λ d a b. h d (omega arith) (omega arith) (λ q. omega arith)))
  entries-put e (suc n) (suc i) k h =
      ap₂ (λ x l. x ∷ l) (sym (h e (omega arith) (omega arith) (λ q. omega arith)))
      (entries-put (suc e) n i (omega arith) (λ d a b q. h d (omega arith) (omega arith) (λ z. q (omega arith)))
      ∙ ap (λ j. set (entries_of s (suc e) n) i (entry_at s' j)) (omega arith))

  -- One entry is another, all others are the same.
  pub entries-set : (m i : ℕ) → i < m → ((d : ℕ) → 1 ≤ d → d ≤ m → (d ≡ suc i → ⊥) → entry_at s d ≡ entry_at s' d)
      → entries_of s' 1 m ≡ set (entries_of s 1 m) i (entry_at s' (suc i))
  entries-set m i k h =
      entries-put 1 m i k (λ d a b q. h d a (omega arith) (λ z. q (omega arith))) ∙ ap (λ j. set (entries_of s 1 m) i (entry_at s' j)) (omega arith)

entries-get : (s : List ℕ) (e n i : ℕ) → i < n → get_or (entries_of s e n) i no_entry ≡ entry_at s (e + i)
entries-get s e zero i k = absurd (omega arith)
entries-get s e (suc n) zero k = ap (entry_at s) (omega arith)
entries-get s e (suc n) (suc i) k = entries-get s (suc e) n i (omega arith) ∙ ap (entry_at s) (omega arith)

pub entries-many : (s : List ℕ) (e n : ℕ) → length (entries_of s e n) ≡ n
entries-many s e zero = refl
entries-many s e (suc n) = ap suc (entries-many s (suc e) n)

pub entry-of : (s : List ℕ) (t : List Session) (i : ℕ) → i < M-of s → entry_of (suc i) (meaning s t) ≡ entry_at s (suc i)
unfolding entry_of meaning
entry-of s t i k = entries-get s 1 (M-of s) i k ∙ ap (entry_at s) (omega arith)

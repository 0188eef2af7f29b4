-- The store after a session has left the words of holders.
use Rattle.std.specs.Prelude.{cond, List, ℕ, zero, suc, ◌+◌, ◌*◌, ◌≤◌, eqb, length}
use Rattle.words.specs.Store.{entry_words, word_of}
use Rattle.words.specs.Entries.{entry_word, put_entry_word}
use Rattle.locks.specs.Holders.{word_bits, left_by}
use Rattle.groups.specs.declared.Descriptor.{Descriptor}
use Rattle.groups.specs.Descriptor.{descriptor_at, put_descriptor, with_holders}

-- p has a bit in a word of holders
pub record IsSession (p : ℕ) : Type 0 where
  pub least : 1 ≤ p
  pub most : p ≤ word_bits

-- the store has entries 1 to m
pub record HasEntries (s : List ℕ) (m : ℕ) : Type 0 where
  pub entries : m ≤ 1024
  pub inside : 16 + entry_words * m ≤ length s

-- session p leaves entry e
unfoldable pub leave_entry : List ℕ → ℕ → ℕ → List ℕ
leave_entry s p e = put_entry_word (put_entry_word s e 1 (left_by p (entry_word s e 1))) e 2 (left_by p (entry_word s e 2))

-- and entries 1 to n
unfoldable pub leave_entries : List ℕ → ℕ → ℕ → List ℕ
leave_entries s p zero = s
leave_entries s p (suc n) = leave_entry (leave_entries s p n) p (suc n)

-- a descriptor that session p has left
unfoldable pub left_descriptor : ℕ → Descriptor → Descriptor
left_descriptor p d = with_holders d (left_by p d.locate) (left_by p d.update) (left_by p d.gap)

-- session p leaves the descriptor at record i
unfoldable pub leave_group : List ℕ → ℕ → ℕ → ℕ → List ℕ
leave_group s m p i = put_descriptor s m i (left_descriptor p (descriptor_at s m i))

-- and every one from record i on, at most n of them
unfoldable pub leave_groups : List ℕ → ℕ → ℕ → ℕ → ℕ → List ℕ
leave_groups s m p zero i = s
leave_groups s m p (suc n) i = cond (eqb i 0) s (leave_groups (leave_group s m p i) m p n (word_of s m i 0))

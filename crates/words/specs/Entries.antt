-- The words of the entries, numbered from 1: field 0 is the value, 1 the share holders, 2 the exclusive holders.
use Rattle.std.specs.Prelude.{List, ℕ, ◌+◌, ◌-◌, ◌*◌, ◌≤◌, get_or, set, length}
use Rattle.words.specs.Store.{entry_words}

abbrev pub entry_place : ℕ → ℕ → ℕ
entry_place e field = 16 + entry_words * (e - 1) + field

-- the store has an entry e
pub record HasEntry (s : List ℕ) (e : ℕ) : Type 0 where
  pub first : 1 ≤ e
  pub last : e ≤ 1024
  pub inside : 16 + entry_words * e ≤ length s

-- a word of entry e, and the store with another in its place
unfoldable pub entry_word : List ℕ → ℕ → ℕ → ℕ
entry_word s e field = get_or s (entry_place e field) 0

unfoldable pub put_entry_word : List ℕ → ℕ → ℕ → ℕ → List ℕ
put_entry_word s e field w = set s (entry_place e field) w

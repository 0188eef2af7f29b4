-- The sizes of a store: the words of an entry, and how many records there are by the length. The machine rests on these too.
use Rattle.std.specs.Prelude.{ℕ, ◌+◌, ◌-◌, ◌*◌, ◌≤◌, ◌/◌, min}
use Rattle.std.proofs.Common.{div-add-mod', arith}

-- how many words an entry has
abbrev pub entry_words : ℕ
entry_words = 3

-- R by the length of the store
abbrev pub records_for : ℕ → ℕ → ℕ
records_for m words = min ((words - (16 + entry_words * m)) / 20) 4096

-- a store with a record has its entries and its records
pub records-inside : (m words : ℕ) → 1 ≤ records_for m words → 16 + entry_words * m + 20 * records_for m words ≤ words
records-inside m words h = let q = div-add-mod' (words - (16 + entry_words * m)) 20 in omega arith

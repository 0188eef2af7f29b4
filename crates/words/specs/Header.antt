-- The header: the first 16 words of a store, six of them named.
use Rattle.std.specs.Prelude.{List, ℕ, get_or, set}

-- a header word, and the store with another in its place
abbrev pub header_word : List ℕ → ℕ → ℕ
header_word s k = get_or s k 0

abbrev pub put_header_word : List ℕ → ℕ → ℕ → List ℕ
put_header_word s k w = set s k w

-- M, R, the root node's record, the levels of nodes, the record of the descriptor of key 0, the first free record
abbrev pub entries_place : ℕ
entries_place = 0

abbrev pub records_place : ℕ
records_place = 1

abbrev pub root_place : ℕ
root_place = 2

abbrev pub height_place : ℕ
height_place = 3

abbrev pub first_place : ℕ
first_place = 4

abbrev pub free_place : ℕ
free_place = 5

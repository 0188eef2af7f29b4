-- Holders words and who is in the way (document 01, "Long locks"). In a holders word, session s is bit s - 1.
use Rattle.std.specs.Prelude.{Bool, false, cond, not, ◌&&◌, ◌||◌, List, [], ◌∷◌, ℕ, zero, suc, ◌+◌, ◌*◌, ◌/◌, ◌%◌, eqb}
use Rattle.std.specs.Int.Bits.{bit_or}
use Rattle.locks.specs.Rule.{agrees_of}

-- How many sessions there are.
abbrev pub width : ℕ
width = 16

-- How many bits a word has.
abbrev pub word_bits : ℕ
word_bits = 32

-- Bit k of a word, the word with it set, the word with it cleared.
unfoldable pub bit_of : ℕ → ℕ → ℕ
bit_of w zero = w % 2
bit_of w (suc k) = bit_of (w / 2) k

unfoldable pub including : ℕ → ℕ → ℕ
including w zero = w / 2 * 2 + 1
including w (suc k) = including (w / 2) k * 2 + w % 2

unfoldable pub without : ℕ → ℕ → ℕ
without w zero = w / 2 * 2
without w (suc k) = without (w / 2) k * 2 + w % 2

-- Session s holds; s comes to hold; s holds no more. Party 0 never holds.
abbrev pub holds : ℕ → ℕ → Bool
holds w zero = false
holds w (suc k) = eqb (bit_of w k) 1

abbrev pub held_by : ℕ → ℕ → ℕ
held_by zero w = w
held_by (suc k) w = including w k

abbrev pub left_by : ℕ → ℕ → ℕ
left_by zero w = w
left_by (suc k) w = without w k

-- n numbers from k on.
abbrev pub count_from : ℕ → ℕ → List ℕ
count_from k zero = []
count_from k (suc n) = k ∷ count_from (suc k) n

abbrev pub filter : {A : Type 0} → (A → Bool) → List A → List A
filter f [] = []
filter f (x ∷ l) = let rest = filter f l in cond (f x) (x ∷ rest) rest

-- The sessions from 1 to n that hold, rising.
unfoldable pub holders : ℕ → ℕ → List ℕ
holders n w = filter (holds w) (count_from 1 n)

-- Session t is in the way of session s, which asks for a mode, where the holders in the weak mode (share, locate) and in the strong mode
-- (exclusive, update) are given.
abbrev pub in_the_way : ℕ → ℕ → ℕ → ℕ → ℕ → ℕ → Bool
in_the_way kind asked s weak strong t =
    not (eqb t s) && ((holds weak t && not (agrees_of kind 0 asked)) || (holds strong t && not (agrees_of kind 1 asked)))

-- The other sessions from 1 to n whose long lock conflicts, rising.
unfoldable pub blockers : ℕ → ℕ → ℕ → ℕ → ℕ → ℕ → List ℕ
blockers n kind asked s weak strong = filter (in_the_way kind asked s weak strong) (count_from 1 n)

-- The first of a list of sessions, 0 for none.
abbrev pub first_of : List ℕ → ℕ
first_of [] = 0
first_of (t ∷ l) = t

-- The first n of a list, and 0 in the places that are left.
unfoldable pub padded : ℕ → List ℕ → List ℕ
padded zero l = []
padded (suc n) [] = 0 ∷ padded n []
padded (suc n) (x ∷ l) = x ∷ padded n l

-- The sessions but s that hold in a mode which conflicts with the mode asked, as a holders word.
unfoldable pub conflicts : ℕ → ℕ → ℕ → ℕ → ℕ → ℕ
conflicts kind asked s weak strong = left_by s (bit_or (cond (agrees_of kind 0 asked) 0 weak) (cond (agrees_of kind 1 asked) 0 strong))

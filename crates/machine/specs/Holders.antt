-- Holders words and the lock rule (document 01, "Long locks"). In a holders word, session s is bit s - 1.
use Rattle.std.specs.Prelude.{Bool, false, cond, not, ◌&&◌, ◌||◌, List, [], ◌∷◌, suc, ◌-◌, ℕ, eqb}
use Rattle.serial.specs.Locks.{Kind, Mode, weak, strong, Table}
-- Bits of holders words, and how many sessions there are: the lock crate's.
unfoldable pub use Rattle.locks.specs.Holders.{bit_of, including, without}
pub use Rattle.locks.specs.Holders.{width, holds, held_by, left_by, count_from, filter}

-- Session t is in the way of session s, which asks for mode m, by a table, where weak and strong holders are given.
abbrev pub in_the_way : Table → Kind → Mode → ℕ → ℕ → ℕ → ℕ → Bool
in_the_way rule k m s hw hs t = not (eqb t s) && ((holds hw t && not (rule k weak m)) || (holds hs t && not (rule k strong m)))

-- The other sessions whose long lock conflicts, rising.
unfoldable pub blockers : Table → Kind → Mode → ℕ → ℕ → ℕ → List ℕ
blockers rule k m s hw hs = filter (in_the_way rule k m s hw hs) (count_from 1 width)

-- A latch word (document 01: short-lock word) is 0, or the number of the party that has the latch and 1.
abbrev pub latch_word : ℕ → ℕ
latch_word p = suc p

abbrev pub elem : ℕ → List ℕ → Bool
elem x [] = false
elem x (y ∷ l) = eqb x y || elem x l

abbrev pub add_latch : ℕ → ℕ → List ℕ → List ℕ
add_latch p w l = cond (eqb w 0 || eqb w (latch_word p) || elem (w - 1) l) l ((w - 1) ∷ l)

-- The other parties that have one of these latch words.
unfoldable pub latch_blockers : ℕ → List ℕ → List ℕ
latch_blockers p [] = []
latch_blockers p (w ∷ ws) = add_latch p w (latch_blockers p ws)

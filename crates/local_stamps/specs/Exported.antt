-- The two conversions on plain numbers (M-103): what each answers, and what the lent bytes hold then.
use Rattle.std.specs.Prelude.{◌≡◌, Bool, cond, ◌||◌, ◌&&◌, List, [], ◌∷◌, ℕ, ◌/◌, ◌%◌, eqb, length}
use Rattle.stamps.specs.declared.Stamp.{Stamp}
use Rattle.stamps.specs.Stamps.{covered, stamp, reading, number}

-- the base offsets that the calls serve
unfoldable pub served : ℕ → Bool
served b = eqb b 0 || eqb b 60 || eqb b 120

-- from a stamp: the UTC minute, or 18, 19, 20
unfoldable pub to_utc : ℕ → Stamp → ℕ
to_utc b s = cond (served b) (number (reading b s)) 18

-- a stamp in seven bytes, the year in two, high byte first
unfoldable pub bytes_of : Stamp → List ℕ
bytes_of s = s.year / 256 ∷ s.year % 256 ∷ s.month ∷ s.day ∷ s.hour ∷ s.minute ∷ s.mark ∷ []

-- what the second call takes: a base offset, a UTC minute and a number of lent bytes
unfoldable pub accepts : ℕ → ℕ → ℕ → Bool
accepts b t n = served b && (covered t && eqb n 7)

-- to a stamp: r answers, and old is what was lent, new what is there then
pub record Filled (b t : ℕ) (old : List ℕ) (r : ℕ) (new : List ℕ) : Type 0 where
  pub answers : r ≡ cond (accepts b t (length old)) 0 18
  pub leaves : new ≡ cond (accepts b t (length old)) (bytes_of (stamp b t)) old

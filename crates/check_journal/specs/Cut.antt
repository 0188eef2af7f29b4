-- What is not read does not matter.
use Rattle.std.specs.Prelude.{◌≡◌, refl, Bool, true, false, List, ℕ, ◌<◌, leb, length, take}
use Rattle.std.proofs.Common.{sym, ◌∙◌, ap, arith, leb-true, leb-false, take_all, length-take-le}
use Rattle.journal_lines.specs.Journal.{whole, lines, verdict_of}
use Rattle.journal_lines.specs.Walks.{whole_is}

-- How many bytes of the input are held: one more than 2,048 records have.
abbrev pub room : ℕ
room = 65537

-- Whatever fills the room is 15.
pub too_long : (bs : List ℕ) → 65536 < length bs → verdict_of bs ≡ 15
unfolding lines verdict_of
too_long bs h = go (whole bs) refl
  where
    go : (b : Bool) → whole bs ≡ b → verdict_of bs ≡ 15
    go true e = let w = whole_is bs e in absurd (omega (arith, w))
    go false e = rw e refl

-- The verdict on what is held is that on the whole input.
pub cut : (bs : List ℕ) → verdict_of (take room bs) ≡ verdict_of bs
cut bs = go (leb (length bs) room) refl
  where
    go : (b : Bool) → leb (length bs) room ≡ b → verdict_of (take room bs) ≡ verdict_of bs
    go true e = ap verdict_of (take_all room bs (leb-true (length bs) room e))
    go false e =
        let h = leb-false (length bs) room e in
        let l = length-take-le room bs (omega (arith, h)) in
        too_long (take room bs) (omega (arith, l)) ∙ sym (too_long bs (omega (arith, h)))

-- Document 02's example in the numbers and bytes that C sees: on 27 October 2024 at offset 60, 02:30 occurs twice.
use Rattle.std.specs.Prelude.{◌≡◌, refl, List, [], ◌∷◌, ℕ, length}
use Rattle.std.proofs.Common.{ap, ◌∙◌, arith}
use Rattle.stamps.specs.Examples.{half_past, twice, twice-back}
use Rattle.local_stamps.specs.Exported.{served, to_utc, bytes_of, Filled}
use Rattle.local_stamps.specs.Answers.{by-reading, accepted-exactly, holds-stamp}

pub numbers : (to_utc 60 (half_past 0) ≡ 20) × (to_utc 60 (half_past 1) ≡ 28833150) × (to_utc 60 (half_past 2) ≡ 28833210)
unfolding served
numbers = (by-reading 60 (half_past 0) refl twice.0, by-reading 60 (half_past 1) refl twice.1, by-reading 60 (half_past 2) refl twice.2)

-- the bytes of 02:30 in summer, year 2024 as 7 and 232
pub bytes : {r : ℕ} {old new : List ℕ} → Filled 60 28833150 old r new → length old ≡ 7 → (r ≡ 0) × (new ≡ 7 ∷ 232 ∷ 10 ∷ 27 ∷ 2 ∷ 30 ∷ 1 ∷ [])
unfolding served bytes_of
bytes f seven = let z = (accepted-exactly f).1 (refl, omega arith, omega arith, seven) in (z, holds-stamp f z ∙ ap bytes_of twice-back.0)

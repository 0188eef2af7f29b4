-- The walk of the groups asks only what is filed at each place.
use mathlib.Core.Path.{◌≡◌, refl, ap}
use mathlib.Core.List.{List}
use mathlib.Core.Bool.{false, cond}
use Prim.Native.Nat.{ℕ, zero, suc, ◌+◌}
use lib.ListN.{get_or}
use Rattle.sessions.specs.declared.Session.{Session}
use Rattle.marks.specs.Trail.{Trail, ends, then_trail}
use Rattle.lists.proofs.SameFiles.{FiledAs, lists_same}
use Rattle.passing.specs.declared.Asked.{Asked}
use Rattle.passing.specs.Asked.{asked_at}
use Rattle.holdings.specs.Holdings.{key_of, key_at, descriptor_ok, group_one, groups_from, all_groups}

module _ (f g : List ℕ) (same : FiledAs f g) (s order tally : List ℕ) (m r begun : ℕ) (t : List Session) (count : ℕ) where
  one_same : (asked : Asked) (seen l : List ℕ) (d left : ℕ) → group_one s tally f m r begun asked seen l d left ≡ group_one s tally g m r begun asked seen l d left
  unfolding group_one
  one_same asked seen l d left =
      ap (λ (v : Trail (List ℕ)). cond (descriptor_ok s tally m r begun asked d) v (ends false left seen l)) (lists_same f g same s m r d seen l left)

  from-same : (n k : ℕ) (seen l : List ℕ) (left : ℕ)
      → groups_from s order tally f m r begun t count seen l left k n ≡ groups_from s order tally g m r begun t count seen l left k n
  unfolding groups_from
  from-same zero k seen l left = refl
  from-same (suc n) k seen l left =
      λ j.
      then_trail
      (one_same (asked_at t (key_of s m r (get_or order k 0)) (key_at s order m r count (k + 1))) seen l (get_or order k 0) left j)
      (λ v. from-same n (k + 1) v.seen v.held v.left j)

  pub groups-same : (seen l : List ℕ) (left : ℕ) → all_groups s order tally f m r begun t count seen l left ≡ all_groups s order tally g m r begun t count seen l left
  unfolding all_groups
  groups-same seen l left = from-same count 0 seen l left

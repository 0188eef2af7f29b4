-- Undoing asks only what is filed at each place: files that agree there are as good as each other.
use mathlib.Core.Path.{◌≡◌, refl, ap, ◌∙◌}
use mathlib.Core.List.{List}
use mathlib.Core.Bool.{true, false, cond}
use Prim.Native.Nat.{ℕ, zero, suc, ◌+◌}
use lib.Dec.{eqb, leb}
use lib.ListN.{get_or}
use Rattle.groups.specs.Descriptor.{descriptor_at}
use Rattle.marks.specs.Trail.{Turn, Trail, turn, then_turn, ends}
use Rattle.lists.specs.Lists.{Held, members_from, undo_one, undo_from, after_members, group_lists}

-- at each place the same is filed
abbrev pub FiledAs : List ℕ → List ℕ → Type 0
FiledAs f g = (k : ℕ) → get_or f k 0 ≡ get_or g k 0

module _ (f g : List ℕ) (same : FiledAs f g) (s : List ℕ) (m r d : ℕ) where
  undo-same : (n : ℕ) (l : List ℕ) (i : ℕ) → undo_from s f m r d l i n ≡ undo_from s g m r d l i n
  unfolding undo_from
  undo-same zero l i = refl
  undo-same (suc n) l i =
      λ j.
      cond (eqb i 0) (turn true l)
      (cond (leb i r)
      (then_turn (undo_one s l m d i) (λ k. (ap (λ (x : ℕ). undo_from s f m r d k x n) (same (8194 + i)) ∙ undo-same n k (get_or g (8194 + i) 0)) j))
      (turn false l))

  after_same : (v : Trail Held) → after_members s f m r d v ≡ after_members s g m r d v
  unfolding after_members
  after_same v =
      ap
      (λ (u : Turn (List ℕ)). cond v.ok (ends u.ok v.left v.seen u.held) (ends false v.left v.seen v.held.list))
      (ap (λ (x : ℕ). undo_from s f m r d v.held.list x r) (same (4097 + d)) ∙ undo-same r v.held.list (get_or g (4097 + d) 0))

  pub lists_same : (seen l : List ℕ) (left : ℕ) → group_lists s f m r seen l d left ≡ group_lists s g m r seen l d left
  unfolding group_lists
  lists_same seen l left = after_same (members_from s m r d seen l (descriptor_at s m d).first left)

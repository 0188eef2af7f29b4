-- The walk of all groups, of kind 1: their holders, their pins, and what is asked of them.
use Rattle.std.specs.Prelude.{List, Bool, true, false, cond, not, ◌&&◌, ℕ, zero, suc, ◌+◌, eqb, ltb, leb, get_or}
use Rattle.groups.specs.declared.Descriptor.{Descriptor}
use Rattle.groups.specs.Descriptor.{descriptor_at}
use Rattle.sessions.specs.declared.Session.{Session}
use Rattle.marks.specs.Trail.{Trail, ends, then_trail}
use Rattle.lists.specs.Lists.{group_lists}
use Rattle.holders.specs.Holders.{within, holders_ok}
use Rattle.passing.specs.declared.Asked.{Asked}
use Rattle.passing.specs.Asked.{asked_at}

-- a descriptor's words: its holders are begun and agree, its pins are as counted, and each locate that passed its key or its gap holds it
unfoldable pub group_ok : Descriptor → ℕ → Asked → ℕ → Bool
group_ok d begun asked pinned =
    holders_ok 1 d.locate d.update begun && within d.gap begun && eqb d.pins pinned && within asked.locate d.locate
    && within asked.gap d.gap

-- descriptor d's key; 0 where it is none of the store's
unfoldable pub key_of : List ℕ → ℕ → ℕ → ℕ → ℕ
key_of s m r d = cond (not (eqb d 0) && leb d r) (descriptor_at s m d).key 0

-- the key at place k of the order, 0 where there is none
unfoldable pub key_at : List ℕ → List ℕ → ℕ → ℕ → ℕ → ℕ → ℕ
key_at s order m r count k = cond (ltb k count) (key_of s m r (get_or order k 0)) 0

-- descriptor d is one of the store's, and its words are right
unfoldable pub descriptor_ok : List ℕ → List ℕ → ℕ → ℕ → ℕ → Asked → ℕ → Bool
descriptor_ok s tally m r begun asked d = not (eqb d 0) && leb d r && group_ok (descriptor_at s m d) begun asked (get_or tally d 0)

-- group d: its own words, its members, its undo records
unfoldable pub group_one : List ℕ → List ℕ → List ℕ → ℕ → ℕ → ℕ → Asked → List ℕ → List ℕ → ℕ → ℕ → Trail (List ℕ)
group_one s tally f m r begun asked seen l d left =
    cond (descriptor_ok s tally m r begun asked d) (group_lists s f m r seen l d left) (ends false left seen l)

-- the groups from place k of the order on, n of them
unfoldable pub groups_from : List ℕ → List ℕ → List ℕ → List ℕ → ℕ → ℕ → ℕ → List Session → ℕ → List ℕ → List ℕ → ℕ → ℕ → ℕ → Trail (List ℕ)
groups_from s order tally f m r begun t count seen l left k zero = ends true left seen l
groups_from s order tally f m r begun t count seen l left k (suc n) =
    then_trail
    (group_one s tally f m r begun
    (asked_at t (key_of s m r (get_or order k 0)) (key_at s order m r count (k + 1)))
    seen l (get_or order k 0) left)
    (λ v. groups_from s order tally f m r begun t count v.seen v.held v.left (k + 1) n)

unfoldable pub all_groups : List ℕ → List ℕ → List ℕ → List ℕ → ℕ → ℕ → ℕ → List Session → ℕ → List ℕ → List ℕ → ℕ → Trail (List ℕ)
all_groups s order tally f m r begun t count seen l left = groups_from s order tally f m r begun t count seen l left 0 count

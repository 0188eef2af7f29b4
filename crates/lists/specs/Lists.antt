-- A group's members and undo records: no entry is listed twice, and the undo records can be undone, newest first.
use Rattle.std.specs.Prelude.{◌≡◌, Result, List, true, false, cond, ◌&&◌, ℕ, zero, suc, ◌+◌, eqb, leb, get_or, set, length}
use Rattle.groups.specs.Descriptor.{descriptor_at}
use Rattle.groups.specs.Membership.{membership_at}
use Rattle.undos.specs.Undo.{undo_at}
use Rattle.marks.specs.Marks.{entry_ok, membership_mark, left_if}
use Rattle.marks.specs.Trail.{Turn, Trail, turn, then_turn, ends, chain_of}

-- ---- who lists an entry now

-- place e has the descriptor of the group that listed entry e last, 0 for none, and place 1025 + e the record by which
pub record Listing (l : List ℕ) : Type 0 where
  pub size : length l ≡ 2050

-- entry e comes into group d by record i, if it is not in it
unfoldable pub list_entry : List ℕ → ℕ → ℕ → ℕ → Turn (List ℕ)
list_entry l d e i = cond (eqb (get_or l e 0) d) (turn false l) (turn true (set (set l e d) (1025 + e) i))

-- entry e goes out of group d, if it is in it by record i
unfoldable pub unlist_entry : List ℕ → ℕ → ℕ → ℕ → Turn (List ℕ)
unlist_entry l d e i = cond (eqb (get_or l e 0) d && eqb (get_or l (1025 + e) 0) i) (turn true (set l e 0)) (turn false l)

-- ---- members

-- membership i of group d names the member before it, and an entry that is not in the group yet
unfoldable pub member_one : List ℕ → List ℕ → ℕ → ℕ → ℕ → ℕ → Turn (List ℕ)
member_one s l m d i before =
    cond (eqb (membership_at s m i).before before && entry_ok (membership_at s m i).entry m)
    (list_entry l d (membership_at s m i).entry i)
    (turn false l)

-- what a walk of members keeps: who lists, and the member before
pub record Held : Type 0 where
  pub list : List ℕ
  pub before : ℕ

abbrev pub holding : List ℕ → ℕ → Held
holding l b = record { list = l; before = b }

unfoldable pub member_turn : List ℕ → ℕ → ℕ → List ℕ → Held → ℕ → Turn Held
member_turn s m d seen a i =
    turn (member_one s a.list m d i a.before).ok (holding (member_one s a.list m d i a.before).held i)

-- the members of group d from record i on
unfoldable pub members_from : List ℕ → ℕ → ℕ → ℕ → List ℕ → List ℕ → ℕ → ℕ → Trail Held
members_from s m r d seen l i left = chain_of (λ j. (membership_at s m j).next) r membership_mark (member_turn s m d) seen (holding l 0) i left

-- what a function answers and leaves is what the walk of members says
pub record Listed (v : Trail Held) (w : Result ℕ ℕ) (seen : List ℕ) (l : List ℕ) : Type 0 where
  pub left : w ≡ left_if v.ok v.left
  pub marks : seen ≡ v.seen
  pub list : l ≡ v.held.list

-- ---- undoing

-- undo record i of group d: an entry that was added goes out, by the record that it names; one that was taken out comes back, by
-- this record
unfoldable pub undo_one : List ℕ → List ℕ → ℕ → ℕ → ℕ → Turn (List ℕ)
undo_one s l m d i =
    cond (entry_ok (undo_at s m i).entry m)
    (cond (eqb (undo_at s m i).kind 2) (unlist_entry l d (undo_at s m i).entry (undo_at s m i).saved) (list_entry l d (undo_at s m i).entry i))
    (turn false l)

-- the undo records of group d from record i on, at most n, as they are filed (place 8194 + i: the one after record i)
unfoldable pub undo_from : List ℕ → List ℕ → ℕ → ℕ → ℕ → List ℕ → ℕ → ℕ → Turn (List ℕ)
undo_from s f m r d l i zero = turn (eqb i 0) l
undo_from s f m r d l i (suc n) =
    cond (eqb i 0) (turn true l)
    (cond (leb i r) (then_turn (undo_one s l m d i) (λ k. undo_from s f m r d k (get_or f (8194 + i) 0) n)) (turn false l))

-- ---- a group

-- after its members, from the first undo record that is filed
unfoldable pub after_members : List ℕ → List ℕ → ℕ → ℕ → ℕ → Trail Held → Trail (List ℕ)
after_members s f m r d v =
    cond v.ok
    (ends
    (undo_from s f m r d v.held.list (get_or f (4097 + d) 0) r).ok
    v.left
    v.seen
    (undo_from s f m r d v.held.list (get_or f (4097 + d) 0) r).held)
    (ends false v.left v.seen v.held.list)

-- group d: its members, and then its undo records
unfoldable pub group_lists : List ℕ → List ℕ → ℕ → ℕ → List ℕ → List ℕ → ℕ → ℕ → Trail (List ℕ)
group_lists s f m r seen l d left = after_members s f m r d (members_from s m r d seen l (descriptor_at s m d).first left)

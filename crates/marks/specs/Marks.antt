-- Tests of words, and the marks of records that were met: place i of the marks is 0, or what record i was reached as.
use Rattle.std.specs.Prelude.{◌≡◌, Result, Ok, Err, List, Bool, true, false, cond, not, ◌&&◌, ℕ, suc, ◌+◌, ◌-◌, ◌*◌, ◌≤◌, eqb, leb, get_or, set, length}
use Rattle.words.specs.Store.{entry_words}
use Rattle.marks.specs.declared.Mark.{Mark}
use Rattle.marks.specs.declared.Mark.TheVariants.{Node, Descriptor, Membership, Undo, Free}

-- the store has m entries and the records 1 to r
pub record HasRecords (s : List ℕ) (m r : ℕ) : Type 0 where
  pub entries : m ≤ 1024
  pub records : r ≤ 4096
  pub inside : 16 + entry_words * m + 20 * r ≤ length s

-- a key of a group: neither infinity
unfoldable pub key_ok : ℕ → Bool
key_ok key = not (eqb key 0) && not (eqb key 4294967295)

-- an entry of a store of m entries
unfoldable pub entry_ok : ℕ → ℕ → Bool
entry_ok e m = not (eqb e 0) && leb e m

-- what a record was reached as
abbrev pub node_mark : ℕ
node_mark = 1

abbrev pub descriptor_mark : ℕ
descriptor_mark = 2

abbrev pub membership_mark : ℕ
membership_mark = 3

abbrev pub undo_mark : ℕ
undo_mark = 4

abbrev pub free_mark : ℕ
free_mark = 5

abbrev pub mark_number : Mark → ℕ
mark_number Node = node_mark
mark_number Descriptor = descriptor_mark
mark_number Membership = membership_mark
mark_number Undo = undo_mark
mark_number Free = free_mark

-- how a walk stands: whether all is in order so far, how many records may still be met, and the marks
pub record Visit : Type 0 where
  pub ok : Bool
  pub left : ℕ
  pub seen : List ℕ

abbrev pub start : ℕ → List ℕ → Visit
start left seen = record { ok = true; left = left; seen = seen }

-- record i may be met: some may still be, i is one of r records, and it has no mark
unfoldable pub is_new : List ℕ → ℕ → ℕ → ℕ → Bool
is_new seen r i left = not (eqb left 0) && not (eqb i 0) && leb i r && eqb (get_or seen i 0) 0

-- record i is met as one of a kind: marked, or refused
unfoldable pub meet : ℕ → ℕ → Visit → ℕ → Visit
meet r kind v i =
    cond (is_new v.seen r i v.left)
    (record { ok = true; left = v.left - 1; seen = set v.seen i kind })
    (record { ok = false; left = v.left; seen = v.seen })

-- record i was met as one of a kind
unfoldable pub is_met : List ℕ → ℕ → ℕ → ℕ → Bool
is_met seen r i kind = not (eqb i 0) && leb i r && eqb (get_or seen i 0) kind

-- what a function answers: how many records may still be met, as Ok if all is in order, and as Err if not
abbrev pub left_if : Bool → ℕ → Result ℕ ℕ
left_if ok left = cond ok (Ok left) (Err left)

-- what a function answers and leaves is what the visit says
pub record Says (v : Visit) (w : Result ℕ ℕ) (seen : List ℕ) : Type 0 where
  pub left : w ≡ left_if v.ok v.left
  pub marks : seen ≡ v.seen

-- the same, with what is known of a record that was met
pub record Met (r i left : ℕ) (v : Visit) (w : Result ℕ ℕ) (seen : List ℕ) : Type 0 where
  pub says : Says v w seen
  pub inside : (n : ℕ) → w ≡ Ok n → (1 ≤ i) × (i ≤ r)
  pub one : (n : ℕ) → w ≡ Ok n → left ≡ suc n

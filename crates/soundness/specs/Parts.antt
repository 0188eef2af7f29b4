-- What each number of the test of soundness stands for (sound, specs/Faults): the parts of "Sound means" (document 01, and document 02, M-101), in the order in which they are
-- tested. A part has the clauses of `meaning.Sound` that its pass goes through, and speaks of what the parts before it have found in order: the sizes, the tree, the records
-- reached so far.
use Rattle.std.specs.Prelude.{◌≡◌, Bool, true, false, cond, List, ◌++◌, map, ℕ, suc, ◌≤◌, eqb, length}
use Rattle.words.specs.Store.{word_of}
use Rattle.words.specs.Header.{header_word, height_place, first_place, free_place}
use Rattle.sessions.specs.declared.Session.{Session}
use Rattle.sessions.specs.Sessions.{session_at, parties}
use Rattle.sound.specs.Faults.{sizes_fault, entries_fault, zero_fault, tree_fault, requests_fault, latches_fault, undos_fault, groups_fault, free_fault, unreached_fault, orders_fault, asked_fault}
use Rattle.machine.specs.Holders.{width}
use Rattle.machine.specs.Tree.{leaves}
use Rattle.machine.specs.State.{Desc, top, session_of}
use Rattle.machine.specs.Housekeeping.{lvs}
use Rattle.machine.specs.Sound.{times, Shaped, stored_in, ListedTo, pins_in, total, pins_by, cells, Undoable}
use Rattle.meaning.specs.Reading.{chain, Chained, numbers, node_numbers, erase, M-of, R-of, height_of, tree_of, free_chain, meaning}
use Rattle.meaning.specs.Sound.{All, Once, leaves_of, joined, owners, Members, lists, UndoWords}
use Rattle.soundness.specs.SizesPass.{Sizes}
use Rattle.soundness.specs.HeldTests.{EntriesHeld}
use Rattle.soundness.specs.PartyPass.{Worded}
use Rattle.soundness.specs.PartiesPass.{Parties, LatchesMatch}
use Rattle.soundness.specs.UndoNeeds.{Secured}
use Rattle.soundness.specs.GroupsHeld.{GroupsSound}
use Rattle.soundness.specs.Reach.{tree_records, undo_records, member_records, met}
use Rattle.soundness.specs.MarksPass.{Marks}
use Rattle.soundness.specs.OrdersPass.{Orders}

-- A table of a record for each party, of words.
pub record Table (t : List Session) : Type 0 where
  pub seats : length t ≡ suc width
  pub words : (p : ℕ) → p ≤ width → Worded (session_at t p)

-- The records of l lie in 1 to R, and none stands there twice.
pub record Distinct (s : List ℕ) (l : List ℕ) : Type 0 where
  pub inside : All (λ i. (1 ≤ i) × (i ≤ R-of s)) l
  pub once : Once l

-- "Key 0 is stored and has no member": its descriptor is the first of the chain.
pub record ZeroFirst (s : List ℕ) : Type 0 where
  pub some : ¬ (header_word s first_place ≡ 0)
  pub inside : header_word s first_place ≤ R-of s
  pub key : word_of s (M-of s) (header_word s first_place) 1 ≡ 0
  pub empty : word_of s (M-of s) (header_word s first_place) 6 ≡ 0

-- "All leaves are descriptors at one depth, keys rising and chained in that order; boundaries separate sons .., and at a lowest node each is the key of the descriptor before
-- it; a node has 3 to 8 sons .., the root 1 to 8 and never a descriptor"; no record of the tree is reached twice.
pub record TreeInOrder (s : List ℕ) : Type 0 where
  pub rooted : 1 ≤ header_word s height_place
  pub reached : Distinct s (numbers (suc (height_of s)) (tree_of s))
  pub shaped : Shaped (suc (height_of s)) 1 0 top (erase (suc (height_of s)) (tree_of s))
  pub top_free : stored_in top (leaves Desc ℕ (suc (height_of s)) (erase (suc (height_of s)) (tree_of s))) ≡ false
  pub few : All (λ i. word_of s (M-of s) i 1 ≤ 8) (node_numbers (suc (height_of s)) (tree_of s))
  pub chained : Chained s (M-of s) (header_word s first_place) (map (λ l. l.num) (leaves_of s))

-- "Each take-back chain can be undone .. under locks that its session holds": the chains of undo records end, and each record has a kind, an entry of the store and the locks
-- that it needs (`Secured`); none is reached twice, or is one of the tree's.
pub record UndosInOrder (s : List ℕ) (t : List Session) : Type 0 where
  pub ends : (p : ℕ) → suc p ≤ width → Chained s (M-of s) (session_at t (suc p)).undo (chain s (M-of s) (R-of s) (session_at t (suc p)).undo)
  pub secured : (p : ℕ) → suc p ≤ width → All (Secured s (suc p)) (chain s (M-of s) (R-of s) (session_at t (suc p)).undo)
  pub reached : Distinct s (tree_records s t ++ undo_records s t)

-- Of the groups: members, whose records are not reached twice, or before; holders of keys and gaps, and what a locate holds of the keys that it has passed (`GroupsSound`);
-- pins; and "each take-back chain can be undone newest first".
pub record GroupsInOrder (s : List ℕ) (t : List Session) : Type 0 where
  pub listed : ListedTo (length (meaning s t).entries) (lvs (meaning s t))
  pub members : All (λ l. Members s l.num) (leaves_of s)
  pub reached : Distinct s (tree_records s t ++ (undo_records s t ++ member_records s t))
  pub held : GroupsSound s t
  pub pins_match : (k : ℕ) → pins_in k (lvs (meaning s t)) ≡ total (pins_by k) (meaning s t).table
  pub undo_words : (p : ℕ) → suc p ≤ width → UndoWords s (chain s (M-of s) (R-of s) (session_at t (suc p)).undo) (lists s)
  pub undoable : (p : ℕ) → Undoable p (meaning s t) (session_of p (meaning s t)).undos (cells (meaning s t))

-- The free chain ends, and goes to no record that was reached, or that is none.
pub record FreeInOrder (s : List ℕ) (t : List Session) : Type 0 where
  pub ends : Chained s (M-of s) (header_word s free_place) (free_chain s)
  pub reached : Distinct s (met s t)

-- "Every record is reached".
abbrev pub AllReached : List ℕ → List Session → Type 0
AllReached s t = (i : ℕ) → 1 ≤ i → i ≤ R-of s → 1 ≤ times i (joined (owners s t))

-- The length of the table, which stands before the test.
abbrev pub table_fault : ℕ
table_fault = 11

-- Part n. `Sizes` stands in SizesPass, `EntriesHeld` in HeldTests, what is asked of each request in hand (`Parties`) in PartyPass.Party, `LatchesMatch` in PartiesPass,
-- `Orders` in OrdersPass, `Marks` in MarksPass. A number that is no part's asks for nothing.
unfoldable pub Part : ℕ → List ℕ → List Session → Type 0
Part n s t =
    cond (eqb n sizes_fault) (Sizes s)
    (cond (eqb n entries_fault) (EntriesHeld (meaning s t))
    (cond (eqb n zero_fault) (ZeroFirst s)
    (cond (eqb n tree_fault) (TreeInOrder s)
    (cond (eqb n requests_fault) (Parties s t)
    (cond (eqb n latches_fault) (LatchesMatch s t)
    (cond (eqb n undos_fault) (UndosInOrder s t)
    (cond (eqb n groups_fault) (GroupsInOrder s t)
    (cond (eqb n free_fault) (FreeInOrder s t)
    (cond (eqb n unreached_fault) (AllReached s t)
    (cond (eqb n table_fault) (length t ≡ parties)
    (cond (eqb n orders_fault) (Orders s t)
    (cond (eqb n asked_fault) (Marks s t) (Unit {0})))))))))))))

-- All parts,
pub record Parts (s : List ℕ) (t : List Session) : Type 0 where
  pub sizes : Sizes s
  pub entries : EntriesHeld (meaning s t)
  pub zero_first : ZeroFirst s
  pub tree : TreeInOrder s
  pub requests : Parties s t
  pub latches : LatchesMatch s t
  pub undos : UndosInOrder s t
  pub groups : GroupsInOrder s t
  pub free : FreeInOrder s t
  pub all_reached : AllReached s t
  pub seats : length t ≡ parties
  pub orders : Orders s t
  pub marks : Marks s t

-- and each of them by its number.
pub parts-each : (s : List ℕ) (t : List Session) → Parts s t → (n : ℕ) → Part n s t
unfolding Part
parts-each s t P n =
    pick (eqb n sizes_fault) P.sizes
    (pick (eqb n entries_fault) P.entries
    (pick (eqb n zero_fault) P.zero_first
    (pick (eqb n tree_fault) P.tree
    (pick (eqb n requests_fault) P.requests
    (pick (eqb n latches_fault) P.latches
    (pick (eqb n undos_fault) P.undos
    (pick (eqb n groups_fault) P.groups
    (pick (eqb n free_fault) P.free
    (pick (eqb n unreached_fault) P.all_reached
    (pick (eqb n table_fault) P.seats (pick (eqb n orders_fault) P.orders (pick (eqb n asked_fault) P.marks tt))))))))))))
  where
    pick : {A B : Type 0} (b : Bool) → A → B → cond b A B
    pick true x y = x
    pick false x y = y

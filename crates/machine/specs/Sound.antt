-- "Sound means" (document 01), of a state: one field for each clause, in its order and words. What words alone can break holds of every state by its
-- type: the reach of each record, the one depth of leaves, the chain of descriptors.
use Rattle.std.specs.Prelude.{◌≡◌, Bool, true, false, cond, List, [], ◌∷◌, ◌⊎◌, zero, suc, ◌+◌, ◌-◌, ◌≤◌, ◌<◌, ℕ, eqb, length}
use Rattle.std.proofs.Math.Option.{Option, none, some}
use Rattle.serial.specs.Locks.{Kind, Mode, weak, strong, Agree}
use Rattle.serial.specs.Locks as L
use Rattle.machine.specs.Holders.{width, holds, elem, latch_word}
use Rattle.machine.specs.Tree.{Seg, sum_e}
use Rattle.machine.specs.State.{Desc, Tree, Stage, start, enter, change, take, Request, Undo, value, added, taken, Session, State, top, session_of, at}
use Rattle.machine.specs.Descent.{Sons, sons_of}
use Rattle.machine.specs.Steps.{rule, pinned}
use Rattle.machine.specs.Calls.{request_checks}
use Rattle.machine.specs.Gaps.{gaps}
use Rattle.machine.specs.View.{holders, group_in, seen}
use Rattle.machine.specs.Groups.{words}
use Rattle.machine.specs.Housekeeping.{lvs}

-- ---- what is read at a key

-- The gap holders of the highest stored key that is not above k.
unfoldable pub gap_word : ℕ → List Desc → ℕ
gap_word k l = gaps 0 (words l) k

unfoldable pub stored_in : ℕ → List Desc → Bool
stored_in k [] = false
stored_in k (d ∷ ds) = cond (eqb d.key k) true (stored_in k ds)

-- The pins of a key; a key that is not stored has none.
unfoldable pub pins_in : ℕ → List Desc → ℕ
pins_in k [] = 0
pins_in k (d ∷ ds) = cond (eqb d.key k) d.pins (pins_in k ds)

-- ---- every record is reached exactly once

abbrev pub total : {A : Type 0} → (A → ℕ) → List A → ℕ
total f [] = 0
total f (x ∷ l) = f x + total f l

unfoldable pub nodes : (h : ℕ) → Tree h → ℕ
nodes zero d = 0
nodes (suc h) t = suc (sum_e (nodes h) t.sons)

abbrev pub members_many : List Desc → ℕ
members_many l = total (λ d. length d.members) l

abbrev pub undos_many : List Session → ℕ
undos_many l = total (λ t. length t.undos) l

abbrev pub records_used : State → ℕ
records_used s = nodes (suc s.root.height) s.root.node + length (lvs s) + members_many (lvs s) + undos_many s.table

-- ---- keys, boundaries and fanout

-- At a lowest node each boundary is the key of the descriptor before it.
abbrev pub LowestEnds : List (Desc × ℕ) → Type 0
LowestEnds [] = Unit {0}
LowestEnds (p ∷ []) = Unit {0}
LowestEnds (p ∷ q ∷ es) = (p.0.key ≡ p.1) × LowestEnds (q ∷ es)

abbrev pub EndsWell : (h : ℕ) → Sons h → Type 0
EndsWell zero es = LowestEnds es
EndsWell (suc h) es = Unit {0}

-- A tree whose keys lie from lo to hi: boundaries separate sons, a key equal to one lying before it, and a node has least to 8 sons, below the root 3 to 8.
unfoldable pub Shaped : (h least lo hi : ℕ) → Tree h → Type 0
Shaped zero least lo hi d = (lo ≤ d.key) × (d.key ≤ hi)
Shaped (suc h) least lo hi t = (least ≤ sons_of t) × (sons_of t ≤ 8) × EndsWell h t.sons × Seg (Shaped h 3) lo (suc hi) t.sons

-- ---- members

-- Rising, from lo to hi.
abbrev pub UpTo : ℕ → ℕ → List ℕ → Type 0
UpTo lo hi [] = Unit {0}
UpTo lo hi (e ∷ es) = (lo ≤ e) × (e ≤ hi) × UpTo (suc e) hi es

abbrev pub ListedTo : ℕ → List Desc → Type 0
ListedTo m [] = Unit {0}
ListedTo m (d ∷ ds) = UpTo 1 m d.members × ListedTo m ds

-- ---- pins

abbrev pub of_hand : {B : Type 0} → B → (Request → B) → Option Request → B
of_hand z f none = z
of_hand z f (some r) = f r

abbrev pub times : ℕ → List ℕ → ℕ
times k [] = 0
times k (x ∷ l) = cond (eqb x k) 1 0 + times k l

-- How often a party's request in hand pins a key.
abbrev pub pins_by : ℕ → Session → ℕ
pins_by k t = of_hand 0 (λ r. times k (pinned r r.stage)) t.hand

-- ---- latches

unfoldable pub latch_count : ℕ → (h : ℕ) → Tree h → ℕ
latch_count w zero d = 0
latch_count w (suc h) t = cond (eqb t.latch w) 1 0 + sum_e (latch_count w h) t.sons

-- One for a descent that stands at a node.
abbrev pub stands : Stage → ℕ
stands start = 0
stands (enter x) = 0
stands (at x) = 1
stands change = 0
stands (take x) = 0

-- The son on the path to x has P.
abbrev pub OnPath : {A : Type 0} → ℕ → (A → Type 0) → List (A × ℕ) → Type 0
OnPath x P [] = ⊥
OnPath x P (p ∷ es) = ((x ≤ p.1) × P p.0) ⊎ ((p.1 < x) × OnPath x P es)

-- The latch word w is at a node on the path to x, whose height below it and number of sons have F.
unfoldable pub Latched : (w x : ℕ) (F : ℕ → ℕ → Type 0) (h : ℕ) → Tree h → Type 0
Latched w x F zero d = ⊥
Latched w x F (suc h) t = ((t.latch ≡ w) × F h (sons_of t)) ⊎ (¬ (t.latch ≡ w) × OnPath x (Latched w x F h) t.sons)

-- A session's latched node has at most 7 sons; the housekeeper's has at least 4, or is the root and has no lone node for a son.
abbrev pub Room : State → ℕ → ℕ → ℕ → Type 0
Room s zero h n = (4 ≤ n) ⊎ ((s.root.node.latch ≡ latch_word 0) × ((h ≡ 0) ⊎ ¬ (n ≡ 1)))
Room s (suc k) h n = n ≤ 7

-- ---- requests in hand

abbrev pub Passes : List (ℕ × Bool) → Type 0
Passes [] = Unit {0}
Passes (c ∷ cs) = (c.1 ≡ false) × Passes cs

-- An insert or remove past its first step holds its entry's exclusive lock.
pub record Changing (p : ℕ) (s : State) (r : Request) : Type 0 where
  pub code_3_4 : (3 ≤ r.code) × (r.code ≤ 4)
  pub excludes : holders s L.entry strong p r.entry ≡ true

-- A tidy's choice is stored, above its first.
pub record Choice (s : State) (r : Request) (x : ℕ) : Type 0 where
  pub code_6 : r.code ≡ 6
  pub above : r.first < x
  pub stored : stored_in x (lvs s) ≡ true

-- Where a descent goes.
pub data Descends (p : ℕ) (s : State) (r : Request) (x : ℕ) : Type 0 where
  to-change : Changing p s r → x ≡ r.first → Descends p s r x
  to_first : r.code ≡ 5 → x ≡ r.first → Descends p s r x
  to-second : r.code ≡ 5 → x ≡ r.second → Descends p s r x
  to_choice : Choice s r x → Descends p s r x

-- A locate whose next place is x has passed the keys from first to below x: it holds each of them, and the gap at the last one.
pub record Passing (p : ℕ) (s : State) (r : Request) (x : ℕ) : Type 0 where
  pub code_5 : r.code ≡ 5
  pub from_first : r.first ≤ x
  pub to-second : x ≤ r.second
  pub held : (k : ℕ) → r.first ≤ k → k < x → holders s L.group weak p k ≡ true
  pub ahead : r.first < x → holds (gap_word (x - 1) (seen s)) p ≡ true

-- A request stands where its own steps can bring it.
abbrev pub Stands : ℕ → State → Request → Stage → Type 0
Stands p s r start = ¬ (r.code ≡ 5)
Stands p s r (enter x) = Descends p s r x
Stands p s r (at x) = Descends p s r x
Stands p s r change = Changing p s r
Stands p s r (take x) = Passing p s r x

-- ---- undo records

-- Whether an entry is in the group of a key, and that changed for one pair.
abbrev pub Cells : Type 0
Cells = ℕ → ℕ → Bool

abbrev pub cells : State → Cells
cells s k e = elem e (group_in k (seen s))

abbrev pub set_cell : ℕ → ℕ → Bool → Cells → Cells
set_cell k e b c j f = cond (eqb j k) (cond (eqb f e) b (c j f)) (c j f)

-- Session p holds what undoing a change of entry e in the group of k asks for.
pub record Holding (p : ℕ) (s : State) (e k : ℕ) : Type 0 where
  pub entry_held : holders s L.entry strong p e ≡ true
  pub in_store : (1 ≤ e) × (e ≤ length s.entries)
  pub proper_key : 1 ≤ k
  pub key_stored : stored_in k (lvs s) ≡ true
  pub group-held : holders s L.group strong p k ≡ true

-- Undone newest first, from the groups c, each added one finds its member and each taken one finds none, under locks that the session holds.
abbrev pub Undoable : ℕ → State → List Undo → Cells → Type 0
Undoable p s [] c = Unit {0}
Undoable p s (value e v ∷ us) c = (holders s L.entry strong p e ≡ true) × ((1 ≤ e) × (e ≤ length s.entries)) × Undoable p s us c
Undoable p s (added e k ∷ us) c = Holding p s e k × (c k e ≡ true) × Undoable p s us (set_cell k e false c)
Undoable p s (taken e k ∷ us) c = Holding p s e k × (c k e ≡ false) × Undoable p s us (set_cell k e true c)

-- ---- Sound

pub record Sound (s : State) : Type 0 where
  -- The header's M and R are those that format gives, and there is a session record for each party.
  pub sizes : (1 ≤ length s.entries) × (length s.entries ≤ 1024) × (8 ≤ s.records) × (s.records ≤ 4096)
  pub seats : length s.table ≡ suc width
  -- Every record is reached exactly once: free ones, nodes, descriptors, memberships and undo records are R in all.
  pub counted : s.free + records_used s ≡ s.records
  -- Keys rise, boundaries separate sons, at a lowest node each is the key of the descriptor before it; a node has 3 to 8 sons, the root 1 to 8.
  pub shaped : Shaped (suc s.root.height) 1 0 top s.root.node
  -- Key 0 is stored and has no member; the upper infinity is no key.
  pub zero_stored : stored_in 0 (lvs s) ≡ true
  pub zero_empty : group_in 0 (lvs s) ≡ []
  pub top_free : stored_in top (lvs s) ≡ false
  -- No group lists an entry twice, or one outside 1 to M.
  pub listed : ListedTo (length s.entries) (lvs s)
  -- Only begun sessions hold.
  pub only_begun : (k : Kind) (m : Mode) (p z : ℕ) → holders s k m p z ≡ true → (session_of p s).begun ≡ true
  pub only_begun_gaps : (p z : ℕ) → holds (gap_word z (seen s)) p ≡ true → (session_of p s).begun ≡ true
  -- No two holders conflict.
  pub agree : Agree rule (holders s)
  -- A session that is not begun has no request; no party but a begun session has undo records; party 0 has no mark.
  pub unbegun_hand : (p : ℕ) → (session_of (suc p) s).begun ≡ false → (session_of (suc p) s).hand ≡ none
  pub unbegun_undos : (p : ℕ) → (session_of p s).begun ≡ false → (session_of p s).undos ≡ []
  pub zero_unmarked : (session_of 0 s).begun ≡ false
  -- No two begun sessions share a number in the order of begins.
  pub orders : (p q : ℕ) → (session_of p s).begun ≡ true → (session_of q s).begun ≡ true → (session_of p s).order ≡ (session_of q s).order → p ≡ q
  -- Only a begun session with no request in hand is asked.
  pub only_asked : (p : ℕ) → (session_of p s).asked ≡ true → ((session_of p s).begun ≡ true) × ((session_of p s).hand ≡ none)
  -- Pins match the requests in hand; so what is pinned is stored.
  pub pins_match : (k : ℕ) → pins_in k (lvs s) ≡ total (pins_by k) s.table
  -- Latches match the descents: one for each that stands at a node, on the path to its key, and no other.
  pub latches_match : (p : ℕ) → latch_count (latch_word p) (suc s.root.height) s.root.node ≡ of_hand 0 (λ r. stands r.stage) (session_of p s).hand
  pub placed : (p : ℕ) (r : Request) (x : ℕ) → (session_of p s).hand ≡ some r → r.stage ≡ at x
      → Latched (latch_word p) x (Room s p) (suc s.root.height) s.root.node
  -- Each request in hand passes the checks that put makes on code and arguments,
  pub checked : (p : ℕ) (r : Request) → (session_of p s).hand ≡ some r → Passes (request_checks p r.code r.entry r.first r.second s)
  -- and stands where its own steps can bring it.
  pub standing : (p : ℕ) (r : Request) → (session_of p s).hand ≡ some r → Stands p s r r.stage
  -- Each chain of undo records can be undone newest first under locks that its session holds.
  pub undoable : (p : ℕ) → Undoable p s (session_of p s).undos (cells s)

-- ---- Sound in three parts, which different steps disturb

-- The tree's shape and the count of records.
pub record Formed (s : State) : Type 0 where
  pub shaped : Shaped (suc s.root.height) 1 0 top s.root.node
  pub counted : s.free + records_used s ≡ s.records

-- Latches.
pub record Latches (s : State) : Type 0 where
  pub latches_match : (p : ℕ) → latch_count (latch_word p) (suc s.root.height) s.root.node ≡ of_hand 0 (λ r. stands r.stage) (session_of p s).hand
  pub placed : (p : ℕ) (r : Request) (x : ℕ) → (session_of p s).hand ≡ some r → r.stage ≡ at x
      → Latched (latch_word p) x (Room s p) (suc s.root.height) s.root.node

-- What is read at keys and entries, and the session table.
pub record Keyed (s : State) : Type 0 where
  pub sizes : (1 ≤ length s.entries) × (length s.entries ≤ 1024) × (8 ≤ s.records) × (s.records ≤ 4096)
  pub seats : length s.table ≡ suc width
  pub zero_stored : stored_in 0 (lvs s) ≡ true
  pub zero_empty : group_in 0 (lvs s) ≡ []
  pub top_free : stored_in top (lvs s) ≡ false
  pub listed : ListedTo (length s.entries) (lvs s)
  pub only_begun : (k : Kind) (m : Mode) (p z : ℕ) → holders s k m p z ≡ true → (session_of p s).begun ≡ true
  pub only_begun_gaps : (p z : ℕ) → holds (gap_word z (seen s)) p ≡ true → (session_of p s).begun ≡ true
  pub agree : Agree rule (holders s)
  pub unbegun_hand : (p : ℕ) → (session_of (suc p) s).begun ≡ false → (session_of (suc p) s).hand ≡ none
  pub unbegun_undos : (p : ℕ) → (session_of p s).begun ≡ false → (session_of p s).undos ≡ []
  pub zero_unmarked : (session_of 0 s).begun ≡ false
  pub orders : (p q : ℕ) → (session_of p s).begun ≡ true → (session_of q s).begun ≡ true → (session_of p s).order ≡ (session_of q s).order → p ≡ q
  -- Only a begun session with no request in hand is asked.
  pub only_asked : (p : ℕ) → (session_of p s).asked ≡ true → ((session_of p s).begun ≡ true) × ((session_of p s).hand ≡ none)
  pub pins_match : (k : ℕ) → pins_in k (lvs s) ≡ total (pins_by k) s.table
  pub checked : (p : ℕ) (r : Request) → (session_of p s).hand ≡ some r → Passes (request_checks p r.code r.entry r.first r.second s)
  pub standing : (p : ℕ) (r : Request) → (session_of p s).hand ≡ some r → Stands p s r r.stage
  pub undoable : (p : ℕ) → Undoable p s (session_of p s).undos (cells s)

pub formed-of : {s : State} → Sound s → Formed s
formed-of S = record { shaped = S.shaped; counted = S.counted }

pub latches-of : {s : State} → Sound s → Latches s
latches-of S = record { latches_match = S.latches_match; placed = S.placed }

pub keyed-of : {s : State} → Sound s → Keyed s
keyed-of S = record {
  sizes = S.sizes;
  seats = S.seats;
  zero_stored = S.zero_stored;
  zero_empty = S.zero_empty;
  top_free = S.top_free;
  listed = S.listed;
  only_begun = S.only_begun;
  only_begun_gaps = S.only_begun_gaps;
  agree = S.agree;
  unbegun_hand = S.unbegun_hand;
  unbegun_undos = S.unbegun_undos;
  zero_unmarked = S.zero_unmarked;
  orders = S.orders;
  only_asked = S.only_asked;
  pins_match = S.pins_match;
  checked = S.checked;
  standing = S.standing;
  undoable = S.undoable;
}

pub sound-from : {s : State} → Formed s → Latches s → Keyed s → Sound s
sound-from F W K = record {
  sizes = K.sizes;
  seats = K.seats;
  counted = F.counted;
  shaped = F.shaped;
  zero_stored = K.zero_stored;
  zero_empty = K.zero_empty;
  top_free = K.top_free;
  listed = K.listed;
  only_begun = K.only_begun;
  only_begun_gaps = K.only_begun_gaps;
  agree = K.agree;
  unbegun_hand = K.unbegun_hand;
  unbegun_undos = K.unbegun_undos;
  zero_unmarked = K.zero_unmarked;
  orders = K.orders;
  only_asked = K.only_asked;
  pins_match = K.pins_match;
  latches_match = W.latches_match;
  placed = W.placed;
  checked = K.checked;
  standing = K.standing;
  undoable = K.undoable;
}

-- The state of the abstract machine: what document 01's store and session table mean, record numbers and chain order left out.
use Rattle.std.specs.Prelude.{Bool, false, cond, List, [], ◌∷◌, zero, suc, ◌-◌, ℕ, leb, ltb, eqb, get_or, set, replicate}
use Rattle.std.proofs.Math.Option.{Option, none, some}
use Rattle.machine.specs.Holders.{width}
use Rattle.machine.specs.Tree.{onp, map_e, leaves, leaf_at, T}

-- The upper infinity.
abbrev pub top : ℕ
top = 4294967295

-- An entry: its value, share holders, exclusive holders.
pub record Entry : Type 0 where
  pub value : ℕ
  pub share : ℕ
  pub exclusive : ℕ

-- A group descriptor: its pins (document 01: seize count) are how often requests in hand pin it; its members rise.
pub record Desc : Type 0 where
  pub key : ℕ
  pub locate : ℕ
  pub update : ℕ
  pub gap : ℕ
  pub pins : ℕ
  pub members : List ℕ

-- A tree: leaves are descriptors, all at one depth; each node has its latch word, and sons with their upper bounds.
-- The boundaries of a node are the bounds of its sons but the last, which is the node's own.
abbrev pub Tree : ℕ → Type 0
Tree h = T Desc ℕ h

-- The root, never a descriptor.
pub record Root : Type 0 where
  pub height : ℕ
  pub node : Tree (suc height)

-- Where a request in hand stands.
pub data Stage : Type 0 where
  -- Before its first step, for reads, writes, inserts, removes, and for a tidy that found no descriptor.
  start : Stage
  -- On its descent (document 01: walk) to a key: next it enters the root; or its latch is on a node of the path.
  enter : ℕ → Stage
  at : ℕ → Stage
  -- Insert, remove: the descriptor is pinned.
  change : Stage
  -- Locate: both ends are pinned, and the next descriptor is the lowest stored from this key on: first, and then one more than the last key taken.
  take : ℕ → Stage

pub record Request : Type 0 where
  pub code : ℕ
  pub entry : ℕ
  pub first : ℕ
  pub second : ℕ
  pub stage : Stage

-- An undo record (document 01: take-back): an entry and its old value; an entry added to, or taken out of, the group of a key.
pub data Undo : Type 0 where
  value added taken : ℕ → ℕ → Undo

pub record Session : Type 0 where
  pub begun : Bool
  -- The number in the order of begins: of two begun sessions the lower one began first.
  pub order : ℕ
  pub hand : Option Request
  -- newest first
  pub undos : List Undo
  -- The session is asked: only commit and abort remain to it.
  pub asked : Bool

pub record State : Type 0 where
  -- Entry 1 comes first: M is how many there are.
  pub entries : List Entry
  pub root : Root
  -- How many records are free.
  pub free : ℕ
  -- Party 0 comes first.
  pub table : List Session
  -- R.
  pub records : ℕ

pub data Answer : Type 0 where
  ok more : Answer
  -- The parties whose locks are in the way; what a call answers names one of them (Steps.settled).
  wait : List ℕ → Answer
  done : List ℕ → Answer
  -- The refusal's number, and the number beside it.
  refused : ℕ → ℕ → Answer

pub record Outcome : Type 0 where
  pub answer : Answer
  pub next : State
  -- Pairs (key, entry) written at the start of the lent list.
  pub written : List (ℕ × ℕ)

-- ---- reading

abbrev pub no_entry : Entry
no_entry = record { value = 0; share = 0; exclusive = 0 }

unfoldable pub entry_of : ℕ → State → Entry
entry_of zero s = no_entry
entry_of (suc i) s = get_or s.entries i no_entry

abbrev pub idle : Session
idle = record { begun = false; order = 0; hand = none; undos = []; asked = false }

unfoldable pub session_of : ℕ → State → Session
session_of p s = get_or s.table p idle

-- The stored descriptors, rising by key.
unfoldable pub stored : State → List Desc
stored s = leaves Desc ℕ (suc s.root.height) s.root.node

abbrev pub no_desc : Desc
no_desc = record { key = top; locate = 0; update = 0; gap = 0; pins = 0; members = [] }

-- The lowest stored descriptor from a key on, if there is one.
unfoldable pub lowest_from : ℕ → List Desc → Option Desc
lowest_from k [] = none
lowest_from k (d ∷ ds) = let rest = lowest_from k ds in cond (leb k d.key) (some d) rest

-- The gap holders of the highest stored descriptor below a key; g, if there is none.
unfoldable pub gap_below : ℕ → ℕ → List Desc → ℕ
gap_below k g [] = g
gap_below k g (d ∷ ds) = let rest = gap_below k d.gap ds in cond (ltb d.key k) rest g

abbrev pub or_none : Option Desc → Desc
or_none none = no_desc
or_none (some d) = d

-- The descriptor on the path to a key.
unfoldable pub desc_of : ℕ → State → Desc
desc_of k s = or_none (leaf_at Desc ℕ k (suc s.root.height) s.root.node)

-- ---- writing

abbrev pub with_entries : List Entry → State → State
with_entries x s = record { entries = x; root = s.root; free = s.free; table = s.table; records = s.records }

abbrev pub with_root : Root → State → State
with_root x s = record { entries = s.entries; root = x; free = s.free; table = s.table; records = s.records }

abbrev pub with_free : ℕ → State → State
with_free x s = record { entries = s.entries; root = s.root; free = x; table = s.table; records = s.records }

abbrev pub with_table : List Session → State → State
with_table x s = record { entries = s.entries; root = s.root; free = s.free; table = x; records = s.records }

unfoldable pub on_entry : ℕ → (Entry → Entry) → State → State
on_entry zero f s = s
on_entry (suc i) f s = with_entries (set s.entries i (f (entry_of (suc i) s))) s

unfoldable pub on_session : ℕ → (Session → Session) → State → State
on_session p f s = with_table (set s.table p (f (session_of p s))) s

-- A function of the tree, which keeps its height.
unfoldable pub on_tree : ((h : ℕ) → Tree h → Tree h) → State → State
on_tree f s = with_root (record { height = s.root.height; node = f (suc s.root.height) s.root.node }) s

-- The leaf on the path to a key.
unfoldable pub on_leaf : ℕ → (Desc → Desc) → (h : ℕ) → Tree h → Tree h
on_leaf k f zero d = f d
on_leaf k f (suc h) t = record { latch = t.latch; sons = onp k (λ a b. (on_leaf k f h a, b) ∷ []) t.sons }

unfoldable pub on_leaves : (Desc → Desc) → (h : ℕ) → Tree h → Tree h
on_leaves f zero d = f d
on_leaves f (suc h) t = record { latch = t.latch; sons = map_e (on_leaves f h) t.sons }

abbrev pub on_desc : ℕ → (Desc → Desc) → State → State
on_desc k f s = on_tree (on_leaf k f) s

-- A descriptor with other holders, other pins, other members.
abbrev pub hold_desc : (ℕ → ℕ) → (ℕ → ℕ) → (ℕ → ℕ) → Desc → Desc
hold_desc l u g d = record { key = d.key; locate = l d.locate; update = u d.update; gap = g d.gap; pins = d.pins; members = d.members }

abbrev pub pin_desc : (ℕ → ℕ) → Desc → Desc
pin_desc f d = record { key = d.key; locate = d.locate; update = d.update; gap = d.gap; pins = f d.pins; members = d.members }

abbrev pub group_desc : (List ℕ → List ℕ) → Desc → Desc
group_desc f d = record { key = d.key; locate = d.locate; update = d.update; gap = d.gap; pins = d.pins; members = f d.members }

abbrev pub same : {A : Type 0} → A → A
same x = x

-- Members rise.
unfoldable pub with_member : ℕ → List ℕ → List ℕ
with_member e [] = e ∷ []
with_member e (x ∷ l) = let rest = with_member e l in cond (ltb e x) (e ∷ x ∷ l) (cond (eqb e x) (x ∷ l) (x ∷ rest))

unfoldable pub without_member : ℕ → List ℕ → List ℕ
without_member e [] = []
without_member e (x ∷ l) = let rest = without_member e l in cond (eqb e x) l (x ∷ rest)

-- ---- sessions

unfoldable pub set_hand : ℕ → Option Request → State → State
set_hand p r s = on_session p (λ t. record { begun = t.begun; order = t.order; hand = r; undos = t.undos; asked = t.asked }) s

abbrev pub in_stage : Stage → Request → Request
in_stage g r = record { code = r.code; entry = r.entry; first = r.first; second = r.second; stage = g }

unfoldable pub add_undo : ℕ → Undo → State → State
add_undo p b s = on_session p (λ t. record { begun = t.begun; order = t.order; hand = t.hand; undos = b ∷ t.undos; asked = t.asked }) s

-- ---- a fresh store: all values 0, one root and key 0

unfoldable pub fresh : ℕ → ℕ → State
fresh m r = record {
  entries = replicate m no_entry;
  root = record { height = 0; node = record { latch = 0; sons = (record { key = 0; locate = 0; update = 0; gap = 0; pins = 0; members = [] }, top) ∷ [] } };
  free = r - 2;
  table = replicate (suc width) idle;
  records = r;
}

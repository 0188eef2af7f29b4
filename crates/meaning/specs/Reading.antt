-- What the words of a store and its session table mean: a state of the machine, read from the records. Total and executable.
use Rattle.std.specs.Prelude.{◌≡◌, false, cond, not, List, [], ◌∷◌, map, ℕ, zero, suc, ◌-◌, eqb, length}
use Rattle.std.proofs.Math.Option.{Option, none, some}
use Rattle.words.specs.Store.{word_of}
use Rattle.words.specs.Header.{header_word, entries_place, records_place, root_place, height_place, free_place}
use Rattle.words.specs.Entries.{entry_word}
use Rattle.nodes.specs.Node.{node_at}
use Rattle.nodes.specs.Entries as N
use Rattle.sessions.specs.declared.Session.{Session}
use Rattle.machine.specs.Tree.{T, flat, map_e, leaves}
use Rattle.machine.specs.State.{Entry, Desc, Tree, Stage, start, enter, at, change, take, Request, Undo, value, added, taken, State, top, with_member}
use Rattle.machine.specs.State as M

-- ---- chains

-- The records from i on, at most n of them: word 0 of each is the next, 0 ends the chain.
unfoldable pub chain : List ℕ → ℕ → ℕ → ℕ → List ℕ
chain s m zero i = []
chain s m (suc n) i = let rest = chain s m n (word_of s m i 0) in cond (eqb i 0) [] (i ∷ rest)

-- The records of l, in this order, are a whole chain from i on.
abbrev pub Chained : List ℕ → ℕ → ℕ → List ℕ → Type 0
Chained s m i [] = i ≡ 0
Chained s m i (j ∷ l) = (i ≡ j) × ¬ (i ≡ 0) × Chained s m (word_of s m i 0) l

-- ---- descriptors

-- Entries in rising order.
abbrev pub gather : List ℕ → List ℕ
gather [] = []
gather (e ∷ l) = with_member e (gather l)

-- The records of a descriptor's members.
abbrev pub member_chain : List ℕ → ℕ → ℕ → ℕ → List ℕ
member_chain s m r d = chain s m r (word_of s m d 6)

abbrev pub member_entries : List ℕ → ℕ → List ℕ → List ℕ
member_entries s m l = map (λ i. word_of s m i 2) l

abbrev pub desc_at : List ℕ → ℕ → ℕ → ℕ → Desc
desc_at s m r d = record {
  key = word_of s m d 1;
  locate = word_of s m d 2;
  update = word_of s m d 3;
  gap = word_of s m d 4;
  pins = word_of s m d 5;
  members = gather (member_entries s m (member_chain s m r d));
}

-- ---- the tree

-- A descriptor and a node's latch word, each with its record's number.
pub record Leaf : Type 0 where
  pub num : ℕ
  pub desc : Desc

pub record Mark : Type 0 where
  pub num : ℕ
  pub word : ℕ

abbrev pub Numbered : ℕ → Type 0
Numbered h = T Leaf Mark h

-- Sons read from entries (record, upper bound).
abbrev pub read_sons : {A : Type 0} → (ℕ → ℕ → A) → List (ℕ × ℕ) → List (A × ℕ)
read_sons f [] = []
read_sons f (p ∷ es) = (f p.0 p.1, p.1) ∷ read_sons f es

-- The tree of height h from record i on, whose keys are at most hi.
unfoldable pub read_tree : List ℕ → ℕ → ℕ → (h : ℕ) → ℕ → ℕ → Numbered h
read_tree s m r zero i hi = record { num = i; desc = desc_at s m r i }
read_tree s m r (suc h) i hi = record { latch = record { num = i; word = word_of s m i 0 }; sons = read_sons (read_tree s m r h) (N.entries (node_at s m i) hi) }

-- Without the numbers.
unfoldable pub erase : (h : ℕ) → Numbered h → Tree h
erase zero t = t.desc
erase (suc h) t = record { latch = t.latch.word; sons = map_e (erase h) t.sons }

-- The records of a tree.
unfoldable pub numbers : (h : ℕ) → Numbered h → List ℕ
numbers zero t = t.num ∷ []
numbers (suc h) t = t.latch.num ∷ flat (numbers h) t.sons

-- The records of its nodes.
unfoldable pub node_numbers : (h : ℕ) → Numbered h → List ℕ
node_numbers zero t = []
node_numbers (suc h) t = t.latch.num ∷ flat (node_numbers h) t.sons

-- ---- undo records (document 01: take-backs)

abbrev pub undo_at : List ℕ → ℕ → ℕ → Undo
undo_at s m i =
    let e = word_of s m i 2 in
    let k = word_of s m (word_of s m i 4) 1 in
    cond (eqb (word_of s m i 1) 1) (value e (word_of s m i 3)) (cond (eqb (word_of s m i 1) 2) (added e k) (taken e k))

-- ---- sessions

-- Where a request stands. A locate's next place is first, or one above the last key taken.
abbrev pub stage_of : Session → Stage
stage_of x =
    cond (eqb x.stage 1) start
    (cond (eqb x.stage 2) (enter x.target)
    (cond (eqb x.stage 3) (at x.target) (cond (eqb x.stage 4) change (take (cond (eqb x.last 0) x.first (suc x.last))))))

abbrev pub hand_of : Session → Option Request
hand_of x = cond (eqb x.stage 0) none (some (record { code = x.code; entry = x.entry; first = x.first; second = x.second; stage = stage_of x }))

-- Party 0 has no mark and no undo records.
abbrev pub session-of : List ℕ → ℕ → ℕ → ℕ → Session → M.Session
session-of s m r zero x = record { begun = false; order = 0; hand = hand_of x; undos = []; asked = not (eqb x.asked 0) }
session-of s m r (suc p) x = record { begun = not (eqb x.begun 0); order = x.order; hand = hand_of x; undos = map (undo_at s m) (chain s m r x.undo); asked = not (eqb x.asked 0) }

-- From party p on.
abbrev pub sessions_of : List ℕ → ℕ → ℕ → ℕ → List Session → List M.Session
sessions_of s m r p [] = []
sessions_of s m r p (x ∷ t) = session-of s m r p x ∷ sessions_of s m r (suc p) t

-- ---- entries

-- n entries from e on.
abbrev pub entries_of : List ℕ → ℕ → ℕ → List Entry
entries_of s e zero = []
entries_of s e (suc n) = record { value = entry_word s e 0; share = entry_word s e 1; exclusive = entry_word s e 2 } ∷ entries_of s (suc e) n

-- ---- the whole

abbrev pub M-of : List ℕ → ℕ
M-of s = header_word s entries_place

abbrev pub R-of : List ℕ → ℕ
R-of s = header_word s records_place

-- The levels of nodes, but one: a tree of height h has its leaves at height 0.
abbrev pub height_of : List ℕ → ℕ
height_of s = header_word s height_place - 1

unfoldable pub tree_of : (s : List ℕ) → Numbered (suc (height_of s))
tree_of s = read_tree s (M-of s) (R-of s) (suc (height_of s)) (header_word s root_place) top

abbrev pub free_chain : List ℕ → List ℕ
free_chain s = chain s (M-of s) (R-of s) (header_word s free_place)

unfoldable pub meaning : List ℕ → List Session → State
meaning s t = record {
  entries = entries_of s 1 (M-of s);
  root = record { height = height_of s; node = erase (suc (height_of s)) (tree_of s) };
  free = length (free_chain s);
  table = sessions_of s (M-of s) (R-of s) 0 t;
  records = R-of s;
}

-- When the words of a store and its session table are sound: document 01's "Sound means", over words and session records. What can be said of the
-- meaning is said by the field `state`, the machine's `Sound`, which has a field for each clause in the document's order; the other fields say what the
-- words alone can break, and that the words of this layout say what they stand for.
use Rattle.std.specs.Prelude.{◌≡◌, Bool, true, false, cond, List, [], ◌∷◌, ◌++◌, map, ◌⊎◌, ℕ, zero, suc, ◌≤◌, eqb, length}
use Rattle.words.specs.Store.{word_of}
use Rattle.words.specs.Header.{header_word, height_place, first_place, free_place}
use Rattle.sessions.specs.declared.Session.{Session}
use Rattle.sessions.specs.Sessions.{session_at}
pub use Rattle.serial.specs.Lists.{All}
use Rattle.machine.specs.Tree.{pick, leaves}
use Rattle.machine.specs.Holders.{width, latch_word}
use Rattle.machine.specs.Calls.{records_for}
use Rattle.machine.specs.Sound as M
use Rattle.machine.specs.Sound.{times}
use Rattle.meaning.specs.Reading.{chain, Chained, member_chain, member_entries, Leaf, Mark, Numbered, numbers, node_numbers, M-of, R-of, height_of, tree_of, free_chain, meaning}

-- ---- every record is reached exactly once

abbrev pub leaves_of : (s : List ℕ) → List Leaf
leaves_of s = leaves Leaf Mark (suc (height_of s)) (tree_of s)

abbrev pub joined : List (List ℕ) → List ℕ
joined [] = []
joined (l ∷ ls) = l ++ joined ls

-- The undo chains of the sessions: from party 1 on.
abbrev pub undo_chains : List ℕ → List Session → List (List ℕ)
undo_chains s [] = []
undo_chains s (x ∷ t) = map (λ y. chain s (M-of s) (R-of s) y.undo) t

-- What owns records: the tree, each descriptor's members, each session's undo chain, and the free chain.
abbrev pub owners : List ℕ → List Session → List (List ℕ)
owners s t =
    numbers (suc (height_of s)) (tree_of s)
    ∷ (map (λ l. member_chain s (M-of s) (R-of s) l.num) (leaves_of s) ++ (undo_chains s t ++ (free_chain s ∷ [])))

-- ---- members

abbrev pub Apart : ℕ → List ℕ → Type 0
Apart e [] = Unit {0}
Apart e (f ∷ l) = ¬ (e ≡ f) × Apart e l

abbrev pub Once : List ℕ → Type 0
Once [] = Unit {0}
Once (e ∷ l) = Apart e l × Once l

-- Word 1 of each member is the one before it.
abbrev pub Linked : List ℕ → ℕ → ℕ → List ℕ → Type 0
Linked s m before [] = Unit {0}
Linked s m before (i ∷ l) = (word_of s m i 1 ≡ before) × Linked s m i l

pub record Members (s : List ℕ) (d : ℕ) : Type 0 where
  pub ends : Chained s (M-of s) (word_of s (M-of s) d 6) (member_chain s (M-of s) (R-of s) d)
  -- No group lists an entry twice.
  pub once : Once (member_entries s (M-of s) (member_chain s (M-of s) (R-of s) d))
  pub linked : Linked s (M-of s) 0 (member_chain s (M-of s) (R-of s) d)

-- ---- the records that a session's words name

-- The node at a level, counted from below, on the path to x; 0 if there is none.
unfoldable pub number_at : ℕ → ℕ → (h : ℕ) → Numbered h → ℕ
number_at k x zero t = 0
number_at k x (suc h) t = let below = pick x 0 (number_at k x h) t.sons in cond (eqb (suc h) k) t.latch.num below

-- The record of the descriptor of a key, 0 if it is not stored.
unfoldable pub record_of : ℕ → List Leaf → ℕ
record_of k [] = 0
record_of k (l ∷ ls) = let rest = record_of k ls in cond (eqb l.desc.key k) l.num rest

-- The latched node of a descent.
pub record StandsAtNode (s : List ℕ) (p : ℕ) (x : Session) : Type 0 where
  pub lowest : 1 ≤ x.level
  pub highest : x.level ≤ suc (height_of s)
  pub node : x.at ≡ number_at x.level x.target (suc (height_of s)) (tree_of s)
  pub latched : word_of s (M-of s) x.at 0 ≡ latch_word p

-- A locate on its way to second, or an insert or remove, or a locate in its scan, has pinned first; a scan also second.
abbrev pub pins_first : Session → Bool
pins_first x = cond (eqb x.stage 4) true (cond (eqb x.stage 5) true (cond (eqb x.code 5) (cond (eqb x.target x.first) false true) false))

pub record Hand (s : List ℕ) (p : ℕ) (x : Session) : Type 0 where
  pub stage : x.stage ≤ 5
  pub at-node : x.stage ≡ 3 → StandsAtNode s p x
  pub low : ¬ (x.stage ≡ 0) → pins_first x ≡ true → x.low ≡ record_of x.first (leaves_of s)
  pub high : x.stage ≡ 5 → ¬ (x.first ≡ x.second) → x.high ≡ record_of x.second (leaves_of s)
  -- The last key taken is none, or from first on.
  pub last : x.stage ≡ 5 → (x.last ≡ 0) ⊎ (x.first ≤ x.last)

-- ---- undo records

-- By which record an entry is in the group of a descriptor; 0 if it is not.
abbrev pub Lists : Type 0
Lists = ℕ → ℕ → ℕ

unfoldable pub member_record : List ℕ → ℕ → ℕ → List ℕ → ℕ
member_record s m e [] = 0
member_record s m e (i ∷ l) = let rest = member_record s m e l in cond (eqb (word_of s m i 2) e) i rest

abbrev pub lists : List ℕ → Lists
lists s d e = member_record s (M-of s) e (member_chain s (M-of s) (R-of s) d)

abbrev pub set_list : ℕ → ℕ → ℕ → Lists → Lists
set_list d e i g c f = cond (eqb c d) (cond (eqb f e) i (g c f)) (g c f)

-- The kinds are 1 to 3; an added or taken entry's group is that of a stored descriptor; and, undone newest first, an added one names the record by
-- which its entry is a member then.
abbrev pub UndoWords : List ℕ → List ℕ → Lists → Type 0
UndoWords s [] g = Unit {0}
UndoWords s (i ∷ l) g =
    ((1 ≤ word_of s (M-of s) i 1) × (word_of s (M-of s) i 1 ≤ 3))
    × ((word_of s (M-of s) i 1 ≡ 1 → ⊥) → word_of s (M-of s) i 4 ≡ record_of (word_of s (M-of s) (word_of s (M-of s) i 4) 1) (leaves_of s))
    × (word_of s (M-of s) i 1 ≡ 2 → g (word_of s (M-of s) i 4) (word_of s (M-of s) i 2) ≡ word_of s (M-of s) i 3)
    × UndoWords s l (cond (eqb (word_of s (M-of s) i 1) 1) g
    (set_list (word_of s (M-of s) i 4) (word_of s (M-of s) i 2) (cond (eqb (word_of s (M-of s) i 1) 2) 0 i) g))

-- ---- Sound

pub record Sound (s : List ℕ) (t : List Session) : Type 0 where
  -- The header's M and R are those that format gives for this length.
  pub header : 16 ≤ length s
  pub sized : R-of s ≡ records_for (M-of s) (length s)
  -- The root is never a descriptor.
  pub rooted : 1 ≤ header_word s height_place
  -- Every record is reached exactly once, from the root, a descriptor's members, a session's undo chain or the free chain.
  pub once : (i : ℕ) → 1 ≤ i → i ≤ R-of s → times i (joined (owners s t)) ≡ 1
  pub no_other : All (λ i. (1 ≤ i) × (i ≤ R-of s)) (joined (owners s t))
  pub free_ends : Chained s (M-of s) (header_word s free_place) (free_chain s)
  pub undos_end : (p : ℕ) → suc p ≤ width → Chained s (M-of s) (session_at t (suc p)).undo (chain s (M-of s) (R-of s) (session_at t (suc p)).undo)
  -- A node's count is that of its sons, at most 8.
  pub few : All (λ i. word_of s (M-of s) i 1 ≤ 8) (node_numbers (suc (height_of s)) (tree_of s))
  -- The descriptors are chained in the order of their keys.
  pub chained : Chained s (M-of s) (header_word s first_place) (map (λ l. l.num) (leaves_of s))
  -- No group lists an entry twice.
  pub members : All (λ l. Members s l.num) (leaves_of s)
  -- All else is a sound state of the machine.
  pub state : M.Sound (meaning s t)
  -- The words of a session record name the records that they stand for,
  pub hands : (p : ℕ) → p ≤ width → Hand s p (session_at t p)
  -- and so do those of undo records.
  pub undo_words : (p : ℕ) → suc p ≤ width → UndoWords s (chain s (M-of s) (R-of s) (session_at t (suc p)).undo) (lists s)

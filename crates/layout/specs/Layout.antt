-- A layout: where everything of a state lies. Words and session table hold a layout if each record has the words that the layout says, each record has
-- one owner, and the words of session and undo records name the records that they stand for.
use Rattle.std.specs.Prelude.{◌≡◌, true, false, cond, not, List, [], ◌∷◌, ◌++◌, map, ◌⊎◌, ℕ, zero, suc, ◌≤◌, eqb, length}
use Rattle.words.specs.Store.{word_of}
use Rattle.words.specs.Header.{header_word, root_place, height_place, first_place, free_place}
use Rattle.nodes.specs.Node.{node_at}
use Rattle.nodes.specs.Entries as N
use Rattle.sessions.specs.declared.Session.{Session}
use Rattle.sessions.specs.Sessions.{session_at}
use Rattle.machine.specs.Tree.{map_e, leaves}
use Rattle.machine.specs.Holders.{width, latch_word}
use Rattle.machine.specs.State.{Entry, Undo, value, added, taken, State, top}
use Rattle.machine.specs.State as M
use Rattle.machine.specs.Calls.{records_for}
use Rattle.machine.specs.Sound.{times}
use Rattle.meaning.specs.Reading.{Chained, gather, Leaf, Mark, Numbered, erase, numbers, hand_of, entries_of, M-of, R-of}
use Rattle.meaning.specs.Sound.{All, Once, Linked, pins_first, Lists, set_list}
use Rattle.meaning.specs.Around.{num_of}

-- ---- what lies where

-- An undo record: its number, what it undoes, and the records that it names: the membership of an added entry, the descriptor of the group.
pub record Undone : Type 0 where
  pub num : ℕ
  pub undo : Undo
  pub saved : ℕ
  pub descriptor : ℕ

pub record Lay : Type 0 where
  pub entries : List Entry
  pub height : ℕ
  pub tree : Numbered (suc height)
  -- The members of the descriptor at a record, as they are chained: record and entry.
  pub members : ℕ → List (ℕ × ℕ)
  -- The undo records of a session, newest first.
  pub undos : ℕ → List Undone
  pub free : List ℕ
  pub records : ℕ

abbrev pub leaves_in : (L : Lay) → List Leaf
leaves_in L = leaves Leaf Mark (suc L.height) L.tree

abbrev pub firsts : List (ℕ × ℕ) → List ℕ
firsts l = map (λ q. q.0) l

abbrev pub seconds : List (ℕ × ℕ) → List ℕ
seconds l = map (λ q. q.1) l

abbrev pub undo_numbers : List Undone → List ℕ
undo_numbers us = map (λ u. u.num) us

-- ---- what a layout means, with a session table

abbrev pub session_in : (ℕ → List Undone) → ℕ → Session → M.Session
session_in u zero x = record { begun = false; order = 0; hand = hand_of x; undos = []; asked = not (eqb x.asked 0) }
session_in u (suc p) x = record { begun = not (eqb x.begun 0); order = x.order; hand = hand_of x; undos = map (λ y. y.undo) (u (suc p)); asked = not (eqb x.asked 0) }

abbrev pub sessions_in : (ℕ → List Undone) → ℕ → List Session → List M.Session
sessions_in u p [] = []
sessions_in u p (x ∷ t) = session_in u p x ∷ sessions_in u (suc p) t

unfoldable pub means : Lay → List Session → State
means L t = record {
  entries = L.entries;
  root = record { height = L.height; node = erase (suc L.height) L.tree };
  free = length L.free;
  table = sessions_in L.undos 0 t;
  records = L.records;
}

-- ---- the words

abbrev pub Each : {A : Type 0} → (ℕ → A → Type 0) → List (A × ℕ) → Type 0
Each P [] = Unit {0}
Each P (p ∷ es) = P p.1 p.0 × Each P es

-- A descriptor's record: its key, holders and pins.
pub record DescFits (s : List ℕ) (m : ℕ) (l : Leaf) : Type 0 where
  pub key : word_of s m l.num 1 ≡ l.desc.key
  pub locate : word_of s m l.num 2 ≡ l.desc.locate
  pub update : word_of s m l.num 3 ≡ l.desc.update
  pub gap : word_of s m l.num 4 ≡ l.desc.gap
  pub pins : word_of s m l.num 5 ≡ l.desc.pins

-- A node's record: its latch word, and its sons by their records with their bounds, hi for the last.
pub record NodeFits (s : List ℕ) (m : ℕ) (hi : ℕ) (w : Mark) (es : List (ℕ × ℕ)) : Type 0 where
  pub latch : word_of s m w.num 0 ≡ w.word
  pub few : word_of s m w.num 1 ≤ 8
  pub sons : N.entries (node_at s m w.num) hi ≡ es

-- A tree whose keys are at most hi.
unfoldable pub TreeFits : List ℕ → ℕ → (h : ℕ) → ℕ → Numbered h → Type 0
TreeFits s m zero hi t = DescFits s m t
TreeFits s m (suc h) hi t = NodeFits s m hi t.latch (map_e (num_of h) t.sons) × Each (TreeFits s m h) t.sons

-- The members of a descriptor.
pub record GroupFits (s : List ℕ) (m : ℕ) (c : List (ℕ × ℕ)) (l : Leaf) : Type 0 where
  pub chained : Chained s m (word_of s m l.num 6) (firsts c)
  pub linked : Linked s m 0 (firsts c)
  pub entries : All (λ q. word_of s m q.0 2 ≡ q.1) c
  pub once : Once (seconds c)
  pub gathered : gather (seconds c) ≡ l.desc.members

-- An undo record.
abbrev pub UndoFits : List ℕ → ℕ → ℕ → ℕ → ℕ → Undo → Type 0
UndoFits s m i saved d (value e v) = (word_of s m i 1 ≡ 1) × (word_of s m i 2 ≡ e) × (word_of s m i 3 ≡ v)
UndoFits s m i saved d (added e k) = (word_of s m i 1 ≡ 2) × (word_of s m i 2 ≡ e) × (word_of s m i 3 ≡ saved) × (word_of s m i 4 ≡ d)
UndoFits s m i saved d (taken e k) = (word_of s m i 1 ≡ 3) × (word_of s m i 2 ≡ e) × (word_of s m i 4 ≡ d)

pub record UndosFit (s : List ℕ) (m : ℕ) (i : ℕ) (us : List Undone) : Type 0 where
  pub chained : Chained s m i (undo_numbers us)
  pub words : All (λ u. UndoFits s m u.num u.saved u.descriptor u.undo) us

-- All words of a layout.
pub record Fits (s : List ℕ) (t : List Session) (L : Lay) : Type 0 where
  pub header : 16 ≤ length s
  pub sized : R-of s ≡ records_for (M-of s) (length s)
  pub records : R-of s ≡ L.records
  pub entries : entries_of s 1 (M-of s) ≡ L.entries
  pub height : header_word s height_place ≡ suc L.height
  pub root : header_word s root_place ≡ num_of (suc L.height) L.tree
  pub tree : TreeFits s (M-of s) (suc L.height) top L.tree
  pub chained : Chained s (M-of s) (header_word s first_place) (map (λ l. l.num) (leaves_in L))
  pub groups : All (λ l. GroupFits s (M-of s) (L.members l.num) l) (leaves_in L)
  pub free : Chained s (M-of s) (header_word s free_place) L.free
  pub undos : (p : ℕ) → suc p ≤ width → UndosFit s (M-of s) (session_at t (suc p)).undo (L.undos (suc p))

-- ---- each record has one owner

-- The records of the members of some descriptors; of the undo records of n sessions from p on.
abbrev pub members_of : (ℕ → List (ℕ × ℕ)) → List Leaf → List ℕ
members_of g [] = []
members_of g (l ∷ ls) = firsts (g l.num) ++ members_of g ls

abbrev pub undos_from : (ℕ → List Undone) → ℕ → ℕ → List ℕ
undos_from u p zero = []
undos_from u p (suc n) = undo_numbers (u p) ++ undos_from u (suc p) n

abbrev pub all_records : Lay → List ℕ
all_records L = numbers (suc L.height) L.tree ++ (members_of L.members (leaves_in L) ++ (undos_from L.undos 1 width ++ L.free))

pub record Owned (L : Lay) : Type 0 where
  pub once : (i : ℕ) → 1 ≤ i → i ≤ L.records → times i (all_records L) ≡ 1
  pub no_other : All (λ i. (1 ≤ i) × (i ≤ L.records)) (all_records L)

-- ---- the records that words name

-- The descriptor of key k is at record d.
abbrev pub Has : ℕ → ℕ → List Leaf → Type 0
Has k d [] = ⊥
Has k d (l ∷ ls) = ((l.desc.key ≡ k) × (l.num ≡ d)) ⊎ Has k d ls

abbrev pub SomeSon : {A : Type 0} → (A → Type 0) → List (A × ℕ) → Type 0
SomeSon P [] = ⊥
SomeSon P (p ∷ es) = P p.0 ⊎ SomeSon P es

-- The node at record n, at level k from below, has the latch word w.
unfoldable pub Marked : (k n w : ℕ) (h : ℕ) → Numbered h → Type 0
Marked k n w zero t = ⊥
Marked k n w (suc h) t = ((suc h ≡ k) × (t.latch.num ≡ n) × (t.latch.word ≡ w)) ⊎ SomeSon (Marked k n w h) t.sons

-- A party's session record names the node that it has latched and the descriptors that it has pinned.
pub record HandFits (L : Lay) (p : ℕ) (x : Session) : Type 0 where
  pub stage : x.stage ≤ 5
  pub at-node : x.stage ≡ 3 → Marked x.level x.at (latch_word p) (suc L.height) L.tree
  pub low : ¬ (x.stage ≡ 0) → pins_first x ≡ true → Has x.first x.low (leaves_in L)
  pub high : x.stage ≡ 5 → ¬ (x.first ≡ x.second) → Has x.second x.high (leaves_in L)
  pub last : x.stage ≡ 5 → (x.last ≡ 0) ⊎ (x.first ≤ x.last)

-- By which record an entry is a member; 0 if it is not.
unfoldable pub member_of : ℕ → List (ℕ × ℕ) → ℕ
member_of e [] = 0
member_of e (q ∷ c) = let rest = member_of e c in cond (eqb q.1 e) q.0 rest

abbrev pub lists_in : Lay → Lists
lists_in L d e = member_of e (L.members d)

-- Undone newest first, an added entry's record is the one by which it is a member then; the group is that of the descriptor named. What is asked of the
-- older ones is handed in.
abbrev pub NamedAs : List Leaf → (Lists → Type 0) → Lists → ℕ → ℕ → ℕ → Undo → Type 0
NamedAs ls older g i saved d (value e v) = older g
NamedAs ls older g i saved d (added e k) = Has k d ls × (g d e ≡ saved) × older (set_list d e 0 g)
NamedAs ls older g i saved d (taken e k) = Has k d ls × older (set_list d e i g)

abbrev pub Named : List Leaf → List Undone → Lists → Type 0
Named ls [] g = Unit {0}
Named ls (u ∷ us) g = NamedAs ls (Named ls us) g u.num u.saved u.descriptor u.undo

-- ---- the whole

pub record Holds (s : List ℕ) (t : List Session) (L : Lay) : Type 0 where
  pub seats : length t ≡ suc width
  pub fits : Fits s t L
  pub owned : Owned L
  pub hands : (p : ℕ) → p ≤ width → HandFits L p (session_at t p)
  pub named : (p : ℕ) → suc p ≤ width → Named (leaves_in L) (L.undos (suc p)) (lists_in L)

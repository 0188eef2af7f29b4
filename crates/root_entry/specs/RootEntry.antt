-- What entering the root does to the words (document 01, "Steps"): s is read at entry, p is the party, x its session record.
use Rattle.std.specs.Prelude.{◌≡◌, Bool, true, false, cond, List, ℕ, ◌+◌, ◌-◌, ◌≤◌, leb, eqb}
use Rattle.machine.specs.Holders.{width}
use Rattle.words.specs.Store.{HasRecord}
use Rattle.words.specs.Header.{header_word, root_place, height_place}
use Rattle.nodes.specs.Node.{node_at}
use Rattle.chain.specs.Free.{Poppable}
use Rattle.sessions.specs.declared.Session.{Session}
use Rattle.outcomes.specs.declared.Answer.TheVariants.{More, Wait, Refused}
use Rattle.outcomes.specs.Said.{Stepped}
use Rattle.nodes.specs.Paths.{son_at}
use Rattle.nodes.specs.Ops.{latch_at}
use Rattle.descents.specs.Descents.{has_free, first_in_way}
use Rattle.splits.specs.Splits.{split_root, split_root_half, CanSplitRoot, drop_root}
use Rattle.endings.specs.Table.{idled}
use Rattle.finishing.specs.Finishing.{end_request, Endable}
use Rattle.walking.specs.Hands.{standing_at}

-- ---- what is entered

-- The root's lone son is a node: the root is dropped.
unfoldable pub drops_root : List ℕ → ℕ → Bool
drops_root s m = cond (leb 2 (header_word s height_place)) (eqb (node_at s m (header_word s root_place)).count 1) false

-- The node that is entered: the root, or its lone son.
unfoldable pub entered_node : List ℕ → ℕ → ℕ
entered_node s m = cond (drops_root s m) (son_at s m (header_word s root_place) 0) (header_word s root_place)

unfoldable pub dropped_words : List ℕ → ℕ → List ℕ
dropped_words s m = cond (drops_root s m) (drop_root s m) s

-- ---- the tests

-- The party and 1 whose latch is in p's way, at the root or at the node that is entered; 0 for none.
unfoldable pub root_in_way : List ℕ → ℕ → ℕ → ℕ
root_in_way s m p = first_in_way p (node_at s m (header_word s root_place)).latch (node_at s m (entered_node s m)).latch

-- A session splits a full node.
unfoldable pub splits_root : List ℕ → ℕ → ℕ → Bool
splits_root s m p = cond (eqb p 0) false (eqb (node_at s m (entered_node s m)).count 8)

-- Two records are free, or come to be by the drop.
unfoldable pub has_two : List ℕ → ℕ → Bool
has_two s m = cond (drops_root s m) (has_free s m 1) (has_free s m 2)

-- ---- the effects, on words whose root is the node that is entered

-- Node i gets the latch, and the request in hand stands there.
unfoldable pub whole_at : List ℕ → ℕ → Session → ℕ → ℕ → ℕ → Stepped
whole_at s m x i level w = record { words = latch_at s m i w; session = standing_at x i level; answer = More }

unfoldable pub enter_whole : List ℕ → ℕ → ℕ → Session → Stepped
enter_whole s m p x = whole_at s m x (header_word s root_place) (header_word s height_place) (p + 1)

-- The halves are of the level that the root had.
unfoldable pub halves_at : List ℕ → Session → ℕ → ℕ → Stepped
halves_at s x i level = record { words = s; session = standing_at x i level; answer = More }

unfoldable pub enter_halves : List ℕ → ℕ → ℕ → Session → Stepped
enter_halves s m p x = halves_at (split_root s m x.target (p + 1)) x (split_root_half s m x.target) (header_word s height_place)

-- ---- the step

unfoldable pub root_waits : List ℕ → Session → ℕ → Stepped
root_waits s x q = record { words = s; session = x; answer = Wait (q - 1) }

unfoldable pub root_refused : List ℕ → ℕ → Session → Stepped
root_refused s m x = record { words = end_request s m x; session = idled x; answer = Refused 11 0 }

unfoldable pub enter_full : List ℕ → ℕ → ℕ → Session → Stepped
enter_full s m p x = cond (has_two s m) (enter_halves (dropped_words s m) m p x) (root_refused s m x)

unfoldable pub enter_free : List ℕ → ℕ → ℕ → Session → Stepped
enter_free s m p x = cond (splits_root s m p) (enter_full s m p x) (enter_whole (dropped_words s m) m p x)

unfoldable pub enter_step_of : List ℕ → ℕ → ℕ → Session → Stepped
enter_step_of s m p x = cond (eqb (root_in_way s m p) 0) (enter_free s m p x) (root_waits s x (root_in_way s m p))

-- ---- what the words must have

-- The root and the node that is entered are there.
pub record RootReady (s : List ℕ) (m p : ℕ) : Type 0 where
  pub party : p ≤ width
  pub root : HasRecord s m (header_word s root_place)
  pub entered : HasRecord s m (entered_node s m)
  pub free : Poppable s m

-- Nobody is in the way: the words can be changed as the step does.
pub record FreeReady (s : List ℕ) (m p : ℕ) (x : Session) : Type 0 where
  pub reads : RootReady s m p
  pub whole : HasRecord (dropped_words s m) m (header_word (dropped_words s m) root_place)
  pub halves : has_two s m ≡ true → CanSplitRoot (dropped_words s m) m
  pub ends : Endable s m x

pub record EnterReady (s : List ℕ) (m p : ℕ) (x : Session) : Type 0 where
  pub reads : RootReady s m p
  pub clear : root_in_way s m p ≡ 0 → FreeReady s m p x

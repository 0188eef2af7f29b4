-- What a descent does to latches and to lowest nodes, on words, and the tests before a step; everything is read of the store at entry.
-- For each step the words it leaves, what it answers, and in one record what it asks for.
use Rattle.std.specs.Prelude.{List, Bool, true, false, cond, not, ℕ, ◌+◌, ◌≤◌, ◌<◌, leb, eqb}
use Rattle.words.specs.Store.{HasRecord, word_of}
use Rattle.words.specs.Header.{header_word, free_place}
use Rattle.nodes.specs.declared.Node.{Node}
use Rattle.nodes.specs.Node.{node_at, put_node}
use Rattle.nodes.specs.Ops.{son_for, with_latch, latch_at}
use Rattle.nodes.specs.Paths.{son_toward}
use Rattle.reshaping.specs.Ops.{insert_before, insert_behind, remove_son}

-- ---- one level down

-- node `at` is there, and so is its son on the path
pub record Toward (s : List ℕ) (m at key : ℕ) : Type 0 where
  pub node : HasRecord s m at
  pub least : 1 ≤ (node_at s m at).count
  pub most : (node_at s m at).count ≤ 8
  pub son : HasRecord s m (son_toward s m at key)

-- node `at` is released, and its son latched
unfoldable pub plain_son : List ℕ → ℕ → ℕ → ℕ → ℕ → List ℕ
plain_son s m at key w = latch_at (latch_at s m at 0) m (son_toward s m at key) w

-- ---- a lowest node

pub record CanInsert (s : List ℕ) (m at key : ℕ) : Type 0 where
  pub node : HasRecord s m at
  pub least : 1 ≤ (node_at s m at).count
  pub room : (node_at s m at).count < 8
  pub son : HasRecord s m (son_toward s m at key)

-- a descriptor beside the one at place i, whose key is k: before it, or behind it
unfoldable pub beside : Node → ℕ → ℕ → ℕ → ℕ → Node
beside p i key k new = cond (leb key k) (insert_before p i key new) (insert_behind p i k new)

-- the descriptor `new` of a key comes in, and the node is released
unfoldable pub insert_leaf : List ℕ → ℕ → ℕ → ℕ → ℕ → List ℕ
insert_leaf s m at key new =
    let p = node_at s m at in put_node s m at (with_latch (beside p (son_for p key) key (word_of s m (son_toward s m at key) 1) new) 0)

pub record CanRemove (s : List ℕ) (m at : ℕ) : Type 0 where
  pub node : HasRecord s m at
  pub two : 2 ≤ (node_at s m at).count
  pub most : (node_at s m at).count ≤ 8

-- the descriptor on the path goes, and the node is released
unfoldable pub remove_leaf : List ℕ → ℕ → ℕ → ℕ → List ℕ
remove_leaf s m at key = let p = node_at s m at in put_node s m at (with_latch (remove_son p (son_for p key)) 0)

-- ---- tests

-- at least n records are free, n up to 2
unfoldable pub has_free : List ℕ → ℕ → ℕ → Bool
has_free s m n =
    let a = header_word s free_place in cond (eqb n 0) true (cond (eqb a 0) false (cond (eqb n 1) true (not (eqb (word_of s m a 0) 0))))

-- the party and 1 whose latch word w is in party p's way, 0 for none
unfoldable pub in_way : ℕ → ℕ → ℕ
in_way p w = cond (eqb w 0) 0 (cond (eqb w (p + 1)) 0 w)

-- of two latch words the first that is in the way
unfoldable pub first_in_way : ℕ → ℕ → ℕ → ℕ
first_in_way p v w = cond (eqb (in_way p v) 0) (in_way p w) (in_way p v)

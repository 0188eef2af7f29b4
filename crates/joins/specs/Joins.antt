-- Two neighbours joined, or a son moved between them, on words; everything is read of the store at entry. For each step the words it
-- leaves, what it answers, and in one record what it asks for.
use Rattle.std.specs.Prelude.{◌≡◌, List, cond, ℕ, ◌+◌, ◌-◌, ◌≤◌, ◌<◌, eqb, get_or}
use Rattle.words.specs.Store.{HasRecord, word_of}
use Rattle.nodes.specs.declared.Node.{Node}
use Rattle.nodes.specs.Node.{node_at, put_node}
use Rattle.nodes.specs.Ops.{son_for, with_latch}
use Rattle.nodes.specs.Paths.{son_at}
use Rattle.reshaping.specs.Ops.{remove_behind, set_bound, join_nodes, move_from_left, move_from_right}
use Rattle.chain.specs.Free.{push_free}

-- ---- two neighbours: the sons of node `at` at i and i + 1

-- the place of the left one of the pair that the son on the path makes with its left neighbour, or, for the first, with its right one
unfoldable pub pair_place : Node → ℕ → ℕ
pair_place p key = cond (eqb (son_for p key) 0) 0 (son_for p key - 1)

-- nodes l and r can be one
pub record CanBeOne (s : List ℕ) (m l r : ℕ) : Type 0 where
  pub left : HasRecord s m l
  pub right : HasRecord s m r
  pub some_left : 1 ≤ (node_at s m l).count
  pub some_right : 1 ≤ (node_at s m r).count
  pub room : (node_at s m l).count + (node_at s m r).count ≤ 8

pub record CanJoin (s : List ℕ) (m at i : ℕ) : Type 0 where
  pub node : HasRecord s m at
  pub place : i < 7
  pub some : 1 ≤ (node_at s m at).count
  pub one : CanBeOne s m (son_at s m at i) (son_at s m at (i + 1))

-- both as one node, latched, at the left one's record; the right one's is free, and node `at` loses the boundary and is released
unfoldable pub join_sons : List ℕ → ℕ → ℕ → ℕ → ℕ → ℕ → List ℕ
join_sons s m at i down w =
    let l = son_at s m at i in
    let q = son_at s m at (i + 1) in
    push_free
    (put_node (put_node s m l (with_latch (join_nodes (node_at s m l) down (node_at s m q)) w)) m at (with_latch (remove_behind (node_at s m at) i) 0))
    m q

-- a son of node l can go to node r, and one of r to l
pub record CanGoRight (s : List ℕ) (m l r : ℕ) : Type 0 where
  pub left : HasRecord s m l
  pub right : HasRecord s m r
  pub two : 2 ≤ (node_at s m l).count
  pub most : (node_at s m l).count ≤ 8
  pub room : (node_at s m r).count < 8

pub record CanGoLeft (s : List ℕ) (m l r : ℕ) : Type 0 where
  pub left : HasRecord s m l
  pub right : HasRecord s m r
  pub least : 1 ≤ (node_at s m l).count
  pub room : (node_at s m l).count < 8
  pub some : 1 ≤ (node_at s m r).count

pub record CanMoveRight (s : List ℕ) (m at i : ℕ) : Type 0 where
  pub node : HasRecord s m at
  pub place : i < 7
  pub go : CanGoRight s m (son_at s m at i) (son_at s m at (i + 1))

-- the left one's last son goes to the front of the right one, which is latched; node `at` gets the boundary between them, and is released
unfoldable pub move_right : List ℕ → ℕ → ℕ → ℕ → ℕ → ℕ → List ℕ
move_right s m at i down w =
    let l = son_at s m at i in
    let q = son_at s m at (i + 1) in
    let n = move_from_left (node_at s m l) down (node_at s m q) in
    put_node (put_node (put_node s m l n.left) m q (with_latch n.right w)) m at (with_latch (set_bound (node_at s m at) i n.up) 0)

pub record CanMoveLeft (s : List ℕ) (m at i : ℕ) : Type 0 where
  pub node : HasRecord s m at
  pub place : i < 7
  pub go : CanGoLeft s m (son_at s m at i) (son_at s m at (i + 1))

-- the right one's first son goes to the end of the left one, which is latched
unfoldable pub move_left : List ℕ → ℕ → ℕ → ℕ → ℕ → ℕ → List ℕ
move_left s m at i down w =
    let l = son_at s m at i in
    let q = son_at s m at (i + 1) in
    let n = move_from_right (node_at s m l) down (node_at s m q) in
    put_node (put_node (put_node s m l (with_latch n.left w)) m q n.right) m at (with_latch (set_bound (node_at s m at) i n.up) 0)

-- the last son of the left one
abbrev pub last_of_left : List ℕ → ℕ → ℕ → ℕ → ℕ
last_of_left s m at i = son_at s m (son_at s m at i) ((node_at s m (son_at s m at i)).count - 1)

pub record HasDown (s : List ℕ) (m level at i : ℕ) : Type 0 where
  pub node : HasRecord s m at
  pub place : i < 7
  pub left : HasRecord s m (son_at s m at i)
  pub least : 1 ≤ (node_at s m (son_at s m at i)).count
  pub most : (node_at s m (son_at s m at i)).count ≤ 8
  pub last : level ≡ 1 → HasRecord s m (last_of_left s m at i)

-- the boundary that comes down between the two: that of node `at`, or, between lowest nodes (level 1), the key of the left one's last
-- descriptor
unfoldable pub down_bound : List ℕ → ℕ → ℕ → ℕ → ℕ → ℕ
down_bound s m level at i = cond (eqb level 1) (word_of s m (last_of_left s m at i) 1) (get_or (node_at s m at).bounds i 0)

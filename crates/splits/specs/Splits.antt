-- A son split, the root split, the root dropped, on words; everything is read of the store at entry. For each step the words it leaves,
-- what it answers, and in one record what it asks for.
use Rattle.std.specs.Prelude.{◌≡◌, List, cond, ℕ, ◌+◌, ◌-◌, ◌≤◌, ◌<◌, leb}
use Rattle.words.specs.Store.{HasRecord}
use Rattle.words.specs.Header.{header_word, put_header_word, root_place, height_place, free_place}
use Rattle.nodes.specs.Node.{node_at, put_node}
use Rattle.nodes.specs.Ops.{son_for, lone_node, with_latch}
use Rattle.nodes.specs.Paths.{son_at, son_toward}
use Rattle.reshaping.specs.declared.Neighbours.{Neighbours}
use Rattle.reshaping.specs.Ops.{insert_behind, split_node}
use Rattle.chain.specs.Free.{Poppable, pop_free, push_free}

-- ---- splits

-- what belongs to the half of a key: up to the boundary the left one, else the right one
abbrev pub half_of : {A : Type 0} → ℕ → ℕ → A → A → A
half_of key up l r = cond (leb key up) l r

-- both halves at records l and r, the half of the key latched
unfoldable pub put_halves : List ℕ → ℕ → ℕ → ℕ → Neighbours → ℕ → ℕ → List ℕ
put_halves s m l r n key w =
    put_node (put_node s m l (with_latch n.left (half_of key n.up w 0))) m r (with_latch n.right (half_of key n.up 0 w))

pub record CanSplitSon (s : List ℕ) (m at key : ℕ) : Type 0 where
  pub node : HasRecord s m at
  pub least : 1 ≤ (node_at s m at).count
  pub room : (node_at s m at).count < 8
  pub son : HasRecord s m (son_toward s m at key)
  pub free : Poppable s m
  pub some : header_word s free_place ≡ 0 → ⊥

-- the son on the path in two, the right half at a record that was free; node `at` gets the boundary and the new son, and is released
unfoldable pub split_son : List ℕ → ℕ → ℕ → ℕ → ℕ → List ℕ
split_son s m at key w =
    let p = node_at s m at in
    let son = son_toward s m at key in
    let a = header_word s free_place in
    let n = split_node (node_at s m son) in
    put_node (put_halves (pop_free s m) m son a n key w) m at (with_latch (insert_behind p (son_for p key) n.up a) 0)

-- the half of the key
unfoldable pub split_son_half : List ℕ → ℕ → ℕ → ℕ → ℕ
split_son_half s m at key =
    let son = son_toward s m at key in half_of key (split_node (node_at s m son)).up son (header_word s free_place)

pub record CanSplitRoot (s : List ℕ) (m : ℕ) : Type 0 where
  pub root : HasRecord s m (header_word s root_place)
  pub height : header_word s height_place ≤ 8
  pub free : Poppable s m
  pub some : header_word s free_place ≡ 0 → ⊥
  pub free₂ : Poppable (pop_free s m) m
  pub some₂ : header_word (pop_free s m) free_place ≡ 0 → ⊥

-- the header's root and height
abbrev pub put_top : List ℕ → ℕ → ℕ → List ℕ
put_top s root height = put_header_word (put_header_word s root_place root) height_place height

-- the root in two, under a new one; both take a record that was free
unfoldable pub split_root : List ℕ → ℕ → ℕ → ℕ → List ℕ
split_root s m key w =
    let t = header_word s root_place in
    let a = header_word s free_place in
    let b = header_word (pop_free s m) free_place in
    let n = split_node (node_at s m t) in
    put_top (put_node (put_halves (pop_free (pop_free s m) m) m t a n key w) m b (insert_behind (lone_node t) 0 n.up a)) b (header_word s height_place + 1)

unfoldable pub split_root_half : List ℕ → ℕ → ℕ → ℕ
split_root_half s m key =
    let t = header_word s root_place in half_of key (split_node (node_at s m t)).up t (header_word s free_place)

-- ---- the drop

pub record CanDropRoot (s : List ℕ) (m : ℕ) : Type 0 where
  pub root : HasRecord s m (header_word s root_place)
  pub height : 1 ≤ header_word s height_place

-- the root's first son becomes the root, and the former root's record is free
unfoldable pub drop_root : List ℕ → ℕ → List ℕ
drop_root s m =
    let r = header_word s root_place in push_free (put_top s (son_at s m r 0) (header_word s height_place - 1)) m r

-- A walk of the tree that meets each node and descriptor once, checks fanout, boundaries, keys and the chain of descriptors, counts the
-- latched nodes, and notes the descriptors in the order of their keys.
use Rattle.std.specs.Prelude.{◌≡◌, Result, Ok, Err, List, Bool, true, false, cond, not, ◌&&◌, ℕ, zero, suc, ◌+◌, ◌-◌, ◌≤◌, eqb, ltb, leb, get_or, set}
use Rattle.words.specs.Header.{header_word, root_place, height_place, first_place}
use Rattle.nodes.specs.Node.{node_at}
use Rattle.nodes.specs.declared.Node.{Node}
use Rattle.groups.specs.Descriptor.{descriptor_at}
use Rattle.marks.specs.Marks.{Visit, start, meet, node_mark, descriptor_mark}
use Rattle.tree_walk.specs.declared.Walk.{Walk}

-- how a walk stands: whether all is in order so far, how many records may still be met, how many nodes are latched, the record of the
-- descriptor that the chain names next, how many descriptors were met, and the lowest key that the next may have
pub record Stand : Type 0 where
  pub ok : Bool
  pub left : ℕ
  pub latches : ℕ
  pub next : ℕ
  pub count : ℕ
  pub low : ℕ

-- a walk that is in order so far
abbrev pub going : Walk → Stand
going w = record { ok = true; left = w.left; latches = w.latches; next = w.next; count = w.count; low = w.low }

-- a walk's words, whether it is in order or not
abbrev pub walk_of : Stand → Walk
walk_of w = record { left = w.left; latches = w.latches; next = w.next; count = w.count; low = w.low }

-- what a function answers: a walk's words, as Ok if it is in order, and as Err if not
abbrev pub walk_if : Stand → Result Walk Walk
walk_if w = cond w.ok (Ok (walk_of w)) (Err (walk_of w))

-- a walk with its marks, and the records of the descriptors in order so far
pub record Tour : Type 0 where
  pub walk : Stand
  pub seen : List ℕ
  pub order : List ℕ

abbrev pub tour : Stand → List ℕ → List ℕ → Tour
tour w seen order = record { walk = w; seen = seen; order = order }

-- what a function answers and leaves is what the walk says
pub record Toured (v : Tour) (w : Result Walk Walk) (seen order : List ℕ) : Type 0 where
  pub walk : w ≡ walk_if v.walk
  pub marks : seen ≡ v.seen
  pub noted : order ≡ v.order

-- a walk, and the next one if it is in order
abbrev pub then_tour : Tour → (Tour → Tour) → Tour
then_tour v g = cond v.walk.ok (g v) v

-- not in order
unfoldable pub stop : Stand → Stand
stop w = record { ok = false; left = w.left; latches = w.latches; next = w.next; count = w.count; low = w.low }

abbrev pub stop_tour : Tour → Tour
stop_tour t = tour (stop t.walk) t.seen t.order

-- ---- descriptors

-- the highest key below son k: the boundary behind it, and for the last son the node's own highest
unfoldable pub top_of : Node → ℕ → ℕ → ℕ
top_of n k hi = cond (ltb (k + 1) n.count) (get_or n.bounds k 0) hi

-- the lowest key of son k at a lowest node: the boundary behind it, which is its key; the last son has none
unfoldable pub least_of : Node → ℕ → ℕ
least_of n k = cond (ltb (k + 1) n.count) (get_or n.bounds k 0) 0

-- descriptor i's key is above the one before it, and from least to top; the chain goes on behind it
unfoldable pub leaf_words : List ℕ → ℕ → ℕ → ℕ → ℕ → Stand → Stand
leaf_words s m i least top w =
    cond (leb w.low (descriptor_at s m i).key && leb least (descriptor_at s m i).key && leb (descriptor_at s m i).key top)
    (record {
      ok = true;
      left = w.left;
      latches = w.latches;
      next = (descriptor_at s m i).next;
      count = w.count + 1;
      low = (descriptor_at s m i).key + 1;
    })
    (stop w)

-- with so many records left to be met
unfoldable pub met_walk : Stand → ℕ → Stand
met_walk w left = record { ok = true; left = left; latches = w.latches; next = w.next; count = w.count; low = w.low }

-- after descriptor i was met: its place in the order, and its words
unfoldable pub leaf_met : List ℕ → ℕ → ℕ → ℕ → ℕ → Stand → List ℕ → Visit → Tour
leaf_met s m i least top w order v =
    cond v.ok
    (tour (leaf_words s m i least top (met_walk w v.left)) v.seen (set order w.count i))
    (tour (stop w) v.seen order)

-- descriptor i is the one that the chain names
unfoldable pub leaf_tour : List ℕ → ℕ → ℕ → ℕ → ℕ → ℕ → Tour → Tour
leaf_tour s m r i least top t =
    cond (eqb i t.walk.next && leb t.walk.count 4096)
    (leaf_met s m i least top t.walk t.order (meet r descriptor_mark (start t.walk.left t.seen) i))
    (stop_tour t)

-- a lowest node's sons from k on, `rest` of them
unfoldable pub leaves_from : List ℕ → ℕ → ℕ → Node → ℕ → ℕ → ℕ → Tour → Tour
leaves_from s m r n hi k zero t = t
leaves_from s m r n hi k (suc rest) t =
    then_tour (leaf_tour s m r (get_or n.sons k 0) (least_of n k) (top_of n k hi) t) (leaves_from s m r n hi (k + 1) rest)

-- ---- nodes

-- the next key lies above top
unfoldable pub raise : Stand → ℕ → Stand
raise w top = record { ok = w.ok; left = w.left; latches = w.latches; next = w.next; count = w.count; low = top + 1 }

-- the sons from k on, `rest` of them, by f
unfoldable pub sons_from : (ℕ → ℕ → Tour → Tour) → Node → ℕ → ℕ → ℕ → Tour → Tour
sons_from f n hi k zero t = t
sons_from f n hi k (suc rest) t =
    then_tour (f (get_or n.sons k 0) (top_of n k hi) t)
    (λ u. sons_from f n hi (k + 1) rest (tour (raise u.walk (top_of n k hi)) u.seen u.order))

-- a node's latch, if it has one, is counted, to 4096
unfoldable pub count_latch : Node → Stand → Stand
count_latch n w =
    cond (not (eqb n.latch 0) && ltb w.latches 4096)
    (record { ok = w.ok; left = w.left; latches = w.latches + 1; next = w.next; count = w.count; low = w.low })
    w

unfoldable pub fanout_ok : Node → ℕ → Bool
fanout_ok n least = leb least n.count && leb n.count 8

-- inside a node that was met: its fanout, its latch, its sons by g
unfoldable pub inside : Node → ℕ → (Tour → Tour) → Tour → Tour
inside n least g t = cond (fanout_ok n least) (g (tour (count_latch n t.walk) t.seen t.order)) (stop_tour t)

-- a node that is met, before its words are looked at
pub record Enter : Type 0 where
  pub walk : Stand
  pub seen : List ℕ

unfoldable pub entered_as : Stand → Visit → Stand
entered_as w v = record { ok = v.ok; left = v.left; latches = w.latches; next = w.next; count = w.count; low = w.low }

unfoldable pub enter_tour : ℕ → ℕ → Stand → List ℕ → Enter
enter_tour r i w seen =
    record { walk = entered_as w (meet r node_mark (start w.left seen) i); seen = (meet r node_mark (start w.left seen) i).seen }

-- what a function answers and leaves is what entering says, with what is known of a record that was met
pub record Entered (r i : ℕ) (e : Enter) (w : Result Walk Walk) (seen : List ℕ) : Type 0 where
  pub walk : w ≡ walk_if e.walk
  pub marks : seen ≡ e.seen
  pub inside : (v : Walk) → w ≡ Ok v → (1 ≤ i) × (i ≤ r)

unfoldable pub into : Enter → List ℕ → (Tour → Tour) → Tour
into e order g = then_tour (tour e.walk e.seen order) g

-- the tree below node i, of at least so many sons, whose lowest nodes are so many levels down, with keys up to hi
unfoldable pub tree_from : List ℕ → ℕ → ℕ → ℕ → ℕ → ℕ → ℕ → Tour → Tour
tree_from s m r zero least i hi t =
    into (enter_tour r i t.walk t.seen) t.order (inside (node_at s m i) least (leaves_from s m r (node_at s m i) hi 0 (node_at s m i).count))
tree_from s m r (suc d) least i hi t =
    into (enter_tour r i t.walk t.seen) t.order (inside (node_at s m i) least (sons_from (tree_from s m r d 3) (node_at s m i) hi 0 (node_at s m i).count))

-- ---- the whole tree

-- at its end the chain ends
unfoldable pub end_tour : Tour → Tour
end_tour v = cond (eqb v.walk.next 0) v (stop_tour v)

-- before any record is met, with the chain of descriptors from record first
unfoldable pub start_walk : ℕ → ℕ → Stand
start_walk r first = record { ok = true; left = r; latches = 0; next = first; count = 0; low = 0 }

-- from the root, with 1 to 8 levels of nodes, the chain of descriptors from the header's first, and keys below the upper infinity
unfoldable pub root_tour : List ℕ → ℕ → ℕ → List ℕ → List ℕ → Tour
root_tour s m r seen order =
    cond (not (eqb (header_word s height_place) 0) && leb (header_word s height_place) 8)
    (end_tour (tree_from s m r (header_word s height_place - 1) 1 (header_word s root_place) 4294967294 (tour (start_walk r (header_word s first_place)) seen order)))
    (tour (stop (start_walk r (header_word s first_place))) seen order)

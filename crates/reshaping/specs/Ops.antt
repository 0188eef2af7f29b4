-- What the operations on a node do, on lists.
use Rattle.std.specs.Prelude.{List, [], ◌∷◌, ◌++◌, cond, ℕ, suc, ◌+◌, ◌-◌, ltb, get_or, set, length, take, drop}
use Rattle.std.proofs.Math.Seq.{paste}
use Rattle.words.specs.Window.{words_at}
use Rattle.nodes.specs.declared.Node.{Node}
use Rattle.reshaping.specs.declared.Neighbours.{Neighbours}

-- ---- one array of a node

-- x at i, the later ones one place on, the last one gone
unfoldable pub insert_in : List ℕ → ℕ → ℕ → List ℕ
insert_in l i x = take i l ++ take (length l - i) (x ∷ drop i l)

-- the one at i gone, the later ones one place up, a 0 last
unfoldable pub remove_in : List ℕ → ℕ → List ℕ
remove_in l i = take i l ++ (drop (suc i) l ++ (0 ∷ []))

-- ---- a son more, a son less

-- boundary key at i and the son at j
unfoldable pub insert_son : Node → ℕ → ℕ → ℕ → ℕ → Node
insert_son n i key j son =
    record { latch = n.latch; count = n.count + 1; bounds = insert_in n.bounds i key; sons = insert_in n.sons j son }

-- the son before place i, with the boundary between the two
abbrev pub insert_before : Node → ℕ → ℕ → ℕ → Node
insert_before n i key son = insert_son n i key i son

-- the son behind place i, with the boundary between the two
abbrev pub insert_behind : Node → ℕ → ℕ → ℕ → Node
insert_behind n i key son = insert_son n i key (i + 1) son

-- boundary i and son j gone
unfoldable pub drop_son : Node → ℕ → ℕ → Node
drop_son n i j =
    record { latch = n.latch; count = n.count - 1; bounds = remove_in n.bounds i; sons = remove_in n.sons j }

-- boundary i gone with the son before it, and with the son behind it
abbrev pub remove_before : Node → ℕ → Node
remove_before n i = drop_son n i i

abbrev pub remove_behind : Node → ℕ → Node
remove_behind n i = drop_son n i (i + 1)

-- son i gone with the boundary behind it; the last son has none and goes with the boundary before it
unfoldable pub remove_son : Node → ℕ → Node
remove_son n i = cond (ltb (i + 1) n.count) (remove_before n i) (remove_behind n (i - 1))

-- ---- a boundary replaced

unfoldable pub set_bound : Node → ℕ → ℕ → Node
set_bound n i key = record { latch = n.latch; count = n.count; bounds = set n.bounds i key; sons = n.sons }

-- ---- two nodes

-- A full node as two of four sons: the left one has its latch and its boundaries 1 to 3, the fourth goes up, the right one has 5 to 7.
unfoldable pub split_node : Node → Neighbours
split_node n =
    record {
      left = record { latch = n.latch; count = 4; bounds = words_at n.bounds 0 3 ++ (0 ∷ 0 ∷ 0 ∷ 0 ∷ []); sons = words_at n.sons 0 4 ++ (0 ∷ 0 ∷ 0 ∷ 0 ∷ []) };
      up = get_or n.bounds 3 0;
      right = record { latch = 0; count = 4; bounds = words_at n.bounds 4 3 ++ (0 ∷ 0 ∷ 0 ∷ 0 ∷ []); sons = words_at n.sons 4 4 ++ (0 ∷ 0 ∷ 0 ∷ 0 ∷ []) };
    }

-- Two nodes as one with the left one's latch, between them the boundary that comes down.
unfoldable pub join_nodes : Node → ℕ → Node → Node
join_nodes l down r =
    record {
      latch = l.latch;
      count = l.count + r.count;
      bounds = paste (set l.bounds (l.count - 1) down) l.count r.bounds (r.count - 1);
      sons = paste l.sons l.count r.sons r.count;
    }

-- The left one's last son goes to the front of the right one. `down` comes down before that one's former first son; the left one's last
-- boundary goes up.
unfoldable pub move_from_left : Node → ℕ → Node → Neighbours
move_from_left l down r =
    record {
      left = remove_behind l (l.count - 2);
      up = get_or l.bounds (l.count - 2) 0;
      right = insert_before r 0 down (get_or l.sons (l.count - 1) 0);
    }

-- The right one's first son goes to the end of the left one. `down` comes down behind that one's former last son; the right one's first
-- boundary goes up.
unfoldable pub move_from_right : Node → ℕ → Node → Neighbours
move_from_right l down r =
    record {
      left = insert_behind l (l.count - 1) down (get_or r.sons 0 0);
      up = get_or r.bounds 0 0;
      right = remove_before r 0;
    }

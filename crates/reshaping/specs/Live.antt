-- The sons and boundaries that a node uses, after each operation.
use Rattle.std.specs.Prelude.{◌≡◌, Bool, true, false, cond, ℕ, zero, suc, ◌+◌, ◌-◌, ◌≤◌, ◌<◌, length, take, drop, get_or, ltb}
use Rattle.std.proofs.Math.Path.{refl, sym, ap}
use Rattle.std.proofs.Common.{◌∙◌, length-append, length-take, length-drop, length-take-le, take-take, get_or-take, ltb-true}
use mathlib.Core.List.{List, [], ◌∷◌, ◌++◌}
use native.Mathlib.Omega.{arith}
use Rattle.std.proofs.Math.ListN.{set, length-set}
use Rattle.std.proofs.Math.Seq.{paste, length-paste, take-paste, take-append-add, take-suc-set, take-set-lt, take-nil, append_snoc}
use Rattle.std.proofs.lemmas.List.{take-append-le}
use Rattle.words.specs.Window.{words_at, words-part}
use Rattle.nodes.specs.declared.Node.{Node}
use Rattle.nodes.specs.Live.{sons_of, bounds_of, Usable, first-same}
use Rattle.reshaping.specs.Ops.{insert_in, remove_in, insert_son, drop_son, remove_before, remove_behind, remove_son, set_bound, split_node, join_nodes, move_from_left, move_from_right}

-- x at i, and the one at i gone, of a list that grows and shrinks
abbrev pub insert_at : {A : Type 0} → List A → ℕ → A → List A
insert_at l i x = take i l ++ x ∷ drop i l

abbrev pub remove_at : {A : Type 0} → List A → ℕ → List A
remove_at l i = take i l ++ drop (suc i) l

-- ---- one array

-- a part of a list, cut out either way
part_of : {A : Type 0} (i k : ℕ) (l : List A) → i ≤ k → drop i (take k l) ≡ take (k - i) (drop i l)
part_of zero k l h = first-same l k (k - 0) (omega arith)
part_of (suc i) zero l h = absurd (omega arith)
part_of (suc i) (suc k) [] h = sym (take-nil (suc k - suc i))
part_of (suc i) (suc k) (x ∷ l) h = part_of i k l (omega arith) ∙ first-same (drop i l) (k - i) (suc k - suc i) (omega arith)

-- the first k of two lists, k past the first
take_past : {A : Type 0} (p q : List A) (i k : ℕ) → length p ≡ i → i ≤ k → take k (p ++ q) ≡ p ++ take (k - i) q
take_past p q i k e h = first-same (p ++ q) k (length p + (k - i)) (omega arith) ∙ take-append-add p q (k - i)

pub length-insert_in : (l : List ℕ) (i x : ℕ) → i ≤ length l → length (insert_in l i x) ≡ length l
unfolding insert_in
length-insert_in l i x h = simp (length-append, length-take, length-drop) (omega arith)

pub length-remove_in : (l : List ℕ) (i : ℕ) → i < length l → length (remove_in l i) ≡ length l
unfolding remove_in
length-remove_in l i h = simp (length-append, length-take, length-drop) (omega arith)

-- of an array whose first k are used, one more is used
pub used-insert : (l : List ℕ) (k i x : ℕ) → i ≤ k → k < length l → take (k + 1) (insert_in l i x) ≡ insert_at (take k l) i x
unfolding insert_in
used-insert l k i x h in-l =
    let d = drop i l in
    take_past (take i l) (take (length l - i) (x ∷ d)) i (k + 1) (length-take-le i l (omega arith)) (omega arith)
    ∙ ap (λ (r : List ℕ). take i l ++ r) (take-take (k + 1 - i) (length l - i) (x ∷ d) (omega arith) ∙ first-same (x ∷ d) (k + 1 - i) (suc (k - i)) (omega arith))
    ∙ sym (rw (take-take i k l h, part_of i k l h) refl)

-- and one less
pub used-remove : (l : List ℕ) (k i : ℕ) → i < k → k ≤ length l → take (k - 1) (remove_in l i) ≡ remove_at (take k l) i
unfolding remove_in
used-remove l k i h in-l =
    let d = drop (suc i) l in
    take_past (take i l) (d ++ (0 ∷ [])) i (k - 1) (length-take-le i l (omega arith)) (omega arith)
    ∙ ap (λ (r : List ℕ). take i l ++ r)
    (take-append-le (k - 1 - i) d (0 ∷ []) (rw (length-drop (suc i) l) (omega arith)) ∙ first-same d (k - 1 - i) (k - suc i) (omega arith))
    ∙ sym (rw (take-take i k l (omega arith), part_of (suc i) k l h) refl)

-- ---- a node

-- a son more
module _ {n : Node} (ok : Usable n) (i key j son : ℕ) (room : n.count < 8) (at_i : i < n.count) (at_j : j ≤ n.count) where
  pub insert-usable : Usable (insert_son n i key j son)
  unfolding insert_son
  insert-usable =
      record {
        sized = record {
          bounds = length-insert_in n.bounds i key (omega (arith, ok.sized.bounds)) ∙ ok.sized.bounds;
          sons = length-insert_in n.sons j son (omega (arith, ok.sized.sons)) ∙ ok.sized.sons;
        };
        least = omega arith;
        most = omega arith;
      }

  pub insert-sons : sons_of (insert_son n i key j son) ≡ insert_at (sons_of n) j son
  unfolding insert_son
  insert-sons = used-insert n.sons n.count j son at_j (omega (arith, ok.sized.sons))

  pub insert-bounds : bounds_of (insert_son n i key j son) ≡ insert_at (bounds_of n) i key
  unfolding insert_son
  insert-bounds =
      first-same (insert_in n.bounds i key) (n.count + 1 - 1) (n.count - 1 + 1) (omega (arith, ok.least))
      ∙ used-insert n.bounds (n.count - 1) i key (omega arith) (omega (arith, ok.least, ok.sized.bounds))

-- a son less
module _ {n : Node} (ok : Usable n) (i j : ℕ) (at_i : i + 1 < n.count) (at_j : j < n.count) where
  pub drop-usable : Usable (drop_son n i j)
  unfolding drop_son
  drop-usable =
      record {
        sized = record {
          bounds = length-remove_in n.bounds i (omega (arith, ok.most, ok.sized.bounds)) ∙ ok.sized.bounds;
          sons = length-remove_in n.sons j (omega (arith, ok.most, ok.sized.sons)) ∙ ok.sized.sons;
        };
        least = omega arith;
        most = omega (arith, ok.most);
      }

  pub drop-sons : sons_of (drop_son n i j) ≡ remove_at (sons_of n) j
  unfolding drop_son
  drop-sons = used-remove n.sons n.count j at_j (omega (arith, ok.most, ok.sized.sons))

  pub drop-bounds : bounds_of (drop_son n i j) ≡ remove_at (bounds_of n) i
  unfolding drop_son
  drop-bounds = used-remove n.bounds (n.count - 1) i (omega arith) (omega (arith, ok.most, ok.sized.bounds))

-- a boundary replaced
module _ {n : Node} (ok : Usable n) (i key : ℕ) where
  pub set-usable : Usable (set_bound n i key)
  unfolding set_bound
  set-usable =
      record { sized = record { bounds = length-set n.bounds i key ∙ ok.sized.bounds; sons = ok.sized.sons }; least = ok.least; most = ok.most }

  pub set-bounds : i + 1 < n.count → bounds_of (set_bound n i key) ≡ set (bounds_of n) i key
  unfolding set_bound
  set-bounds h = take-set-lt (n.count - 1) n.bounds i key (omega arith)

-- a full node in two
module _ {n : Node} (ok : Usable n) (full : n.count ≡ 8) where
  pub left-usable : Usable (split_node n).left
  unfolding split_node words_at
  left-usable = record { sized = record { bounds = refl; sons = refl }; least = omega arith; most = omega arith }

  pub right-usable : Usable (split_node n).right
  unfolding split_node words_at
  right-usable = record { sized = record { bounds = refl; sons = refl }; least = omega arith; most = omega arith }

  pub left-sons : sons_of (split_node n).left ≡ take 4 (sons_of n)
  unfolding split_node words_at
  left-sons = sym (words-part n.sons 0 4 (omega (arith, ok.sized.sons))) ∙ sym (take-take 4 n.count n.sons (omega arith))

  pub left-bounds : bounds_of (split_node n).left ≡ take 3 (bounds_of n)
  unfolding split_node words_at
  left-bounds = sym (words-part n.bounds 0 3 (omega (arith, ok.sized.bounds))) ∙ sym (take-take 3 (n.count - 1) n.bounds (omega arith))

  pub up-bound : (split_node n).up ≡ get_or (bounds_of n) 3 0
  unfolding split_node
  up-bound = sym (get_or-take (n.count - 1) n.bounds 3 0 (omega arith))

  pub right-sons : sons_of (split_node n).right ≡ drop 4 (sons_of n)
  unfolding split_node words_at
  right-sons =
      sym (words-part n.sons 4 4 (omega (arith, ok.sized.sons)))
      ∙ first-same (drop 4 n.sons) 4 (n.count - 4) (omega arith)
      ∙ sym (part_of 4 n.count n.sons (omega arith))

  pub right-bounds : bounds_of (split_node n).right ≡ drop 4 (bounds_of n)
  unfolding split_node words_at
  right-bounds =
      sym (words-part n.bounds 4 3 (omega (arith, ok.sized.bounds)))
      ∙ first-same (drop 4 n.bounds) 3 (n.count - 1 - 4) (omega arith)
      ∙ sym (part_of 4 (n.count - 1) n.bounds (omega arith))

-- two nodes as one
module _ {l r : Node} (left : Usable l) (right : Usable r) (down : ℕ) (room : l.count + r.count ≤ 8) where
  pub join-usable : Usable (join_nodes l down r)
  unfolding join_nodes
  join-usable =
      record {
        sized = record {
          bounds =
              length-paste (set l.bounds (l.count - 1) down) l.count r.bounds (r.count - 1)
              (simp length-set (omega (arith, left.sized.bounds, right.least))) (omega (arith, right.sized.bounds, right.most))
              ∙ length-set l.bounds (l.count - 1) down
              ∙ left.sized.bounds;
          sons = length-paste l.sons l.count r.sons r.count (omega (arith, left.sized.sons)) (omega (arith, right.sized.sons, right.most)) ∙ left.sized.sons;
        };
        least = omega (arith, left.least);
        most = room;
      }

  pub join-sons : sons_of (join_nodes l down r) ≡ sons_of l ++ sons_of r
  unfolding join_nodes
  join-sons = take-paste l.sons l.count r.sons r.count (omega (arith, left.most, left.sized.sons)) (omega (arith, right.most, right.sized.sons))

  pub join-bounds : bounds_of (join_nodes l down r) ≡ bounds_of l ++ down ∷ bounds_of r
  unfolding join_nodes
  join-bounds =
      let b = set l.bounds (l.count - 1) down in
      first-same (paste b l.count r.bounds (r.count - 1)) (l.count + r.count - 1) (l.count + (r.count - 1)) (omega (arith, right.least))
      ∙ take-paste b l.count r.bounds (r.count - 1) (simp length-set (omega (arith, right.least, left.sized.bounds))) (omega (arith, right.most, right.sized.bounds))
      ∙ ap (λ (p : List ℕ). p ++ bounds_of r)
      (first-same b l.count (suc (l.count - 1)) (omega (arith, left.least))
      ∙ take-suc-set l.bounds (l.count - 1) down (omega (arith, left.least, right.least, left.sized.bounds)))
      ∙ append_snoc (bounds_of l) down (bounds_of r)

-- a son less by its place, and one son from a neighbour
pub remove-usable : {n : Node} → Usable n → (i : ℕ) → 2 ≤ n.count → i < n.count → Usable (remove_son n i)
unfolding remove_son
remove-usable {n} ok i two h = go (ltb (i + 1) n.count) refl
  where
    go : (b : Bool) → ltb (i + 1) n.count ≡ b → Usable (cond b (remove_before n i) (remove_behind n (i - 1)))
    go true e = drop-usable ok i i (ltb-true (i + 1) n.count e) h
    go false e = drop-usable ok (i - 1) (i - 1 + 1) (omega arith) (omega arith)

module _ {l r : Node} (left : Usable l) (right : Usable r) (down : ℕ) where
  pub from-left-usable : 2 ≤ l.count → r.count < 8 → Usable (move_from_left l down r).left × Usable (move_from_left l down r).right
  unfolding move_from_left
  from-left-usable two room = (
    drop-usable left (l.count - 2) (l.count - 2 + 1) (omega arith) (omega arith),
    insert-usable right 0 down 0 (get_or l.sons (l.count - 1) 0) room (omega (arith, right.least)) (omega arith),
  )

  pub from-right-usable : l.count < 8 → 2 ≤ r.count → Usable (move_from_right l down r).left × Usable (move_from_right l down r).right
  unfolding move_from_right
  from-right-usable room two = (
    insert-usable left (l.count - 1) down (l.count - 1 + 1) (get_or r.sons 0 0) room (omega (arith, left.least)) (omega (arith, left.least)),
    drop-usable right 0 0 (omega arith) (omega arith),
  )

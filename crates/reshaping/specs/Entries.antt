-- Each operation on a node as one on its entries (son, upper bound).
use Rattle.std.specs.Prelude.{◌≡◌, refl, ℕ, zero, suc, ◌+◌, ◌-◌, ◌≤◌, ◌<◌, take, drop}
use Rattle.std.proofs.Math.Path.{sym, ap}
use Rattle.std.proofs.Common.{ap₂, ◌∙◌, add-one, length-append, take_at, drop_at, get_or-take, take-suc, lt-ltb, le-ltb}
use mathlib.Core.List.{List, [], ◌∷◌, ◌++◌, append_assoc, map}
use native.Mathlib.Omega.{arith}
use Rattle.std.proofs.Math.ListN.{length, get_or, set, get_or-append}
use Rattle.std.proofs.lemmas.List.{length-map, take-append-le, drop-append-le, set-append_left, get_or_at}
use Rattle.std.proofs.Math.Seq.{append_snoc, set_at}
use Rattle.nodes.specs.declared.Node.{Node}
use Rattle.nodes.specs.Live.{sons_of, bounds_of, Usable, length-bounds_of}
use Rattle.nodes.specs.Entries.{Entry, son_part, bound_part, entries, entries-sons, entries-bounds, entries-length, entries-are, sons-cut, bounds-cut, count_cut, place-in, sons-at, son-here, front, front_length, entries-end, last-place, entries-upto}
use Rattle.reshaping.specs.Ops.{insert_son, insert_before, insert_behind, drop_son, remove_before, remove_behind, remove_son, set_bound, split_node, join_nodes, move_from_left, move_from_right}
use Rattle.reshaping.specs.Live.{insert_at, remove_at, insert-sons, insert-bounds, drop-sons, drop-bounds, set-bounds, left-sons, left-bounds, up-bound, right-sons, right-bounds, join-sons, join-bounds}

-- ---- one in a list, and one out of it, at the end of a known part

module _ (p : List ℕ) (i : ℕ) (e : length p ≡ i) where
  one_more : (y : ℕ) → length (p ++ (y ∷ [])) ≡ i + 1
  one_more y = length-append p (y ∷ []) ∙ omega arith

  put_at : (q : List ℕ) (x : ℕ) → insert_at (p ++ q) i x ≡ p ++ x ∷ q
  put_at q x = rw (take_at p q i e, drop_at p q i e) refl

  out_at : (y : ℕ) (q : List ℕ) → remove_at (p ++ y ∷ q) i ≡ p ++ q
  out_at y q =
      rw (take_at p (y ∷ q) i e, ← append_snoc p y q, ← add-one i, drop_at (p ++ (y ∷ [])) q (i + 1) (one_more y)) refl

module _ (p : List ℕ) (y : ℕ) (i : ℕ) (e : length p ≡ i) where
  put-behind : (q : List ℕ) (x : ℕ) → insert_at (p ++ y ∷ q) (i + 1) x ≡ p ++ y ∷ x ∷ q
  put-behind q x =
      ap (λ (l : List ℕ). insert_at l (i + 1) x) (sym (append_snoc p y q))
      ∙ put_at (p ++ (y ∷ [])) (i + 1) (one_more p i e y) q x
      ∙ append_snoc p y (x ∷ q)

  out-behind : (z : ℕ) (q : List ℕ) → remove_at (p ++ y ∷ z ∷ q) (i + 1) ≡ p ++ y ∷ q
  out-behind z q =
      ap (λ (l : List ℕ). remove_at l (i + 1)) (sym (append_snoc p y (z ∷ q)))
      ∙ out_at (p ++ (y ∷ [])) (i + 1) (one_more p i e y) z q
      ∙ append_snoc p y q

put-over : (l r : List ℕ) (i x : ℕ) → i ≤ length l → insert_at l i x ++ r ≡ insert_at (l ++ r) i x
put-over l r i x h = rw (take-append-le i l r h, drop-append-le i l r h) (append_assoc (take i l) (x ∷ drop i l) r)

out-over : (l r : List ℕ) (i : ℕ) → i < length l → remove_at l i ++ r ≡ remove_at (l ++ r) i
out-over l r i h = rw (take-append-le i l r (omega arith), drop-append-le (suc i) l r h) (append_assoc (take i l) (drop (suc i) l) r)

-- ---- a son more

module _ {n : Node} (ok : Usable n) (u : ℕ) (pre : List Entry) (a v : ℕ) (post : List Entry) (is : entries n u ≡ pre ++ (a, v) ∷ post)
    (room : n.count < 8) (key son : ℕ) where
  here : length pre < n.count
  here = place-in ok u pre a v post is

  -- the new boundary stands before that of the son at the place, wherever the new son stands
  new-bounds : (j : ℕ) → j ≤ n.count → bounds_of (insert_son n (length pre) key j son) ++ (u ∷ []) ≡ bound_part pre ++ key ∷ v ∷ bound_part post
  new-bounds j h =
      ap (λ (l : List ℕ). l ++ (u ∷ [])) (insert-bounds ok (length pre) key j son room here h)
      ∙ put-over (bounds_of n) (u ∷ []) (length pre) key (omega (arith, length-bounds_of ok, here))
      ∙ ap (λ (l : List ℕ). insert_at l (length pre) key) (bounds-cut ok u pre ((a, v) ∷ post) is)
      ∙ put_at (bound_part pre) (length pre) (length-map pre (λ (p : Entry). p.1)) (v ∷ bound_part post) key

  pub before-entries : entries (insert_before n (length pre) key son) u ≡ pre ++ (son, key) ∷ (a, v) ∷ post
  before-entries =
      entries-are _ u pre ((son, key) ∷ (a, v) ∷ post)
      (insert-sons ok (length pre) key (length pre) son room here (omega (arith, here))
      ∙ ap (λ (l : List ℕ). insert_at l (length pre) son) (sons-at ok u pre a v post is)
      ∙ put_at (son_part pre) (length pre) (length-map pre (λ (p : Entry). p.0)) (a ∷ son_part post) son)
      (new-bounds (length pre) (omega (arith, here)))

  pub behind-entries : entries (insert_behind n (length pre) key son) u ≡ pre ++ (a, key) ∷ (son, v) ∷ post
  behind-entries =
      entries-are _ u pre ((a, key) ∷ (son, v) ∷ post)
      (insert-sons ok (length pre) key (length pre + 1) son room here (omega (arith, here))
      ∙ ap (λ (l : List ℕ). insert_at l (length pre + 1) son) (sons-at ok u pre a v post is)
      ∙ put-behind (son_part pre) a (length pre) (length-map pre (λ (p : Entry). p.0)) (son_part post) son)
      (new-bounds (length pre + 1) (omega (arith, here)))

-- ---- two neighbours: one of them less, and the boundary between them

module _ {n : Node} (ok : Usable n) (u : ℕ) (pre : List Entry) (a v b w : ℕ) (post : List Entry) (is : entries n u ≡ pre ++ (a, v) ∷ (b, w) ∷ post) where
  two_here : length pre + 1 < n.count
  two_here = omega (arith, count_cut ok u pre ((a, v) ∷ (b, w) ∷ post) is)

  two-sons : sons_of n ≡ son_part pre ++ a ∷ b ∷ son_part post
  two-sons = sons-cut ok u pre ((a, v) ∷ (b, w) ∷ post) is

  two-bounds : bounds_of n ++ (u ∷ []) ≡ bound_part pre ++ v ∷ w ∷ bound_part post
  two-bounds = bounds-cut ok u pre ((a, v) ∷ (b, w) ∷ post) is

  less-bounds : (j : ℕ) → j < n.count → bounds_of (drop_son n (length pre) j) ++ (u ∷ []) ≡ bound_part pre ++ w ∷ bound_part post
  less-bounds j h =
      ap (λ (l : List ℕ). l ++ (u ∷ [])) (drop-bounds ok (length pre) j two_here h)
      ∙ out-over (bounds_of n) (u ∷ []) (length pre) (omega (arith, length-bounds_of ok, two_here))
      ∙ ap (λ (l : List ℕ). remove_at l (length pre)) two-bounds
      ∙ out_at (bound_part pre) (length pre) (length-map pre (λ (p : Entry). p.1)) v (w ∷ bound_part post)

  -- the left one goes
  pub left_out : entries (remove_before n (length pre)) u ≡ pre ++ (b, w) ∷ post
  left_out =
      entries-are _ u pre ((b, w) ∷ post)
      (drop-sons ok (length pre) (length pre) two_here (omega (arith, two_here))
      ∙ ap (λ (l : List ℕ). remove_at l (length pre)) two-sons
      ∙ out_at (son_part pre) (length pre) (length-map pre (λ (p : Entry). p.0)) a (b ∷ son_part post))
      (less-bounds (length pre) (omega (arith, two_here)))

  -- the right one goes, and the left one's interval grows to its bound
  pub right-out : entries (remove_behind n (length pre)) u ≡ pre ++ (a, w) ∷ post
  right-out =
      entries-are _ u pre ((a, w) ∷ post)
      (drop-sons ok (length pre) (length pre + 1) two_here two_here
      ∙ ap (λ (l : List ℕ). remove_at l (length pre + 1)) two-sons
      ∙ out-behind (son_part pre) a (length pre) (length-map pre (λ (p : Entry). p.0)) b (son_part post))
      (less-bounds (length pre + 1) two_here)

  -- the boundary between them replaced
  pub bound-set : (key : ℕ) → entries (set_bound n (length pre) key) u ≡ pre ++ (a, key) ∷ (b, w) ∷ post
  unfolding set_bound
  bound-set key =
      entries-are (set_bound n (length pre) key) u pre ((a, key) ∷ (b, w) ∷ post) two-sons
      (ap (λ (l : List ℕ). l ++ (u ∷ [])) (set-bounds ok (length pre) key two_here)
      ∙ sym (set-append_left (bounds_of n) (u ∷ []) (length pre) key (omega (arith, length-bounds_of ok, two_here)))
      ∙ ap (λ (l : List ℕ). set l (length pre) key) two-bounds
      ∙ set_at (bound_part pre) v (w ∷ bound_part post) key (length pre) (length-map pre (λ (p : Entry). p.1)))

  -- the boundary between them
  pub bound-between : get_or n.bounds (length pre) 0 ≡ v
  bound-between =
      sym (get_or-take (n.count - 1) n.bounds (length pre) 0 (omega (arith, two_here)))
      ∙ sym (get_or-append (bounds_of n) (u ∷ []) 0 (length pre) (omega (arith, length-bounds_of ok, two_here)))
      ∙ ap (λ (l : List ℕ). get_or l (length pre) 0) two-bounds
      ∙ get_or_at (bound_part pre) v (w ∷ bound_part post) 0 (length pre) (length-map pre (λ (p : Entry). p.1))

  -- son i less, by its place: one that is not the last, and the last
  pub out-inner : entries (remove_son n (length pre)) u ≡ pre ++ (b, w) ∷ post
  unfolding remove_son
  out-inner = rw (lt-ltb (length pre + 1) n.count two_here) left_out

  pub out-last : post ≡ [] → entries (remove_son n (length pre + 1)) u ≡ pre ++ (a, w) ∷ post
  unfolding remove_son
  out-last e =
      let z : length post ≡ 0 = ap length e in
      let c : n.count ≡ length pre + 2 = count_cut ok u pre ((a, v) ∷ (b, w) ∷ post) is ∙ omega arith in
      let back : length pre + 1 - 1 ≡ length pre = omega arith in
      rw (le-ltb (length pre + 1 + 1) n.count (omega arith), back) right-out

-- ---- a full node in two: the first four entries, the bound of the fourth, and the last four

map-take : {A B : Type 0} (f : A → B) (i : ℕ) (l : List A) → map f (take i l) ≡ take i (map f l)
map-take f zero l = refl
map-take f (suc i) [] = refl
map-take {B = B} f (suc i) (x ∷ l) = ap (λ (r : List B). f x ∷ r) (map-take f i l)

map-drop : {A B : Type 0} (f : A → B) (i : ℕ) (l : List A) → map f (drop i l) ≡ drop i (map f l)
map-drop f zero l = refl
map-drop f (suc i) [] = refl
map-drop f (suc i) (x ∷ l) = map-drop f i l

module _ {n : Node} (ok : Usable n) (full : n.count ≡ 8) (u : ℕ) where
  pub split-left : entries (split_node n).left (split_node n).up ≡ take 4 (entries n u)
  split-left =
      entries-are (split_node n).left (split_node n).up [] (take 4 (entries n u))
      (left-sons ok full ∙ ap (λ (l : List ℕ). take 4 l) (sym (entries-sons ok u)) ∙ sym (map-take (λ (p : Entry). p.0) 4 (entries n u)))
      (ap₂ (λ (l : List ℕ) (b : ℕ). l ++ (b ∷ [])) (left-bounds ok full) (up-bound ok full)
      ∙ sym (take-suc (bounds_of n) 3 0 (omega (arith, length-bounds_of ok)))
      ∙ sym (take-append-le 4 (bounds_of n) (u ∷ []) (omega (arith, length-bounds_of ok)))
      ∙ ap (λ (l : List ℕ). take 4 l) (sym (entries-bounds ok u))
      ∙ sym (map-take (λ (p : Entry). p.1) 4 (entries n u)))

  pub split-up : (split_node n).up ≡ get_or (bound_part (entries n u)) 3 0
  split-up =
      up-bound ok full
      ∙ sym (get_or-append (bounds_of n) (u ∷ []) 0 3 (omega (arith, length-bounds_of ok)))
      ∙ ap (λ (l : List ℕ). get_or l 3 0) (sym (entries-bounds ok u))

  pub split-right : entries (split_node n).right u ≡ drop 4 (entries n u)
  split-right =
      entries-are (split_node n).right u [] (drop 4 (entries n u))
      (right-sons ok full ∙ ap (λ (l : List ℕ). drop 4 l) (sym (entries-sons ok u)) ∙ sym (map-drop (λ (p : Entry). p.0) 4 (entries n u)))
      (ap (λ (l : List ℕ). l ++ (u ∷ [])) (right-bounds ok full)
      ∙ sym (drop-append-le 4 (bounds_of n) (u ∷ []) (omega (arith, length-bounds_of ok)))
      ∙ ap (λ (l : List ℕ). drop 4 l) (sym (entries-bounds ok u))
      ∙ sym (map-drop (λ (p : Entry). p.1) 4 (entries n u)))

-- ---- two nodes as one

module _ {l r : Node} (left : Usable l) (right : Usable r) (room : l.count + r.count ≤ 8) (down u : ℕ) where
  pub join-entries : entries (join_nodes l down r) u ≡ entries l down ++ entries r u
  join-entries =
      entries-are (join_nodes l down r) u (entries l down) (entries r u)
      (join-sons left right down room ∙ sym (ap₂ (λ (p q : List ℕ). p ++ q) (entries-sons left down) (entries-sons right u)))
      (ap (λ (b : List ℕ). b ++ (u ∷ [])) (join-bounds left right down room)
      ∙ append_assoc (bounds_of l) (down ∷ bounds_of r) (u ∷ [])
      ∙ sym (append_snoc (bounds_of l) down (bounds_of r ++ (u ∷ [])))
      ∙ sym (ap₂ (λ (p q : List ℕ). p ++ q) (entries-bounds left down) (entries-bounds right u)))

-- ---- one son from a neighbour

-- a son before the first, and one behind the last
module _ {n : Node} (ok : Usable n) (room : n.count < 8) (u key son : ℕ) where
  pub first-entries : entries (insert_before n 0 key son) u ≡ (son, key) ∷ entries n u
  first-entries = go (entries n u) refl
    where
      go : (es : List Entry) → entries n u ≡ es → entries (insert_before n 0 key son) u ≡ (son, key) ∷ es
      go [] e = absurd (let z : length (entries n u) ≡ 0 = ap length e in omega (arith, entries-length ok u, ok.least))
      go (p ∷ es) e = before-entries ok u [] p.0 p.1 es e room key son

  pub last-entries : entries (insert_behind n (n.count - 1) key son) u ≡ entries n key ++ (son, u) ∷ []
  last-entries =
      let s = get_or n.sons (n.count - 1) 0 in
      ap (λ (i : ℕ). entries (insert_behind n i key son) u) (sym (front_length ok))
      ∙ behind-entries ok u (front n) s u [] (entries-end ok u) room key son
      ∙ sym (append_assoc (front n) ((s, key) ∷ []) ((son, u) ∷ []))
      ∙ ap (λ (l : List Entry). l ++ (son, u) ∷ []) (sym (entries-end ok key))

-- the left one's last, b, comes before the right one's sons with the bound that comes down; the left one's last boundary, v, goes up
module _ {l r : Node} (left : Usable l) (right : Usable r) (room : r.count < 8) (down x : ℕ) (pre : List Entry) (a v b w : ℕ)
    (is : entries l x ≡ pre ++ (a, v) ∷ (b, w) ∷ []) where
  ends_so : entries l x ≡ (pre ++ (a, v) ∷ []) ++ (b, w) ∷ []
  ends_so = is ∙ sym (append_assoc pre ((a, v) ∷ []) ((b, w) ∷ []))

  place : l.count - 2 ≡ length pre
  place = omega (arith, count_cut left x pre ((a, v) ∷ (b, w) ∷ []) is)

  pub from-left-left : entries (move_from_left l down r).left v ≡ pre ++ (a, v) ∷ []
  unfolding move_from_left
  from-left-left =
      ap (λ (i : ℕ). entries (remove_behind l i) v) place
      ∙ right-out left v pre a v b v [] (entries-upto left x (pre ++ (a, v) ∷ []) b w ends_so v ∙ append_assoc pre ((a, v) ∷ []) ((b, v) ∷ []))

  pub from-left-up : (move_from_left l down r).up ≡ v
  unfolding move_from_left
  from-left-up = ap (λ (i : ℕ). get_or l.bounds i 0) place ∙ bound-between left x pre a v b w [] is

  pub from-left-right : (u : ℕ) → entries (move_from_left l down r).right u ≡ (b, down) ∷ entries r u
  unfolding move_from_left
  from-left-right u =
      let e : l.count - 1 ≡ length (pre ++ (a, v) ∷ []) = omega (arith, last-place left x (pre ++ (a, v) ∷ []) b w ends_so) in
      let s : get_or l.sons (l.count - 1) 0 ≡ b = ap (λ (i : ℕ). get_or l.sons i 0) e ∙ son-here left x (pre ++ (a, v) ∷ []) b w [] ends_so in
      ap (λ (son : ℕ). entries (insert_before r 0 down son) u) s ∙ first-entries right room u down b

-- the right one's first, a, comes behind the left one's sons, whose last gets the bound that comes down; the right one's first
-- boundary, v, goes up
module _ {l r : Node} (left : Usable l) (right : Usable r) (room : l.count < 8) (down u : ℕ) (a v b w : ℕ) (post : List Entry)
    (is : entries r u ≡ (a, v) ∷ (b, w) ∷ post) where
  pub from-right-left : entries (move_from_right l down r).left v ≡ entries l down ++ (a, v) ∷ []
  unfolding move_from_right
  from-right-left =
      ap (λ (son : ℕ). entries (insert_behind l (l.count - 1) down son) v) (son-here right u [] a v ((b, w) ∷ post) is)
      ∙ last-entries left room v down a

  pub from-right-up : (move_from_right l down r).up ≡ v
  unfolding move_from_right
  from-right-up = bound-between right u [] a v b w post is

  pub from-right-right : entries (move_from_right l down r).right u ≡ (b, w) ∷ post
  unfolding move_from_right
  from-right-right = left_out right u [] a v b w post is

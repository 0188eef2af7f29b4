-- A node's sons as entries (son, upper bound): the boundary behind each son, and behind the last one the node's own upper bound, which
-- its parent has.
use Rattle.std.specs.Prelude.{◌≡◌, refl, cond, ◌⊎◌, ℕ, suc, ◌+◌, ◌-◌, ◌≤◌, ◌<◌, leb, get_or}
use Rattle.std.proofs.Math.Path.{sym, ap}
use Rattle.std.proofs.Common.{ap₂, ◌∙◌, inl, inr, arith, length-append, take_at, get_or-take, length-take-le, le-leb}
use mathlib.Core.List.{List, [], ◌∷◌, ◌++◌, map, map-append, zip, zip_with}
use Rattle.std.proofs.Math.ListN.{length, take}
use Rattle.std.proofs.lemmas.List.{length-map, get_or_at}
use Rattle.std.proofs.Math.Seq.{take-suc}
use Rattle.std.proofs.lemmas.Bool.{lt-leb}
use Rattle.nodes.specs.Ops.{below, son_for, lone_node, with_latch}
use Rattle.nodes.specs.Live.{first-same, sons_of, bounds_of, Usable, length-sons_of, length-bounds_of}
use Rattle.nodes.specs.declared.Node.{Node}

abbrev pub Entry : Type 0
Entry = ℕ × ℕ

abbrev pub son_part : List Entry → List ℕ
son_part es = map (λ (p : Entry). p.0) es

abbrev pub bound_part : List Entry → List ℕ
bound_part es = map (λ (p : Entry). p.1) es

unfoldable pub entries : Node → ℕ → List Entry
entries n u = zip (sons_of n) (bounds_of n ++ (u ∷ []))

-- ---- lists of pairs

zip-parts : (es : List Entry) → zip (son_part es) (bound_part es) ≡ es
unfolding zip zip_with
zip-parts [] = refl
zip-parts (p ∷ es) = ap (λ (l : List Entry). p ∷ l) (zip-parts es)

zip-sons : (a b : List ℕ) → length a ≡ length b → son_part (zip a b) ≡ a
unfolding zip zip_with
zip-sons [] b e = refl
zip-sons (x ∷ a) [] e = absurd (omega arith)
zip-sons (x ∷ a) (y ∷ b) e = ap (λ (l : List ℕ). x ∷ l) (zip-sons a b (omega arith))

zip-bounds : (a b : List ℕ) → length a ≡ length b → bound_part (zip a b) ≡ b
unfolding zip zip_with
zip-bounds [] [] e = refl
zip-bounds [] (y ∷ b) e = absurd (omega arith)
zip-bounds (x ∷ a) [] e = absurd (omega arith)
zip-bounds (x ∷ a) (y ∷ b) e = ap (λ (l : List ℕ). y ∷ l) (zip-bounds a b (omega arith))

-- ---- a node says its entries

module _ {n : Node} (ok : Usable n) (u : ℕ) where
  as_long : length (sons_of n) ≡ length (bounds_of n ++ (u ∷ []))
  as_long = length-sons_of ok ∙ sym (length-append (bounds_of n) (u ∷ []) ∙ omega (arith, length-bounds_of ok, ok.least))

  pub entries-sons : son_part (entries n u) ≡ sons_of n
  unfolding entries
  entries-sons = zip-sons (sons_of n) (bounds_of n ++ (u ∷ [])) as_long

  pub entries-bounds : bound_part (entries n u) ≡ bounds_of n ++ (u ∷ [])
  unfolding entries
  entries-bounds = zip-bounds (sons_of n) (bounds_of n ++ (u ∷ [])) as_long

  pub entries-length : length (entries n u) ≡ n.count
  entries-length = sym (length-map (entries n u) (λ (p : Entry). p.0)) ∙ ap length entries-sons ∙ length-sons_of ok

-- and what says them, in two parts, is the node's
pub entries-are : (n : Node) (u : ℕ) (pre post : List Entry) → sons_of n ≡ son_part pre ++ son_part post → bounds_of n ++ (u ∷ []) ≡ bound_part pre ++ bound_part post
    → entries n u ≡ pre ++ post
unfolding entries
entries-are n u pre post e q =
    rw (e ∙ sym (map-append (λ (p : Entry). p.0) pre post), q ∙ sym (map-append (λ (p : Entry). p.1) pre post)) (zip-parts (pre ++ post))

-- ---- the entries cut at one of them

module _ {n : Node} (ok : Usable n) (u : ℕ) (pre post : List Entry) (is : entries n u ≡ pre ++ post) where
  pub sons-cut : sons_of n ≡ son_part pre ++ son_part post
  sons-cut = sym (entries-sons ok u) ∙ ap son_part is ∙ map-append (λ (p : Entry). p.0) pre post

  pub bounds-cut : bounds_of n ++ (u ∷ []) ≡ bound_part pre ++ bound_part post
  bounds-cut = sym (entries-bounds ok u) ∙ ap bound_part is ∙ map-append (λ (p : Entry). p.1) pre post

  pub count_cut : n.count ≡ length pre + length post
  count_cut = sym (entries-length ok u) ∙ ap length is ∙ length-append pre post

-- ---- the son on the path to a key

-- every bound lies below k
abbrev pub Below : {A : Type 0} → ℕ → List (A × ℕ) → Type 0
Below k [] = Unit {0}
Below k (p ∷ es) = (p.1 < k) × Below k es

-- the place of the first bound that is at least k, else of the last
unfoldable pub place_in : List ℕ → ℕ → ℕ
place_in [] k = 0
place_in (b ∷ []) k = 0
place_in (b ∷ (c ∷ bs)) k = cond (leb k b) 0 (suc (place_in (c ∷ bs) k))

below-place : (bs : List ℕ) (u k : ℕ) → below bs k ≡ place_in (bs ++ (u ∷ [])) k
unfolding place_in
below-place [] u k = refl
below-place (b ∷ []) u k = refl
below-place (b ∷ (c ∷ bs)) u k = ap (λ (i : ℕ). cond (leb k b) 0 (suc i)) (below-place (c ∷ bs) u k)

place-cut : (k : ℕ) (pre : List Entry) (a v : ℕ) (post : List Entry) → Below k pre → (k ≤ v) ⊎ (post ≡ []) → place_in (bound_part pre ++ v ∷ bound_part post) k ≡ length pre
unfolding place_in
place-cut k [] a v [] low h = refl
place-cut k [] a v (q ∷ post) low (inl h) = rw (le-leb k v h) refl
place-cut k [] a v (q ∷ post) low (inr e) = absurd (let z : ◌≡◌ {A = ℕ} (suc (length post)) 0 = ap length e in omega arith)
place-cut k (p ∷ []) a v post low h = rw (lt-leb k p.1 low.0) (ap suc (place-cut k [] a v post tt h))
place-cut k (p ∷ (q ∷ pre)) a v post low h = rw (lt-leb k p.1 low.0) (ap suc (place-cut k (q ∷ pre) a v post low.1 h))

pub find-entries : {n : Node} → Usable n → (u k : ℕ) → son_for n k ≡ place_in (bound_part (entries n u)) k
unfolding son_for
find-entries {n} ok u k = below-place (bounds_of n) u k ∙ ap (λ (l : List ℕ). place_in l k) (sym (entries-bounds ok u))

-- ---- one entry in view

module _ {n : Node} (ok : Usable n) (u : ℕ) (pre : List Entry) (a v : ℕ) (post : List Entry) (is : entries n u ≡ pre ++ (a, v) ∷ post) where
  pub place-in : length pre < n.count
  place-in = omega (arith, count_cut ok u pre ((a, v) ∷ post) is)

  pub sons-at : sons_of n ≡ son_part pre ++ a ∷ son_part post
  sons-at = sons-cut ok u pre ((a, v) ∷ post) is

  -- its place is found: the bounds before it lie below k, and k is not past its own or it is the last
  pub find-here : (k : ℕ) → Below k pre → (k ≤ v) ⊎ (post ≡ []) → son_for n k ≡ length pre
  find-here k low h =
      find-entries ok u k
      ∙ ap (λ (l : List ℕ). place_in l k) (entries-bounds ok u ∙ bounds-cut ok u pre ((a, v) ∷ post) is)
      ∙ place-cut k pre a v post low h

  pub son-here : get_or n.sons (length pre) 0 ≡ a
  son-here =
      sym (get_or-take n.count n.sons (length pre) 0 place-in)
      ∙ ap (λ (l : List ℕ). get_or l (length pre) 0) sons-at
      ∙ get_or_at (son_part pre) a (son_part post) 0 (length pre) (length-map pre (λ (p : Entry). p.0))

-- ---- the last entry: only its bound depends on the node's upper bound

-- the entries but the last
unfoldable pub front : Node → List Entry
front n = zip (take (n.count - 1) n.sons) (bounds_of n)

module _ {n : Node} (ok : Usable n) where
  front_long : length (take (n.count - 1) n.sons) ≡ length (bounds_of n)
  front_long = length-take-le (n.count - 1) n.sons (omega (arith, ok.most, ok.sized.sons)) ∙ sym (length-bounds_of ok)

  pub front_length : length (front n) ≡ n.count - 1
  unfolding front
  front_length =
      sym (length-map (zip (take (n.count - 1) n.sons) (bounds_of n)) (λ (p : Entry). p.1))
      ∙ ap length (zip-bounds (take (n.count - 1) n.sons) (bounds_of n) front_long)
      ∙ length-bounds_of ok

  pub entries-end : (u : ℕ) → entries n u ≡ front n ++ (get_or n.sons (n.count - 1) 0, u) ∷ []
  unfolding front
  entries-end u =
      let s = take (n.count - 1) n.sons in
      entries-are n u (front n) ((get_or n.sons (n.count - 1) 0, u) ∷ [])
      (first-same n.sons n.count (suc (n.count - 1)) (omega (arith, ok.least))
      ∙ take-suc n.sons (n.count - 1) 0 (omega (arith, ok.least, ok.most, ok.sized.sons))
      ∙ ap (λ (l : List ℕ). l ++ (get_or n.sons (n.count - 1) 0 ∷ [])) (sym (zip-sons s (bounds_of n) front_long)))
      (ap (λ (l : List ℕ). l ++ (u ∷ [])) (sym (zip-bounds s (bounds_of n) front_long)))

-- two lists with one element more each are equal only by both parts
snoc-same : (p q : List Entry) (x y : Entry) → p ++ (x ∷ []) ≡ q ++ (y ∷ []) → (p ≡ q) × (x ≡ y)
snoc-same p q x y e =
    let d : Entry = (0, 0) in
    let z : length q ≡ length p = omega (arith, simp length-append at (ap length e)) in (
      sym (take_at p (x ∷ []) (length p) refl) ∙ ap (λ (l : List Entry). take (length p) l) e ∙ take_at q (y ∷ []) (length p) z,
      sym (get_or_at p x [] d (length p) refl) ∙ ap (λ (l : List Entry). get_or l (length p) d) e ∙ get_or_at q y [] d (length p) z,
    )

module _ {n : Node} (ok : Usable n) (u : ℕ) (pre : List Entry) (a v : ℕ) (is : entries n u ≡ pre ++ (a, v) ∷ []) where
  ends : (front n ≡ pre) × (◌≡◌ {A = Entry} (get_or n.sons (n.count - 1) 0, u) (a, v))
  ends = snoc-same (front n) pre (get_or n.sons (n.count - 1) 0, u) (a, v) (sym (entries-end ok u) ∙ is)

  pub last-bound : u ≡ v
  last-bound = ap (λ (p : Entry). p.1) ends.1

  pub last-place : n.count ≡ length pre + 1
  last-place = count_cut ok u pre ((a, v) ∷ []) is

  -- up to another bound
  pub entries-upto : (w : ℕ) → entries n w ≡ pre ++ (a, w) ∷ []
  entries-upto w = entries-end ok w ∙ ap₂ (λ (l : List Entry) (s : ℕ). l ++ (s, w) ∷ []) ends.0 (ap (λ (p : Entry). p.0) ends.1)

-- ---- one son; another latch

pub lone-entries : (son u : ℕ) → entries (lone_node son) u ≡ (son, u) ∷ []
unfolding entries lone_node zip zip_with
lone-entries son u = refl

pub latch-entries : (n : Node) (w u : ℕ) → entries (with_latch n w) u ≡ entries n u
unfolding entries with_latch
latch-entries n w u = refl

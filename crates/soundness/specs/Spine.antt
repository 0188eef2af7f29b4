-- A tree read up to one bound and up to the next: the two differ in the last bound of each node on the right edge and in nothing else.
use Rattle.std.specs.Prelude.{◌≡◌, Bool}
use Rattle.std.proofs.Math.Path.{refl, sym, ap, subst}
use Rattle.std.proofs.Common.{◌∙◌, arith, length-take}
use Rattle.std.proofs.Math.Bool.{true, false, cond}
use mathlib.Core.List.{List, [], ◌∷◌, ◌++◌, zip, zip_with}
use Prim.Native.Nat.{ℕ, zero, suc, ◌+◌, ◌-◌, ◌≤◌, ◌<◌}
use Rattle.std.proofs.Math.Dec.{eqb}
use Rattle.std.proofs.Math.ListN.{length, length-append}
use borrow.Author.Tests.{ne_eqb, eqb-false}
use Rattle.words.specs.Store.{word_of, record_at}
use Rattle.nodes.specs.declared.Node.{Node}
use Rattle.nodes.specs.Node.{node_at, Sized, sized-decode}
use Rattle.nodes.specs.Live.{sons_of, bounds_of}
use Rattle.nodes.specs.Entries.{entries}
use Rattle.machine.specs.Tree.{flat, flat_append, map_e, map_e-append, sum_e, Seg, seg-append, seg_cut, leaves}
use Rattle.machine.specs.State.{Desc, Tree}
use Rattle.machine.specs.Order as O
use Rattle.machine.specs.Order.{ord-in}
use Rattle.machine.specs.Looks.{shaped-ordered}
use Rattle.machine.specs.Sound.{LowestEnds, EndsWell, Shaped, stored_in}
use Rattle.meaning.specs.Reading.{Leaf, Mark, Numbered, read_sons, read_tree, erase, numbers, node_numbers}
use Rattle.marks.specs.Marks.{node_mark}
use Rattle.marks.specs.Steps.{no}
use Rattle.soundness.specs.Sons.{zip-short}
use Rattle.soundness.specs.TreeRecords.{kinds, latched_many, read-many}

-- ---- what does not see the bounds

zip-flat : {A B : Type 0} (g : A → List B) (f : ℕ → ℕ → A) → ((j u v : ℕ) → g (f j u) ≡ g (f j v)) → (S B : List ℕ) (u v : ℕ)
    → flat g (read_sons f (zip S (B ++ (u ∷ [])))) ≡ flat g (read_sons f (zip S (B ++ (v ∷ []))))
unfolding zip zip_with
zip-flat g f e [] B u v = refl
zip-flat g f e (x ∷ S) [] u v = ap (λ l. l ++ flat g (read_sons f (zip S []))) (e x u v)
zip-flat g f e (x ∷ S) (y ∷ B) u v = ap (λ l. g (f x y) ++ l) (zip-flat g f e S B u v)

zip-sum : {A : Type 0} (g : A → ℕ) (f : ℕ → ℕ → A) → ((j u v : ℕ) → g (f j u) ≡ g (f j v)) → (S B : List ℕ) (u v : ℕ)
    → sum_e g (read_sons f (zip S (B ++ (u ∷ [])))) ≡ sum_e g (read_sons f (zip S (B ++ (v ∷ []))))
unfolding zip zip_with
zip-sum g f e [] B u v = refl
zip-sum g f e (x ∷ S) [] u v = ap (λ (n : ℕ). n + sum_e g (read_sons f (zip S []))) (e x u v)
zip-sum g f e (x ∷ S) (y ∷ B) u v = ap (λ (n : ℕ). g (f x y) + n) (zip-sum g f e S B u v)

flat-erase : {A B C : Type 0} (f : A → B) (g : B → List C) (es : List (A × ℕ)) → flat g (map_e f es) ≡ flat (λ a. g (f a)) es
flat-erase f g [] = refl
flat-erase f g (p ∷ es) = ap (λ l. g (f p.0) ++ l) (flat-erase f g es)

sum-erase : {A B : Type 0} (f : A → B) (g : B → ℕ) (es : List (A × ℕ)) → sum_e g (map_e f es) ≡ sum_e (λ a. g (f a)) es
sum-erase f g [] = refl
sum-erase f g (p ∷ es) = ap (λ (n : ℕ). g (f p.0) + n) (sum-erase f g es)

module _ (s : List ℕ) (m r : ℕ) where
  abbrev tree : (h : ℕ) → ℕ → ℕ → Numbered h
  tree h i u = read_tree s m r h i u

  -- A list made of a tree's sons' lists, and a number that is a sum over its sons.
  module _ {B : Type 0} (F : (h : ℕ) → Numbered h → List B) (base : (i u v : ℕ) → F zero (tree zero i u) ≡ F zero (tree zero i v))
      (step : (h : ℕ) (w : Mark) (es fs : List (Numbered h × ℕ)) → flat (F h) es ≡ flat (F h) fs → F (suc h) (record { latch = w; sons = es }) ≡ F (suc h) (record { latch = w; sons = fs }))
    where
      list_same : (h i u v : ℕ) → F h (tree h i u) ≡ F h (tree h i v)
      unfolding read_tree entries
      list_same zero i u v = base i u v
      list_same (suc h) i u v =
          step h (record { num = i; word = word_of s m i 0 }) (read_sons (tree h) (entries (node_at s m i) u)) (read_sons (tree h) (entries (node_at s m i) v))
          (zip-flat (F h) (tree h) (list_same h) (sons_of (node_at s m i)) (bounds_of (node_at s m i)) u v)

  module _ (F : (h : ℕ) → Numbered h → ℕ) (base : (i u v : ℕ) → F zero (tree zero i u) ≡ F zero (tree zero i v))
      (step : (h : ℕ) (w : Mark) (es fs : List (Numbered h × ℕ)) → sum_e (F h) es ≡ sum_e (F h) fs → F (suc h) (record { latch = w; sons = es }) ≡ F (suc h) (record { latch = w; sons = fs }))
    where
      sum_same : (h i u v : ℕ) → F h (tree h i u) ≡ F h (tree h i v)
      unfolding read_tree entries
      sum_same zero i u v = base i u v
      sum_same (suc h) i u v =
          step h (record { num = i; word = word_of s m i 0 }) (read_sons (tree h) (entries (node_at s m i) u)) (read_sons (tree h) (entries (node_at s m i) v))
          (zip-sum (F h) (tree h) (sum_same h) (sons_of (node_at s m i)) (bounds_of (node_at s m i)) u v)

  -- The records, the kinds, the descriptors and the latch words of a tree are the same for every bound.
  pub numbers-same : (h i u v : ℕ) → numbers h (read_tree s m r h i u) ≡ numbers h (read_tree s m r h i v)
  unfolding numbers read_tree
  numbers-same = list_same numbers (λ i u v. refl) (λ h w es fs e. ap (λ l. w.num ∷ l) e)

  pub kinds-same : (h i u v : ℕ) → kinds h (read_tree s m r h i u) ≡ kinds h (read_tree s m r h i v)
  unfolding kinds read_tree
  kinds-same = list_same kinds (λ i u v. refl) (λ h w es fs e. ap (λ l. (w.num, node_mark) ∷ l) e)

  pub nodes_same : (h i u v : ℕ) → node_numbers h (read_tree s m r h i u) ≡ node_numbers h (read_tree s m r h i v)
  unfolding node_numbers read_tree
  nodes_same = list_same node_numbers (λ i u v. refl) (λ h w es fs e. ap (λ l. w.num ∷ l) e)

  pub leaves_same : (h i u v : ℕ) → leaves Leaf Mark h (read_tree s m r h i u) ≡ leaves Leaf Mark h (read_tree s m r h i v)
  unfolding leaves read_tree
  leaves_same = list_same (leaves Leaf Mark) (λ i u v. refl) (λ h w es fs e. e)

  pub descs-same : (h i u v : ℕ) → leaves Desc ℕ h (erase h (read_tree s m r h i u)) ≡ leaves Desc ℕ h (erase h (read_tree s m r h i v))
  unfolding leaves erase read_tree
  descs-same =
      list_same (λ h t. leaves Desc ℕ h (erase h t)) (λ i u v. refl)
      (λ h w es fs e. flat-erase (erase h) (leaves Desc ℕ h) es ∙ e ∙ sym (flat-erase (erase h) (leaves Desc ℕ h) fs))

  pub latched-same : (h i u v : ℕ) → latched_many h (erase h (read_tree s m r h i u)) ≡ latched_many h (erase h (read_tree s m r h i v))
  unfolding latched_many erase read_tree
  latched-same =
      sum_same (λ h t. latched_many h (erase h t)) (λ i u v. refl)
      (λ h w es fs e. ap (λ (n : ℕ). cond (eqb w.word 0) 0 1 + n) (sum-erase (erase h) (latched_many h) es ∙ e ∙ sym (sum-erase (erase h) (latched_many h) fs)))

-- ---- the last entry

-- The entries of a node that has some: the bound is that of the last alone.
record Edge (n : Node) : Type 0 where
  pre : List (ℕ × ℕ)
  son : ℕ
  is : (w : ℕ) → entries n w ≡ pre ++ (son, w) ∷ []

record EdgeOf (S B : List ℕ) : Type 0 where
  pre : List (ℕ × ℕ)
  son : ℕ
  is : (w : ℕ) → zip S (B ++ (w ∷ [])) ≡ pre ++ (son, w) ∷ []

edge-zip : (S B : List ℕ) → length S ≡ suc (length B) → EdgeOf S B
unfolding zip zip_with
edge-zip [] B e = absurd (omega arith)
edge-zip (x ∷ []) [] e = record { pre = []; son = x; is = λ w. refl }
edge-zip (x ∷ y ∷ S) [] e = absurd (omega arith)
edge-zip (x ∷ S) (y ∷ B) e = let k = edge-zip S B (omega arith) in record { pre = (x, y) ∷ k.pre; son = k.son; is = λ w. ap (λ l. (x, y) ∷ l) (k.is w) }

edge : (n : Node) (u : ℕ) → Sized n → 1 ≤ length (entries n u) → Edge n
unfolding entries
edge n u z h =
    let a = zip-short (sons_of n) (bounds_of n ++ (u ∷ [])) in
    let b = length-take n.count n.sons in
    let c = length-take (n.count - 1) n.bounds in
    let k = edge-zip (sons_of n) (bounds_of n) (omega (arith, z.sons, z.bounds)) in
    record { pre = k.pre; son = k.son; is = k.is }

read-append : {A : Type 0} (f : ℕ → ℕ → A) (a b : List (ℕ × ℕ)) → read_sons f (a ++ b) ≡ read_sons f a ++ read_sons f b
read-append f [] b = refl
read-append f (p ∷ a) b = ap (λ l. (f p.0 p.1, p.1) ∷ l) (read-append f a b)

-- At a lowest node the last bound is not looked at.
ends_last : (A : List (Desc × ℕ)) (x y : Desc) (u v : ℕ) → LowestEnds (A ++ (x, u) ∷ []) → LowestEnds (A ++ (y, v) ∷ [])
ends_last [] x y u v e = tt
ends_last (p ∷ []) x y u v e = e
ends_last (p ∷ q ∷ A) x y u v e = (e.0, ends_last (q ∷ A) x y u v e.1)

ends-well : (h : ℕ) (A : List (Tree h × ℕ)) (x y : Tree h) (u v : ℕ) → EndsWell h (A ++ (x, u) ∷ []) → EndsWell h (A ++ (y, v) ∷ [])
ends-well zero A x y u v e = ends_last A x y u v e
ends-well (suc h) A x y u v e = tt

-- ---- which keys are stored

stored-left : (k : ℕ) (a b : List Desc) → stored_in k (a ++ b) ≡ false → stored_in k a ≡ false
unfolding stored_in
stored-left k [] b e = refl
stored-left k (d ∷ a) b e = go (eqb d.key k) (stored-left k a b) e
  where
    go : (c : Bool) → (stored_in k (a ++ b) ≡ false → stored_in k a ≡ false) → cond c true (stored_in k (a ++ b)) ≡ false → cond c true (stored_in k a) ≡ false
    go true ih e = e
    go false ih e = ih e

stored-right : (k : ℕ) (a b : List Desc) → stored_in k (a ++ b) ≡ false → stored_in k b ≡ false
unfolding stored_in
stored-right k [] b e = e
stored-right k (d ∷ a) b e = go (eqb d.key k) (stored-right k a b) e
  where
    go : (c : Bool) → (stored_in k (a ++ b) ≡ false → stored_in k b ≡ false) → cond c true (stored_in k (a ++ b)) ≡ false → stored_in k b ≡ false
    go true ih e = no (sym e)
    go false ih e = ih e

past-stored : (k lo e : ℕ) (l : List Desc) → e ≤ k → O.In lo e l → stored_in k l ≡ false
unfolding stored_in
past-stored k lo e [] h i = refl
past-stored k lo e (d ∷ l) h i = ap (λ (b : Bool). cond b true (stored_in k l)) (ne_eqb d.key k (λ q. omega (arith, i.0.1))) ∙ past-stored k lo e l h i.1

-- A key above the upper bound of a tree is not stored in it.
pub above-stored : (k h least lo hi : ℕ) (t : Tree h) → Shaped h least lo hi t → hi < k → stored_in k (leaves Desc ℕ h t) ≡ false
above-stored k h least lo hi t S a = past-stored k lo (suc hi) (leaves Desc ℕ h t) a (ord-in h lo hi t (shaped-ordered h least lo hi t S))

-- ---- one bound and the next

module _ (s : List ℕ) (m r : ℕ) where
  module _ (h i : ℕ) (k : Edge (node_at s m i)) where
    abbrev front : List (Tree h × ℕ)
    front = map_e (erase h) (read_sons (read_tree s m r h) k.pre)

    abbrev back : ℕ → Tree h
    back w = erase h (read_tree s m r h k.son w)

    sons-edge : (w : ℕ) → (erase (suc h) (read_tree s m r (suc h) i w)).sons ≡ front ++ (back w, w) ∷ []
    unfolding erase read_tree
    sons-edge w =
        ap (λ l. map_e (erase h) (read_sons (read_tree s m r h) l)) (k.is w)
        ∙ ap (map_e (erase h)) (read-append (read_tree s m r h) k.pre ((k.son, w) ∷ []))
        ∙ map_e-append (erase h) (read_sons (read_tree s m r h) k.pre) ((read_tree s m r h k.son w, w) ∷ [])

    -- From one bound to another, if that can be said of the last son.
    edge-shaped : (least lo u v : ℕ) → ((mid : ℕ) → Shaped h 3 mid u (back u) → Shaped h 3 mid v (back v))
        → Shaped (suc h) least lo u (erase (suc h) (read_tree s m r (suc h) i u)) → Shaped (suc h) least lo v (erase (suc h) (read_tree s m r (suc h) i v))
    unfolding Shaped
    edge-shaped least lo u v f S =
        subst (λ (es : List (Tree h × ℕ)). (least ≤ length es) × (length es ≤ 8) × EndsWell h es × Seg (Shaped h 3) lo (suc v) es) (sym (sons-edge v))
        (go (subst (λ (es : List (Tree h × ℕ)). (least ≤ length es) × (length es ≤ 8) × EndsWell h es × Seg (Shaped h 3) lo (suc u) es) (sons-edge u) S))
      where
        go : (least ≤ length (front ++ (back u, u) ∷ [])) × (length (front ++ (back u, u) ∷ []) ≤ 8) × EndsWell h (front ++ (back u, u) ∷ []) × Seg (Shaped h 3) lo (suc u) (front ++ (back u, u) ∷ [])
            → (least ≤ length (front ++ (back v, v) ∷ [])) × (length (front ++ (back v, v) ∷ []) ≤ 8) × EndsWell h (front ++ (back v, v) ∷ []) × Seg (Shaped h 3) lo (suc v) (front ++ (back v, v) ∷ [])
        go x =
            let a = length-append front ((back u, u) ∷ []) in
            let b = length-append front ((back v, v) ∷ []) in
            let c = seg_cut (Shaped h 3) lo (suc u) front ((back u, u) ∷ []) x.3 in (
              omega (arith, x.0),
              omega (arith, x.1),
              ends-well h front (back u) (back v) u v x.2,
              seg-append (Shaped h 3) lo c.0 (suc v) front ((back v, v) ∷ []) c.1 (f c.0 c.2.0, refl),
            )

  some-edge : (h least lo i w : ℕ) → 1 ≤ least → Shaped (suc h) least lo w (erase (suc h) (read_tree s m r (suc h) i w)) → Edge (node_at s m i)
  unfolding Shaped erase read_tree
  some-edge h least lo i w some S =
      edge (node_at s m i) w (sized-decode (record_at s m i)) (omega (arith, S.0, read-many (read_tree s m r h) (erase h) (entries (node_at s m i) w)))

  up : (h least lo k i : ℕ) → 1 ≤ least → Shaped h least lo k (erase h (read_tree s m r h i k)) → Shaped h least lo (suc k) (erase h (read_tree s m r h i (suc k)))
  unfolding Shaped erase read_tree
  up zero least lo k i some S = (S.0, omega (arith, S.1))
  up (suc h) least lo k i some S =
      let e = some-edge h least lo i k some S in
      edge-shaped h i e least lo k (suc k) (λ mid x. up h 3 mid k e.son (omega arith) x) S

  down : (h least lo k i : ℕ) → 1 ≤ least → Shaped h least lo (suc k) (erase h (read_tree s m r h i (suc k)))
      → stored_in (suc k) (leaves Desc ℕ h (erase h (read_tree s m r h i (suc k)))) ≡ false → Shaped h least lo k (erase h (read_tree s m r h i k))
  unfolding Shaped erase read_tree leaves stored_in
  down zero least lo k i some S n = (S.0, go (eqb (word_of s m i 1) (suc k)) refl n)
    where
      go : (c : Bool) → eqb (word_of s m i 1) (suc k) ≡ c → cond c true false ≡ false → word_of s m i 1 ≤ k
      go true q z = no (sym z)
      go false q z = omega (arith, S.1, eqb-false (word_of s m i 1) (suc k) q)
  down (suc h) least lo k i some S n =
      let e = some-edge h least lo i (suc k) some S in
      let a : stored_in (suc k) (flat (leaves Desc ℕ h) (front h i e ++ (back h i e (suc k), suc k) ∷ [])) ≡ false = subst (λ (es : List (Tree h × ℕ)). stored_in (suc k) (flat (leaves Desc ℕ h) es) ≡ false) (sons-edge h i e (suc k)) n in
      let b = stored-right (suc k) (flat (leaves Desc ℕ h) (front h i e)) (leaves Desc ℕ h (back h i e (suc k)) ++ [])
      (subst (λ (l : List Desc). stored_in (suc k) l ≡ false) (flat_append (leaves Desc ℕ h) (front h i e) ((back h i e (suc k), suc k) ∷ [])) a) in
      let c = stored-left (suc k) (leaves Desc ℕ h (back h i e (suc k))) [] b in
      edge-shaped h i e least lo (suc k) k (λ mid x. down h 3 mid k e.son (omega arith) x c) S

  -- What is in order up to k is so up to the key above, which is not stored; and the other way round.
  pub spine-up : (h least lo k i : ℕ) → 1 ≤ least → Shaped h least lo k (erase h (read_tree s m r h i k))
      → Shaped h least lo (suc k) (erase h (read_tree s m r h i (suc k))) × (stored_in (suc k) (leaves Desc ℕ h (erase h (read_tree s m r h i (suc k)))) ≡ false)
  spine-up h least lo k i some S = (
    up h least lo k i some S,
    ap (stored_in (suc k)) (descs-same s m r h i (suc k) k) ∙ above-stored (suc k) h least lo k (erase h (read_tree s m r h i k)) S (omega arith),
  )

  pub spine-down : (h least lo k i : ℕ) → 1 ≤ least → Shaped h least lo (suc k) (erase h (read_tree s m r h i (suc k)))
      → stored_in (suc k) (leaves Desc ℕ h (erase h (read_tree s m r h i (suc k)))) ≡ false → Shaped h least lo k (erase h (read_tree s m r h i k))
  spine-down = down

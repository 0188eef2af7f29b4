-- The turns of the walk's loops, and the ways through its functions, each from the tests that lead to it.
use mathlib.Core.Path.{◌≡◌, refl, sym, ap, subst, ◌∙◌}
use mathlib.Core.List.{List}
use mathlib.Core.Bool.{Bool, true, false, cond, not, ◌&&◌}
use Prim.Native.Nat.{ℕ, zero, suc, ◌+◌, ◌-◌, ◌≤◌, ◌<◌}
use native.Mathlib.Omega.{arith}
use lib.Dec.{eqb, leb}
use lib.ListN.{get_or, set}
use borrow.Author.Tests.{eq-eqb, ne_eqb, le-leb, lt-leb, leb-true, le-ltb, lt-ltb}
use Rattle.words.specs.Header.{header_word, root_place, height_place, first_place}
use Rattle.nodes.specs.declared.Node.{Node}
use Rattle.nodes.specs.Node.{node_at}
use Rattle.std.specs.Prelude.{Result, Ok, Err}
use Rattle.marks.specs.Marks.{Visit, start, meet, Met, node_mark, descriptor_mark}
use Rattle.marks.specs.Steps.{both, err-ok}
use Rattle.marks.specs.Trail.{ok-of, err-of, visit-as, visit-err}
use Rattle.tree_walk.specs.declared.Walk.{Walk}
use Rattle.tree_walk.specs.TreeWalk.{Stand, going, walk_of, walk_if, Tour, tour, Toured, then_tour, stop, top_of, least_of, leaf_words, met_walk, leaf_met, leaf_tour, leaves_from, raise, sons_from, count_latch, fanout_ok, inside, entered_as, enter_tour, Entered, into, tree_from, end_tour, start_walk, root_tour}

pub to-tour : {u v : Tour} {o : Result Walk Walk} {seen order : List ℕ} → Toured u o seen order → v ≡ u → Toured v o seen order
to-tour t e = rw e t

-- a walk of these words, in order or not
abbrev pub stood : Bool → Walk → Stand
stood b w = record { ok = b; left = w.left; latches = w.latches; next = w.next; count = w.count; low = w.low }

-- what an answer tells of the walk
ok-walk : (x : Stand) {o : Result Walk Walk} (w : Walk) → o ≡ walk_if x → o ≡ Ok w → x ≡ going w
ok-walk x w e h = let c = ok-of x.ok (walk_of x) w e h in ap (λ (b : Bool). stood b (walk_of x)) c.0 ∙ ap (stood true) c.1

err-walk : (x : Stand) {o : Result Walk Walk} (w : Walk) → o ≡ walk_if x → o ≡ Err w → x ≡ stood false w
err-walk x w e h = let c = err-of x.ok (walk_of x) w e h in ap (λ (b : Bool). stood b (walk_of x)) c.0 ∙ ap (stood false) c.1

as-tour : {v : Tour} {o : Result Walk Walk} {seen order : List ℕ} (x : Stand) → Toured v o seen order → v.walk ≡ x → v ≡ tour x seen order
as-tour {v} x t h =
    ap (λ (y : Stand). tour y v.seen v.order) h ∙ ap (λ (y : List ℕ). tour x y v.order) (sym t.marks) ∙ ap (tour x _) (sym t.noted)

pub toured-as : {v : Tour} {o : Result Walk Walk} {seen order : List ℕ} (w : Walk) → Toured v o seen order → o ≡ Ok w → v ≡ tour (going w) seen order
toured-as {v} w t h = as-tour (going w) t (ok-walk v.walk w t.walk h)

pub toured-off : {v : Tour} {o : Result Walk Walk} {seen order : List ℕ} (w : Walk) → Toured v o seen order → o ≡ Err w → v ≡ tour (stood false w) seen order
toured-off {v} w t h = as-tour (stood false w) t (err-walk v.walk w t.walk h)

-- a walk that is so, one that is not in order, and one that is stopped
from-walk : {v : Tour} {o : Result Walk Walk} {seen order : List ℕ} (x : Stand) → v ≡ tour x seen order → o ≡ walk_if x → Toured v o seen order
from-walk x e h =
    record {
      walk = h ∙ ap (λ (t : Tour). walk_if t.walk) (sym e);
      marks = ap (λ (t : Tour). t.seen) (sym e);
      noted = ap (λ (t : Tour). t.order) (sym e);
    }

from-off : {v : Tour} {seen order : List ℕ} (w : Walk) → v ≡ tour (stood false w) seen order → Toured v (Err w) seen order
from-off w e = from-walk (stood false w) e refl

from-stop : {v : Tour} {seen order : List ℕ} (x : Stand) → v ≡ tour (stop x) seen order → Toured v (Err (walk_of x)) seen order
unfolding stop
from-stop x e = from-walk (stop x) e refl

one_less : (k : ℕ) → 0 < k → k ≡ suc (k - 1)
one_less k h = omega arith

-- a node of these words
abbrev pub node_of : ℕ → ℕ → List ℕ → List ℕ → Node
node_of latch count b s = record { latch = latch; count = count; bounds = b; sons = s }

-- the highest key below a son that has a boundary behind it, and below the last
module _ (n : Node) (k hi : ℕ) {top : ℕ} where
  pub top-inner : k + 1 < n.count → top ≡ get_or n.bounds k 0 → top ≡ top_of n k hi
  unfolding top_of
  top-inner h e = simp (lt-ltb (k + 1) n.count h, e)

  pub top-last : n.count ≤ k + 1 → top ≡ hi → top ≡ top_of n k hi
  unfolding top_of
  top-last h e = simp (le-ltb (k + 1) n.count h, e)

pub least-as : (n : Node) (k : ℕ) {least : ℕ} → least ≡ top_of n k 0 → least ≡ least_of n k
unfolding top_of least_of
least-as n k e = e

pub record Touring (whole : Tour) (s : List ℕ) (m r : ℕ) (n : Node) (hi k rest : ℕ) (t : Tour) : Type 0 where
  pub is : leaves_from s m r n hi k rest t ≡ whole

module _ {whole : Tour} {s : List ℕ} {m r : ℕ} {n : Node} {hi k : ℕ} {t : Tour} where
  turn-as : {rest i least top : ℕ} {u : Tour} → Touring whole s m r n hi k rest t → 0 < rest
      → i ≡ get_or n.sons k 0 → least ≡ least_of n k → top ≡ top_of n k hi → leaf_tour s m r i least top t ≡ u
      → then_tour u (leaves_from s m r n hi (k + 1) (rest - 1)) ≡ whole
  unfolding leaves_from
  turn-as {rest} {i} {least} {top} {u} g h ei el et q =
      let e : u ≡ leaf_tour s m r (get_or n.sons k 0) (least_of n k) (top_of n k hi) t = rw (← ei, ← el, ← et) (sym q) in
      ap (λ (x : Tour). then_tour x (leaves_from s m r n hi (k + 1) (rest - 1))) e
      ∙ ap (λ (j : ℕ). leaves_from s m r n hi k j t) (sym (one_less rest h)) ∙ g.is

  pub leaf-stop : {rest i least top : ℕ} {o : Result Walk Walk} {seen' order' : List ℕ} (v : Walk) → Touring whole s m r n hi k rest t → 0 < rest
      → i ≡ get_or n.sons k 0 → least ≡ least_of n k → top ≡ top_of n k hi → Toured (leaf_tour s m r i least top t) o seen' order'
      → o ≡ Err v → Toured whole (Err v) seen' order'
  leaf-stop v g h ei el et q e = from-off v (sym (turn-as g h ei el et (toured-off v q e)))

  pub leaf-more : {rest rest' i least top : ℕ} {o : Result Walk Walk} {seen' order' : List ℕ} (v : Walk) → Touring whole s m r n hi k rest t → 0 < rest
      → i ≡ get_or n.sons k 0 → least ≡ least_of n k → top ≡ top_of n k hi → Toured (leaf_tour s m r i least top t) o seen' order'
      → o ≡ Ok v → rest' ≡ rest - 1 → Touring whole s m r n hi (k + 1) rest' (tour (going v) seen' order')
  leaf-more {rest} {rest'} {i} {least} {top} {o} {seen'} {order'} v g h ei el et q e z =
      record { is = ap (λ (j : ℕ). leaves_from s m r n hi (k + 1) j (tour (going v) seen' order')) z ∙ turn-as g h ei el et (toured-as v q e) }

  pub leaf-end : {rest : ℕ} {w : Walk} {seen order : List ℕ} → Touring whole s m r n hi k rest t → t ≡ tour (going w) seen order → rest ≡ 0 → Toured whole (Ok w) seen order
  unfolding leaves_from
  leaf-end {rest} {w} g q e = from-walk (going w) (sym g.is ∙ ap (λ (j : ℕ). leaves_from s m r n hi k j t) e ∙ q) refl

pub record Sonning (whole : Tour) (f : ℕ → ℕ → Tour → Tour) (n : Node) (hi k rest : ℕ) (t : Tour) : Type 0 where
  pub is : sons_from f n hi k rest t ≡ whole

module _ {whole : Tour} {f : ℕ → ℕ → Tour → Tour} {n : Node} {hi k : ℕ} {t : Tour} where
  son-as : {rest i top : ℕ} {v : Tour} → Sonning whole f n hi k rest t → 0 < rest
      → i ≡ get_or n.sons k 0 → top ≡ top_of n k hi → f i top t ≡ v
      → then_tour v (λ u. sons_from f n hi (k + 1) (rest - 1) (tour (raise u.walk top) u.seen u.order)) ≡ whole
  unfolding sons_from
  son-as {rest} {i} {top} {v} g h ei et q =
      let e : v ≡ f (get_or n.sons k 0) top t = rw (← ei) (sym q) in
      ap (λ (x : Tour). then_tour x (λ u. sons_from f n hi (k + 1) (rest - 1) (tour (raise u.walk top) u.seen u.order))) e
      ∙ ap (λ (y : ℕ). then_tour (f (get_or n.sons k 0) y t) (λ u. sons_from f n hi (k + 1) (rest - 1) (tour (raise u.walk y) u.seen u.order))) et
      ∙ ap (λ (j : ℕ). sons_from f n hi k j t) (sym (one_less rest h)) ∙ g.is

  pub son-stop : {rest i top : ℕ} {o : Result Walk Walk} {seen' order' : List ℕ} (v : Walk) → Sonning whole f n hi k rest t → 0 < rest
      → i ≡ get_or n.sons k 0 → top ≡ top_of n k hi → Toured (f i top t) o seen' order' → o ≡ Err v → Toured whole (Err v) seen' order'
  son-stop v g h ei et q e = from-off v (sym (son-as g h ei et (toured-off v q e)))

  pub son-more : {rest rest' i top : ℕ} {o : Result Walk Walk} {u : Walk} {seen' order' : List ℕ} (v : Walk) → Sonning whole f n hi k rest t → 0 < rest
      → i ≡ get_or n.sons k 0 → top ≡ top_of n k hi → Toured (f i top t) o seen' order' → o ≡ Ok v → rest' ≡ rest - 1 → going u ≡ raise (going v) top
      → Sonning whole f n hi (k + 1) rest' (tour (going u) seen' order')
  son-more {rest} {rest'} {i} {top} {o} {u} {seen'} {order'} v g h ei et q y z e =
      record {
        is = ap (λ (j : ℕ). sons_from f n hi (k + 1) j (tour (going u) seen' order')) z
            ∙ ap (λ (x : Stand). sons_from f n hi (k + 1) (rest - 1) (tour x seen' order')) e ∙ son-as g h ei et (toured-as v q y);
      }

  pub son-end : {rest : ℕ} {w : Walk} {seen order : List ℕ} → Sonning whole f n hi k rest t → t ≡ tour (going w) seen order → rest ≡ 0 → Toured whole (Ok w) seen order
  unfolding sons_from
  son-end {rest} {w} g q e = from-walk (going w) (sym g.is ∙ ap (λ (j : ℕ). sons_from f n hi k j t) e ∙ q) refl

module _ (r i : ℕ) (w : Walk) (seen : List ℕ) {c : Result ℕ ℕ} {seen' : List ℕ} (k : Met r i w.left (meet r node_mark (start w.left seen) i) c seen') where
  pub entered-not : (n : ℕ) → c ≡ Err n
      → Entered r i (enter_tour r i (going w) seen) (Err (record { left = n; latches = w.latches; next = w.next; count = w.count; low = w.low })) seen'
  unfolding enter_tour entered_as
  entered-not n o = record {
    walk = ap (λ (v : Visit). walk_if (entered_as (going w) v)) (sym (visit-err k.says o));
    marks = k.says.marks;
    inside = λ v e. absurd (err-ok e);
  }

  pub entered : (n : ℕ) → c ≡ Ok n
      → Entered r i (enter_tour r i (going w) seen) (Ok (record { left = n; latches = w.latches; next = w.next; count = w.count; low = w.low })) seen'
  unfolding enter_tour entered_as
  entered n o = record {
    walk = ap (λ (v : Visit). walk_if (entered_as (going w) v)) (sym (visit-as k.says o));
    marks = k.says.marks;
    inside = λ v e. k.inside n o;
  }

module _ (s : List ℕ) (m r i least top : ℕ) (w : Walk) (seen order : List ℕ) where
  pub leaf-off : (i ≡ w.next → ⊥) → Toured (leaf_tour s m r i least top (tour (going w) seen order)) (Err w) seen order
  unfolding leaf_tour
  leaf-off ne = from-stop (going w) (simp (ne_eqb i w.next ne))

  pub leaf-full : i ≡ w.next → 4096 < w.count → Toured (leaf_tour s m r i least top (tour (going w) seen order)) (Err w) seen order
  unfolding leaf_tour
  leaf-full q h = from-stop (going w) (simp (eq-eqb i w.next q, lt-leb w.count 4096 h))

  module _ (q : i ≡ w.next) (h : w.count ≤ 4096) {c : Result ℕ ℕ} {seen' : List ℕ} (k : Met r i w.left (meet r descriptor_mark (start w.left seen) i) c seen') where
    pub leaf-twice : {n : ℕ} → c ≡ Err n → Toured (leaf_tour s m r i least top (tour (going w) seen order)) (Err w) seen' order
    unfolding leaf_tour leaf_met
    leaf-twice o = from-stop (going w) (simp (eq-eqb i w.next q, le-leb w.count 4096 h, visit-err k.says o))

    pub leaf-met : {n : ℕ} {u : Walk} {o : Result Walk Walk} → c ≡ Ok n → going u ≡ met_walk (going w) n → o ≡ walk_if (leaf_words s m i least top (going u))
        → Toured (leaf_tour s m r i least top (tour (going w) seen order)) o seen' (set order w.count i)
    unfolding leaf_tour leaf_met
    leaf-met o z e =
        from-walk (leaf_words s m i least top (met_walk (going w) _)) (simp (eq-eqb i w.next q, le-leb w.count 4096 h, visit-as k.says o))
        (e ∙ ap (λ (x : Stand). walk_if (leaf_words s m i least top x)) z)

pub leaf-start : {s : List ℕ} {m r : ℕ} {n : Node} {hi rest : ℕ} {t : Tour} → rest ≡ n.count → Touring (leaves_from s m r n hi 0 n.count t) s m r n hi 0 rest t
leaf-start {s} {m} {r} {n} {hi} {rest} {t} e = record { is = ap (λ (j : ℕ). leaves_from s m r n hi 0 j t) e }

pub son-start : {f : ℕ → ℕ → Tour → Tour} {n : Node} {hi rest : ℕ} {t : Tour} → rest ≡ n.count → Sonning (sons_from f n hi 0 n.count t) f n hi 0 rest t
son-start {f} {n} {hi} {rest} {t} e = record { is = ap (λ (j : ℕ). sons_from f n hi 0 j t) e }

-- ---- a node that was met

inside-bad : (n : Node) (least : ℕ) (v : Stand) (seen order : List ℕ) → fanout_ok n least ≡ false → (g : Tour → Tour) → inside n least g (tour v seen order) ≡ tour (stop v) seen order
unfolding inside
inside-bad n least v seen order f g = simp f

inside-good : (n : Node) (least : ℕ) (v : Stand) (seen order : List ℕ) → fanout_ok n least ≡ true → {u : Stand} → u ≡ count_latch n v → (g : Tour → Tour) → inside n least g (tour v seen order) ≡ g (tour u seen order)
unfolding inside
inside-good n least v seen order f e g = simp (f, e)

module _ (s : List ℕ) (m r : ℕ) (least i hi : ℕ) (w : Stand) (seen order : List ℕ) {o : Result Walk Walk} {seen₁ : List ℕ} (k : Entered r i (enter_tour r i w seen) o seen₁) where
  enter-off : (v : Walk) → o ≡ Err v → (g : Tour → Tour) → Toured (into (enter_tour r i w seen) order g) (Err v) seen₁ order
  unfolding into
  enter-off v h g = from-off v (rw (err-walk (enter_tour r i w seen).walk v k.walk h, ← k.marks) refl)

  pub node-twice : (d : ℕ) (v : Walk) → o ≡ Err v → Toured (tree_from s m r d least i hi (tour w seen order)) (Err v) seen₁ order
  unfolding tree_from
  node-twice zero v h = enter-off v h _
  node-twice (suc d) v h = enter-off v h _

  module _ (v : Walk) (h : o ≡ Ok v) {n : Node} (e : n ≡ node_at s m i) where
    enter-as : (g : Tour → Tour) → into (enter_tour r i w seen) order g ≡ g (tour (going v) seen₁ order)
    unfolding into
    enter-as g = rw (ok-walk (enter_tour r i w seen).walk v k.walk h, ← k.marks) refl

    pub node-fanout : (d : ℕ) → fanout_ok n least ≡ false → Toured (tree_from s m r d least i hi (tour w seen order)) (Err v) seen₁ order
    unfolding tree_from
    node-fanout zero f = from-stop (going v) (enter-as _ ∙ rw (← e) (inside-bad _ _ _ _ _ f _))
    node-fanout (suc d) f = from-stop (going v) (enter-as _ ∙ rw (← e) (inside-bad _ _ _ _ _ f _))

    module _ (f : fanout_ok n least ≡ true) {u : Walk} (z : going u ≡ count_latch n (going v)) {d : ℕ} {x : Result Walk Walk} {seen₂ order₂ : List ℕ} where
      pub node-lowest : d ≡ 0 → Toured (leaves_from s m r n hi 0 n.count (tour (going u) seen₁ order)) x seen₂ order₂
          → Toured (tree_from s m r d least i hi (tour w seen order)) x seen₂ order₂
      unfolding tree_from
      node-lowest dz q =
          subst (λ (j : ℕ). Toured (tree_from s m r j least i hi (tour w seen order)) x seen₂ order₂) (sym dz)
          (to-tour q (enter-as _ ∙ rw (← e) (inside-good _ _ _ _ _ f z _)))

      pub node-inner : (d ≡ 0 → ⊥) → Toured (sons_from (tree_from s m r (d - 1) 3) n hi 0 n.count (tour (going u) seen₁ order)) x seen₂ order₂
          → Toured (tree_from s m r d least i hi (tour w seen order)) x seen₂ order₂
      unfolding tree_from
      node-inner dz q =
          subst (λ (j : ℕ). Toured (tree_from s m r j least i hi (tour w seen order)) x seen₂ order₂) (sym (one_less d (omega arith)))
          (to-tour q (enter-as _ ∙ rw (← e) (inside-good _ _ _ _ _ f z _)))

pub fan-count : (n : Node) (least : ℕ) → fanout_ok n least ≡ true → n.count ≤ 8
unfolding fanout_ok
fan-count n least h = leb-true n.count 8 (both (leb least n.count) _ h).1

pub kept-lt : {r a b : ℕ} → r < a → b ≡ a → r < b
kept-lt h e = omega arith

-- ---- the whole tree

module _ (s : List ℕ) (m r : ℕ) (seen order : List ℕ) {root height first : ℕ} {w : Stand} (er : root ≡ header_word s root_place) (eh : height ≡ header_word s height_place) (ef : first ≡ header_word s first_place) (ew : w ≡ start_walk r first) where
  -- a tree of so many levels, which is none or too many, or walked to the end of the chain
  tall : Bool
  tall = not (eqb height 0) && leb height 8

  root-flat : tall ≡ false → root_tour s m r seen order ≡ tour (stop w) seen order
  unfolding root_tour tall
  root-flat h = rw (← eh, h, ← ef, ← ew) refl

  root-tall : tall ≡ true → root_tour s m r seen order ≡ end_tour (tree_from s m r (height - 1) 1 root 4294967294 (tour w seen order))
  unfolding root_tour tall
  root-tall h = rw (← eh, h, ← ef, ← ew, ← er) refl

  pub root_none : height ≡ 0 → Toured (root_tour s m r seen order) (Err (walk_of w)) seen order
  unfolding tall
  root_none h = from-stop w (root-flat (simp (eq-eqb height 0 h)))

  pub root-high : (height ≡ 0 → ⊥) → 8 < height → Toured (root_tour s m r seen order) (Err (walk_of w)) seen order
  unfolding tall
  root-high n h = from-stop w (root-flat (simp (ne_eqb height 0 n, lt-leb height 8 h)))

  module _ (n : height ≡ 0 → ⊥) (h : height ≤ 8) {o : Result Walk Walk} {seen' order' : List ℕ} (q : Toured (tree_from s m r (height - 1) 1 root 4294967294 (tour w seen order)) o seen' order') where
    root-end : {v : Tour} → tree_from s m r (height - 1) 1 root 4294967294 (tour w seen order) ≡ v → root_tour s m r seen order ≡ end_tour v
    unfolding tall
    root-end e = root-tall (simp (ne_eqb height 0 n, le-leb height 8 h)) ∙ ap end_tour e

    -- a walk that is not in order stands so at its end, whatever the chain names
    pub root-broken : (v : Walk) → o ≡ Err v → Toured (root_tour s m r seen order) (Err v) seen' order'
    unfolding end_tour stop
    root-broken v e = from-off v (root-end (toured-off v q e) ∙ at (eqb v.next 0))
      where
        at : (b : Bool) → cond b (tour (stood false v) seen' order') (tour (stood false v) seen' order') ≡ tour (stood false v) seen' order'
        at true = refl
        at false = refl

    pub root-open : (v : Walk) → o ≡ Ok v → (v.next ≡ 0 → ⊥) → Toured (root_tour s m r seen order) (Err v) seen' order'
    unfolding end_tour
    root-open v e z = from-stop (going v) (root-end (toured-as v q e) ∙ simp (ne_eqb v.next 0 z))

    pub root-done : (v : Walk) → o ≡ Ok v → v.next ≡ 0 → Toured (root_tour s m r seen order) (Ok v) seen' order'
    unfolding end_tour
    root-done v e z = from-walk (going v) (root-end (toured-as v q e) ∙ simp (eq-eqb v.next 0 z)) refl

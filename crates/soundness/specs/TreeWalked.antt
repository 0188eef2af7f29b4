-- The tree's walk of the test, step by step: it succeeds exactly if what it meets can be met and the tree that is read is right, and then leaves
-- what that tree says.
use Rattle.std.specs.Prelude.{◌≡◌, Bool, ◌&&◌, get_or, set}
use Rattle.std.proofs.Math.Path.{refl, sym, ap, subst}
use Rattle.std.proofs.Common.{◌∙◌}
use Rattle.std.proofs.Math.Bool.{true, false, cond}
use mathlib.Core.List.{List, [], ◌∷◌}
use Prim.Native.Nat.{ℕ, zero, suc, ◌+◌, ◌-◌, ◌≤◌, ◌<◌}
use native.Mathlib.Omega.{arith}
use Rattle.std.proofs.Math.Numerals.{add-one}
use Rattle.std.proofs.Math.Dec.{eqb, leb}
use Rattle.std.proofs.Math.ListN.{length}
use borrow.Author.Tests.{eq-eqb, le-leb, lt-ltb, eqb-true, leb-true}
use Rattle.words.specs.Store.{word_of, record_at}
use Rattle.nodes.specs.declared.Node.{Node}
use Rattle.nodes.specs.Node.{node_at, sized-decode, decode_node}
use Rattle.nodes.specs.Live.{Usable}
use Rattle.nodes.specs.Entries.{entries, entries-length}
use Rattle.groups.specs.Descriptor.{decode_descriptor}
use Rattle.machine.specs.Tree.{flat, map_e, Seg, leaves}
use Rattle.machine.specs.State.{Tree}
use Rattle.machine.specs.Sound.{LowestEnds, Shaped}
use Rattle.meaning.specs.Reading.{Leaf, Numbered, read_sons, read_tree, erase, node_numbers}
use Rattle.meaning.specs.Sound.{All}
use Rattle.marks.specs.Marks.{Visit, start, meet, node_mark, descriptor_mark}
use Rattle.marks.specs.Steps.{no, both}
use Rattle.tree_walk.specs.TreeWalk.{Stand, Tour, tour, then_tour, stop, stop_tour, raise, top_of, leaf_words, met_walk, leaf_met, leaf_tour, leaves_from, entered_as, enter_tour, count_latch, fanout_ok, sons_from, inside, into, tree_from}
use Rattle.soundness.specs.Marking.{all_append, all_left, all_right, met, meet-new, meet-found}
use Rattle.soundness.specs.Sons.{last_low, least_before, entries_from, least-from, entries-as, entries-last, fan-usable, fan-found, fan-walks}
use Rattle.soundness.specs.TreeRecords.{kinds, latched_many, trace, forest, leaf_trace, node_trace, trace-node, leaf-fits, node-fits, trace-fits, read-many}
use Rattle.soundness.specs.TreeTrace.{same-tour, Trace, join, after, Passes, Walked, Ready, passes-left, passes-right, passes-join, after-join, ready-after, walked_as, walked_same, walked_none, walked_then}

-- Record j as a node says that it has at most 8 sons. (From one that says more, 8 are read.)
abbrev pub Few : List ℕ → ℕ → ℕ → Type 0
Few s m j = word_of s m j 1 ≤ 8

-- Keys from low to hi, boundaries and fanout of a tree are right.
abbrev pub Right : List ℕ → ℕ → (h least low hi : ℕ) → Numbered h → Type 0
Right s m h least low hi t = Shaped h least low hi (erase h t) × All (Few s m) (node_numbers h t)

-- The lowest key that may come after a tree.
abbrev pub low_after : (d : ℕ) → ℕ → Numbered (suc d) → ℕ
low_after zero low t = last_low (λ a u. a.desc.key + 1) low t.sons
low_after (suc d) low t = last_low (λ a u. u + 1) low t.sons

-- ---- tests

-- Where a test that refuses passes, the rest passes.
pub past-yes : (b : Bool) (u v : Tour) → v.walk.ok ≡ false → (cond b u v).walk.ok ≡ true → (b ≡ true) × (u.walk.ok ≡ true)
past-yes true u v f e = (refl, e)
past-yes false u v f e = no (sym f ∙ e)

pub stopped : (t : Tour) → (stop_tour t).walk.ok ≡ false
unfolding stop
stopped t = refl

past_stop : (b : Bool) (v w : Stand) → (cond b w (stop v)).ok ≡ true → b ≡ true
unfolding stop
past_stop true v w e = refl
past_stop false v w e = no e

-- ---- a descriptor

module _ (s : List ℕ) (m r : ℕ) where
  -- The key of descriptor i is at least low and least, and at most top.
  abbrev Keyed : ℕ → ℕ → ℕ → ℕ → Type 0
  Keyed low i least top = (low ≤ word_of s m i 1) × (least ≤ word_of s m i 1) × (word_of s m i 1 ≤ top)

  words-found : (i least top : ℕ) (w : Stand) → (leaf_words s m i least top w).ok ≡ true → Keyed w.low i least top
  unfolding leaf_words decode_descriptor
  words-found i least top w e =
      let k = word_of s m i 1 in
      let p = both (leb w.low k && leb least k) (leb k top) (past_stop (leb w.low k && leb least k && leb k top) w _ e) in
      let q = both (leb w.low k) (leb least k) p.0 in
      (leb-true w.low k q.0, leb-true least k q.1, leb-true k top p.1)

  words-walk : (i least top : ℕ) (w : Stand) → Keyed w.low i least top
      → leaf_words s m i least top w ≡ record { ok = true; left = w.left; latches = w.latches; next = word_of s m i 0; count = w.count + 1; low = word_of s m i 1 + 1 }
  unfolding leaf_words decode_descriptor
  words-walk i least top w k = simp (le-leb w.low (word_of s m i 1) k.0, le-leb least (word_of s m i 1) k.1, le-leb (word_of s m i 1) top k.2)

  -- What meeting descriptor i asks, and what it gives.
  leaf_walked : (i least top : ℕ) (t : Tour) → Ready r t
      → Walked s m r t (leaf_tour s m r i least top t) (leaf_trace i) (word_of s m i 1 + 1) (Keyed t.walk.low i least top)
  unfolding leaf_tour leaf_met met_walk after stop
  leaf_walked i least top t b = record { found = here; walks = there }
    where
      v : Visit
      v = meet r descriptor_mark (start t.walk.left t.seen) i

      here : (leaf_tour s m r i least top t).walk.ok ≡ true → Keyed t.walk.low i least top × Passes s m r t (leaf_trace i)
      here o =
          let p = past-yes (eqb i t.walk.next && leb t.walk.count 4096) _ _ refl o in
          let u = past-yes v.ok _ (tour (stop t.walk) v.seen t.order) refl p.1 in
          let f = meet-found r descriptor_mark (start t.walk.left t.seen) i u.0 in
          let e : i ≡ t.walk.next = eqb-true i t.walk.next (both (eqb i t.walk.next) _ p.0).0 in
          let l : t.walk.left ≡ 0 → ⊥ = f.more in
          (words-found i least top (met_walk t.walk v.left) u.1, record { unmet = (f.fresh, tt); enough = omega arith; threaded = (sym e, refl) })

      there : Keyed t.walk.low i least top → Passes s m r t (leaf_trace i) → leaf_tour s m r i least top t ≡ after s m t (leaf_trace i) (word_of s m i 1 + 1)
      there k p =
          let e = p.enough in
          let c : t.walk.count ≤ 4096 = omega (arith, b.leaf_room) in
          let z = meet-new r descriptor_mark (start t.walk.left t.seen) i (λ x. omega arith) p.unmet.0 in
          simp (eq-eqb i t.walk.next (sym p.threaded.0), le-leb t.walk.count 4096 c, z, words-walk i least top (met_walk t.walk (t.walk.left - 1)) k)
          (same-tour refl (omega arith) refl refl refl refl refl)

  -- ---- a lowest node's sons

  -- The sons as entries, in order.
  unfoldable leaves_over : List (ℕ × ℕ) → Tour → Tour
  leaves_over [] t = t
  leaves_over (p ∷ es) t = then_tour (leaf_tour s m r p.0 (least_before es p.1) p.1 t) (leaves_over es)

  -- Their keys rise from low on; each but the last is its own bound.
  abbrev Row : ℕ → List (ℕ × ℕ) → Type 0
  Row low [] = Unit {0}
  Row low (p ∷ es) = Keyed low p.0 (least_before es p.1) p.1 × Row (word_of s m p.0 1 + 1) es

  -- What is read of them.
  abbrev lowest : List (ℕ × ℕ) → List (Numbered zero × ℕ)
  lowest es = read_sons (read_tree s m r zero) es

  leaves-walked : (es : List (ℕ × ℕ)) (t : Tour) → Ready r t
      → Walked s m r t (leaves_over es t) (forest zero (lowest es)) (last_low (λ (a : Leaf) u. a.desc.key + 1) t.walk.low (lowest es)) (Row t.walk.low es)
  unfolding leaves_over trace kinds leaves latched_many erase read_tree after
  leaves-walked [] t b = walked_none s m r t b.ok
  leaves-walked (p ∷ es) t b =
      walked_then s m r (leaves_over es) (word_of s m p.0 1 + 1) one
      (λ k q. subst
      (λ (u : Tour). Walked s m r next (leaves_over es u) (forest zero (lowest es)) (last_low (λ (a : Leaf) u. a.desc.key + 1) next.walk.low (lowest es)) (Row next.walk.low es))
      (sym (one.walks k q)) (leaves-walked es next (ready-after s m r t (leaf_trace p.0) (word_of s m p.0 1 + 1) b (leaf-fits p.0) q)))
    where
      next : Tour
      next = after s m t (leaf_trace p.0) (word_of s m p.0 1 + 1)

      one : Walked s m r t (leaf_tour s m r p.0 (least_before es p.1) p.1 t) (leaf_trace p.0) (word_of s m p.0 1 + 1) (Keyed t.walk.low p.0 (least_before es p.1) p.1)
      one = leaf_walked p.0 (least_before es p.1) p.1 t b

  -- ---- a node's sons that are nodes

  -- The sons as entries, in order, each by f.
  unfoldable sons_over : (ℕ → ℕ → Tour → Tour) → List (ℕ × ℕ) → Tour → Tour
  sons_over f [] t = t
  sons_over f (p ∷ es) t = then_tour (f p.0 p.1 t) (λ u. sons_over f es (tour (raise u.walk p.1) u.seen u.order))

  -- What the walk finds of the tree from record i on.
  abbrev pub TreeWalked : (d least i hi : ℕ) (t : Tour) → Type 0
  TreeWalked d least i hi t =
      Walked s m r t (tree_from s m r d least i hi t) (trace (suc d) (read_tree s m r (suc d) i hi)) (low_after d t.walk.low (read_tree s m r (suc d) i hi))
      (Right s m (suc d) least t.walk.low hi (read_tree s m r (suc d) i hi))

  module _ (d : ℕ) (ih : (i hi : ℕ) (t : Tour) → Ready r t → TreeWalked d 3 i hi t) where
    abbrev upper : List (ℕ × ℕ) → List (Numbered (suc d) × ℕ)
    upper es = read_sons (read_tree s m r (suc d)) es

    -- Their intervals follow one another from low on, up to e.
    abbrev Sons : ℕ → ℕ → List (ℕ × ℕ) → Type 0
    Sons low e es = Seg (Shaped (suc d) 3) low e (map_e (erase (suc d)) (upper es)) × All (Few s m) (flat (node_numbers (suc d)) (upper es))

    sons-walked : (e : ℕ) (es : List (ℕ × ℕ)) (t : Tour) → Ready r t → last_low (λ (a : ℕ) u. u + 1) t.walk.low es ≡ e
        → Walked s m r t (sons_over (tree_from s m r d 3) es t) (forest (suc d) (upper es)) (last_low (λ a u. u + 1) t.walk.low (upper es)) (Sons t.walk.low e es)
    unfolding sons_over after raise
    sons-walked e [] t b z = walked_as s m r (λ u. (z, tt)) (λ u. tt) refl (walked_none s m r t b.ok)
    sons-walked e (p ∷ es) t b z =
        walked_as s m r split joined refl
        (walked_then s m r (λ u. sons_over (tree_from s m r d 3) es (tour (raise u.walk p.1) u.seen u.order)) (p.1 + 1) one
        (λ k q. subst
        (λ (u : Tour). Walked s m r next (sons_over (tree_from s m r d 3) es (tour (raise u.walk p.1) u.seen u.order)) (forest (suc d) (upper es)) (last_low (λ a u. u + 1) (p.1 + 1) (upper es)) (Sons (p.1 + 1) e es))
        (sym (one.walks k q)) (sons-walked e es next (ready-after s m r t (trace (suc d) son) (p.1 + 1) b (trace-fits (suc d) son) q) z)))
      where
        son : Numbered (suc d)
        son = read_tree s m r (suc d) p.0 p.1

        next : Tour
        next = after s m t (trace (suc d) son) (p.1 + 1)

        one : TreeWalked d 3 p.0 p.1 t
        one = ih p.0 p.1 t b

        split : Right s m (suc d) 3 t.walk.low p.1 son × Sons (p.1 + 1) e es → Sons t.walk.low e (p ∷ es)
        split h = ((h.0.0, subst (λ n. Seg (Shaped (suc d) 3) n e (map_e (erase (suc d)) (upper es))) (add-one p.1) h.1.0), all_append (Few s m) (node_numbers (suc d) son) (flat (node_numbers (suc d)) (upper es)) h.0.1 h.1.1)

        joined : Sons t.walk.low e (p ∷ es) → Right s m (suc d) 3 t.walk.low p.1 son × Sons (p.1 + 1) e es
        joined h =
            let f = h.1 in
            let n = node_numbers (suc d) son in
            let rest = flat (node_numbers (suc d)) (upper es) in
            ((h.0.0, all_left (Few s m) n rest f), (subst (λ n. Seg (Shaped (suc d) 3) n e (map_e (erase (suc d)) (upper es))) (sym (add-one p.1)) h.0.1, all_right (Few s m) n rest f))

  -- ---- a node

  -- Node i is met.
  abbrev entered : ℕ → Tour → Tour
  entered i t = tour (met_walk t.walk (t.walk.left - 1)) (set t.seen i node_mark) t.order

  enter-as : (i : ℕ) (t : Tour) (g : Tour → Tour) → meet r node_mark (start t.walk.left t.seen) i ≡ met node_mark (start t.walk.left t.seen) i
      → into (enter_tour r i t.walk t.seen) t.order g ≡ g (entered i t)
  unfolding into enter_tour entered_as met_walk
  enter-as i t g e = rw e refl

  enter-no : (i : ℕ) (t : Tour) (g : Tour → Tour) → (meet r node_mark (start t.walk.left t.seen) i).ok ≡ false
      → (into (enter_tour r i t.walk t.seen) t.order g).walk.ok ≡ false
  unfolding into enter_tour entered_as
  enter-no i t g e = simp e

  latch-as : (n : Node) (i : ℕ) (t : Tour) → t.walk.latches < 4096
      → tour (count_latch n (entered i t).walk) (entered i t).seen (entered i t).order ≡ after s m t (node_trace i n.latch) t.walk.low
  unfolding count_latch met_walk after
  latch-as n i t h = go (eqb n.latch 0) refl
    where
      go : (b : Bool) → eqb n.latch 0 ≡ b
          → tour (count_latch n (entered i t).walk) (entered i t).seen (entered i t).order ≡ after s m t (node_trace i n.latch) t.walk.low
      go true e = simp e (same-tour refl (omega arith) refl (omega arith) refl refl refl)
      go false e = simp (e, lt-ltb t.walk.latches 4096 h) (same-tour refl refl refl (omega arith) refl refl refl)

  -- What meeting node i and then its sons by g asks, and what it gives.
  node-walked : (i least : ℕ) (n : Node) (g : Tour → Tour) (t : Tour) → Ready r t → (y : Trace) (low : ℕ) (Q : Type 0)
      → (fanout_ok n least ≡ true → Passes s m r t (node_trace i n.latch) → Walked s m r (after s m t (node_trace i n.latch) t.walk.low) (g (after s m t (node_trace i n.latch) t.walk.low)) y low Q)
      → Walked s m r t (into (enter_tour r i t.walk t.seen) t.order (inside n least g)) (join (node_trace i n.latch) y) low ((fanout_ok n least ≡ true) × Q)
  unfolding inside
  node-walked i least n g t b y low Q k = record { found = here v.ok refl; walks = there }
    where
      v : Visit
      v = meet r node_mark (start t.walk.left t.seen) i

      x : Trace
      x = node_trace i n.latch

      room : 1 ≤ t.walk.left → t.walk.latches < 4096
      room h = omega (arith, b.latch_room)

      here : (o : Bool) → v.ok ≡ o → (into (enter_tour r i t.walk t.seen) t.order (inside n least g)).walk.ok ≡ true
          → ((fanout_ok n least ≡ true) × Q) × Passes s m r t (join x y)
      here true e z =
          let f = meet-found r node_mark (start t.walk.left t.seen) i e in
          let a = ap (λ (c : Tour). c.walk.ok) (enter-as i t (inside n least g) f.is) in
          let u = past-yes (fanout_ok n least) _ (stop_tour (entered i t)) (stopped (entered i t)) (sym a ∙ z) in
          let l : 1 ≤ t.walk.left = omega (arith, f.more) in
          let p : Passes s m r t x = record { unmet = (f.fresh, tt); enough = l; threaded = refl } in
          let o = (k u.0 p).found (sym (ap (λ (c : Tour). (g c).walk.ok) (latch-as n i t (room l))) ∙ u.1) in
          ((u.0, o.0), passes-join s m r t x y t.walk.low p o.1)
      here false e z = no (sym (enter-no i t (inside n least g) e) ∙ z)

      there : (fanout_ok n least ≡ true) × Q → Passes s m r t (join x y) → into (enter_tour r i t.walk t.seen) t.order (inside n least g) ≡ after s m t (join x y) low
      there q p =
          let l = passes-left s m r t x y p in
          let a = l.enough in
          enter-as i t (inside n least g) (meet-new r node_mark (start t.walk.left t.seen) i (λ c. omega arith) l.unmet.0)
          ∙ ap (λ (c : Bool). cond c (g (tour (count_latch n (entered i t).walk) (entered i t).seen (entered i t).order)) (stop_tour (entered i t))) q.0
          ∙ ap g (latch-as n i t (room a))
          ∙ (k q.0 l).walks q.1 (passes-right s m r t x y t.walk.low p)
          ∙ after-join s m t x y t.walk.low low

  -- ---- the walk over places is that over entries

  leaves-as : (n : Node) (hi k rest : ℕ) (t : Tour) → k + rest ≡ n.count → leaves_from s m r n hi k rest t ≡ leaves_over (entries_from n hi k rest) t
  unfolding leaves_from leaves_over entries_from
  leaves-as n hi k zero t e = refl
  leaves-as n hi k (suc rest) t e =
      let w = leaf_tour s m r (get_or n.sons k 0) (least_before (entries_from n hi (k + 1) rest) (top_of n k hi)) (top_of n k hi) t in
      ap (λ (l : ℕ). then_tour (leaf_tour s m r (get_or n.sons k 0) l (top_of n k hi) t) (leaves_from s m r n hi (k + 1) rest)) (least-from n hi k rest e)
      ∙ ap (λ (u : Tour). cond w.walk.ok u w) (leaves-as n hi (k + 1) rest w (omega arith))

  sons-as : (f : ℕ → ℕ → Tour → Tour) (n : Node) (hi k rest : ℕ) (t : Tour) → sons_from f n hi k rest t ≡ sons_over f (entries_from n hi k rest) t
  unfolding sons_from sons_over entries_from
  sons-as f n hi k zero t = refl
  sons-as f n hi k (suc rest) t =
      let w = f (get_or n.sons k 0) (top_of n k hi) t in
      ap (λ (u : Tour). cond w.walk.ok u w) (sons-as f n hi (k + 1) rest (tour (raise w.walk (top_of n k hi)) w.seen w.order))

  -- ---- the shape of what is read

  -- At a lowest node the bounds are the keys, but for the last, which is the node's own.
  row-shaped : (low e : ℕ) (es : List (ℕ × ℕ)) → last_low (λ (a : ℕ) u. u + 1) low es ≡ e → Row low es
      → LowestEnds (map_e (erase zero) (lowest es)) × Seg (Shaped zero 3) low e (map_e (erase zero) (lowest es))
  unfolding erase read_tree Shaped
  row-shaped low e [] z w = (tt, z)
  row-shaped low e (p ∷ []) z w = (tt, ((w.0.0, w.0.2), omega (arith, z)))
  row-shaped low e (p ∷ q ∷ es) z w =
      let ih = row-shaped (word_of s m p.0 1 + 1) e (q ∷ es) z w.1 in
      let k : word_of s m p.0 1 ≡ p.1 = omega (arith, w.0.1, w.0.2) in
      ((k, ih.0), ((w.0.0, w.0.2), subst (λ (x : ℕ). Seg (Shaped zero 3) x e (map_e (erase zero) (lowest (q ∷ es)))) (omega arith) ih.1))

  shaped_row : (low e : ℕ) (es : List (ℕ × ℕ)) → LowestEnds (map_e (erase zero) (lowest es)) → Seg (Shaped zero 3) low e (map_e (erase zero) (lowest es)) → Row low es
  unfolding erase read_tree Shaped
  shaped_row low e [] l g = tt
  shaped_row low e (p ∷ []) l g = ((g.0.0, omega arith, g.0.1), tt)
  shaped_row low e (p ∷ q ∷ es) l g =
      let k : word_of s m p.0 1 ≡ p.1 = l.0 in
      ((g.0.0, omega arith, g.0.1), shaped_row (word_of s m p.0 1 + 1) e (q ∷ es) l.1 (subst (λ (x : ℕ). Seg (Shaped zero 3) x e (map_e (erase zero) (lowest (q ∷ es)))) (omega arith) g.1))

  few-leaves : (es : List (Numbered zero × ℕ)) → All (Few s m) (flat (node_numbers zero) es)
  unfolding node_numbers
  few-leaves [] = tt
  few-leaves (p ∷ es) = few-leaves es

  -- A node's fanout, of what is read and of the words.
  module _ (h least i hi : ℕ) (some : 1 ≤ least) where
    abbrev here : Node
    here = node_at s m i

    abbrev read : List (Tree h × ℕ)
    read = map_e (erase h) (read_sons (read_tree s m r h) (entries here hi))

    usable : fanout_ok here least ≡ true → Usable here
    usable e = fan-usable here least (sized-decode (record_at s m i)) some e

    fan-read : fanout_ok here least ≡ true → (least ≤ length read) × (length read ≤ 8) × (word_of s m i 1 ≤ 8)
    unfolding decode_node
    fan-read e =
        let p = fan-found here least e in
        let k : length read ≡ here.count = read-many (read_tree s m r h) (erase h) (entries here hi) ∙ entries-length (usable e) hi in
        (omega arith, omega arith, p.1)

    read-fan : least ≤ length read → word_of s m i 1 ≤ 8 → fanout_ok here least ≡ true
    unfolding decode_node
    read-fan a b = fan-walks here hi least (omega (arith, read-many (read_tree s m r h) (erase h) (entries here hi))) b

  -- ---- the tree

  module _ (least i hi : ℕ) (t : Tour) (some : 1 ≤ least) (b : Ready r t) where
    abbrev met_node : Trace
    met_node = node_trace i (node_at s m i).latch

    abbrev inner : Tour
    inner = after s m t met_node t.walk.low

    ready-inner : Passes s m r t met_node → Ready r inner
    ready-inner p = ready-after s m r t met_node t.walk.low b (node-fits i (node_at s m i).latch) p

    lowest-walked : TreeWalked zero least i hi t
    unfolding tree_from read_tree erase Shaped node_numbers after decode_node
    lowest-walked =
        walked_same s m r (sym (trace-node zero (read_tree s m r 1 i hi)))
        (walked_as s m r out back refl
        (node-walked i least (node_at s m i) (leaves_from s m r (node_at s m i) hi 0 (node_at s m i).count) t b (forest zero (lowest es))
        (last_low (λ a u. a.desc.key + 1) t.walk.low (lowest es)) (Row t.walk.low es)
        (λ f p. walked_as s m r (λ x. x) (λ x. x)
        (ap (λ (l : List (ℕ × ℕ)). leaves_over l inner) (entries-as (node_at s m i) hi (usable zero least i hi some f)) ∙ sym (leaves-as (node_at s m i) hi 0 (node_at s m i).count inner (omega arith)))
        (leaves-walked es inner (ready-inner p)))))
      where
        es : List (ℕ × ℕ)
        es = entries (node_at s m i) hi

        out : (fanout_ok (node_at s m i) least ≡ true) × Row t.walk.low es
            → Right s m 1 least t.walk.low hi (read_tree s m r 1 i hi)
        out x =
            let f = fan-read zero least i hi some x.0 in
            let w = row-shaped t.walk.low (suc hi) es (entries-last (node_at s m i) hi (usable zero least i hi some x.0) t.walk.low ∙ add-one hi) x.1 in
            ((f.0, f.1, w.0, w.1), (f.2, few-leaves (lowest es)))

        back : Right s m 1 least t.walk.low hi (read_tree s m r 1 i hi)
            → (fanout_ok (node_at s m i) least ≡ true) × Row t.walk.low es
        back x = (read-fan zero least i hi some x.0.0 x.1.0, shaped_row t.walk.low (suc hi) es x.0.2 x.0.3)

    inner-walked : (d : ℕ) → ((j u : ℕ) (v : Tour) → Ready r v → TreeWalked d 3 j u v) → TreeWalked (suc d) least i hi t
    unfolding tree_from read_tree erase Shaped node_numbers after decode_node
    inner-walked d ih =
        walked_same s m r (sym (trace-node (suc d) (read_tree s m r (suc (suc d)) i hi)))
        (walked_as s m r out back refl
        (node-walked i least (node_at s m i) (sons_from (tree_from s m r d 3) (node_at s m i) hi 0 (node_at s m i).count) t b (forest (suc d) (upper d ih es))
        (last_low (λ a u. u + 1) t.walk.low (upper d ih es)) (Sons d ih t.walk.low (suc hi) es)
        (λ f p. walked_as s m r (λ x. x) (λ x. x)
        (ap (λ (l : List (ℕ × ℕ)). sons_over (tree_from s m r d 3) l inner) (entries-as (node_at s m i) hi (usable (suc d) least i hi some f)) ∙ sym (sons-as (tree_from s m r d 3) (node_at s m i) hi 0 (node_at s m i).count inner))
        (sons-walked d ih (suc hi) es inner (ready-inner p) (entries-last (node_at s m i) hi (usable (suc d) least i hi some f) t.walk.low ∙ add-one hi)))))
      where
        es : List (ℕ × ℕ)
        es = entries (node_at s m i) hi

        out : (fanout_ok (node_at s m i) least ≡ true) × Sons d ih t.walk.low (suc hi) es
            → Right s m (suc (suc d)) least t.walk.low hi (read_tree s m r (suc (suc d)) i hi)
        out x = let f = fan-read (suc d) least i hi some x.0 in ((f.0, f.1, tt, x.1.0), (f.2, x.1.1))

        back : Right s m (suc (suc d)) least t.walk.low hi (read_tree s m r (suc (suc d)) i hi)
            → (fanout_ok (node_at s m i) least ≡ true) × Sons d ih t.walk.low (suc hi) es
        back x = (read-fan (suc d) least i hi some x.0.0 x.1.0, (x.0.3, x.1.1))

  pub tree-walked : (d least i hi : ℕ) (t : Tour) → 1 ≤ least → Ready r t → TreeWalked d least i hi t
  tree-walked zero least i hi t some b = lowest-walked least i hi t some b
  tree-walked (suc d) least i hi t some b = inner-walked least i hi t some b d (λ j u v c. tree-walked d 3 j u v (omega arith) c)

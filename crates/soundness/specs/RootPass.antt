-- The walk of the whole tree: it succeeds exactly if the tree that the store means is in order, and then leaves its records marked, its
-- descriptors in order, and how many of its nodes have a latch.
use Rattle.std.specs.Prelude.{◌≡◌, true, false, not, ◌&&◌, ℕ, suc, ◌+◌, ◌-◌, ◌≤◌, ◌<◌, eqb}
use Rattle.std.proofs.Math.Path.{refl, sym, ap, subst}
use Rattle.std.proofs.Common.{◌∙◌}
use mathlib.Core.List.{List, map}
use native.Mathlib.Omega.{arith}
use Rattle.std.proofs.Math.Dec.{leb}
use Rattle.std.proofs.Math.ListN.{length, get_or}
use borrow.Author.Tests.{eq-eqb, ne_eqb, le-leb, eqb-true, eqb-false, not-true}
use Rattle.words.specs.Header.{header_word, root_place, height_place, first_place}
use Rattle.machine.specs.Tree.{leaves}
use Rattle.machine.specs.State.{Desc, top}
use Rattle.machine.specs.Sound.{Shaped, stored_in}
use Rattle.meaning.specs.Reading.{Numbered, Chained, read_tree, erase, numbers, node_numbers, height_of}
use Rattle.meaning.specs.Sound.{All}
use Rattle.meaning.specs.Heights.{height-low}
use Rattle.marks.specs.Steps.{both}
use Rattle.tree_walk.specs.TreeWalk.{Tour, tour, tree_from, end_tour, start_walk, root_tour}
use Rattle.soundness.specs.Marking.{Fresh, Among, all_in, all_from, once-most}
use Rattle.soundness.specs.TreeTrace.{same-tour, mark_each, fill, fill-in, Threads, thread_end, threads_end, threads-chained, chained-threads, Ready}
use Rattle.soundness.specs.TreeRecords.{kinds, leaf_numbers, latched_many, leaf-in, trace, trace-fits, kinds-length, TreeMarks, tree-marks}
use Rattle.soundness.specs.TreeWalked.{Few, low_after, past-yes, stopped}
use Rattle.soundness.specs.TreePass.{InOrder, toured, tree-found, tree-walks}
use Rattle.soundness.specs.Spine.{numbers-same, kinds-same, nodes_same, leaves_same, latched-same, spine-up, spine-down}

-- The tree that the store means, and as the walk bounds it: the upper infinity is no key.
abbrev pub root_tree : (s : List ℕ) → ℕ → ℕ → Numbered (suc (height_of s))
root_tree s m r = read_tree s m r (suc (height_of s)) (header_word s root_place) top

abbrev walked_tree : (s : List ℕ) → ℕ → ℕ → Numbered (suc (height_of s))
walked_tree s m r = read_tree s m r (suc (height_of s)) (header_word s root_place) 4294967294

pub record RootInOrder (s : List ℕ) (m r : ℕ) (seen : List ℕ) : Type 0 where
  pub rooted : 1 ≤ header_word s height_place
  pub fresh : Fresh seen r (numbers (suc (height_of s)) (root_tree s m r))
  pub shaped : Shaped (suc (height_of s)) 1 0 top (erase (suc (height_of s)) (root_tree s m r))
  pub top_free : stored_in top (leaves Desc ℕ (suc (height_of s)) (erase (suc (height_of s)) (root_tree s m r))) ≡ false
  pub few : All (Few s m) (node_numbers (suc (height_of s)) (root_tree s m r))
  pub chained : Chained s m (header_word s first_place) (leaf_numbers (suc (height_of s)) (root_tree s m r))

-- What the walk leaves then.
unfoldable pub root_toured : List ℕ → ℕ → ℕ → List ℕ → List ℕ → Tour
root_toured s m r seen order =
    tour
    (record {
      ok = true;
      left = r - length (numbers (suc (height_of s)) (root_tree s m r));
      latches = latched_many (suc (height_of s)) (erase (suc (height_of s)) (root_tree s m r));
      next = 0;
      count = length (leaf_numbers (suc (height_of s)) (root_tree s m r));
      low = low_after (height_of s) 0 (read_tree s m r (suc (height_of s)) (header_word s root_place) 4294967294);
    })
    (mark_each seen (kinds (suc (height_of s)) (root_tree s m r))) (fill order 0 (leaf_numbers (suc (height_of s)) (root_tree s m r)))

module _ (s : List ℕ) (m r : ℕ) (seen order : List ℕ) (small : r ≤ 4096) (long : r < length seen) where
  abbrev h : ℕ
  h = suc (height_of s)

  abbrev begin : Tour
  begin = tour (start_walk r (header_word s first_place)) seen order

  abbrev walk : Tour
  walk = tree_from s m r (height_of s) 1 (header_word s root_place) 4294967294 begin

  ready : Ready r begin
  unfolding start_walk
  ready = record { ok = refl; long = long; latch_room = omega arith; leaf_room = omega arith }

  leaf-same : (u v : ℕ) → leaf_numbers h (read_tree s m r h (header_word s root_place) u) ≡ leaf_numbers h (read_tree s m r h (header_word s root_place) v)
  leaf-same u v = ap (map (λ l. l.num)) (leaves_same s m r h (header_word s root_place) u v)

  pub root-found : (root_tour s m r seen order).walk.ok ≡ true → RootInOrder s m r seen
  unfolding root_tour start_walk end_tour toured
  root-found o =
      let p = past-yes (not (eqb (header_word s height_place) 0) && leb (header_word s height_place) 8) _ _ (stopped begin) o in
      let u = past-yes (eqb walk.walk.next 0) walk _ (stopped walk) p.1 in
      let k = tree-found s m r (height_of s) 1 (header_word s root_place) 4294967294 begin (omega arith) ready u.1 in
      let w = tree-walks s m r (height_of s) 1 (header_word s root_place) 4294967294 begin (omega arith) ready k in
      let e : thread_end s m (header_word s first_place) (leaf_numbers h (walked_tree s m r)) ≡ 0 = sym (ap (λ (v : Tour). v.walk.next) w) ∙ eqb-true walk.walk.next 0 u.0 in
      let x = spine-up s m r h 1 0 4294967294 (header_word s root_place) (omega arith) k.shaped in
      record {
        rooted = omega (arith, eqb-false (header_word s height_place) 0 (not-true _ (both _ (leb (header_word s height_place) 8) p.0).0));
        fresh = subst (Fresh seen r) (numbers-same s m r h (header_word s root_place) 4294967294 top) k.fresh;
        shaped = x.0;
        top_free = x.1;
        few = subst (All (Few s m)) (nodes_same s m r h (header_word s root_place) 4294967294 top) k.few;
        chained = subst (Chained s m (header_word s first_place)) (leaf-same 4294967294 top) (threads-chained s m r (header_word s first_place) (leaf_numbers h (walked_tree s m r))
            (all_from (leaf_numbers h (walked_tree s m r)) (λ j i. all_in (Among r) (numbers h (walked_tree s m r)) k.fresh.inside j (leaf-in h (walked_tree s m r) j i)))
            (subst (Threads s m (header_word s first_place) (leaf_numbers h (walked_tree s m r))) e k.threaded));
      }

  module _ (k : RootInOrder s m r seen) where
    many : length (numbers h (root_tree s m r)) ≤ r
    many = once-most r (numbers h (root_tree s m r)) k.fresh.inside k.fresh.once

    threads : Threads s m (header_word s first_place) (leaf_numbers h (walked_tree s m r)) 0
    threads = subst (λ l. Threads s m (header_word s first_place) l 0) (leaf-same top 4294967294) (chained-threads s m (header_word s first_place) (leaf_numbers h (root_tree s m r)) k.chained)

    ends : thread_end s m (header_word s first_place) (leaf_numbers h (walked_tree s m r)) ≡ 0
    ends = threads_end s m (header_word s first_place) (leaf_numbers h (walked_tree s m r)) 0 threads

    in_order : InOrder s m r (height_of s) 1 4294967294 (walked_tree s m r) begin
    unfolding start_walk
    in_order = record {
      fresh = subst (Fresh seen r) (numbers-same s m r h (header_word s root_place) top 4294967294) k.fresh;
      enough = omega (arith, many, ap length (numbers-same s m r h (header_word s root_place) top 4294967294));
      shaped = spine-down s m r h 1 0 4294967294 (header_word s root_place) (omega arith) k.shaped k.top_free;
      few = subst (All (Few s m)) (nodes_same s m r h (header_word s root_place) top 4294967294) k.few;
      threaded = subst (Threads s m (header_word s first_place) (leaf_numbers h (walked_tree s m r))) (sym ends) threads;
    }

    walk_is : walk ≡ root_toured s m r seen order
    unfolding start_walk toured root_toured
    walk_is =
        tree-walks s m r (height_of s) 1 (header_word s root_place) 4294967294 begin (omega arith) ready in_order
        ∙ same-tour
        (ap (λ (l : List ℕ). r - length l) (numbers-same s m r h (header_word s root_place) 4294967294 top))
        (omega (arith, latched-same s m r h (header_word s root_place) 4294967294 top))
        ends
        (omega (arith, ap length (leaf-same 4294967294 top)))
        refl
        (ap (mark_each seen) (kinds-same s m r h (header_word s root_place) 4294967294 top))
        (ap (fill order 0) (leaf-same 4294967294 top))

    -- So the test for more than 8 levels refuses nothing that is in order.
    pub root-low : header_word s height_place ≤ 8
    root-low = omega (arith, height-low (height_of s) 0 top (root_tree s m r) k.shaped (omega (arith, many)))

    pub root-walks : root_tour s m r seen order ≡ root_toured s m r seen order
    unfolding root_tour end_tour root_toured
    root-walks =
        let a : header_word s height_place ≡ 0 → ⊥ = λ e. omega (arith, k.rooted) in
        let c : walk.walk.next ≡ 0 = ap (λ (v : Tour). v.walk.next) walk_is in
        simp (ne_eqb (header_word s height_place) 0 a, le-leb (header_word s height_place) 8 root-low, eq-eqb walk.walk.next 0 c) walk_is

    pub root_ok : (root_tour s m r seen order).walk.ok ≡ true
    unfolding root_toured
    root_ok = ap (λ (v : Tour). v.walk.ok) root-walks

    -- The marks afterwards, and the descriptors' records in order.
    pub root-marks : TreeMarks h (root_tree s m r) seen (root_toured s m r seen order).seen
    unfolding root_toured
    root-marks = tree-marks h (root_tree s m r) seen r long k.fresh

    pub root-order : length order ≡ 4097 → (j : ℕ) → j < length (leaf_numbers h (root_tree s m r))
        → get_or (root_toured s m r seen order).order j 0 ≡ get_or (leaf_numbers h (root_tree s m r)) j 0
    unfolding root_toured trace
    root-order e j l =
        let f = (trace-fits h (root_tree s m r)).leaves in
        let b : 0 + length (leaf_numbers h (root_tree s m r)) ≤ length order = omega (arith, many, kinds-length h (root_tree s m r)) in
        let z : 0 + j ≡ j = omega arith in
        subst (λ (i : ℕ). get_or (fill order 0 (leaf_numbers h (root_tree s m r))) i 0 ≡ get_or (leaf_numbers h (root_tree s m r)) j 0) z
        (fill-in order 0 (leaf_numbers h (root_tree s m r)) j b l)

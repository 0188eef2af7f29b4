-- The tree's walk of the test succeeds exactly if the tree that is read is in order, and leaves then what that tree says.
use Rattle.std.specs.Prelude.{◌≡◌, refl, true, List, ℕ, suc, ◌+◌, ◌-◌, ◌≤◌, length}
use Rattle.std.proofs.Common.{sym, ap, ◌∙◌, arith}
use Rattle.std.proofs.Math.Path.{subst}
use Rattle.machine.specs.Sound.{Shaped}
use Rattle.meaning.specs.Reading.{Numbered, read_tree, erase, numbers, node_numbers}
use Rattle.meaning.specs.Sound.{All}
use Rattle.tree_walk.specs.TreeWalk.{Tour, tour, tree_from}
use Rattle.soundness.specs.Marking.{Fresh}
use Rattle.soundness.specs.TreeRecords.{kinds, leaf_numbers, latched_many, trace, kinds-numbers, kinds-length, kinds-some}
use Rattle.soundness.specs.TreeTrace.{same-tour, mark_each, fill, thread_end, unmet-fresh, fresh-unmet, Threaded, after, Ready}
use Rattle.soundness.specs.TreeWalked.{Few, low_after, tree-walked}

-- The tree that is read is in order, seen from where the walk stands: none of its records was met, they are not more than may still be met, keys,
-- boundaries and fanout are right, and the chain of descriptors goes through it in order.
pub record InOrder (s : List ℕ) (m r d least hi : ℕ) (t : Numbered (suc d)) (v : Tour) : Type 0 where
  pub fresh : Fresh v.seen r (numbers (suc d) t)
  pub enough : length (numbers (suc d) t) ≤ v.walk.left
  pub shaped : Shaped (suc d) least v.walk.low hi (erase (suc d) t)
  pub few : All (Few s m) (node_numbers (suc d) t)
  pub threaded : Threaded s m v.walk.next (leaf_numbers (suc d) t)

-- What the walk leaves then.
unfoldable pub toured : List ℕ → ℕ → (d : ℕ) → Numbered (suc d) → Tour → Tour
toured s m d t v =
    tour
    (record {
      ok = true;
      left = v.walk.left - length (numbers (suc d) t);
      latches = v.walk.latches + latched_many (suc d) (erase (suc d) t);
      next = thread_end s m v.walk.next (leaf_numbers (suc d) t);
      count = v.walk.count + length (leaf_numbers (suc d) t);
      low = low_after d v.walk.low t;
    })
    (mark_each v.seen (kinds (suc d) t)) (fill v.order v.walk.count (leaf_numbers (suc d) t))

after-toured : (s : List ℕ) (m d : ℕ) (t : Numbered (suc d)) (v : Tour) → after s m v (trace (suc d) t) (low_after d v.walk.low t) ≡ toured s m d t v
unfolding after trace toured
after-toured s m d t v = same-tour (ap (λ (n : ℕ). v.walk.left - n) (kinds-length (suc d) t)) refl refl refl refl refl refl

module _ (s : List ℕ) (m r d least i hi : ℕ) (v : Tour) (some : 1 ≤ least) (b : Ready r v) where
  abbrev the : Numbered (suc d)
  the = read_tree s m r (suc d) i hi

  pub tree-found : (tree_from s m r d least i hi v).walk.ok ≡ true → InOrder s m r d least hi (read_tree s m r (suc d) i hi) v
  unfolding trace
  tree-found o =
      let p = (tree-walked s m r d least i hi v some b).found o in
      record {
        fresh = subst (Fresh v.seen r) (kinds-numbers (suc d) the) (unmet-fresh r v.seen (kinds (suc d) the) (kinds-some (suc d) the) b.long p.1.unmet);
        enough = omega (arith, p.1.enough, kinds-length (suc d) the);
        shaped = p.0.0;
        few = p.0.1;
        threaded = p.1.threaded;
      }

  pub tree-walks : InOrder s m r d least hi (read_tree s m r (suc d) i hi) v → tree_from s m r d least i hi v ≡ toured s m d (read_tree s m r (suc d) i hi) v
  unfolding trace
  tree-walks k =
      (tree-walked s m r d least i hi v some b).walks (k.shaped, k.few)
      (record {
        unmet = fresh-unmet r v.seen (kinds (suc d) the) (subst (Fresh v.seen r) (sym (kinds-numbers (suc d) the)) k.fresh);
        enough = omega (arith, k.enough, kinds-length (suc d) the);
        threaded = k.threaded;
      })
      ∙ after-toured s m d the v

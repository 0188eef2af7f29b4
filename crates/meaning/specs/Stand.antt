-- The node of a level on the path to a key: its place in the tree that is read, and its record.
use Rattle.std.specs.Prelude.{◌≡◌, refl, List, [], ◌∷◌, ◌++◌}
use Rattle.std.proofs.Common.{sym, subst, ◌∙◌, arith, eq-eqb, ne_eqb}
use Rattle.std.proofs.Math.Path.{ap}
use Prim.Native.Nat.{ℕ, zero, suc, ◌+◌, ◌-◌, ◌≤◌}
use Rattle.words.specs.Store.{word_of}
use Rattle.nodes.specs.Node.{node_at}
use Rattle.nodes.specs.Entries as N
use Rattle.machine.specs.Tree.{map_e, pick-hit, Seg, Hit, hit}
use Rattle.machine.specs.Order.{Ord}
use Rattle.meaning.specs.Reading.{Numbered, read_sons, read_tree, erase}
use Rattle.meaning.specs.Sound.{number_at}
use Rattle.meaning.specs.Around.{NCtx, here, under, fill, Way, bound_in, Cut, cut-sons}

-- ---- levels

pub ctx-height : {k h : ℕ} (c : NCtx k h) → k ≤ h
ctx-height here = omega arith
ctx-height (under w pre c b post) = omega (arith, ctx-height c)

-- The record of the node in the hole is the one that a session's words name.
pub number-fill : {k h : ℕ} (x : ℕ) (c : NCtx (suc k) h) (u : Numbered (suc k)) → Way x c → number_at (suc k) x h (fill c u) ≡ u.latch.num
unfolding number_at
number-fill {k} x here u w = rw (eq-eqb (suc k) (suc k) refl) refl
number-fill {k} x (under {h = h} v pre c b post) u w =
    rw (ne_eqb (suc h) (suc k) (λ e. omega (arith, e, ctx-height c)))
    (pick-hit x 0 (number_at (suc k) x h) pre (fill c u) b post w.0 w.1 ∙ number-fill x c u w.2)

-- ---- the path

-- d levels above k.
abbrev up : ℕ → ℕ → ℕ
up zero k = k
up (suc d) k = suc (up d k)

up_is : (d k : ℕ) → up d k ≡ d + k
up_is zero k = omega arith
up_is (suc d) k = omega (arith, up_is d k)

module _ (s : List ℕ) (m r : ℕ) where
  -- The node of level k on the path to x in the tree of height h from record i on.
  pub record Stand (x k h i hi : ℕ) : Type 0 where
    pub around : NCtx k h
    pub num : ℕ
    pub bound : ℕ
    pub bounded : bound_in around hi ≡ bound
    pub is : read_tree s m r h i hi ≡ fill around (read_tree s m r k num bound)
    pub way : Way x around
    pub lo : ℕ
    pub ordered : Ord k lo bound (erase k (read_tree s m r k num bound))
    pub from : lo ≤ x
    pub upto : x ≤ bound

  seg-erase : (h lo e : ℕ) (es : List (Numbered h × ℕ)) → Seg (Ord h) lo e (map_e (erase h) es) → Seg (λ l u a. Ord h l u (erase h a)) lo e es
  seg-erase h lo e [] q = q
  seg-erase h lo e (p ∷ es) q = (q.0, seg-erase h (suc p.1) e es q.1)

  -- The node stands in the son that is on the path.
  stand-son : (x k h i hi lo : ℕ) (H : Hit (λ l u t. Ord h l u (erase h t)) x lo (suc hi) (read_sons (read_tree s m r h) (N.entries (node_at s m i) hi)))
      (C : Cut (read_tree s m r h) (N.entries (node_at s m i) hi) H.pre H.a H.u H.post) → Stand x k h C.son H.u → Stand x k (suc h) i hi
  unfolding read_tree bound_in
  stand-son x k h i hi lo H C S = record {
    around = under (record { num = i; word = word_of s m i 0 }) H.pre S.around H.u H.post;
    num = S.num;
    bound = S.bound;
    bounded = S.bounded;
    is = ap (λ l. record { latch = record { num = i; word = word_of s m i 0 }; sons = l }) (H.eq ∙ ap (λ t. H.pre ++ (t, H.u) ∷ H.post) (sym C.son_is ∙ S.is));
    way = (H.below, H.upto, S.way);
    lo = S.lo;
    ordered = S.ordered;
    from = S.from;
    upto = S.upto;
  }

  stand-up : (x d k i hi lo : ℕ) → Ord (up d k) lo hi (erase (up d k) (read_tree s m r (up d k) i hi)) → lo ≤ x → x ≤ hi → Stand x k (up d k) i hi
  unfolding Ord erase read_tree bound_in
  stand-up x zero k i hi lo o a b = record { around = here; num = i; bound = hi; bounded = refl; is = refl; way = tt; lo = lo; ordered = o; from = a; upto = b }
  stand-up x (suc d) k i hi lo o a b =
      let h = up d k in
      let es = N.entries (node_at s m i) hi in
      let H = hit (λ l u t. Ord h l u (erase h t)) x lo (suc hi) (read_sons (read_tree s m r h) es) (seg-erase h lo (suc hi) (read_sons (read_tree s m r h) es) o) a (omega (arith, b)) in
      go H (cut-sons (read_tree s m r h) es H.pre H.a H.u H.post H.eq) (stand-up x d k)
    where
      go : (H : Hit (λ l u t. Ord (up d k) l u (erase (up d k) t)) x lo (suc hi) (read_sons (read_tree s m r (up d k)) (N.entries (node_at s m i) hi)))
          → Cut (read_tree s m r (up d k)) (N.entries (node_at s m i) hi) H.pre H.a H.u H.post
          → ((j u l : ℕ) → Ord (up d k) l u (erase (up d k) (read_tree s m r (up d k) j u)) → l ≤ x → x ≤ u → Stand x k (up d k) j u) → Stand x k (suc (up d k)) i hi
      go H C f =
          stand-son x k (up d k) i hi lo H C (f C.son H.u H.m (subst (λ t. Ord (up d k) H.m H.u (erase (up d k) t)) (sym C.son_is) H.here) H.from H.upto)

  pub stand : (x k h i hi lo : ℕ) → k ≤ h → Ord h lo hi (erase h (read_tree s m r h i hi)) → lo ≤ x → x ≤ hi → Stand x k h i hi
  stand x k h i hi lo l =
      let e : up (h - k) k ≡ h = up_is (h - k) k ∙ omega arith in
      subst (λ n. Ord n lo hi (erase n (read_tree s m r n i hi)) → lo ≤ x → x ≤ hi → Stand x k n i hi) e (stand-up x (h - k) k i hi lo)

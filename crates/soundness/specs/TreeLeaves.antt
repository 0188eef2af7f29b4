-- The descriptors of a tree, each with its record's number: a key's descriptor is the one on the path to it.
use Rattle.std.specs.Prelude.{◌≡◌, refl, true, List, [], ◌∷◌, ◌++◌, ◌⊎◌, ℕ, zero, suc, ◌≤◌, ◌<◌}
use Rattle.std.proofs.Common.{sym, ap, subst, ◌∙◌, append_assoc, inl, inr, arith, eq-eqb, ne_eqb}
use Rattle.std.proofs.lemmas.List.{map-append}
use Rattle.machine.specs.Tree.{pick, flat, flat_append, map_e, Seg, hit, pick-hit, leaves}
use Rattle.machine.specs.State.{Desc}
use Rattle.machine.specs.Order.{Ord, In, in-append, in-wide, seg-le, seg_in, ord-le, ord-in}
use Rattle.machine.specs.Sound.{stored_in}
use Rattle.machine.specs.Looks.{stored-range, stored-parts, stored_here}
use Rattle.meaning.specs.Reading.{Leaf, Mark, Numbered, erase}
use Rattle.meaning.specs.Sound.{All, record_of}
use Rattle.soundness.specs.Marking as G
use Rattle.soundness.specs.Marking.{all_left, all_right}
use Rattle.soundness.specs.Leaves.{erase-leaves}
use Rattle.soundness.specs.UndoLeaves.{descs, nums}
use Rattle.soundness.specs.TreePaths.{leaf_number}

abbrev pub lvn : (h : ℕ) → Numbered h → List Leaf
lvn h t = leaves Leaf Mark h t

-- ---- without the numbers

-- ---- the descriptor on the path to x

pub record Split (x h : ℕ) (t : Numbered h) (from upto : ℕ) : Type 0 where
  pub A : List Leaf
  pub l : Leaf
  pub B : List Leaf
  pub lo : ℕ
  pub hi : ℕ
  pub at_least : lo ≤ x
  pub at_most : x ≤ hi
  pub from_lo : from ≤ lo
  pub hi_upto : suc hi ≤ upto
  pub key_lo : lo ≤ l.desc.key
  pub key_hi : l.desc.key ≤ hi
  pub low : In from lo (descs A)
  pub high : In (suc hi) upto (descs B)
  pub was : lvn h t ≡ A ++ l ∷ B
  pub leaf : leaf_number x h t ≡ l.num

-- The keys of a tree lie from lo to hi.
abbrev Within : (h : ℕ) → ℕ → ℕ → Numbered h → Type 0
Within h lo hi t = Ord h lo hi (erase h t)

seg-within : (h lo e : ℕ) (es : List (Numbered h × ℕ)) → Seg (Ord h) lo e (map_e (erase h) es) → Seg (Within h) lo e es
seg-within h lo e [] g = g
seg-within h lo e (p ∷ es) g = (g.0, seg-within h (suc p.1) e es g.1)

within-le : (h lo hi : ℕ) (t : Numbered h) → Within h lo hi t → lo ≤ suc hi
within-le h lo hi t o = ord-le h lo hi (erase h t) o

flat-descs : (h : ℕ) (es : List (Numbered h × ℕ)) → flat (λ a. descs (lvn h a)) es ≡ descs (flat (lvn h) es)
flat-descs h [] = refl
flat-descs h (p ∷ es) = ap (λ (l : List Desc). descs (lvn h p.0) ++ l) (flat-descs h es) ∙ sym (map-append (λ (x : Leaf). x.desc) (lvn h p.0) (flat (lvn h) es))

within_in : (h lo e : ℕ) (es : List (Numbered h × ℕ)) → Seg (Within h) lo e es → In lo e (descs (flat (lvn h) es))
within_in h lo e es g =
    subst (In lo e) (flat-descs h es)
    (seg_in (Within h) (λ a. descs (lvn h a)) (within-le h) (λ l u a o. subst (In l (suc u)) (erase-leaves h a) (ord-in h l u (erase h a) o)) lo e es g)

in_both : (lo e : ℕ) (a b : List Leaf) → In lo e (descs a) → In lo e (descs b) → In lo e (descs (a ++ b))
in_both lo e a b p q = subst (In lo e) (sym (map-append (λ (x : Leaf). x.desc) a b)) (in-append lo e (descs a) (descs b) p q)

nest : (a A : List Leaf) (l : Leaf) (B b : List Leaf) → a ++ ((A ++ l ∷ B) ++ b) ≡ (a ++ A) ++ l ∷ (B ++ b)
nest a A l B b = ap (λ (k : List Leaf). a ++ k) (append_assoc A (l ∷ B) b) ∙ sym (append_assoc a A (l ∷ (B ++ b)))

pub split : (x h : ℕ) (t : Numbered h) (from hi : ℕ) → Ord h from hi (erase h t) → from ≤ x → x ≤ hi → Split x h t from (suc hi)
unfolding Ord erase leaves leaf_number
split x zero t from hi o a b = record {
  A = [];
  l = t;
  B = [];
  lo = from;
  hi = hi;
  at_least = a;
  at_most = b;
  from_lo = omega arith;
  hi_upto = omega arith;
  key_lo = o.0;
  key_hi = o.1;
  low = tt;
  high = tt;
  was = refl;
  leaf = refl;
}
split x (suc h) t from hi o a b =
    let H = hit (Within h) x from (suc hi) t.sons (seg-within h from (suc hi) t.sons o) a (omega (arith, b)) in
    let C = split x h H.a H.m H.u H.here H.from H.upto in
    let fm : from ≤ H.m = seg-le (Within h) (within-le h) from H.m H.pre H.spre in
    let uh : suc H.u ≤ suc hi = seg-le (Within h) (within-le h) (suc H.u) (suc hi) H.post H.spost in
    let pre = flat (lvn h) H.pre in
    let post = flat (lvn h) H.post in
    record {
      A = pre ++ C.A;
      l = C.l;
      B = C.B ++ post;
      lo = C.lo;
      hi = C.hi;
      at_least = C.at_least;
      at_most = C.at_most;
      from_lo = omega (arith, fm, C.from_lo);
      hi_upto = omega (arith, uh, C.hi_upto);
      key_lo = C.key_lo;
      key_hi = C.key_hi;
      low = in_both from C.lo pre C.A
          (in-wide from H.m from C.lo (descs pre) (within_in h from H.m H.pre H.spre) (omega arith) C.from_lo)
          (in-wide H.m C.lo from C.lo (descs C.A) C.low fm (omega arith));
      high = in_both (suc C.hi) (suc hi) C.B post
          (in-wide (suc C.hi) (suc H.u) (suc C.hi) (suc hi) (descs C.B) C.high (omega arith) uh)
          (in-wide (suc H.u) (suc hi) (suc C.hi) (suc hi) (descs post) (within_in h (suc H.u) (suc hi) H.post H.spost) C.hi_upto (omega arith));
      was = ap (flat (lvn h)) H.eq ∙ flat_append (lvn h) H.pre ((H.a, H.u) ∷ H.post)
          ∙ ap (λ (k : List Leaf). pre ++ (k ++ post)) C.was ∙ nest pre C.A C.l C.B post;
      leaf = ap (pick x 0 (leaf_number x h)) H.eq ∙ pick-hit x 0 (leaf_number x h) H.pre H.a H.u H.post H.below H.upto ∙ C.leaf;
    }

-- ---- a key in the list of descriptors

module _ (k : ℕ) (A : List Leaf) (l : Leaf) (B : List Leaf) (from lo hi upto : ℕ) (low : In from lo (descs A)) (high : In (suc hi) upto (descs B)) (least : lo ≤ k) (most : k ≤ hi) where
  -- A stored key is that of the descriptor on the path to it.
  pub stored-split : stored_in k (descs (A ++ l ∷ B)) ≡ true → l.desc.key ≡ k
  stored-split e = go (stored-parts k (descs A) l.desc (descs B) (subst (λ (d : List Desc). stored_in k d ≡ true) (map-append (λ (x : Leaf). x.desc) A (l ∷ B)) e))
    where
      go : (stored_in k (descs A) ≡ true) ⊎ ((l.desc.key ≡ k) ⊎ (stored_in k (descs B) ≡ true)) → l.desc.key ≡ k
      go (inl q) = absurd (omega (arith, (stored-range k from lo (descs A) low q).1, least))
      go (inr (inl q)) = q
      go (inr (inr q)) = absurd (omega (arith, (stored-range k (suc hi) upto (descs B) high q).0, most))

  pub split-stored : l.desc.key ≡ k → stored_in k (descs (A ++ l ∷ B)) ≡ true
  split-stored e = ap (stored_in k) (map-append (λ (x : Leaf). x.desc) A (l ∷ B)) ∙ stored_here k l.desc e (descs A) (descs B)

pub record_at : (k from lo : ℕ) (A : List Leaf) (l : Leaf) (B : List Leaf) → In from lo (descs A) → lo ≤ k → l.desc.key ≡ k → record_of k (A ++ l ∷ B) ≡ l.num
unfolding record_of
record_at k from lo [] l B i h e = simp (eq-eqb l.desc.key k e)
record_at k from lo (a ∷ A) l B i h e = simp (ne_eqb a.desc.key k (λ q. omega (arith, q, i.0.1, h))) (record_at k from lo A l B i.1 h e)

-- ---- what a record's number tells

-- Each descriptor's key is what w says of its record.
abbrev pub Says : (ℕ → ℕ) → List Leaf → Type 0
Says w L = All (λ (x : Leaf). x.desc.key ≡ w x.num) L

module _ (w : ℕ → ℕ) where
  pub key-range : (lo e i : ℕ) (L : List Leaf) → In lo e (descs L) → Says w L → G.In i (nums L) → (lo ≤ w i) × (w i < e)
  key-range lo e i [] d a n = absurd n
  key-range lo e i (l ∷ L) d a (inl q) = let z : l.desc.key ≡ w i = a.0 ∙ ap w (sym q) in (omega (arith, z, d.0.0), omega (arith, z, d.0.1))
  key-range lo e i (l ∷ L) d a (inr n) = key-range lo e i L d.1 a.1 n

  -- The record of a key is that of the descriptor on the path to it.
  pub number-split : (k i : ℕ) (A : List Leaf) (l : Leaf) (B : List Leaf) (from lo hi upto : ℕ) → In from lo (descs A) → In (suc hi) upto (descs B) → lo ≤ k → k ≤ hi
      → Says w (A ++ l ∷ B) → G.In i (nums (A ++ l ∷ B)) → w i ≡ k → (i ≡ l.num) × (l.desc.key ≡ k)
  number-split k i A l B from lo hi upto low high least most a n e =
      go (G.in-append i (nums A) (nums (l ∷ B)) (subst (G.In i) (map-append (λ (x : Leaf). x.num) A (l ∷ B)) n))
    where
      says : Says w (l ∷ B)
      says = all_right (λ (x : Leaf). x.desc.key ≡ w x.num) A (l ∷ B) a

      go : G.In i (nums A) ⊎ G.In i (nums (l ∷ B)) → (i ≡ l.num) × (l.desc.key ≡ k)
      go (inl q) = absurd (omega (arith, (key-range from lo i A low (all_left (λ (x : Leaf). x.desc.key ≡ w x.num) A (l ∷ B) a) q).1, e, least))
      go (inr (inl q)) = (q, says.0 ∙ ap w (sym q) ∙ e)
      go (inr (inr q)) = absurd (omega (arith, (key-range (suc hi) upto i B high says.1 q).0, e, most))

-- Whatever each descriptor of a list has.
pub each_leaf : (R P : Leaf → Type 0) (l : List Leaf) → All R l → ((x : Leaf) → G.In x.num (nums l) → R x → P x) → All P l
each_leaf R P [] a f = tt
each_leaf R P (x ∷ l) a f = (f x (inl refl) a.0, each_leaf R P l a.1 (λ y n e. f y (inr n) e))

pub in-mid : (A : List Leaf) (l : Leaf) (B : List Leaf) → G.In l.num (nums (A ++ l ∷ B))
in-mid A l B = subst (G.In l.num) (sym (map-append (λ (x : Leaf). x.num) A (l ∷ B))) (G.in_right l.num (nums A) (nums (l ∷ B)) (inl refl))

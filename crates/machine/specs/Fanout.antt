-- Splits, joins and moves at a node, and descriptors put in and taken out at a lowest node: bounds, fanout and how many nodes there are.
use Rattle.std.specs.Prelude.{◌≡◌, Bool, List, [], ◌∷◌, ◌++◌, map, get_or}
use Rattle.std.proofs.Math.Path.{refl, subst, ap}
use Rattle.std.proofs.Common.{sym, ◌∙◌, append-nil, length-drop}
use Rattle.std.proofs.Math.Bool.{true, false, cond}
use Prim.Native.Nat.{zero, suc, ◌+◌, ◌≤◌, ◌<◌, ℕ}
use native.Mathlib.Omega.{arith}
use Rattle.std.proofs.Math.Dec.{leb}
use Rattle.std.proofs.Math.ListN.{length, length-append, take, drop, take-append-drop}
use Rattle.machine.specs.Logic.{leb_yes, leb_no, leb-is, leb-not}
use Rattle.machine.specs.Tree.{onp, pick, sum_e, sum_e-append, Seg, seg-append, seg_cut, Below, Hit, hit, onp-hit, pick-hit, Cmp, low, high, cmp}
use Rattle.machine.specs.State.{Desc, Tree, no_desc, same}
use Rattle.machine.specs.Descent.{Sons, node, halves, down_to, on_last, last_of, but_last, bound_of, joined, moved_right, moved_left, on_pair, pick_pair, sons_of, joins, mended, put_in, taken_out}
use Rattle.machine.specs.Sound.{nodes, LowestEnds, EndsWell, Shaped}

-- ---- bounds that are keys

-- Every bound is the key before it.
abbrev AllEnds : Sons 0 → Type 0
AllEnds [] = Unit {0}
AllEnds (p ∷ es) = (p.0.key ≡ p.1) × AllEnds es

abbrev EndsAll : (h : ℕ) → Sons h → Type 0
EndsAll zero es = AllEnds es
EndsAll (suc h) es = Unit {0}

low-cut : (es fs : Sons 0) → 1 ≤ length fs → LowestEnds (es ++ fs) → AllEnds es × LowestEnds fs
low-cut [] fs n l = (tt, l)
low-cut (p ∷ []) [] n l = absurd (omega (arith, n))
low-cut (p ∷ []) (q ∷ fs) n l = ((l.0, tt), l.1)
low-cut (p ∷ p' ∷ es) fs n l = let r = low-cut (p' ∷ es) fs n l.1 in ((l.0, r.0), r.1)

low-put : (es fs : Sons 0) → AllEnds es → LowestEnds fs → LowestEnds (es ++ fs)
low-put [] fs a l = l
low-put (p ∷ []) [] a l = tt
low-put (p ∷ []) (q ∷ fs) a l = (a.0, l)
low-put (p ∷ p' ∷ es) fs a l = (a.0, low-put (p' ∷ es) fs a.1 l)

low-all : (es : Sons 0) → AllEnds es → LowestEnds es
low-all [] a = tt
low-all (p ∷ []) a = tt
low-all (p ∷ q ∷ es) a = (a.0, low-all (q ∷ es) a.1)

low-tail : (p : Desc × ℕ) (es : Sons 0) → LowestEnds (p ∷ es) → LowestEnds es
low-tail p [] l = tt
low-tail p (q ∷ es) l = l.1

low-last : (es : Sons 0) → LowestEnds es → AllEnds (on_last (down_to 0) es)
low-last [] l = tt
low-last (p ∷ []) l = (refl, tt)
low-last (p ∷ q ∷ es) l = (l.0, low-last (q ∷ es) l.1)

low-raised : (f : Desc → ℕ → ℕ) (es : Sons 0) → LowestEnds es → LowestEnds (on_last f es)
low-raised f [] l = tt
low-raised f (p ∷ []) l = tt
low-raised f (p ∷ q ∷ []) l = (l.0, tt)
low-raised f (p ∷ q ∷ r ∷ es) l = (l.0, low-raised f (q ∷ r ∷ es) l.1)

ends-cut : (h : ℕ) (es fs : Sons h) → 1 ≤ length fs → EndsWell h (es ++ fs) → EndsAll h es × EndsWell h fs
ends-cut zero es fs n l = low-cut es fs n l
ends-cut (suc h) es fs n l = (tt, tt)

ends-put : (h : ℕ) (es fs : Sons h) → EndsAll h es → EndsWell h fs → EndsWell h (es ++ fs)
ends-put zero es fs a l = low-put es fs a l
ends-put (suc h) es fs a l = tt

ends-all : (h : ℕ) (es : Sons h) → EndsAll h es → EndsWell h es
ends-all zero es a = low-all es a
ends-all (suc h) es a = tt

ends_last : (h : ℕ) (es : Sons h) → EndsWell h es → EndsAll h (on_last (down_to h) es)
ends_last zero es l = low-last es l
ends_last (suc h) es l = tt

-- ---- lists of sons

module _ {A : Type 0} where
  pub cut-is : (es : List (A × ℕ)) → but_last es ++ last_of es ≡ es
  cut-is [] = refl
  cut-is (p ∷ []) = refl
  cut-is (p ∷ q ∷ es) = ap (λ l. p ∷ l) (cut-is (q ∷ es))

  pub last_one : (es : List (A × ℕ)) → 1 ≤ length es → length (last_of es) ≡ 1
  last_one [] n = absurd (omega (arith, n))
  last_one (p ∷ []) n = refl
  last_one (p ∷ q ∷ es) n = last_one (q ∷ es) (omega arith)

  first_one : (es : List (A × ℕ)) → 1 ≤ length es → length (take 1 es) ≡ 1
  first_one [] n = absurd (omega (arith, n))
  first_one (p ∷ es) n = refl

  pub length_last : (f : A → ℕ → ℕ) (es : List (A × ℕ)) → length (on_last f es) ≡ length es
  length_last f [] = refl
  length_last f (p ∷ []) = refl
  length_last f (p ∷ q ∷ es) = ap suc (length_last f (q ∷ es))

  sum-last : (g : A → ℕ) (f : A → ℕ → ℕ) (es : List (A × ℕ)) → sum_e g (on_last f es) ≡ sum_e g es
  sum-last g f [] = refl
  sum-last g f (p ∷ []) = refl
  sum-last g f (p ∷ q ∷ es) = ap (λ n. g p.0 + n) (sum-last g f (q ∷ es))

  pub last-kept : (es : List (A × ℕ)) → on_last (λ a b. b) es ≡ es
  last-kept [] = refl
  last-kept (p ∷ []) = refl
  last-kept (p ∷ q ∷ es) = ap (λ l. p ∷ l) (last-kept (q ∷ es))

  -- The end is one more than the last bound.
  pub seg-bound : (Q : ℕ → ℕ → A → Type 0) (z lo e : ℕ) (es : List (A × ℕ)) → 1 ≤ length es → Seg Q lo e es → e ≡ suc (bound_of z es)
  seg-bound Q z lo e [] n s = absurd (omega (arith, n))
  seg-bound Q z lo e (p ∷ []) n s = sym s.1
  seg-bound Q z lo e (p ∷ q ∷ es) n s = seg-bound Q p.1 (suc p.1) e (q ∷ es) (omega arith) s.1

  -- The fourth bound.
  fourth : (es : List (A × ℕ)) → 4 ≤ length es → get_or (map (λ p. p.1) es) 3 0 ≡ bound_of 0 (take 4 es)
  fourth [] n = absurd (omega (arith, n))
  fourth (p ∷ []) n = absurd (omega (arith, n))
  fourth (p ∷ q ∷ []) n = absurd (omega (arith, n))
  fourth (p ∷ q ∷ r ∷ []) n = absurd (omega (arith, n))
  fourth (p ∷ q ∷ r ∷ s ∷ es) n = refl

-- A descriptor does not mind a lower start.
leaf-lower : (m n e : ℕ) (fs : Sons 0) → n ≤ m → 1 ≤ length fs → Seg (Shaped 0 3) m e fs → Seg (Shaped 0 3) n e fs
unfolding Shaped
leaf-lower m n e [] le o s = absurd (omega (arith, o))
leaf-lower m n e (p ∷ fs) le o s = ((omega (arith, le, s.0.0), s.0.1), s.1)

-- Sons behind others, whose last bound comes down from the parent.
seg-join : (h lo m e : ℕ) (es fs : Sons h) → 1 ≤ length fs → Seg (Shaped h 3) lo m es → Seg (Shaped h 3) m e fs → Seg (Shaped h 3) lo e (on_last (down_to h) es ++ fs)
seg-join (suc h) lo m e es fs n s r =
    subst (λ l. Seg (Shaped (suc h) 3) lo e (l ++ fs)) (sym (last-kept es)) (seg-append (Shaped (suc h) 3) lo m e es fs s r)
seg-join zero lo m e es fs n s r = go lo es s
  where
    go : (l : ℕ) (es : Sons 0) → Seg (Shaped 0 3) l m es → Seg (Shaped 0 3) l e (on_last (down_to 0) es ++ fs)
    go l [] s = rw s r
    go l (p ∷ []) s = unfold Shaped in ((s.0.0, omega arith), leaf-lower m (suc p.0.key) e fs (omega (arith, s.0.1, s.1)) n r)
    go l (p ∷ q ∷ es) s = (s.0, go (suc p.1) (q ∷ es) s.1)

-- ---- a full node in two

pub halves-seg : (w x h least lo hi : ℕ) (t : Tree (suc h)) → sons_of t ≡ 8 → Shaped (suc h) least lo hi t → Seg (Shaped (suc h) 3) lo (suc hi) (halves w x h t hi)
unfolding Shaped halves
halves-seg w x h least lo hi t eight S =
    let Q = Shaped h 3 in
    let es = t.sons in
    let l = take 4 es in
    let r = drop 4 es in
    let whole = take-append-drop 4 es in
    let b = get_or (map (λ p. p.1) es) 3 0 in
    let many_r : length r ≡ 4 = omega (arith, length-drop 4 es, eight) in
    let many-l : length l ≡ 4 = omega (arith, length-append l r, ap (length {A = Tree h × ℕ}) whole, many_r, eight) in
    let z = seg_cut Q lo (suc hi) l r (subst (Seg Q lo (suc hi)) (sym whole) S.3) in
    let m : z.0 ≡ suc b = seg-bound Q 0 lo z.0 l (omega (arith, many-l)) z.1 ∙ ap suc (sym (fourth es (omega (arith, eight)))) in
    let ends = ends-cut h l r (omega (arith, many_r)) (subst (EndsWell h) (sym whole) S.2) in (
      (omega (arith, many-l), omega (arith, many-l), ends-all h l ends.0, subst (λ n. Seg Q lo n l) m z.1),
      (
        (omega (arith, many_r), omega (arith, many_r), ends.1, subst (λ n. Seg Q n (suc hi) r) m z.2),
        refl,
      ),
    )

pub halves-nodes : (w x h u : ℕ) (t : Tree (suc h)) → sum_e (nodes (suc h)) (halves w x h t u) ≡ suc (nodes (suc h) t)
unfolding nodes halves
halves-nodes w x h u t =
    let es = t.sons in
    omega (arith, sum_e-append (nodes h) (take 4 es) (drop 4 es), ap (sum_e (nodes h)) (take-append-drop 4 es))

-- ---- two neighbours: one node of both, or a son moved

module _ (w h lo u v : ℕ) (a b : Tree (suc h)) where
  abbrev Q : ℕ → ℕ → Tree h → Type 0
  Q = Shaped h 3

  module _ (S : Shaped (suc h) 3 lo u a) (R : Shaped (suc h) 3 (suc u) v b) where
    pub joined-seg : sons_of a + sons_of b ≤ 8 → Seg (Shaped (suc h) 3) lo (suc v) (joined w h a b v)
    unfolding Shaped joined
    joined-seg fit =
        let es = on_last (down_to h) a.sons in
        let many = length-append es b.sons in
        let same-many = length_last (down_to h) a.sons in (
          (
            omega (arith, many, same-many, S.0),
            omega (arith, many, same-many, fit),
            ends-put h es b.sons (ends_last h a.sons S.2) R.2,
            seg-join h lo (suc u) (suc v) a.sons b.sons (omega (arith, R.0)) S.3 R.3,
          ),
          refl,
        )

    pub right-seg : 4 ≤ sons_of a → sons_of b ≤ 7 → Seg (Shaped (suc h) 3) lo (suc v) (moved_right w h a b v)
    unfolding Shaped moved_right
    right-seg enough fit =
        let rest = but_last a.sons in
        let one = last_of a.sons in
        let whole = cut-is a.sons in
        let one-many = last_one a.sons (omega (arith, enough)) in
        let many : length rest + 1 ≡ sons_of a = omega (arith, length-append rest one, ap (length {A = Tree h × ℕ}) whole, one-many) in
        let z = seg_cut Q lo (suc u) rest one (subst (Seg Q lo (suc u)) (sym whole) S.3) in
        let m : z.0 ≡ suc (bound_of 0 rest) = seg-bound Q 0 lo z.0 rest (omega (arith, many, enough)) z.1 in
        let ends = ends-cut h rest one (omega (arith, one-many)) (subst (EndsWell h) (sym whole) S.2) in
        let down = on_last (down_to h) one in
        let both : length (down ++ b.sons) ≡ suc (sons_of b) = omega (arith, length-append down b.sons, length_last (down_to h) one, one-many) in (
          (omega (arith, many, enough), omega (arith, many, S.1), ends-all h rest ends.0, subst (λ n. Seg Q lo n rest) m z.1),
          (
            (
              omega (arith, both, R.0),
              omega (arith, both, fit),
              ends-put h down b.sons (ends_last h one ends.1) R.2,
              seg-join h (suc (bound_of 0 rest)) (suc u) (suc v) one b.sons (omega (arith, R.0)) (subst (λ n. Seg Q n (suc u) one) m z.2) R.3,
            ),
            refl,
          ),
        )

    pub left-seg : 4 ≤ sons_of b → sons_of a ≤ 7 → Seg (Shaped (suc h) 3) lo (suc v) (moved_left w h a b v)
    unfolding Shaped moved_left
    left-seg enough fit =
        let one = take 1 b.sons in
        let rest = drop 1 b.sons in
        let whole = take-append-drop 1 b.sons in
        let one-many = first_one b.sons (omega (arith, enough)) in
        let many : length rest + 1 ≡ sons_of b = omega (arith, length-append one rest, ap (length {A = Tree h × ℕ}) whole, one-many) in
        let z = seg_cut Q (suc u) (suc v) one rest (subst (Seg Q (suc u) (suc v)) (sym whole) R.3) in
        let m : z.0 ≡ suc (bound_of 0 one) = seg-bound Q 0 (suc u) z.0 one (omega (arith, one-many)) z.1 in
        let ends = ends-cut h one rest (omega (arith, many, enough)) (subst (EndsWell h) (sym whole) R.2) in
        let es = on_last (down_to h) a.sons in
        let both : length (es ++ one) ≡ suc (sons_of a) = omega (arith, length-append es one, length_last (down_to h) a.sons, one-many) in (
          (
            omega (arith, both, S.0),
            omega (arith, both, fit),
            ends-put h es one (ends_last h a.sons S.2) (ends-all h one ends.0),
            seg-join h lo (suc u) (suc (bound_of 0 one)) a.sons one (omega (arith, one-many)) S.3 (subst (λ n. Seg Q (suc u) n one) m z.1),
          ),
          (
            (omega (arith, many, enough), omega (arith, many, R.1), ends.1, subst (λ n. Seg Q n (suc v) rest) m z.2),
            refl,
          ),
        )

  pub joined-nodes : suc (sum_e (nodes (suc h)) (joined w h a b v)) ≡ nodes (suc h) a + nodes (suc h) b
  unfolding nodes joined
  joined-nodes = omega (arith, sum_e-append (nodes h) (on_last (down_to h) a.sons) b.sons, sum-last (nodes h) (down_to h) a.sons)

  pub right-nodes : sum_e (nodes (suc h)) (moved_right w h a b v) ≡ nodes (suc h) a + nodes (suc h) b
  unfolding nodes moved_right
  right-nodes =
      let one = last_of a.sons in
      omega (
        arith,
        sum_e-append (nodes h) (on_last (down_to h) one) b.sons,
        sum-last (nodes h) (down_to h) one,
        sum_e-append (nodes h) (but_last a.sons) one,
        ap (sum_e (nodes h)) (cut-is a.sons),
      )

  pub left-nodes : sum_e (nodes (suc h)) (moved_left w h a b v) ≡ nodes (suc h) a + nodes (suc h) b
  unfolding nodes moved_left
  left-nodes =
      let one = take 1 b.sons in
      omega (
        arith,
        sum_e-append (nodes h) (on_last (down_to h) a.sons) one,
        sum-last (nodes h) (down_to h) a.sons,
        sum_e-append (nodes h) one (drop 1 b.sons),
        ap (sum_e (nodes h)) (take-append-drop 1 b.sons),
      )

-- ---- what the housekeeper does

-- Of the pair, the son on the path to x.
abbrev pub of_pair : {A : Type 0} → ℕ → (A × ℕ) → (A × ℕ) → A
of_pair x p q = cond (leb x p.1) p.0 q.0

module _ (w x h : ℕ) (p q : Tree (suc h) × ℕ) where
  pub mended-seg : (lo : ℕ) → Shaped (suc h) 3 lo p.1 p.0 → Shaped (suc h) 3 (suc p.1) q.1 q.0 → sons_of (of_pair x p q) ≡ 3
      → Seg (Shaped (suc h) 3) lo (suc q.1) (mended w x h p q)
  unfolding mended
  mended-seg lo S R three = go (leb x p.1) three
    where
      left : sons_of p.0 ≡ 3 → (j : Bool) → leb (sons_of q.0) 5 ≡ j
          → Seg (Shaped (suc h) 3) lo (suc q.1) (cond j (joined w h p.0 q.0 q.1) (moved_left w h p.0 q.0 q.1))
      left n true e = joined-seg w h lo p.1 q.1 p.0 q.0 S R (omega (arith, n, leb-is (sons_of q.0) 5 e))
      left n false e = left-seg w h lo p.1 q.1 p.0 q.0 S R (omega (arith, leb-not (sons_of q.0) 5 e)) (omega (arith, n))

      right : sons_of q.0 ≡ 3 → (j : Bool) → leb (sons_of p.0) 5 ≡ j
          → Seg (Shaped (suc h) 3) lo (suc q.1) (cond j (joined w h p.0 q.0 q.1) (moved_right w h p.0 q.0 q.1))
      right n true e = joined-seg w h lo p.1 q.1 p.0 q.0 S R (omega (arith, n, leb-is (sons_of p.0) 5 e))
      right n false e = right-seg w h lo p.1 q.1 p.0 q.0 S R (omega (arith, leb-not (sons_of p.0) 5 e)) (omega (arith, n))

      go : (c : Bool) → sons_of (cond c p.0 q.0) ≡ 3
          → Seg (Shaped (suc h) 3) lo (suc q.1) (cond (leb (cond c (sons_of q.0) (sons_of p.0)) 5) (joined w h p.0 q.0 q.1)
          (cond c (moved_left w h p.0 q.0 q.1) (moved_right w h p.0 q.0 q.1)))
      go true n = left n (leb (sons_of q.0) 5) refl
      go false n = right n (leb (sons_of p.0) 5) refl

  pub mended-many : length (mended w x h p q) + cond (joins x h p q) 1 0 ≡ 2
  unfolding mended joined moved_left moved_right
  mended-many = go (joins x h p q) (leb x p.1)
    where
      go : (j c : Bool) → length (cond j (joined w h p.0 q.0 q.1) (cond c (moved_left w h p.0 q.0 q.1) (moved_right w h p.0 q.0 q.1))) + cond j 1 0 ≡ 2
      go true c = refl
      go false true = refl
      go false false = refl

  pub mended-nodes : sum_e (nodes (suc h)) (mended w x h p q) + cond (joins x h p q) 1 0 ≡ nodes (suc h) p.0 + nodes (suc h) q.0
  unfolding mended
  mended-nodes = go (joins x h p q) (leb x p.1)
    where
      go : (j c : Bool) → sum_e (nodes (suc h)) (cond j (joined w h p.0 q.0 q.1) (cond c (moved_left w h p.0 q.0 q.1) (moved_right w h p.0 q.0 q.1))) + cond j 1 0
          ≡ nodes (suc h) p.0 + nodes (suc h) q.0
      go true c = omega (arith, joined-nodes w h 0 0 q.1 p.0 q.0)
      go false true = omega (arith, left-nodes w h 0 0 q.1 p.0 q.0)
      go false false = omega (arith, right-nodes w h 0 0 q.1 p.0 q.0)

-- The sons cut at the pair, with what Seg says of each part.
pub record PairHit {A : Type 0} (Q : ℕ → ℕ → A → Type 0) (x lo e : ℕ) (es : List (A × ℕ)) : Type 1 where
  pub pre : List (A × ℕ)
  pub p : A × ℕ
  pub q : A × ℕ
  pub post : List (A × ℕ)
  pub eq : es ≡ pre ++ p ∷ q ∷ post
  pub below : Below x pre
  pub upto : x ≤ q.1
  pub m : ℕ
  pub from : m ≤ x
  pub spre : Seg Q lo m pre
  pub left : Q m p.1 p.0
  pub right : Q (suc p.1) q.1 q.0
  pub spost : Seg Q (suc q.1) e post
  pub done : (g : (A × ℕ) → (A × ℕ) → List (A × ℕ)) → on_pair x g es ≡ pre ++ (g p q ++ post)
  pub asked : {B : Type 0} (z : B) (g : (A × ℕ) → (A × ℕ) → B) → pick_pair x z g es ≡ g p q
  pub one : (z : A) → pick x z same es ≡ of_pair x p q

module _ {A : Type 0} (Q : ℕ → ℕ → A → Type 0) (f : (lo u : ℕ) (a : A) → Q lo u a → lo ≤ suc u) (x : ℕ) where
  pair-here : (lo e : ℕ) (p q : A × ℕ) (es : List (A × ℕ)) → Seg Q lo e (p ∷ q ∷ es) → lo ≤ x → x ≤ q.1 → PairHit Q x lo e (p ∷ q ∷ es)
  pair-here lo e p q es s a k = record {
    pre = [];
    p = p;
    q = q;
    post = es;
    eq = refl;
    below = tt;
    upto = k;
    m = lo;
    from = a;
    spre = refl;
    left = s.0;
    right = s.1.0;
    spost = s.1.1;
    done = λ g. rw (leb_yes x q.1 k) refl;
    asked = λ z g. rw (leb_yes x q.1 k) refl;
    one = λ z. rw (leb_yes x q.1 k) refl;
  }

  pair-later : (lo e : ℕ) (p q : A × ℕ) (es : List (A × ℕ)) → Seg Q lo e (p ∷ q ∷ es) → q.1 < x → p.1 < x → PairHit Q x (suc p.1) e (q ∷ es) → PairHit Q x lo e (p ∷ q ∷ es)
  pair-later lo e p q es s k under H = record {
    pre = p ∷ H.pre;
    p = H.p;
    q = H.q;
    post = H.post;
    eq = ap (λ l. p ∷ l) H.eq;
    below = (under, H.below);
    upto = H.upto;
    m = H.m;
    from = H.from;
    spre = (s.0, H.spre);
    left = H.left;
    right = H.right;
    spost = H.spost;
    done = λ g. rw (leb_no x q.1 k) (ap (λ l. p ∷ l) (H.done g));
    asked = λ z g. rw (leb_no x q.1 k) (H.asked z g);
    one = λ z. rw (leb_no x p.1 under) (H.one z);
  }

  pub pair-hit : (lo e : ℕ) (es : List (A × ℕ)) → 2 ≤ length es → Seg Q lo e es → lo ≤ x → x < e → PairHit Q x lo e es
  pair-hit lo e [] n s a b = absurd (omega (arith, n))
  pair-hit lo e (p ∷ []) n s a b = absurd (omega (arith, n))
  pair-hit lo e (p ∷ q ∷ es) n s a b = go (cmp x q.1) (λ k c. pair-hit (suc p.1) e (q ∷ es) c s.1 k b)
    where
      more : (fs : List (A × ℕ)) → Seg Q (suc q.1) e fs → q.1 < x → 2 ≤ suc (length fs)
      more [] r k = absurd (omega (arith, r, k, b))
      more (c ∷ fs) r k = omega arith

      go : Cmp x q.1 → (suc p.1 ≤ x → 2 ≤ length (q ∷ es) → PairHit Q x (suc p.1) e (q ∷ es)) → PairHit Q x lo e (p ∷ q ∷ es)
      go (low k) r = pair-here lo e p q es s a k
      go (high k) r =
          let under : p.1 < x = omega (arith, k, f (suc p.1) q.1 q.0 s.1.0) in
          pair-later lo e p q es s k under (r (omega (arith, under)) (more es s.1.1 k))

-- ---- descriptors put in and taken out

-- The last bound raised.
leaf-raise : (lo e hi : ℕ) (es : Sons 0) → 1 ≤ length es → e ≤ suc hi → Seg (Shaped 0 3) lo e es → Seg (Shaped 0 3) lo (suc hi) (on_last (λ _ _. hi) es)
unfolding Shaped
leaf-raise lo e hi [] n le s = absurd (omega (arith, n))
leaf-raise lo e hi (p ∷ []) n le s = ((s.0.0, omega (arith, s.0.1, s.1, le)), refl)
leaf-raise lo e hi (p ∷ q ∷ es) n le s = (s.0, leaf-raise (suc p.1) e hi (q ∷ es) (omega arith) le s.1)

-- A descriptor left out: what follows begins earlier.
leaf-close : (lo m b hi : ℕ) (pre post : Sons 0) → Seg (Shaped 0 3) lo m pre → Seg (Shaped 0 3) (suc b) (suc hi) post → m ≤ suc b → m ≤ suc hi
    → (e : ℕ) × (e ≤ suc hi) × Seg (Shaped 0 3) lo e (pre ++ post)
leaf-close lo m b hi pre [] s r le lh = (m, lh, subst (Seg (Shaped 0 3) lo m) (sym (append-nil pre)) s)
leaf-close lo m b hi pre (q ∷ post) s r le lh =
    (suc hi, omega arith, seg-append (Shaped 0 3) lo m (suc hi) pre (q ∷ post) s (leaf-lower (suc b) m (suc hi) (q ∷ post) le (omega arith) r))

module _ (x least lo hi : ℕ) (u : Tree 1) (S : Shaped 1 least lo hi u) (from : lo ≤ x) (upto : x ≤ hi) where
  -- The sons cut at the descriptor on the path.
  abbrev AtLeaf : Type 0
  AtLeaf = Hit (Shaped 0 3) x lo (suc hi) u.sons

  the-leaf : AtLeaf
  unfolding Shaped
  the-leaf = hit (Shaped 0 3) x lo (suc hi) u.sons S.3 from (omega (arith, upto))

  module _ (H : AtLeaf) where
    picked : pick x no_desc same u.sons ≡ H.a
    picked = ap (pick x no_desc same) H.eq ∙ pick-hit x no_desc same H.pre H.a H.u H.post H.below H.upto

    many-was : sons_of u ≡ length H.pre + suc (length H.post)
    many-was = ap (length {A = Desc × ℕ}) H.eq ∙ length-append H.pre ((H.a, H.u) ∷ H.post)

    ends-was : AllEnds H.pre × LowestEnds ((H.a, H.u) ∷ H.post)
    unfolding Shaped
    ends-was = low-cut H.pre ((H.a, H.u) ∷ H.post) (omega arith) (subst LowestEnds H.eq S.2)

    sum-was : (f : Desc → ℕ) → sum_e f u.sons ≡ sum_e f H.pre + (f H.a + sum_e f H.post)
    sum-was f = ap (sum_e f) H.eq ∙ sum_e-append f H.pre ((H.a, H.u) ∷ H.post)

    -- A descriptor n of key x, and where it goes.
    module _ (n : Desc) (key_is : n.key ≡ x) where
      abbrev fresh : Bool → Sons 0
      fresh c = cond c ((n, x) ∷ (H.a, H.u) ∷ []) ((H.a, H.a.key) ∷ (n, H.u) ∷ [])

      put_is : put_in n u.sons ≡ H.pre ++ (fresh (leb x H.a.key) ++ H.post)
      unfolding put_in
      put_is =
          let g : Desc → ℕ → Sons 0 = λ d v. cond (leb x d.key) ((n, x) ∷ (d, v) ∷ []) ((d, d.key) ∷ (n, v) ∷ []) in
          ap (λ k. onp k (λ d v. cond (leb k d.key) ((n, k) ∷ (d, v) ∷ []) ((d, d.key) ∷ (n, v) ∷ [])) u.sons) key_is
          ∙ ap (onp x g) H.eq ∙ onp-hit x g H.pre H.a H.u H.post H.below H.upto

      fresh-many : (c : Bool) → length (H.pre ++ (fresh c ++ H.post)) ≡ suc (sons_of u)
      fresh-many true = omega (arith, many-was, length-append H.pre (fresh true ++ H.post))
      fresh-many false = omega (arith, many-was, length-append H.pre (fresh false ++ H.post))

      fresh-sum : (f : Desc → ℕ) (c : Bool) → sum_e f (H.pre ++ (fresh c ++ H.post)) ≡ f n + sum_e f u.sons
      fresh-sum f true = omega (arith, sum-was f, sum_e-append f H.pre (fresh true ++ H.post))
      fresh-sum f false = omega (arith, sum-was f, sum_e-append f H.pre (fresh false ++ H.post))

      fresh-ends : (c : Bool) → leb x H.a.key ≡ c → LowestEnds (fresh c ++ H.post)
      fresh-ends true e = (key_is, ends-was.1)
      fresh-ends false e = (refl, go H.post ends-was.1)
        where
          go : (post : Sons 0) → LowestEnds ((H.a, H.u) ∷ post) → LowestEnds ((n, H.u) ∷ post)
          go [] l = tt
          go (q ∷ post) l = absurd (omega (arith, l.0, leb-not x H.a.key e, H.upto))

      fresh-seg : ¬ (H.a.key ≡ x) → (c : Bool) → leb x H.a.key ≡ c → Seg (Shaped 0 3) H.m (suc hi) (fresh c ++ H.post)
      unfolding Shaped
      fresh-seg new true e =
          ((omega (arith, H.from, key_is), omega (arith, key_is)), ((omega (arith, new, leb-is x H.a.key e), H.here.1), H.spost))
      fresh-seg new false e =
          ((H.here.0, omega arith), ((omega (arith, key_is, leb-not x H.a.key e), omega (arith, key_is, H.upto)), H.spost))

      fresh-shaped : (w : ℕ) → ¬ (H.a.key ≡ x) → sons_of u ≤ 7 → (c : Bool) → leb x H.a.key ≡ c → Shaped 1 least lo hi (node w (H.pre ++ (fresh c ++ H.post)))
      unfolding Shaped
      fresh-shaped w new fit c e = (
        omega (arith, fresh-many c, S.0),
        omega (arith, fresh-many c, fit),
        low-put H.pre (fresh c ++ H.post) ends-was.0 (fresh-ends c e),
        seg-append (Shaped 0 3) lo H.m (suc hi) H.pre (fresh c ++ H.post) H.spre (fresh-seg new c e),
      )

    taken_is : taken_out x u.sons ≡ on_last (λ _ _. bound_of 0 u.sons) (H.pre ++ H.post)
    unfolding taken_out
    taken_is = ap (on_last (λ _ _. bound_of 0 u.sons))
        (ap (onp x (λ _ _. [])) H.eq ∙ onp-hit x (λ _ _. []) H.pre H.a H.u H.post H.below H.upto)

    rest-many : suc (length (H.pre ++ H.post)) ≡ sons_of u
    rest-many = omega (arith, many-was, length-append H.pre H.post)

    taken-many-at : suc (length (taken_out x u.sons)) ≡ sons_of u
    taken-many-at = ap (λ l. suc (length {A = Desc × ℕ} l)) taken_is ∙ ap suc (length_last (λ _ _. bound_of 0 u.sons) (H.pre ++ H.post)) ∙ rest-many

    taken-sum-at : (f : Desc → ℕ) → f H.a + sum_e f (taken_out x u.sons) ≡ sum_e f u.sons
    taken-sum-at f = omega (arith, ap (sum_e f) taken_is, sum-last f (λ _ _. bound_of 0 u.sons) (H.pre ++ H.post), sum_e-append f H.pre H.post, sum-was f)

    taken-shaped-at : (w : ℕ) → suc least ≤ sons_of u → 2 ≤ sons_of u → Shaped 1 least lo hi (node w (taken_out x u.sons))
    unfolding Shaped
    taken-shaped-at w enough two =
        let top-is : bound_of 0 u.sons ≡ hi = omega (arith, seg-bound (Shaped 0 3) 0 lo (suc hi) u.sons (omega (arith, two)) S.3) in
        let z = leaf-close lo H.m H.u hi H.pre H.post H.spre H.spost (omega (arith, H.from, H.upto)) (omega (arith, H.from, upto)) in
        let rest = H.pre ++ H.post in
        let some_left : 1 ≤ length rest = omega (arith, rest-many, two) in (
          omega (arith, taken-many-at, enough),
          omega (arith, taken-many-at, S.1),
          subst LowestEnds (sym taken_is) (low-raised (λ _ _. bound_of 0 u.sons) rest (low-put H.pre H.post ends-was.0 (low-tail (H.a, H.u) H.post ends-was.1))),
          subst (Seg (Shaped 0 3) lo (suc hi)) (sym (taken_is ∙ ap (λ b. on_last (λ _ _. b) rest) top-is)) (leaf-raise lo z.0 hi rest some_left z.1 z.2),
        )

  -- A descriptor of key x put in, where the one on the path has another key.
  module _ (n : Desc) (key_is : n.key ≡ x) where
    pub put-shaped : (w : ℕ) → ¬ ((pick x no_desc same u.sons).key ≡ x) → sons_of u ≤ 7 → Shaped 1 least lo hi (node w (put_in n u.sons))
    put-shaped w new fit =
        let H = the-leaf in
        subst (λ l. Shaped 1 least lo hi (node w l)) (sym (put_is H n key_is))
        (fresh-shaped H n key_is w (λ e. new (ap (λ d. d.key) (picked H) ∙ e)) fit (leb x H.a.key) refl)

    pub put-many : length (put_in n u.sons) ≡ suc (sons_of u)
    put-many = ap (length {A = Desc × ℕ}) (put_is the-leaf n key_is) ∙ fresh-many the-leaf n key_is (leb x the-leaf.a.key)

    pub put-sum : (f : Desc → ℕ) → sum_e f (put_in n u.sons) ≡ f n + sum_e f u.sons
    put-sum f = ap (sum_e f) (put_is the-leaf n key_is) ∙ fresh-sum the-leaf n key_is f (leb x the-leaf.a.key)

  -- The descriptor on the path taken out.
  pub taken-shaped : (w : ℕ) → suc least ≤ sons_of u → 2 ≤ sons_of u → Shaped 1 least lo hi (node w (taken_out x u.sons))
  taken-shaped w enough two = taken-shaped-at the-leaf w enough two

  pub taken-many : suc (length (taken_out x u.sons)) ≡ sons_of u
  taken-many = taken-many-at the-leaf

  pub taken-sum : (f : Desc → ℕ) → f (pick x no_desc same u.sons) + sum_e f (taken_out x u.sons) ≡ sum_e f u.sons
  taken-sum f = ap (λ d. f d + sum_e f (taken_out x u.sons)) (picked the-leaf) ∙ taken-sum-at the-leaf f

-- Every success state of a descent keeps the latches of all parties: entering the root, one level down, and the last step at a lowest node.
use Rattle.std.specs.Prelude.{◌≡◌, false, List, [], ◌∷◌, ◌⊎◌, zero, suc, ◌+◌, ◌-◌, ◌≤◌, ◌<◌, ℕ, length}
use Rattle.std.proofs.Math.Path.{refl}
use Rattle.std.proofs.Common.{sym, ◌∙◌, subst, ap, inl, inr}
use Rattle.std.proofs.lemmas.Bool.{false≢true}
use Rattle.std.proofs.Math.Option.{none, some}
use native.Mathlib.Omega.{arith}
use Rattle.machine.specs.Logic.{eqb_yes, eqb_no}
use Rattle.machine.specs.Holders.{latch_word}
use Rattle.machine.specs.Tree.{sum_e, Seg}
use Rattle.machine.specs.State.{Tree, Root, Stage, Request, State, top, session_of, stored, gap_below, with_free, on_tree, on_desc, pin_desc, set_hand, in_stage, at}
use Rattle.machine.specs.Descent.{Sons, sons_of, halves, put_in, taken_out, on_latch, unlatched, lone_son, drop_lone, node}
use Rattle.machine.specs.Steps.{fills, pinned, unpin, unlatch, ended, goes_on, finished, root_left, root_splits, whole_root, pinned_state, made, on_lowest, made_state, tidied_state}
use Rattle.machine.specs.Sound.{stands, Shaped, OnPath, Latched, latch_count, Room, Sound, Latches, latches-of, formed-of}
use Rattle.machine.specs.Context.{Focus}
use Rattle.machine.specs.Table.{hand-seat}
use Rattle.machine.specs.Looks.{shaped-le}
use Rattle.machine.specs.Focus.{least_in, least-in-hole}
use Rattle.machine.specs.Shape.{left-shaped}
use Rattle.machine.specs.Paths.{path-upto}
use Rattle.machine.specs.Latched.{bit-yes, bit-no, latched-here, latched-under, under-latched, on-latch-plug, Others, others-trans}
use Rattle.machine.specs.Regroup.{grouped-of, no-latches}
use Rattle.machine.specs.InTheWay.{Free}
use Rattle.machine.specs.Parts.{relatched-others, lowest-others, Fits, Swap, swap-paths, swap-counts}
use Rattle.machine.specs.Latch.{arrive-latches, desc-latches, Released, released-latches, released-unpin, own-once, focus-released, unlatch-latches}

-- ---- at the lowest node

pub pin-latches : (p : ℕ) (r : Request) (g : Stage) (x : ℕ) (s : State) → Sound s → (session_of p s).hand ≡ some r → r.stage ≡ at x → x ≤ top → p < length s.table → stands g ≡ 0
    → Latches (goes_on p r g (pinned_state p x s)).next
unfolding goes_on on_tree session_of
pin-latches p r g x s S e w xt seat z = unlatch-latches p r x (on_desc x (pin_desc suc) s) (desc-latches x (pin_desc suc) s (latches-of S)) e w (some (in_stage g r)) z

-- The descriptors of a lowest node changed, and its latch taken away.
lowest-released : (f : Sons 0 → Sons 0) (n p x : ℕ) (s : State) (u : Tree 1) → Focus p x s 0 u → latch_count (latch_word p) (suc s.root.height) s.root.node ≡ 1
    → Released p s (unlatch p (at x) (with_free n (on_tree (on_latch (latch_word p) x (on_lowest f)) s)))
unfolding unlatch on_tree session_of unlatched
lowest-released f n p x s u F c =
    let w = latch_word p in
    let g : (h : ℕ) → Tree h → Tree h = λ h t. on_latch w x unlatched h (on_latch w x (on_lowest f) h t) in
    let e = ap (on_latch w x unlatched (suc s.root.height)) (F.changes (on_lowest f)) ∙ on-latch-plug w x unlatched F.around (node u.latch (f u.sons)) F.way F.clear F.latch in
    let R = focus-released g s p x 0 u (f u.sons) F e (lowest-others p 0 u (f u.sons) (inr F.latch) (inl refl)) c (no-latches w (f u.sons)) in
    record { spared = record { others = R.spared.others; root_kept = R.spared.root_kept; hands = R.spared.hands }; gone = R.gone; table_same = refl }

pub make-latches : (p : ℕ) (r : Request) (g : Stage) (x : ℕ) (s : State) → Sound s → (session_of p s).hand ≡ some r → r.stage ≡ at x → x ≤ top → p < length s.table → stands g ≡ 0
    → (u : Tree 1) → Focus p x s 0 u → Latches (goes_on p r g (made_state p x s)).next
unfolding goes_on
make-latches p r g x s S e w xt seat z u F =
    released-latches p s (made_state p x s) (latches-of S)
    (lowest-released (put_in (made x (gap_below x 0 (stored s)))) (s.free - 1) p x s u F (own-once p r x s (latches-of S) e w)) (some (in_stage g r)) z seat

pub tidy-latches : (r : Request) (ns : List ℕ) (x : ℕ) (s : State) → Sound s → (session_of 0 s).hand ≡ some r → r.stage ≡ at x → x ≤ top → (u : Tree 1) → Focus 0 x s 0 u
    → Latches (finished 0 r ns (tidied_state 0 x s)).next
unfolding finished ended
tidy-latches r ns x s S e w xt u F =
    let t = tidied_state 0 x s in
    let R = lowest-released (taken_out x) (s.free + 1) 0 x s u F (own-once 0 r x s (latches-of S) e w) in
    subst (λ g. Latches (set_hand 0 none (unpin (pinned r g) (unlatch 0 g t)))) (sym w)
    (released-latches 0 s (unpin (pinned r (at x)) (unlatch 0 (at x) t)) (latches-of S) (released-unpin 0 s (pinned r (at x)) (unlatch 0 (at x) t) R) none refl (hand-seat 0 r s e))

-- ---- one level down

-- The housekeeper's node above the lowest has two sons or more.
pub two-sons : (p x : ℕ) (s : State) (h lo hi : ℕ) (u : Tree (suc (suc h))) (F : Focus p x s (suc h) u) → Shaped (suc (suc h)) (least_in F.around 1) lo hi u → p ≡ 0 → 2 ≤ sons_of u
unfolding Shaped
two-sons p x s h lo hi u F S e = go (omega (arith, S.0, (least-in-hole F.around).0)) (subst (λ q. Room s q (suc h) (sons_of u)) e F.room)
  where
    go : 1 ≤ sons_of u → Room s 0 (suc h) (sons_of u) → 2 ≤ sons_of u
    go m (inl n) = omega arith
    go m (inr (l, inl z)) = absurd (omega (arith, z))
    go m (inr (l, inr n)) = omega arith

-- ---- enter the root

-- The root left where a lone node above it is dropped; nobody has the dropped one's latch.
pub record Left (p h : ℕ) (t : Tree (suc h)) (R : Root) : Type 1 where
  pub others : Others p (suc h) t (suc R.height) R.node
  pub none_own : latch_count (latch_word p) (suc R.height) R.node ≡ 0
  pub not_lone : (R.height ≡ 0) ⊎ ¬ (sons_of R.node ≡ 1)

stays-left : (p h : ℕ) (t : Tree (suc h)) → latch_count (latch_word p) (suc h) t ≡ 0 → (h ≡ 0) ⊎ ¬ (sons_of t ≡ 1) → Left p h t (record { height = h; node = t })
stays-left p h t c n = record { others = record { counts = λ q m. refl; paths = λ q y F m l. l }; none_own = c; not_lone = n }

lone-left : (p h : ℕ) (t : Tree (suc (suc h))) (es : Sons (suc h)) → t.sons ≡ es → Shaped (suc (suc h)) 1 0 top t → latch_count (latch_word p) (suc (suc h)) t ≡ 0 → t.latch ≡ 0
    → Left p (suc h) t (lone_son h es t)
unfolding Shaped latch_count
lone-left p h t [] e S c l = stays-left p (suc h) t c (inr (λ n. omega (arith, n, ap length e)))
lone-left p h t (a ∷ b ∷ es) e S c l = stays-left p (suc h) t c (inr (λ n. omega (arith, n, ap length e)))
lone-left p h t (a ∷ []) e S c l = record {
  others = record {
    counts = λ q m. omega (arith, bit-no t.latch (latch_word q) (λ z. omega (arith, z, l)), ap (sum_e (latch_count (latch_word q) (suc h))) e);
    paths = λ q y F m o. only q y F (subst (OnPath y (Latched (latch_word q) y F (suc h))) e (under-latched (latch_word q) y F (suc h) t (λ z. omega (arith, z, l)) o));
  };
  none_own = omega (arith, ap (sum_e (latch_count (latch_word p) (suc h))) e);
  not_lone = inr (λ n. omega (arith, n, (subst (Seg (Shaped (suc h) 3) 0 (suc top)) e S.3).0.0));
}
  where
    only : (q y : ℕ) (F : ℕ → ℕ → Type 0) → OnPath y (Latched (latch_word q) y F (suc h)) (a ∷ []) → Latched (latch_word q) y F (suc h) a.0
    only q y F (inl o) = o.1
    only q y F (inr o) = absurd o.1

pub left : (p h : ℕ) (t : Tree (suc h)) → Shaped (suc h) 1 0 top t → latch_count (latch_word p) (suc h) t ≡ 0 → t.latch ≡ 0 → Left p h t (drop_lone h t)
left p zero t S c l = stays-left p zero t c (inl refl)
left p (suc h) t S c l = lone-left p h t t.sons refl S c l

pub free-zero : (p h : ℕ) (t : Tree (suc h)) → latch_count (latch_word p) (suc h) t ≡ 0 → Free p t.latch → t.latch ≡ 0
unfolding latch_count
free-zero p h t c (inl e) = e
free-zero p h t c (inr e) = absurd (omega (arith, c, bit-yes t.latch (latch_word p) e))

-- The root locked whole has room.
whole_room : (p : ℕ) (t : State) (h : ℕ) (u : Tree (suc h)) → fills p h u ≡ false → sons_of u ≤ 8 → t.root.node.latch ≡ latch_word p → (h ≡ 0) ⊎ ¬ (sons_of u ≡ 1) → Room t p h (sons_of u)
whole_room zero t h u e m l f = inr (l, f)
whole_room (suc k) t h u e m l f =
    let w : ¬ (sons_of u ≡ 8) = λ w. false≢true (sym (rw (eqb_no (suc k) 0 (omega arith)) at e) ∙ eqb_yes (sons_of u) 8 w) in
    omega arith

pub four-fits : (p : ℕ) → ¬ (p ≡ 0) → Fits p 4
four-fits zero n = absurd (n refl)
four-fits (suc k) n = omega arith

module _ (p : ℕ) (r : Request) (x : ℕ) (s : State) (S : Sound s) (xt : x ≤ top) (seat : p < length s.table) (l : s.root.node.latch ≡ 0)
    (N : Left p s.root.height s.root.node (root_left s)) (m : (root_left s).node.latch ≡ 0) where
  abbrev pub R : Root
  R = root_left s

  pub no-root : (t : State) (q : ℕ) → ¬ (p ≡ q) → s.root.node.latch ≡ latch_word q → t.root.node.latch ≡ latch_word q
  no-root t q n e = absurd (omega (arith, l, e))

  pub shape : Shaped (suc R.height) 1 0 top R.node
  shape = (left-shaped s (formed-of S)).0

  pub whole-latches : root_splits p s ≡ false → Latches (goes_on p r (at x) (whole_root p s)).next
  unfolding goes_on latch_count session_of Shaped
  whole-latches e =
      let h = R.height in
      let u : Tree (suc h) = node (latch_word p) R.node.sons in
      let t = whole_root p s in
      arrive-latches p s t (latches-of S)
      (record {
        others = others-trans p (suc s.root.height) s.root.node (suc h) R.node (suc h) u N.others (relatched-others p h (latch_word p) R.node (inl m) (inr refl));
        root_kept = no-root t;
        hands = λ q n. refl;
      })
      seat (in_stage (at x) r) x refl
      (omega (arith, N.none_own, bit-yes (latch_word p) (latch_word p) refl))
      (latched-here (latch_word p) x (Room t p) h u refl (whole_room p t h u e shape.1 refl N.not_lone))

  abbrev pub old : Sons (suc R.height)
  old = (R.node, top) ∷ []

  abbrev pub new : Sons (suc R.height)
  new = halves (latch_word p) x R.height R.node top

  -- The full root as the lone son of the new one.
  pub halved-others : Swap p x R.height 0 (suc top) old new → Others p (suc R.height) R.node (suc (suc R.height)) (node 0 new)
  unfolding latch_count Shaped
  halved-others W =
      let h = R.height in
      let G = grouped-of h 1 0 top R.node (omega arith) shape in
      record {
        counts = λ q n. omega (arith, bit-no 0 (latch_word q) (omega arith), swap-counts p x h 0 (suc top) old new (G, refl) (inl m, tt) W q n);
        paths = λ q y F n o.
            let k = path-upto (Shaped h 3) (shaped-le h 3) y (Latched (latch_word q) y F h) 0 (suc top) R.node.sons shape.3
            (under-latched (latch_word q) y F h R.node (λ w. omega (arith, w, m)) o) in
            latched-under (latch_word q) y F (suc h) (node 0 new) (omega arith) (swap-paths p x h 0 (suc top) old new (G, refl) (inl m, tt) W q y F n (inl (omega (arith, k), o)));
      }

-- One level down, at the parent: the sons that take part, and the latches there before and after the step.
use Rattle.std.specs.Prelude.{◌≡◌, Bool, cond, ◌||◌, List, [], ◌∷◌, ◌++◌, map, leb, eqb, length, drop}
use Rattle.std.proofs.Math.Path.{refl}
use Rattle.std.proofs.Common.{sym, ◌∙◌, subst, ap, length-drop}
use Rattle.std.proofs.Math.Bool.{true, false}
use Rattle.std.proofs.lemmas.Bool.{false≢true}
use Rattle.std.proofs.Math.Logic.{inl, inr}
use Prim.Native.Nat.{zero, suc, ◌+◌, ◌-◌, ◌≤◌, ◌<◌, ℕ}
use native.Mathlib.Omega.{arith}
use Rattle.std.proofs.Math.ListN.{get_or, take, length-append, length-take}
use Rattle.machine.specs.Logic.{leb_yes, leb_no, eqb_is}
use Rattle.machine.specs.Holders.{latch_word, elem, latch_blockers}
use Rattle.machine.specs.Tree.{onp, pick, sum_e, sum_e-append, Seg, Below, Cmp, low, high, cmp, Hit, hit, onp-hit, pick-hit}
use Rattle.machine.specs.State.{Tree, same}
use Rattle.machine.specs.Descent.{Sons, node, sons_of, halves, down_to, on_last, last_of, joined, moved_right, moved_left, joins, mended, on_pair, pick_pair}
use Rattle.machine.specs.Steps.{son-at, is_empty}
use Rattle.machine.specs.Sound.{Shaped, OnPath, Latched, latch_count}
use Rattle.machine.specs.InTheWay.{Free, AllFree}
use Rattle.machine.specs.Blocking.{words_of, words_left, words_right}
use Rattle.machine.specs.Looks.{shaped-le}
use Rattle.machine.specs.Fanout.{last_one, length_last, halves-seg, of_pair, mended-seg, PairHit, pair-hit}
use Rattle.machine.specs.Paths.{path-swap, path-left, path-right, first-bound, last-bound}
use Rattle.machine.specs.Latched.{no-leaf, bit-yes, bit-no, latched-here, latched-under, under-latched, Others}
use Rattle.machine.specs.Regroup.{Grouped, Without, grouped-of, grouped-all, Regrouped, regroup-paths, regroup-below, own_count, count-parts, no-latches, regroup-count, relatched-regroup, halves-regroup, joined-regroup, right-regroup, left-regroup}

-- ---- latches in the way

pub free-words : (p : ℕ) (ws : List ℕ) → latch_blockers p ws ≡ [] → AllFree p ws
unfolding latch_blockers
free-words p [] e = tt
free-words p (w ∷ ws) e =
    let l = rest (eqb w 0 || eqb w (latch_word p) || elem (w - 1) (latch_blockers p ws)) (latch_blockers p ws) e in
    (word (eqb w 0) refl (eqb w (latch_word p)) refl (subst (λ m. cond (eqb w 0 || eqb w (latch_word p) || elem (w - 1) m) m ((w - 1) ∷ m) ≡ []) l e), free-words p ws l)
  where
    nonempty : {x : ℕ} {m : List ℕ} → (x ∷ m) ≡ [] → ⊥
    nonempty q = false≢true (ap is_empty q)

    rest : (b : Bool) (m : List ℕ) → cond b m ((w - 1) ∷ m) ≡ [] → m ≡ []
    rest true m q = q
    rest false m q = absurd (nonempty q)

    word : (b : Bool) → eqb w 0 ≡ b → (c : Bool) → eqb w (latch_word p) ≡ c → cond (b || c || false) [] ((w - 1) ∷ []) ≡ [] → Free p w
    word true f c g q = inl (eqb_is w 0 f)
    word false f true g q = inr (eqb_is w (latch_word p) g)
    word false f false g q = absurd (nonempty q)

pub free_other : (p q w : ℕ) → ¬ (p ≡ q) → Free p w → ¬ (w ≡ latch_word q)
free_other p q w n (inl e) f = omega (arith, e, f)
free_other p q w n (inr e) f = n (omega (arith, e, f))

abbrev pub latches : (h : ℕ) → Sons (suc h) → List ℕ
latches h es = map (λ e. e.0.latch) es

pub free-without : (p q h : ℕ) (es : Sons (suc h)) → ¬ (p ≡ q) → AllFree p (latches h es) → Without (latch_word q) h es
free-without p q h [] n f = tt
free-without p q h (e ∷ es) n f = (free_other p q e.0.latch n f.0, free-without p q h es n f.1)

-- A node between free and p's.
pub relatched-others : (p h w : ℕ) (t : Tree (suc h)) → Free p t.latch → Free p w → Others p (suc h) t (suc h) (node w t.sons)
unfolding latch_count
relatched-others p h w t f g = record {
  counts = λ q n. omega (arith, bit-no t.latch (latch_word q) (free_other p q t.latch n f), bit-no w (latch_word q) (free_other p q w n g));
  paths = λ q y F n l. latched-under (latch_word q) y F h (node w t.sons) (free_other p q w n g) (under-latched (latch_word q) y F h t (free_other p q t.latch n f) l);
}

-- A lowest node, whatever its descriptors.
pub lowest-others : (p w : ℕ) (t : Tree 1) (es : Sons 0) → Free p t.latch → Free p w → Others p 1 t 1 (node w es)
unfolding latch_count
lowest-others p w t es f g = record {
  counts = λ q n. omega (
    arith,
    bit-no t.latch (latch_word q) (free_other p q t.latch n f),
    bit-no w (latch_word q) (free_other p q w n g),
    no-latches (latch_word q) t.sons,
    no-latches (latch_word q) es,
  );
  paths = λ q y F n l. absurd (no-leaf (latch_word q) y F t.sons (under-latched (latch_word q) y F 0 t (free_other p q t.latch n f) l));
}

-- ---- what a step does with the sons that take part

-- What Room asks of a node below the root.
abbrev pub Fits : ℕ → ℕ → Type 0
Fits zero n = 4 ≤ n
Fits (suc k) n = n ≤ 7

pub record Swap (p x h lo e : ℕ) (old new : Sons (suc h)) : Type 0 where
  pub shaped : Seg (Shaped (suc h) 3) lo e new
  pub regrouped : Regrouped h old new
  pub free : AllFree p (latches h new)
  pub once : own_count (latch_word p) h old ≡ 0 → own_count (latch_word p) h new ≡ 1
  pub there : OnPath x (Latched (latch_word p) x (λ _ n. Fits p n) (suc h)) new

module _ (p x h lo u : ℕ) (a : Tree (suc h)) (xu : x ≤ u) where
  pub relatched-swap : Shaped (suc h) 3 lo u a → Fits p (sons_of a) → Swap p x h lo (suc u) ((a, u) ∷ []) ((node (latch_word p) a.sons, u) ∷ [])
  unfolding Shaped
  relatched-swap S f = record {
    shaped = (S, refl);
    regrouped = relatched-regroup h u (latch_word p) a;
    free = (inr refl, tt);
    once = λ z. omega (arith, bit-yes (latch_word p) (latch_word p) refl);
    there = inl (xu, latched-here (latch_word p) x (λ _ n. Fits p n) h (node (latch_word p) a.sons) refl f);
  }

  pub halves-swap : (least : ℕ) → Shaped (suc h) least lo u a → sons_of a ≡ 8 → Fits p 4 → Swap p x h lo (suc u) ((a, u) ∷ []) (halves (latch_word p) x h a u)
  unfolding halves
  halves-swap least S n f = record {
    shaped = halves-seg (latch_word p) x h least lo u a n S;
    regrouped = halves-regroup (latch_word p) x h u a;
    free = go-free (leb x b);
    once = λ z. go-once (leb x b);
    there = go (cmp x b);
  }
    where
      b : ℕ
      b = get_or (map (λ p. p.1) a.sons) 3 0

      go-free : (c : Bool) → AllFree p (cond c (latch_word p) 0 ∷ cond c 0 (latch_word p) ∷ [])
      go-free true = (inr refl, (inl refl, tt))
      go-free false = (inl refl, (inr refl, tt))

      go-once : (c : Bool) → ◌≡◌ {A = ℕ} (cond (eqb (cond c (latch_word p) 0) (latch_word p)) 1 0 + (cond (eqb (cond c 0 (latch_word p)) (latch_word p)) 1 0 + 0)) 1
      go-once true = omega (arith, bit-yes (latch_word p) (latch_word p) refl, bit-no 0 (latch_word p) (omega arith))
      go-once false = omega (arith, bit-yes (latch_word p) (latch_word p) refl, bit-no 0 (latch_word p) (omega arith))

      go : Cmp x b → OnPath x (Latched (latch_word p) x (λ _ n. Fits p n) (suc h)) (halves (latch_word p) x h a u)
      go (low k) = inl (
        k,
        latched-here (latch_word p) x (λ _ n. Fits p n) h (node (cond (leb x b) (latch_word p) 0) (take 4 a.sons)) (rw (leb_yes x b k))
            (subst (Fits p) (omega (arith, length-take 4 a.sons, n)) f),
      )
      go (high k) = inr (
        k,
        inl (
          xu,
          latched-here (latch_word p) x (λ _ n. Fits p n) h (node (cond (leb x b) 0 (latch_word p)) (drop 4 a.sons)) (rw (leb_no x b k))
              (subst (Fits p) (omega (arith, length-drop 4 a.sons, n)) f),
        ),
      )

-- The housekeeper's pair.
module _ (x h lo : ℕ) (p q : Tree (suc h) × ℕ) (S : Shaped (suc h) 3 lo p.1 p.0) (T : Shaped (suc h) 3 (suc p.1) q.1 q.0) (xq : x ≤ q.1) where
  abbrev Kept : Sons (suc h) → Type 0
  Kept new = Regrouped h (p ∷ q ∷ []) new × AllFree 0 (latches h new) × (own_count 1 h (p ∷ q ∷ []) ≡ 0 → own_count 1 h new ≡ 1) × OnPath x (Latched 1 x (λ _ n. Fits 0 n) (suc h)) new

  joined-kept : Kept (joined 1 h p.0 q.0 q.1)
  unfolding joined Shaped
  joined-kept =
      let es = on_last (down_to h) p.0.sons in (
        joined-regroup 1 h p.1 q.1 p.0 q.0,
        (inr refl, tt),
        λ z. omega (arith, bit-yes 1 1 refl),
        inl (
          xq,
          latched-here 1 x (λ _ n. Fits 0 n) h (node 1 (es ++ q.0.sons)) refl
              (omega (arith, S.0, T.0, length-append es q.0.sons, length_last (down_to h) p.0.sons)),
        ),
      )

  left-kept : x ≤ p.1 → Free 0 q.0.latch → Kept (moved_left 1 h p.0 q.0 q.1)
  unfolding moved_left Shaped
  left-kept xp f =
      let es = on_last (down_to h) p.0.sons in
      let one = take 1 q.0.sons in
      let m = first-bound (Shaped h 3) (shaped-le h 3) (suc p.1) (suc q.1) q.0.sons (omega (arith, T.0)) T.3 in (
        left-regroup 1 h p.1 q.1 p.0 q.0,
        (inr refl, (f, tt)),
        λ z. omega (arith, bit-yes 1 1 refl, z),
        inl (
          omega (arith, m, xp),
          latched-here 1 x (λ _ n. Fits 0 n) h (node 1 (es ++ one)) refl
              (omega (arith, S.0, T.0, length-append es one, length_last (down_to h) p.0.sons, length-take 1 q.0.sons)),
        ),
      )

  right_kept : p.1 < x → Free 0 p.0.latch → Kept (moved_right 1 h p.0 q.0 q.1)
  unfolding moved_right Shaped
  right_kept px f =
      let one = last_of p.0.sons in
      let es = on_last (down_to h) one in
      let m = last-bound (Shaped h 3) (shaped-le h 3) lo (suc p.1) p.0.sons (omega (arith, S.0)) S.3 in (
        right-regroup 1 h p.1 q.1 p.0 q.0,
        (f, (inr refl, tt)),
        λ z. omega (arith, bit-yes 1 1 refl, z),
        inr (
          omega (arith, m, px),
          inl (
            xq,
            latched-here 1 x (λ _ n. Fits 0 n) h (node 1 (es ++ q.0.sons)) refl
                (omega (arith, T.0, length-append es q.0.sons, length_last (down_to h) one, last_one p.0.sons (omega (arith, S.0)))),
          ),
        ),
      )

  mended-kept : AllFree 0 (p.0.latch ∷ q.0.latch ∷ []) → Kept (mended 1 x h p q)
  unfolding mended
  mended-kept f = go (joins x h p q) (cmp x p.1)
    where
      go : (c : Bool) → Cmp x p.1
          → Kept (cond c (joined 1 h p.0 q.0 q.1) (cond (leb x p.1) (moved_left 1 h p.0 q.0 q.1) (moved_right 1 h p.0 q.0 q.1)))
      go true o = joined-kept
      go false (low l) = rw (leb_yes x p.1 l) (left-kept l f.1.0)
      go false (high l) = rw (leb_no x p.1 l) (right_kept l f.0)

  pub mended-swap : sons_of (of_pair x p q) ≡ 3 → AllFree 0 (p.0.latch ∷ q.0.latch ∷ []) → Swap 0 x h lo (suc q.1) (p ∷ q ∷ []) (mended 1 x h p q)
  mended-swap three f = let K = mended-kept f in record { shaped = mended-seg 1 x h p q lo S T three; regrouped = K.0; free = K.1; once = K.2; there = K.3 }

-- ---- the latches of the sons that take part

without-count : (w h : ℕ) (es : Sons (suc h)) → Without w h es → own_count w h es ≡ 0
without-count w h [] n = refl
without-count w h (e ∷ es) n = omega (arith, bit-no e.0.latch w n.0, without-count w h es n.1)

module _ (p x h lo e : ℕ) (old new : Sons (suc h)) (G : Seg (Grouped h) lo e old) (f : AllFree p (latches h old)) (W : Swap p x h lo e old new) where
  pub swap-paths : (q y : ℕ) (F : ℕ → ℕ → Type 0) → ¬ (p ≡ q) → OnPath y (Latched (latch_word q) y F (suc h)) old → OnPath y (Latched (latch_word q) y F (suc h)) new
  swap-paths q y F n = regroup-paths (latch_word q) y F h lo e old new G (grouped-all h lo e new W.shaped) W.regrouped (free-without p q h old n f) (free-without p q h new n W.free)

  pub swap-counts : (q : ℕ) → ¬ (p ≡ q) → sum_e (latch_count (latch_word q) (suc h)) new ≡ sum_e (latch_count (latch_word q) (suc h)) old
  swap-counts q n = omega (
    arith,
    regroup-count (latch_word q) h old new W.regrouped,
    without-count (latch_word q) h old (free-without p q h old n f),
    without-count (latch_word q) h new (free-without p q h new n W.free),
  )

  pub swap-own : sum_e (latch_count (latch_word p) (suc h)) old ≡ 0 → sum_e (latch_count (latch_word p) (suc h)) new ≡ 1
  swap-own z = let o = W.once (omega (arith, count-parts (latch_word p) h old)) in
      omega (arith, regroup-count (latch_word p) h old new W.regrouped, count-parts (latch_word p) h old)

-- ---- the parent's sons before and after

pub record Part (p x h : ℕ) (es fs : Sons (suc h)) : Type 0 where
  pub pre : Sons (suc h)
  pub old : Sons (suc h)
  pub new : Sons (suc h)
  pub post : Sons (suc h)
  pub was : es ≡ pre ++ (old ++ post)
  pub becomes : fs ≡ pre ++ (new ++ post)
  pub below : Below x pre
  pub lo : ℕ
  pub e : ℕ
  pub grouped : Seg (Grouped h) lo e old
  pub some_old : 1 ≤ length old
  pub free_before : AllFree p (latches h old)
  pub swap : Swap p x h lo e old new

module _ (p x h lo hi : ℕ) (es : Sons (suc h)) (s : Seg (Shaped (suc h) 3) lo (suc hi) es) (lx : lo ≤ x) (xh : x ≤ hi) where
  -- One son takes part.
  pub part-one : (g : Tree (suc h) → ℕ → Sons (suc h)) → Free p (son-at x h es).latch
      → ((m u : ℕ) (a : Tree (suc h)) → son-at x h es ≡ a → Shaped (suc h) 3 m u a → x ≤ u → Swap p x h m (suc u) ((a, u) ∷ []) (g a u)) → Part p x h es (onp x g es)
  part-one g f k = go (hit (Shaped (suc h) 3) x lo (suc hi) es s lx (omega (arith, xh)))
    where
      go : Hit (Shaped (suc h) 3) x lo (suc hi) es → Part p x h es (onp x g es)
      go H =
          let e : son-at x h es ≡ H.a = ap (pick x (node 0 []) same) H.eq ∙ pick-hit x (node 0 []) same H.pre H.a H.u H.post H.below H.upto in
          record {
            pre = H.pre;
            old = (H.a, H.u) ∷ [];
            new = g H.a H.u;
            post = H.post;
            was = H.eq;
            becomes = ap (onp x g) H.eq ∙ onp-hit x g H.pre H.a H.u H.post H.below H.upto;
            below = H.below;
            lo = H.m;
            e = suc H.u;
            grouped = (grouped-of h 3 H.m H.u H.a (omega arith) H.here, refl);
            some_old = omega arith;
            free_before = (subst (λ t. Free p t.latch) e f, tt);
            swap = k H.m H.u H.a e H.here H.upto;
          }

-- The housekeeper's pair takes part.
pub part_pair : (x h lo hi : ℕ) (es : Sons (suc h)) → Seg (Shaped (suc h) 3) lo (suc hi) es → lo ≤ x → x ≤ hi → 2 ≤ length es → sons_of (son-at x h es) ≡ 3
    → ((w : ℕ) → elem w (pick_pair x [] (words_of h) es) ≡ true → Free 0 w) → Part 0 x h es (on_pair x (mended 1 x h) es)
part_pair x h lo hi es s lx xh n three f = go (pair-hit (Shaped (suc h) 3) (shaped-le (suc h) 3) x lo (suc hi) es n s lx (omega (arith, xh)))
  where
    go : PairHit (Shaped (suc h) 3) x lo (suc hi) es → Part 0 x h es (on_pair x (mended 1 x h) es)
    go H =
        let free : (w : ℕ) → elem w (words_of h H.p H.q) ≡ true → Free 0 w = λ w i. f w (ap (elem w) (H.asked [] (words_of h)) ∙ i) in
        let F : AllFree 0 (H.p.0.latch ∷ H.q.0.latch ∷ []) = (free H.p.0.latch (words_left h H.p H.q), (free H.q.0.latch (words_right h H.p H.q), tt)) in
        record {
          pre = H.pre;
          old = H.p ∷ H.q ∷ [];
          new = mended 1 x h H.p H.q;
          post = H.post;
          was = H.eq;
          becomes = H.done (mended 1 x h);
          below = H.below;
          lo = H.m;
          e = suc H.q.1;
          grouped = grouped-all h H.m (suc H.q.1) (H.p ∷ H.q ∷ []) (H.left, (H.right, refl));
          some_old = omega arith;
          free_before = F;
          swap = mended-swap x h H.m H.p H.q H.left H.right H.upto (sym (ap (λ t. sons_of t) (H.one (node 0 []))) ∙ three) F;
        }

-- ---- the step

pub hit-shaped : (x h lo hi : ℕ) (es : Sons (suc h)) → Seg (Shaped (suc h) 3) lo (suc hi) es → lo ≤ x → x ≤ hi → (3 ≤ sons_of (son-at x h es)) × (sons_of (son-at x h es) ≤ 8)
unfolding Shaped
hit-shaped x h lo hi es s lx xh = go (hit (Shaped (suc h) 3) x lo (suc hi) es s lx (omega (arith, xh)))
  where
    go : Hit (Shaped (suc h) 3) x lo (suc hi) es → (3 ≤ sons_of (son-at x h es)) × (sons_of (son-at x h es) ≤ 8)
    go H = subst (λ t. (3 ≤ sons_of t) × (sons_of t ≤ 8))
        (sym (ap (pick x (node 0 []) same) H.eq ∙ pick-hit x (node 0 []) same H.pre H.a H.u H.post H.below H.upto)) (H.here.0, H.here.1)

pub no-lone : (p : ℕ) {A : Type 0} (es : List A) → (p ≡ 0 → 2 ≤ length es) → p ≡ 0 → ¬ (length es ≡ 1)
no-lone p es n z i = omega (arith, n z, i)

-- ---- the parent

pub record Lowered (p x h : ℕ) (t u : Tree (suc h)) : Type 1 where
  pub others : Others p (suc h) t (suc h) u
  pub once : latch_count (latch_word p) (suc h) t ≡ 1 → latch_count (latch_word p) (suc h) u ≡ 1
  pub there : Latched (latch_word p) x (λ _ n. Fits p n) (suc h) u

sum-three : (w h : ℕ) (a b c : Sons h) → sum_e (latch_count w h) (a ++ (b ++ c)) ≡ sum_e (latch_count w h) a + (sum_e (latch_count w h) b + sum_e (latch_count w h) c)
sum-three w h a b c = omega (arith, sum_e-append (latch_count w h) a (b ++ c), sum_e-append (latch_count w h) b c)

module _ (p x h : ℕ) (fs : Sons (suc h)) (t : Tree (suc (suc h))) (l : t.latch ≡ latch_word p) (P : Part p x h t.sons fs) where
  abbrev sum : ℕ → Sons (suc h) → ℕ
  sum w es = sum_e (latch_count w (suc h)) es

  other-latch : (q : ℕ) → ¬ (p ≡ q) → ¬ (t.latch ≡ latch_word q)
  other-latch q n = free_other p q t.latch n (inr l)

  before : (w : ℕ) → sum w t.sons ≡ sum w P.pre + (sum w P.old + sum w P.post)
  before w = ap (sum w) P.was ∙ sum-three w (suc h) P.pre P.old P.post

  after : (w : ℕ) → sum w fs ≡ sum w P.pre + (sum w P.new + sum w P.post)
  after w = ap (sum w) P.becomes ∙ sum-three w (suc h) P.pre P.new P.post

  part-others : Others p (suc (suc h)) t (suc (suc h)) (node 0 fs)
  unfolding latch_count
  part-others = record {
    counts = λ q n. omega (
      arith,
      bit-no 0 (latch_word q) (omega arith),
      bit-no t.latch (latch_word q) (other-latch q n),
      before (latch_word q),
      after (latch_word q),
      swap-counts p x h P.lo P.e P.old P.new P.grouped P.free_before P.swap q n,
    );
    paths = λ q y F n o.
        let L = Latched (latch_word q) y F (suc h) in
        latched-under (latch_word q) y F (suc h) (node 0 fs) (omega arith)
        (subst (OnPath y L) (sym P.becomes)
        (path-swap y L P.pre P.old P.new P.post
        (swap-paths p x h P.lo P.e P.old P.new P.grouped P.free_before P.swap q y F n)
        (regroup-below y h P.lo P.e P.old P.new P.grouped P.some_old (grouped-all h P.lo P.e P.new P.swap.shaped))
        (subst (OnPath y L) P.was (under-latched (latch_word q) y F (suc h) t (other-latch q n) o))));
  }

  part-once : latch_count (latch_word p) (suc (suc h)) t ≡ 1 → latch_count (latch_word p) (suc (suc h)) (node 0 fs) ≡ 1
  unfolding latch_count
  part-once z =
      let b = bit-yes t.latch (latch_word p) l in
      let o = swap-own p x h P.lo P.e P.old P.new P.grouped P.free_before P.swap (omega (arith, z, b, before (latch_word p))) in
      omega (arith, z, b, o, bit-no 0 (latch_word p) (omega arith), before (latch_word p), after (latch_word p))

  pub part-lowered : Lowered p x (suc h) t (node 0 fs)
  part-lowered =
      let L = Latched (latch_word p) x (λ _ n. Fits p n) (suc h) in
      record {
        others = part-others;
        once = part-once;
        there = latched-under (latch_word p) x (λ _ n. Fits p n) (suc h) (node 0 fs) (omega arith)
            (subst (OnPath x L) (sym P.becomes) (path-right x L P.pre (P.new ++ P.post) P.below (path-left x L P.new P.post P.swap.there)));
      }

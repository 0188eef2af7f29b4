-- Sons that take part in a step, split, joined or moved between their nodes: the latches below them stay on the path to every key.
use Rattle.std.specs.Prelude.{◌≡◌, refl, cond, ◌⊎◌, zero, suc, ◌+◌, ◌≤◌, ℕ, eqb, length}
use Rattle.std.proofs.Math.Path.{sym, ap}
use Rattle.std.proofs.Common.{◌∙◌, subst, inl, inr, arith, take-append-drop}
use mathlib.Core.List.{[], ◌∷◌, ◌++◌, append_assoc}
use Rattle.std.proofs.Math.ListN.{take, drop}
use Rattle.machine.specs.Tree.{flat, sum_e, Seg, Below, sum_e-append}
use Rattle.machine.specs.State.{Tree}
use Rattle.machine.specs.Descent.{Sons, node, sons_of, halves, down_to, on_last, last_of, but_last, bound_of, joined, moved_right, moved_left}
use Rattle.machine.specs.Sound.{Shaped, OnPath, Latched, latch_count}
use Rattle.machine.specs.Order.{seg-le}
use Rattle.machine.specs.Looks.{shaped-le}
use Rattle.machine.specs.Fanout.{cut-is, last-kept}
use Rattle.machine.specs.Paths.{path-left, path-right, path-cut, path-upto, below_all, below-reach}
use Rattle.machine.specs.Latched.{no-leaf, latched-under, under-latched}

-- A node whose sons fill its interval.
abbrev pub Grouped : (h : ℕ) → ℕ → ℕ → Tree (suc h) → Type 0
Grouped h lo u t = Seg (Shaped h 3) lo (suc u) t.sons × (1 ≤ sons_of t)

abbrev pub grandsons : (h : ℕ) → Sons (suc h) → Sons h
grandsons h es = flat (λ t. t.sons) es

-- No node here has the latch word w.
abbrev pub Without : (w h : ℕ) → Sons (suc h) → Type 0
Without w h [] = Unit {0}
Without w h (e ∷ es) = ¬ (e.0.latch ≡ w) × Without w h es

grouped-le : (h lo u : ℕ) (t : Tree (suc h)) → Grouped h lo u t → lo ≤ suc u
grouped-le h lo u t g = seg-le (Shaped h 3) (shaped-le h 3) lo (suc u) t.sons g.0

pub grouped-of : (h least lo u : ℕ) (t : Tree (suc h)) → 1 ≤ least → Shaped (suc h) least lo u t → Grouped h lo u t
unfolding Shaped
grouped-of h least lo u t n S = (S.3, omega (arith, n, S.0))

pub grouped-all : (h lo e : ℕ) (es : Sons (suc h)) → Seg (Shaped (suc h) 3) lo e es → Seg (Grouped h) lo e es
grouped-all h lo e [] s = s
grouped-all h lo e (p ∷ es) s = (grouped-of h 3 lo p.1 p.0 (omega arith) s.0, grouped-all h (suc p.1) e es s.1)

-- ---- paths go through sons and grandsons alike

module _ (w y : ℕ) (F : ℕ → ℕ → Type 0) (h : ℕ) where
  path-down : (lo e : ℕ) (es : Sons (suc h)) → Seg (Grouped h) lo e es → Without w h es → OnPath y (Latched w y F (suc h)) es → OnPath y (Latched w y F h) (grandsons h es)
  path-down lo e [] s n o = absurd o
  path-down lo e (p ∷ es) s n (inl o) = path-left y (Latched w y F h) p.0.sons (grandsons h es) (under-latched w y F h p.0 n.0 o.1)
  path-down lo e (p ∷ es) s n (inr o) =
      path-right y (Latched w y F h) p.0.sons (grandsons h es) (below_all (Shaped h 3) (shaped-le h 3) y lo (suc p.1) p.0.sons s.0.0 o.0)
      (path-down (suc p.1) e es s.1 n.1 o.1)

  path-up : (lo e : ℕ) (es : Sons (suc h)) → Seg (Grouped h) lo e es → Without w h es → OnPath y (Latched w y F h) (grandsons h es) → OnPath y (Latched w y F (suc h)) es
  path-up lo e [] s n o = absurd o
  path-up lo e (p ∷ es) s n o = go (path-cut y (Latched w y F h) p.0.sons (grandsons h es) o) (path-up (suc p.1) e es s.1 n.1)
    where
      go : OnPath y (Latched w y F h) p.0.sons ⊎ (Below y p.0.sons × OnPath y (Latched w y F h) (grandsons h es))
          → (OnPath y (Latched w y F h) (grandsons h es) → OnPath y (Latched w y F (suc h)) es) → OnPath y (Latched w y F (suc h)) (p ∷ es)
      go (inl c) f = let l = path-upto (Shaped h 3) (shaped-le h 3) y (Latched w y F h) lo (suc p.1) p.0.sons s.0.0 c in
          inl (omega (arith, l), latched-under w y F h p.0 n.0 c)
      go (inr c) f = let l = below-reach (Shaped h 3) (shaped-le h 3) y lo (suc p.1) p.0.sons s.0.0 s.0.1 c.0 in inr (omega (arith, l), f c.1)

-- ---- sons regrouped

-- The same grandsons. Of descriptors nothing is asked: they have no latch.
abbrev pub Regrouped : (h : ℕ) → Sons (suc h) → Sons (suc h) → Type 0
Regrouped zero old new = Unit {0}
Regrouped (suc h) old new = grandsons (suc h) new ≡ grandsons (suc h) old

pub regroup-paths : (w y : ℕ) (F : ℕ → ℕ → Type 0) (h lo e : ℕ) (old new : Sons (suc h)) → Seg (Grouped h) lo e old → Seg (Grouped h) lo e new → Regrouped h old new
    → Without w h old → Without w h new → OnPath y (Latched w y F (suc h)) old → OnPath y (Latched w y F (suc h)) new
regroup-paths w y F zero lo e old new s t r n m o = absurd (no-leaf w y F (grandsons zero old) (path-down w y F zero lo e old s n o))
regroup-paths w y F (suc h) lo e old new s t r n m o =
    path-up w y F (suc h) lo e new t m (subst (OnPath y (Latched w y F (suc h))) (sym r) (path-down w y F (suc h) lo e old s n o))

pub regroup-below : (y h lo e : ℕ) (old new : Sons (suc h)) → Seg (Grouped h) lo e old → 1 ≤ length old → Seg (Grouped h) lo e new → Below y old → Below y new
regroup-below y h lo e old new s n t b = below_all (Grouped h) (grouped-le h) y lo e new t (below-reach (Grouped h) (grouped-le h) y lo e old s n b)

-- ---- counts

-- How many nodes here have the latch word w themselves.
abbrev pub own_count : (w h : ℕ) → Sons (suc h) → ℕ
own_count w h es = sum_e (λ t. cond (eqb t.latch w) 1 0) es

pub count-parts : (w h : ℕ) (es : Sons (suc h)) → sum_e (latch_count w (suc h)) es ≡ own_count w h es + sum_e (latch_count w h) (grandsons h es)
unfolding latch_count
count-parts w h [] = omega arith
count-parts w h (p ∷ es) = omega (arith, sum_e-append (latch_count w h) p.0.sons (grandsons h es), count-parts w h es)

pub no-latches : (w : ℕ) (es : Sons 0) → sum_e (latch_count w 0) es ≡ 0
unfolding latch_count
no-latches w [] = refl
no-latches w (p ∷ es) = omega (arith, no-latches w es)

regroup-sum : (w h : ℕ) (old new : Sons (suc h)) → Regrouped h old new → sum_e (latch_count w h) (grandsons h new) ≡ sum_e (latch_count w h) (grandsons h old)
regroup-sum w zero old new r = no-latches w (grandsons zero new) ∙ sym (no-latches w (grandsons zero old))
regroup-sum w (suc h) old new r = ap (sum_e (latch_count w (suc h))) r

pub regroup-count : (w h : ℕ) (old new : Sons (suc h)) → Regrouped h old new
    → sum_e (latch_count w (suc h)) new + own_count w h old ≡ sum_e (latch_count w (suc h)) old + own_count w h new
regroup-count w h old new r = omega (arith, count-parts w h old, count-parts w h new, regroup-sum w h old new r)

-- ---- each way

same-grandsons : (h : ℕ) (old new : Sons (suc h)) → grandsons h new ≡ grandsons h old → Regrouped h old new
same-grandsons zero old new e = tt
same-grandsons (suc h) old new e = e

-- Above the lowest nodes the parent's boundary comes down as it is.
with-last : (h : ℕ) (old : Sons (suc h)) (f : Sons h → Sons (suc h)) (es : Sons h) → Regrouped h old (f es) → Regrouped h old (f (on_last (down_to h) es))
with-last zero old f es r = tt
with-last (suc h) old f es r = subst (λ l. Regrouped (suc h) old (f l)) (sym (last-kept es)) r

pub relatched-regroup : (h u w : ℕ) (a : Tree (suc h)) → Regrouped h ((a, u) ∷ []) ((node w a.sons, u) ∷ [])
relatched-regroup h u w a = same-grandsons h ((a, u) ∷ []) ((node w a.sons, u) ∷ []) refl

pub halves-regroup : (w x h u : ℕ) (a : Tree (suc h)) → Regrouped h ((a, u) ∷ []) (halves w x h a u)
unfolding halves
halves-regroup w x h u a = same-grandsons h ((a, u) ∷ []) (halves w x h a u)
    (sym (append_assoc (take 4 a.sons) (drop 4 a.sons) []) ∙ ap (λ l. l ++ []) (take-append-drop 4 a.sons))

module _ (w h u v : ℕ) (a b : Tree (suc h)) where
  abbrev both : Sons (suc h)
  both = (a, u) ∷ (b, v) ∷ []

  pub joined-regroup : Regrouped h both (joined w h a b v)
  unfolding joined
  joined-regroup =
      let new : Sons h → Sons (suc h) = λ l. (node w (l ++ b.sons), v) ∷ [] in
      with-last h both new a.sons (same-grandsons h both (new a.sons) (append_assoc a.sons b.sons []))

  pub right-regroup : Regrouped h both (moved_right w h a b v)
  unfolding moved_right
  right-regroup =
      let rest = but_last a.sons in
      let one = last_of a.sons in
      let new : Sons h → Sons (suc h) = λ l. (node a.latch rest, bound_of 0 rest) ∷ (node w (l ++ b.sons), v) ∷ [] in
      with-last h both new one (same-grandsons h both (new one)
      (ap (λ l. rest ++ l) (append_assoc one b.sons []) ∙ sym (append_assoc rest one (b.sons ++ [])) ∙ ap (λ l. l ++ (b.sons ++ [])) (cut-is a.sons)))

  pub left-regroup : Regrouped h both (moved_left w h a b v)
  unfolding moved_left
  left-regroup =
      let one = take 1 b.sons in
      let rest = drop 1 b.sons in
      let new : Sons h → Sons (suc h) = λ l. (node w (l ++ one), bound_of 0 one) ∷ (node b.latch rest, v) ∷ [] in
      with-last h both new a.sons (same-grandsons h both (new a.sons)
      (append_assoc a.sons one (rest ++ []) ∙ ap (λ l. a.sons ++ l) (sym (append_assoc one rest []) ∙ ap (λ l. l ++ []) (take-append-drop 1 b.sons))))

-- Latches in a tree: counts and paths through a hole, and where nothing but descriptors changes.
use Rattle.std.specs.Prelude.{◌≡◌, refl, cond, List, [], ◌∷◌, ◌++◌, zero, suc, ◌+◌, ◌≤◌, ◌<◌, ℕ, eqb}
use Rattle.std.proofs.Common.{ap₂, sym, ◌∙◌, subst, ap, inl, inr}
use Rattle.machine.specs.Logic.{eqb_yes, eqb_no, length-put}
use Rattle.machine.specs.Holders.{latch_word}
use Rattle.machine.specs.Tree.{Below, onp-hit}
use Rattle.machine.specs.State.{Desc, Tree, on_leaf, on_leaves}
use Rattle.machine.specs.Descent.{Sons, sons_of, on_latch}
use Rattle.machine.specs.Sound.{OnPath, Latched, latch_count}
use Rattle.machine.specs.Context.{Ctx, hole, down, plug, OnWay, Clear}
use Rattle.machine.specs.Focus.{latches_around, latches-plug}
use Rattle.machine.specs.Alike.{Each, each-refl, each-onp, each_map, each-length, each-sum}
use Rattle.machine.specs.Paths.{path-right, path-map, path-swap}

-- ---- at a node

-- Whether a node has the latch word w, as a number.
pub bit-yes : (v w : ℕ) → v ≡ w → ◌≡◌ {A = ℕ} (cond (eqb v w) 1 0) 1
bit-yes v w e = rw (eqb_yes v w e)

pub bit-no : (v w : ℕ) → ¬ (v ≡ w) → ◌≡◌ {A = ℕ} (cond (eqb v w) 1 0) 0
bit-no v w n = rw (eqb_no v w n)

-- Descriptors have no latch.
pub no-leaf : (w y : ℕ) (F : ℕ → ℕ → Type 0) (es : Sons 0) → ¬ OnPath y (Latched w y F 0) es
unfolding Latched
no-leaf w y F [] o = o
no-leaf w y F (p ∷ es) (inl o) = o.1
no-leaf w y F (p ∷ es) (inr o) = no-leaf w y F es o.1

pub latched-here : (w y : ℕ) (F : ℕ → ℕ → Type 0) (h : ℕ) (t : Tree (suc h)) → t.latch ≡ w → F h (sons_of t) → Latched w y F (suc h) t
unfolding Latched
latched-here w y F h t e f = inl (e, f)

pub latched-under : (w y : ℕ) (F : ℕ → ℕ → Type 0) (h : ℕ) (t : Tree (suc h)) → ¬ (t.latch ≡ w) → OnPath y (Latched w y F h) t.sons → Latched w y F (suc h) t
unfolding Latched
latched-under w y F h t n o = inr (n, o)

pub under-latched : (w y : ℕ) (F : ℕ → ℕ → Type 0) (h : ℕ) (t : Tree (suc h)) → ¬ (t.latch ≡ w) → Latched w y F (suc h) t → OnPath y (Latched w y F h) t.sons
unfolding Latched
under-latched w y F h t n (inl o) = absurd (n o.0)
under-latched w y F h t n (inr o) = o.1

pub latched-map : (w y : ℕ) (F G : ℕ → ℕ → Type 0) → ((h n : ℕ) → F h n → G h n) → (h : ℕ) (t : Tree h) → Latched w y F h t → Latched w y G h t
unfolding Latched
latched-map w y F G f zero t l = l
latched-map w y F G f (suc h) t (inl l) = inl (l.0, f h (sons_of t) l.1)
latched-map w y F G f (suc h) t (inr l) = inr (l.0, path-map y (Latched w y F h) (Latched w y G h) (λ a. latched-map w y F G f h a) t.sons l.1)

-- ---- the latches of all parties but p

-- They are at the same nodes, on the path to every key.
pub record Others (p h : ℕ) (t : Tree h) (k : ℕ) (u : Tree k) : Type 1 where
  pub counts : (q : ℕ) → ¬ (p ≡ q) → latch_count (latch_word q) k u ≡ latch_count (latch_word q) h t
  pub paths : (q y : ℕ) (F : ℕ → ℕ → Type 0) → ¬ (p ≡ q) → Latched (latch_word q) y F h t → Latched (latch_word q) y F k u

pub others-trans : (p h : ℕ) (t : Tree h) (k : ℕ) (u : Tree k) (j : ℕ) (v : Tree j) → Others p h t k u → Others p k u j v → Others p h t j v
others-trans p h t k u j v a b = record {
  counts = λ q n. b.counts q n ∙ a.counts q n;
  paths = λ q y F n l. b.paths q y F n (a.paths q y F n l);
}

-- ---- through a hole

pub latched-plug : {k h : ℕ} (w y : ℕ) (F : ℕ → ℕ → Type 0) (c : Ctx k h) (u v : Tree k) → (Latched w y F k u → Latched w y F k v) → Latched w y F h (plug c u) → Latched w y F h (plug c v)
unfolding Latched
latched-plug w y F hole u v f l = f l
latched-plug w y F (down {h = h} n pre c b post) u v f (inl l) =
    inl (l.0, subst (F h) (sym (length-put (plug c u, b) (plug c v, b) pre post)) l.1)
latched-plug w y F (down {h = h} n pre c b post) u v f (inr l) =
    inr (l.0, path-swap y (Latched w y F h) pre ((plug c u, b) ∷ []) ((plug c v, b) ∷ []) post (one (latched-plug w y F c u v f)) same-bound l.1)
  where
    one : (Latched w y F h (plug c u) → Latched w y F h (plug c v)) → OnPath y (Latched w y F h) ((plug c u, b) ∷ []) → OnPath y (Latched w y F h) ((plug c v, b) ∷ [])
    one g (inl o) = inl (o.0, g o.1)
    one g (inr o) = absurd o.1

    same-bound : Below y ((plug c u, b) ∷ []) → Below y ((plug c v, b) ∷ [])
    same-bound o = o

pub others-plug : {k h : ℕ} (p : ℕ) (c : Ctx k h) (u v : Tree k) → Others p k u k v → Others p h (plug c u) h (plug c v)
others-plug p c u v O = record {
  counts = λ q n. latches-plug (latch_word q) c v ∙ ap (λ m. latches_around (latch_word q) c + m) (O.counts q n) ∙ sym (latches-plug (latch_word q) c u);
  paths = λ q y F n. latched-plug (latch_word q) y F c u v (O.paths q y F n);
}

-- A latch in the hole, on the path, and not above it.
pub latched-in : {k h : ℕ} (w x : ℕ) (F : ℕ → ℕ → Type 0) (c : Ctx k h) (u : Tree k) → OnWay x c → Clear w c → Latched w x F k u → Latched w x F h (plug c u)
unfolding Latched
latched-in w x F hole u o n l = l
latched-in w x F (down {h = h} v pre c b post) u o n l =
    inr (n.0, path-right x (Latched w x F h) pre ((plug c u, b) ∷ post) o.0 (inl (o.1, latched-in w x F c u o.2 n.1 l)))

pub on-latch-plug : {k h : ℕ} (w x : ℕ) (f : (j : ℕ) → Tree (suc j) → Tree (suc j)) (c : Ctx (suc k) h) (u : Tree (suc k)) → OnWay x c → Clear w c → u.latch ≡ w
    → on_latch w x f h (plug c u) ≡ plug c (f k u)
unfolding on_latch
on-latch-plug {k = k} w x f hole u o n e = rw (eqb_yes u.latch w e)
on-latch-plug {k = k} w x f (down {h = h} v pre c b post) u o n e =
    rw (eqb_no v w n.0, onp-hit x (λ a d. (on_latch w x f h a, d) ∷ []) pre (plug c u) b post o.0 o.1)
    (ap (λ a. record { latch = v; sons = pre ++ ((a, b) ∷ post) }) (on-latch-plug w x f c u o.2 n.1 e))

-- ---- where nothing but descriptors changes

-- The same latches, boundaries and numbers of sons.
unfoldable pub Framed : (h : ℕ) → Tree h → Tree h → Type 0
Framed zero t u = Unit {0}
Framed (suc h) t u = (u.latch ≡ t.latch) × Each (Framed h) t.sons u.sons

pub framed-refl : (h : ℕ) (t : Tree h) → Framed h t t
unfolding Framed
framed-refl zero t = tt
framed-refl (suc h) t = (refl, each-refl (Framed h) (framed-refl h) t.sons)

pub framed-leaf : (x : ℕ) (f : Desc → Desc) (h : ℕ) (t : Tree h) → Framed h t (on_leaf x f h t)
unfolding Framed on_leaf
framed-leaf x f zero t = tt
framed-leaf x f (suc h) t = (refl, each-onp (Framed h) x (on_leaf x f h) (framed-refl h) (framed-leaf x f h) t.sons)

pub framed-leaves : (f : Desc → Desc) (h : ℕ) (t : Tree h) → Framed h t (on_leaves f h t)
unfolding Framed on_leaves
framed-leaves f zero t = tt
framed-leaves f (suc h) t = (refl, each_map (Framed h) (on_leaves f h) (framed-leaves f h) t.sons)

pub framed-count : (w h : ℕ) (t u : Tree h) → Framed h t u → latch_count w h u ≡ latch_count w h t
unfolding Framed latch_count
framed-count w zero t u f = refl
framed-count w (suc h) t u f =
    ap₂ (λ v n. cond (eqb v w) 1 0 + n) f.0 (each-sum (Framed h) (latch_count w h) (framed-count w h) t.sons u.sons f.1)

each-path : {A : Type 0} (R : A → A → Type 0) (y : ℕ) (P : A → Type 0) → ((a b : A) → R a b → P a → P b) → (es fs : List (A × ℕ)) → Each R es fs → OnPath y P es → OnPath y P fs
each-path R y P k [] fs r o = absurd o
each-path R y P k (p ∷ es) [] r o = absurd r
each-path R y P k (p ∷ es) (q ∷ fs) r (inl o) = inl (subst (λ n. y ≤ n) (sym r.0) o.0, k p.0 q.0 r.1 o.1)
each-path R y P k (p ∷ es) (q ∷ fs) r (inr o) = inr (subst (λ n. n < y) (sym r.0) o.0, each-path R y P k es fs r.2 o.1)

pub framed-latched : (w y : ℕ) (F : ℕ → ℕ → Type 0) (h : ℕ) (t u : Tree h) → Framed h t u → Latched w y F h t → Latched w y F h u
unfolding Framed Latched
framed-latched w y F zero t u f l = l
framed-latched w y F (suc h) t u f (inl l) = inl (f.0 ∙ l.0, subst (F h) (sym (each-length (Framed h) t.sons u.sons f.1)) l.1)
framed-latched w y F (suc h) t u f (inr l) =
    inr (λ e. l.0 (sym f.0 ∙ e), each-path (Framed h) y (Latched w y F h) (framed-latched w y F h) t.sons u.sons f.1 l.1)

pub framed-others : (p h : ℕ) (t u : Tree h) → Framed h t u → Others p h t h u
framed-others p h t u f = record { counts = λ q n. framed-count (latch_word q) h t u f; paths = λ q y F n. framed-latched (latch_word q) y F h t u f }

-- Paths through lists of sons: lists cut in two, and sons replaced.
use Rattle.std.specs.Prelude.{List, [], ◌∷◌, ◌++◌, ◌⊎◌, suc, ◌≤◌, ◌<◌, ℕ, length, take}
use Rattle.std.proofs.Common.{inl, inr, arith}
use Rattle.machine.specs.Tree.{Seg, Below}
use Rattle.machine.specs.Descent.{but_last, bound_of}
use Rattle.machine.specs.Sound.{OnPath}
use Rattle.machine.specs.Order.{seg-le}

-- ---- a path through two lists goes through the first, or passes it

pub path-left : {A : Type 0} (x : ℕ) (P : A → Type 0) (es fs : List (A × ℕ)) → OnPath x P es → OnPath x P (es ++ fs)
path-left x P [] fs o = absurd o
path-left x P (p ∷ es) fs (inl o) = inl o
path-left x P (p ∷ es) fs (inr o) = inr (o.0, path-left x P es fs o.1)

pub path-right : {A : Type 0} (x : ℕ) (P : A → Type 0) (es fs : List (A × ℕ)) → Below x es → OnPath x P fs → OnPath x P (es ++ fs)
path-right x P [] fs b o = o
path-right x P (p ∷ es) fs b o = inr (b.0, path-right x P es fs b.1 o)

pub path-cut : {A : Type 0} (x : ℕ) (P : A → Type 0) (es fs : List (A × ℕ)) → OnPath x P (es ++ fs) → OnPath x P es ⊎ (Below x es × OnPath x P fs)
path-cut x P [] fs o = inr (tt, o)
path-cut x P (p ∷ es) fs (inl o) = inl (inl o)
path-cut x P (p ∷ es) fs (inr o) = go (path-cut x P es fs o.1)
  where
    go : OnPath x P es ⊎ (Below x es × OnPath x P fs) → OnPath x P (p ∷ es) ⊎ (Below x (p ∷ es) × OnPath x P fs)
    go (inl c) = inl (inr (o.0, c))
    go (inr c) = inr ((o.0, c.0), c.1)

pub path-map : {A : Type 0} (x : ℕ) (P Q : A → Type 0) → ((a : A) → P a → Q a) → (es : List (A × ℕ)) → OnPath x P es → OnPath x Q es
path-map x P Q f [] o = absurd o
path-map x P Q f (p ∷ es) (inl o) = inl (o.0, f p.0 o.1)
path-map x P Q f (p ∷ es) (inr o) = inr (o.0, path-map x P Q f es o.1)

-- Sons replaced, where no path goes another way.
pub path-swap : {A : Type 0} (x : ℕ) (P : A → Type 0) (pre old new post : List (A × ℕ)) → (OnPath x P old → OnPath x P new) → (Below x old → Below x new)
    → OnPath x P (pre ++ (old ++ post)) → OnPath x P (pre ++ (new ++ post))
path-swap x P pre old new post f g o = go (path-cut x P pre (old ++ post) o)
  where
    later : OnPath x P old ⊎ (Below x old × OnPath x P post) → OnPath x P (new ++ post)
    later (inl c) = path-left x P new post (f c)
    later (inr c) = path-right x P new post (g c.0) c.1

    go : OnPath x P pre ⊎ (Below x pre × OnPath x P (old ++ post)) → OnPath x P (pre ++ (new ++ post))
    go (inl c) = path-left x P pre (new ++ post) c
    go (inr c) = path-right x P pre (new ++ post) c.0 (later (path-cut x P old post c.1))

-- ---- where the sons' intervals follow one another

module _ {A : Type 0} (Q : ℕ → ℕ → A → Type 0) (mono : (lo u : ℕ) (a : A) → Q lo u a → lo ≤ suc u) where
  pub path-upto : (x : ℕ) (P : A → Type 0) (lo e : ℕ) (es : List (A × ℕ)) → Seg Q lo e es → OnPath x P es → x < e
  path-upto x P lo e [] s o = absurd o
  path-upto x P lo e (p ∷ es) s (inl o) = omega (arith, o.0, seg-le Q mono (suc p.1) e es s.1)
  path-upto x P lo e (p ∷ es) s (inr o) = path-upto x P (suc p.1) e es s.1 o.1

  pub below_all : (x lo e : ℕ) (es : List (A × ℕ)) → Seg Q lo e es → e ≤ x → Below x es
  below_all x lo e [] s l = tt
  below_all x lo e (p ∷ es) s l = (omega (arith, seg-le Q mono (suc p.1) e es s.1), below_all x (suc p.1) e es s.1 l)

  pub below-reach : (x lo e : ℕ) (es : List (A × ℕ)) → Seg Q lo e es → 1 ≤ length es → Below x es → e ≤ x
  below-reach x lo e [] s n b = absurd (omega (arith, n))
  below-reach x lo e (p ∷ []) s n b = omega (arith, s.1, b.0)
  below-reach x lo e (p ∷ q ∷ es) s n b = below-reach x (suc p.1) e (q ∷ es) s.1 (omega arith) b.1

  -- The first bound is not below the start; the last but one lies below the end.
  pub first-bound : (lo e : ℕ) (es : List (A × ℕ)) → 1 ≤ length es → Seg Q lo e es → lo ≤ suc (bound_of 0 (take 1 es))
  first-bound lo e [] n s = absurd (omega (arith, n))
  first-bound lo e (p ∷ es) n s = mono lo p.1 p.0 s.0

  pub last-bound : (lo e : ℕ) (es : List (A × ℕ)) → 2 ≤ length es → Seg Q lo e es → suc (bound_of 0 (but_last es)) ≤ e
  last-bound lo e [] n s = absurd (omega (arith, n))
  last-bound lo e (p ∷ []) n s = absurd (omega (arith, n))
  last-bound lo e (p ∷ q ∷ []) n s = seg-le Q mono (suc p.1) e (q ∷ []) s.1
  last-bound lo e (p ∷ q ∷ r ∷ es) n s = last-bound (suc p.1) e (q ∷ r ∷ es) (omega arith) s.1

-- The node that has a party's latch is the one of its level on the path to the party's key.
use Rattle.std.specs.Prelude.{◌≡◌, List, ◌∷◌, ℕ, suc, ◌≤◌}
use Rattle.std.proofs.Common.{inl, inr, arith, eq-eqb, ne_eqb}
use Rattle.machine.specs.Logic.{leb_yes, leb_no}
use Rattle.machine.specs.Tree.{map_e, pick, sum_e}
use Rattle.machine.specs.State.{Tree}
use Rattle.machine.specs.Sound.{latch_count, OnPath, Latched}
use Rattle.meaning.specs.Reading.{Numbered, erase}
use Rattle.meaning.specs.Sound.{number_at}
use Rattle.meaning.specs.Numbers.{one-is}
use Rattle.layout.specs.Layout.{SomeSon, Marked}

-- ---- counts of sons

some-count : {A B : Type 0} (f : A → B) (c : B → ℕ) (S : A → Type 0) → ((a : A) → S a → 1 ≤ c (f a)) → (es : List (A × ℕ)) → SomeSon S es → 1 ≤ sum_e c (map_e f es)
some-count {A = A} {B = B} f c S k mathlib.Core.List.[] x' = elim x' [ ]
some-count f c S k (e ∷ es) (inl a) = omega (arith, k e.0 a)
some-count f c S k (e ∷ es) (inr a) = omega (arith, some-count f c S k es a)

path-count : {B : Type 0} (x : ℕ) (c : B → ℕ) (P : B → Type 0) → ((b : B) → P b → 1 ≤ c b) → (es : List (B × ℕ)) → OnPath x P es → 1 ≤ sum_e c es
path-count {B = B} x c P k mathlib.Core.List.[] x'' = elim x'' [ ]
path-count x c P k (e ∷ es) (inl o) = omega (arith, k e.0 o.1)
path-count x c P k (e ∷ es) (inr o) = omega (arith, path-count x c P k es o.1)

-- At most one is counted: the marked son is the one on the path.
sons-place : {A B : Type 0} (x : ℕ) (f : A → B) (c : B → ℕ) (S : A → Type 0) (P : B → Type 0) (Z : ℕ → Type 0) (g : A → ℕ) → ((a : A) → S a → 1 ≤ c (f a)) → ((b : B) → P b → 1 ≤ c b)
    → ((a : A) → S a → c (f a) ≤ 1 → P (f a) → Z (g a)) → (es : List (A × ℕ)) → SomeSon S es → sum_e c (map_e f es) ≤ 1 → OnPath x P (map_e f es) → Z (pick x 0 g es)
sons-place {A = A} {B = B} x f c S P Z g u v k mathlib.Core.List.[] x4 l _ = elim x4 [ ]
sons-place x f c S P Z g u v k (e ∷ es) (inl a) l (inl o) = rw (leb_yes x e.1 o.0) (k e.0 a (omega (arith, l)) o.1)
sons-place x f c S P Z g u v k (e ∷ es) (inl a) l (inr o) = absurd (omega (arith, l, u e.0 a, path-count x c P v (map_e f es) o.1))
sons-place x f c S P Z g u v k (e ∷ es) (inr a) l (inl o) = absurd (omega (arith, l, some-count f c S u es a, v (f e.0) o.1))
sons-place x f c S P Z g u v k (e ∷ es) (inr a) l (inr o) = rw (leb_no x e.1 o.0) (sons-place x f c S P Z g u v k es a (omega (arith, l)) o.1)

-- ---- trees

marked-count : (k n w h : ℕ) (t : Numbered h) → Marked k n w h t → 1 ≤ latch_count w h (erase h t)
unfolding Marked latch_count erase
marked-count k n w Prim.Native.Nat.zero t x' = elim x' [ ]
marked-count k n w (suc h) t (inl q) = omega (arith, one-is t.latch.word w q.2)
marked-count k n w (suc h) t (inr q) = omega (arith, some-count (erase h) (latch_count w h) (Marked k n w h) (marked-count k n w h) t.sons q)

latched-count : (w x : ℕ) (F : ℕ → ℕ → Type 0) (h : ℕ) (t : Tree h) → Latched w x F h t → 1 ≤ latch_count w h t
unfolding Latched latch_count
latched-count w x F Prim.Native.Nat.zero t x'' = elim x'' [ ]
latched-count w x F (suc h) t (inl q) = omega (arith, one-is t.latch w q.0)
latched-count w x F (suc h) t (inr q) = omega (arith, path-count x (latch_count w h) (Latched w x F h) (latched-count w x F h) t.sons q.1)

-- A node of level k, at record n, is at the number v.
pub record Placed (k n h v : ℕ) : Type 0 where
  pub lowest : 1 ≤ k
  pub highest : k ≤ h
  pub node : v ≡ n

pub marked-place : (k n w x : ℕ) (F : ℕ → ℕ → Type 0) (h : ℕ) (t : Numbered h) → Marked k n w h t → latch_count w h (erase h t) ≤ 1 → Latched w x F h (erase h t)
    → Placed k n h (number_at k x h t)
unfolding Marked latch_count erase Latched number_at
marked-place k n w x F Prim.Native.Nat.zero t x4 l o = elim x4 [ ]
marked-place k n w x F (suc h) t (inl q) l o =
    let e = q.0 in
    rw (eq-eqb (suc h) k e) record { lowest = omega (arith, e); highest = omega (arith, e); node = q.1 }
marked-place k n w x F (suc h) t (inr q) l (inl o) =
    absurd (omega (arith, l, one-is t.latch.word w o.0, some-count (erase h) (latch_count w h) (Marked k n w h) (marked-count k n w h) t.sons q))
marked-place k n w x F (suc h) t (inr q) l (inr o) =
    let P = sons-place x (erase h) (latch_count w h) (Marked k n w h) (Latched w x F h) (Placed k n h) (number_at k x h) (marked-count k n w h) (latched-count w x F h)
    (marked-place k n w x F h) t.sons q (omega (arith, l)) o.1 in
    rw (ne_eqb (suc h) k (λ e. omega (arith, e, P.highest))) record { lowest = P.lowest; highest = omega (arith, P.highest); node = P.node }

-- Theorems that rest on theorems of specs/: the rest of specs/Nearest.antt.
use Rattle.std.specs.Prelude.{◌≡◌, refl, true, List, [], ◌∷◌, ◌++◌, suc, ◌-◌, ◌≤◌, ◌<◌, ℕ}
use Rattle.std.proofs.Common.{sym, ◌∙◌, subst, ap, arith}
use Rattle.std.proofs.Math.Option.{some}
use Rattle.std.proofs.Math.Decide.{ℕ_discrete}
use Rattle.serial.specs.Serial.{true≢false}
use Rattle.serial.specs.Locks.{weak}
use Rattle.serial.specs.Locks as L
use Rattle.machine.specs.Holders.{holds}
use Rattle.machine.specs.Tree.{Cmp, high, cmp, low}
use Rattle.machine.specs.State.{Desc, take, Request, State, or_none, session_of, stored, lowest_from}
use Rattle.machine.specs.View.{holders}
use Rattle.machine.specs.Sound.{stored_in, Stands, Passing, Sound}
use Rattle.machine.specs.Order.{In}
use Rattle.machine.specs.Groups.{Rises}
use Rattle.machine.specs.Housekeeping.{Ordered, lvs}
use Rattle.machine.specs.Keys.{Kept}
use Rattle.machine.specs.Looks.{stored-behind, stored_here, sound-ordered, ordered-rises, kept_at, take-stored}
use Rattle.machine.specs.Nearest.{lowest-head, lowest-past, Nearest, stored_past, head-least, Next, gap-holds, Takes}

-- ---- lists

pub nearest : (x lo e : ℕ) (l : List Desc) → Rises lo e l → (k : ℕ) → stored_in k l ≡ true → x ≤ k → Nearest x l
unfolding stored_in
nearest x lo e [] r k h q = absurd (true≢false h refl)
nearest x lo e (a ∷ l) r k h q = go (cmp x a.key) (nearest x (suc a.key) e l r.1 k)
  where
    go : Cmp x a.key → (stored_in k l ≡ true → x ≤ k → Nearest x l) → Nearest x (a ∷ l)
    go (low b) ih = record {
      d = a;
      is = lowest-head x a l b;
      from = b;
      again = lowest-head a.key a l (omega arith);
      here = stored_here a.key a refl [] l;
      least = λ y i c. head-least y lo e a l r i;
    }
    go (high b) ih =
        let N = ih (stored_past x k a l b q h) q in
        record {
          d = N.d;
          is = lowest-past x a l b ∙ N.is;
          from = N.from;
          again = lowest-past N.d.key a l (omega (arith, b, N.from)) ∙ N.again;
          here = stored-behind N.d.key a l N.here;
          least = λ y i c. N.least y (stored_past x y a l b c i) c;
        }

pub lowest-here : (k from : ℕ) (d : Desc) → d.key ≡ k → (A B : List Desc) → In from k A → lowest_from k (A ++ d ∷ B) ≡ some d
lowest-here k from d e [] B i = lowest-head k d B (omega (arith, e))
lowest-here k from d e (a ∷ A) B i = lowest-past k a (A ++ d ∷ B) i.0.1 ∙ lowest-here k from d e A B i.1

-- ---- states

pub next : (x : ℕ) (s : State) → Ordered s → (k : ℕ) → stored_in k (lvs s) ≡ true → x ≤ k → Next x s (or_none (lowest_from x (stored s)))
unfolding stored
next x s o k h q = subst (Next x s) (sym (ap or_none N.is)) (record { K = K; same = same; from = N.from; least = N.least })
  where
    N : Nearest x (lvs s)
    N = nearest x 0 4294967296 (lvs s) (ordered-rises s o) k h q

    K : Kept N.d.key s
    K = kept_at N.d.key s o N.here

    same : K.d ≡ N.d
    same = ap or_none (sym (lowest-here N.d.key 0 K.d K.key K.A K.B K.low) ∙ sym (ap (lowest_from N.d.key) K.was) ∙ N.again)

-- ---- a locate at its next descriptor

pub takes_of : {s : State} → Sound s → (p : ℕ) (r : Request) (x : ℕ) → (session_of p s).hand ≡ some r → r.stage ≡ take x → Takes p s r x (or_none (lowest_from x (stored s)))
takes_of {s} S p r x e g = record { passing = P; next = N; to-second = N.least r.second ends.1 P.to-second; below = below }
  where
    P : Passing p s r x
    P = subst (Stands p s r) g (S.standing p r e)

    ends : (stored_in r.first (lvs s) ≡ true) × (stored_in r.second (lvs s) ≡ true)
    ends = take-stored S p r x e g

    N : Next x s (or_none (lowest_from x (stored s)))
    N = next x s (sound-ordered S) r.second ends.1 P.to-second

    within : (z : ℕ) → x ≤ z → z < (or_none (lowest_from x (stored s))).key → Dec (r.first ≡ x) → holders s L.group weak p z ≡ true
    within z a b (yes q) = absurd (omega (arith, N.least r.first ends.0 (omega (arith, q)), a, b, q))
    within z a b (no q) =
        let f : r.first < x = let y = P.from_first in omega arith in
        ap (λ w. holds w p) (gap-holds (x - 1) z s (sound-ordered S) (omega (arith, a, f)) (λ y i c d. omega (arith, N.least y i (omega (arith, c)), b, d))) ∙ P.ahead f

    below : (z : ℕ) → r.first ≤ z → z < (or_none (lowest_from x (stored s))).key → holders s L.group weak p z ≡ true
    below z a b = go (cmp x z)
      where
        go : Cmp x z → holders s L.group weak p z ≡ true
        go (low c) = within z c b (ℕ_discrete r.first x)
        go (high c) = P.held z a c

-- What tests mean.
use Rattle.std.specs.Prelude.{◌≡◌, refl, Bool, true, false, ◌&&◌, ◌↔◌, ℕ, ◌≤◌, eqb, leb}
use Rattle.std.proofs.Common.{sym, eqb-true, eq-eqb, leb-true, le-leb}
use Rattle.std.proofs.Math.Bool.{and-eq-true_iff}

-- A test is true exactly if something is so.
abbrev pub Means : Bool → Type 0 → Type 0
Means b A = (b ≡ true) ↔ A

pub eqb-means : (m n : ℕ) → Means (eqb m n) (m ≡ n)
eqb-means m n = (eqb-true m n, eq-eqb m n)

pub leb-means : (m n : ℕ) → Means (leb m n) (m ≤ n)
leb-means m n = (leb-true m n, le-leb m n)

pub both-mean : {a b : Bool} {A B : Type 0} → Means a A → Means b B → Means (a && b) (A × B)
both-mean {a} {b} p q = let i = and-eq-true_iff a b in (λ h. (p.0 (i.0 h).0, q.0 (i.0 h).1), λ h. i.1 (p.1 h.0, q.1 h.1))

-- Tests that mean the same are the same.
pub same-meaning : (a b : Bool) {A : Type 0} → Means a A → Means b A → a ≡ b
same-meaning true b p q = sym (q.1 (p.0 refl))
same-meaning false true p q = p.1 (q.0 refl)
same-meaning false false p q = refl

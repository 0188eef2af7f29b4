-- That a database is ready is a fact: there is one proof of it at most.
use Rattle.std.specs.Prelude.{◌≡◌, refl, List, [], ◌∷◌, ℕ, ◌≤◌}
use Rattle.std.proofs.Common.{ap, inl, inr, arith}
use Rattle.std.proofs.Props.{props}
use Rattle.serial.specs.Rising.{Above, Rising}
use Rattle.serial.specs.Model.{Pair, Before, by_key}
use Rattle.replay.specs.Held.{members_in, Ready}

eq-prop : (m n : ℕ) → IsProp (m ≡ n)
eq-prop m n = hlevel props

le-prop : (m n : ℕ) → IsProp (m ≤ n)
le-prop m n = hlevel props

Before-prop : (p q : Pair) → IsProp (Before p q)
Before-prop p q (inl a) (inl b) = ap inl (le-prop _ _ a b)
Before-prop p q (inl a) (inr b) = absurd (omega arith)
Before-prop p q (inr a) (inl b) = absurd (omega arith)
Before-prop p q (inr a) (inr b) = λ i. inr (eq-prop p.0 q.0 a.0 b.0 i, le-prop _ _ a.1 b.1 i)

Above-prop : (p : Pair) (l : List Pair) → IsProp (Above by_key p l)
Above-prop p [] a b = refl
Above-prop p (q ∷ l) a b = λ i. (Before-prop p q a.0 b.0 i, Above-prop p l a.1 b.1 i)

Rising-prop : (l : List Pair) → IsProp (Rising by_key l)
Rising-prop [] a b = refl
Rising-prop (p ∷ l) a b = λ i. (Above-prop p l a.0 b.0 i, Rising-prop l a.1 b.1 i)

pub Ready-prop : (vs ks es : List ℕ) (n : ℕ) → IsProp (Ready vs ks es n)
Ready-prop vs ks es n a b = λ i. record {
  values = eq-prop _ _ a.values b.values i;
  keys = eq-prop _ _ a.keys b.keys i;
  entries = eq-prop _ _ a.entries b.entries i;
  count = le-prop _ _ a.count b.count i;
  rising = Rising-prop (members_in ks es n) a.rising b.rising i;
}

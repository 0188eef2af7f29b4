-- The turns of a descent, the place of a son, and a locate that has pinned both ends.
use mathlib.Core.Path.{◌≡◌, refl, sym, ap, ◌∙◌}
use mathlib.Core.List.{List, [], ◌∷◌}
use mathlib.Core.Bool.{Bool, true, false, cond}
use Prim.Native.Nat.{ℕ, suc, ◌-◌, ◌≤◌, ◌<◌}
use native.Mathlib.Omega.{arith}
use lib.Dec.{leb}
use lib.ListN.{length, take, length-take}
use borrow.Author.Tests.{eq-eqb, ne_eqb, le-leb, lt-leb}
use Rattle.nodes.specs.declared.Node.{Node}
use Rattle.nodes.specs.Node.{node_at}
use Rattle.nodes.specs.Ops.{below, son_for}
use Rattle.sessions.specs.declared.Session.{Session}
use Rattle.marks.specs.Trail.{turn}
use Rattle.standing.specs.Standing.{son_on, descend_from, pins_in, locate_stands}

-- ---- the place of a son

below-le : (bs : List ℕ) (k : ℕ) → below bs k ≤ length bs
below-le [] k = omega arith
below-le (b ∷ bs) k = go (leb k b) (below-le bs k)
  where
    go : (o : Bool) → below bs k ≤ length bs → cond o 0 (suc (below bs k)) ≤ suc (length bs)
    go true h = omega arith
    go false h = omega arith

pub son-place : (n : Node) (key : ℕ) → n.count ≤ 8 → son_for n key < 8
unfolding son_for
son-place n key h =
    let p = below-le (take (n.count - 1) n.bounds) key in
    let q = length-take (n.count - 1) n.bounds in omega arith

-- ---- a descent

-- what is left of a descent, done, gives the whole
pub record Sinking (whole : ℕ) (s : List ℕ) (m r key i more : ℕ) : Type 0 where
  pub is : descend_from s m r key i more ≡ whole

one_less : (k : ℕ) → 0 < k → k ≡ suc (k - 1)
one_less k h = omega arith

module _ {whole : ℕ} {s : List ℕ} {m r key i : ℕ} where
  pub sink-none : {more : ℕ} → Sinking whole s m r key i more → 0 < more → i ≡ 0 → 0 ≡ whole
  unfolding descend_from
  sink-none {more} g h e = (simp (eq-eqb i 0 e) at (ap (descend_from s m r key i) (sym (one_less more h)))) ∙ g.is

  pub sink-past : {more : ℕ} → Sinking whole s m r key i more → 0 < more → (i ≡ 0 → ⊥) → r < i → 0 ≡ whole
  unfolding descend_from
  sink-past {more} g h ne e = (simp (ne_eqb i 0 ne, lt-leb i r e) at (ap (descend_from s m r key i) (sym (one_less more h)))) ∙ g.is

  pub sink-more : {more more' : ℕ} {n : Node} {j : ℕ} → Sinking whole s m r key i more → 0 < more → (i ≡ 0 → ⊥) → i ≤ r → n ≡ node_at s m i → j ≡ son_on n key
      → more' ≡ more - 1 → Sinking whole s m r key j more'
  unfolding descend_from
  sink-more {more} {more'} {n} {j} g h ne e q z l =
      record {
        is = ap (descend_from s m r key j) l
            ∙ ap (λ (x : ℕ). descend_from s m r key x (more - 1)) (z ∙ ap (λ (x : Node). son_on x key) q)
            ∙ ((simp (ne_eqb i 0 ne, le-leb i r e) at (ap (descend_from s m r key i) (sym (one_less more h)))) ∙ g.is);
      }

  pub sink-end : {more : ℕ} → Sinking whole s m r key i more → more ≡ 0 → i ≡ whole
  unfolding descend_from
  sink-end {more} g e = ap (descend_from s m r key i) (sym e) ∙ g.is

-- ---- a locate that takes

pub locate-both : (s seen : List ℕ) (m r : ℕ) (t : Session) (tally : List ℕ) {k : List ℕ} → t.stage ≡ 5 → pins_in s seen m r t.low t.first tally ≡ turn true k → (t.first ≡ t.second → ⊥)
    → locate_stands s seen m r t tally ≡ pins_in s seen m r t.high t.second k
unfolding locate_stands
locate-both s seen m r t tally e q ne = rw (eq-eqb t.stage 5 e, q, ne_eqb t.first t.second ne) refl

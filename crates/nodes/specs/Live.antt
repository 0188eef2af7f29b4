-- The sons and boundaries that a node uses.
use Rattle.std.specs.Prelude.{◌≡◌, refl, List, ℕ, ◌-◌, ◌≤◌, length, take}
use Rattle.std.proofs.Common.{ap, arith, length-take-le}
use Rattle.nodes.specs.Node.{Sized}
use Rattle.nodes.specs.Ops.{lone_node, with_latch}
use Rattle.nodes.specs.declared.Node.{Node}

-- the first count sons, and the boundaries between them
abbrev pub sons_of : Node → List ℕ
sons_of n = take n.count n.sons

abbrev pub bounds_of : Node → List ℕ
bounds_of n = take (n.count - 1) n.bounds

-- a node with 1 to 8 sons
pub record Usable (n : Node) : Type 0 where
  pub sized : Sized n
  pub least : 1 ≤ n.count
  pub most : n.count ≤ 8

pub first-same : {A : Type 0} (l : List A) (i j : ℕ) → i ≡ j → take i l ≡ take j l
first-same l i j e = ap (λ (n : ℕ). take n l) e

module _ {n : Node} (ok : Usable n) where
  pub length-sons_of : length (sons_of n) ≡ n.count
  length-sons_of = length-take-le n.count n.sons (omega (arith, ok.most, ok.sized.sons))

  pub length-bounds_of : length (bounds_of n) ≡ n.count - 1
  length-bounds_of = length-take-le (n.count - 1) n.bounds (omega (arith, ok.most, ok.sized.bounds))

  pub latch-usable : (w : ℕ) → Usable (with_latch n w)
  unfolding with_latch
  latch-usable w = record { sized = record { bounds = ok.sized.bounds; sons = ok.sized.sons }; least = ok.least; most = ok.most }

pub lone-usable : (son : ℕ) → Usable (lone_node son)
unfolding lone_node
lone-usable son = record { sized = record { bounds = refl; sons = refl }; least = omega arith; most = omega arith }

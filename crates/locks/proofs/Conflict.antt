-- The calls of `conflicting`, as equations, give the word of conflicts.
use mathlib.Core.Path.{◌≡◌, ap, ap₂, ◌∙◌}
use mathlib.Core.Bool.{Bool, cond}
use Prim.Native.Nat.{ℕ}
use lib.Bits.{bit_or}
use Rattle.locks.specs.Rule.{agrees_of}
use Rattle.locks.specs.Holders.{left_by, conflicts}

pub conflict-run : (kind asked s weak strong : ℕ) {x y : Bool} {a b r : ℕ} → x ≡ agrees_of kind 0 asked → a ≡ cond x 0 weak
    → y ≡ agrees_of kind 1 asked → b ≡ cond y 0 strong → r ≡ left_by s (bit_or a b) → r ≡ conflicts kind asked s weak strong
unfolding conflicts
conflict-run kind asked s weak strong ex ea ey eb er =
    er ∙ ap (left_by s) (ap₂ bit_or (ea ∙ ap (λ (z : Bool). cond z 0 weak) ex) (eb ∙ ap (λ (z : Bool). cond z 0 strong) ey))

use mathlib.Core.Path.{ap}
use Prim.Native.Nat.{ℕ}
use lib.Dec.{eqb}
use Rattle.walking.proofs.is_first.Goals as goal

pub returns : goal.returns
returns c = ap (λ (i : ℕ). eqb i 0) c.find_son.ensures

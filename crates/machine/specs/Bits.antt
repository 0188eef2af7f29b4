-- Holders words: who comes to hold, who leaves, and nobody else.
use Rattle.std.specs.Prelude.{◌≡◌, true, zero, suc, ℕ}
use Rattle.std.proofs.Common.{sym, ◌∙◌, ap}
use Rattle.machine.specs.Holders.{holds, held_by}
pub use Rattle.locks.specs.Bits.{held_same, held-other, left-same, left_other, left_le, holds-none}

pub held_more : (p q w : ℕ) → Dec (p ≡ q) → holds w q ≡ true → holds (held_by p w) q ≡ true
held_more zero q w d h = h
held_more (suc k) q w (yes e) h = ap (holds (held_by (suc k) w)) (sym e) ∙ held_same k w
held_more (suc k) q w (no n) h = held-other (suc k) q w n ∙ h

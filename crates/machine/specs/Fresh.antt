-- The fresh store: no session has begun or has anything in hand, and nothing is held.
use Rattle.std.specs.Prelude.{◌≡◌, false}
use Rattle.std.proofs.Math.Path.{refl, ap}
use Rattle.std.proofs.Common.{◌∙◌}
use Prim.Native.Nat.{zero, suc, ℕ}
use Rattle.serial.specs.Model.{ℕ-tri}
use Rattle.serial.specs.Locks.{Kind, Mode, weak, strong}
use Rattle.serial.specs.Locks as L
use Rattle.machine.specs.Logic.{get-same}
use Rattle.machine.specs.Holders.{width, holds}
use Rattle.machine.specs.State.{no_entry, entry_of, idle, session_of, fresh}
use Rattle.machine.specs.Gaps.{by-tri-const}
use Rattle.machine.specs.View.{holders, locate_word, update_word, seen, seen_under}
use Rattle.machine.specs.Sound.{gap_word}
use Rattle.machine.specs.Bits.{holds-none}
use Rattle.machine.specs.Keeps.{under}

module _ (m r : ℕ) where
  pub fresh-session : (p : ℕ) → session_of p (fresh m r) ≡ idle
  unfolding fresh session_of
  fresh-session p = get-same (suc width) p idle

  pub fresh-entry : (z : ℕ) → entry_of z (fresh m r) ≡ no_entry
  unfolding fresh entry_of
  fresh-entry zero = refl
  fresh-entry (suc i) = get-same m i no_entry

  pub fresh-held : (k : Kind) (n : Mode) (p z : ℕ) → holders (fresh m r) k n p z ≡ false
  unfolding fresh locate_word update_word seen_under under
  fresh-held L.entry weak p z = ap (λ y. holds y.share p) (fresh-entry z) ∙ holds-none p
  fresh-held L.entry strong p z = ap (λ y. holds y.exclusive p) (fresh-entry z) ∙ holds-none p
  fresh-held L.group weak p z = ap (λ w. holds w p) (by-tri-const (ℕ-tri z 0) 0) ∙ holds-none p
  fresh-held L.group strong p z = ap (λ w. holds w p) (by-tri-const (ℕ-tri z 0) 0) ∙ holds-none p

  pub fresh-gap : (p z : ℕ) → holds (gap_word z (seen (fresh m r))) p ≡ false
  unfolding fresh gap_word seen_under under
  fresh-gap p z = ap (λ w. holds w p) (by-tri-const (ℕ-tri z 0) 0) ∙ holds-none p

-- Who is in the way of a locate by the words is who is in the way by the machine.
use Rattle.std.specs.Prelude.{◌≡◌, refl, List, ◌∷◌, ℕ}
use Rattle.std.proofs.Common.{sym, subst, inl, arith}
use Rattle.locks.specs.Holders.{word_bits}
use Rattle.locks.specs.Holders as H
use Rattle.locks.specs.Lists as I
use Rattle.serial.specs.Locks.{weak}
use Rattle.serial.specs.Locks as L
use Rattle.machine.specs.Holders.{width, blockers, in_the_way}
use Rattle.machine.specs.State.{Desc, State}
use Rattle.machine.specs.Steps.{rule, group_blockers}
use Rattle.machine.specs.Sound.{Sound}
use Rattle.machine.specs.Order.{In}
use Rattle.machine.specs.Keys.{Kept}
use Rattle.long_locks.specs.LongLocks.{NarrowDesc, desc-narrow, same-blockers}

-- The sessions in the way of a locate at a stored key.
pub blockers-are : {s : State} → Sound s → (k p : ℕ) (K : Kept k s) → H.blockers word_bits 1 0 p K.d.locate K.d.update ≡ group_blockers weak p K.d
unfolding group_blockers
blockers-are {s} S k p K =
    let N : NarrowDesc K.d = desc-narrow s S K.A K.B K.d K.was (subst (λ i. In 0 i K.A) (sym K.key) K.low) in
    same-blockers L.group weak p K.d.locate K.d.update N.locate N.update

-- Each of them is a session.
pub blocker-proper : (p : ℕ) (d : Desc) (b : ℕ) (bs : List ℕ) → group_blockers weak p d ≡ b ∷ bs → ¬ (b ≡ 0)
unfolding blockers group_blockers
blocker-proper p d b bs e =
    let r = I.in-passing (in_the_way rule L.group weak p d.locate d.update) 1 width b (subst (I.In b) (sym e) (unfold I.In in (inl refl))) in
    λ z. omega (arith, z, r.0)

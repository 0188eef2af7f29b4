-- Theorems of specs/Locks: what it defines is there.
use Rattle.std.specs.Prelude.{refl, ◌↔◌, ℕ}
use Rattle.std.proofs.Common.{sym, inl, inr}
use Rattle.serial.specs.Serial.{true≢false, Covered}
use Rattle.serial.specs.Model.{Db, Req}
use Rattle.serial.specs.Footprints.{Good, frame, ans-local, eff-local, store}
use Rattle.serial.specs.Locks.{lock_rule, lock-rule-strict, Holds, Agree, touches, changes, apart, Needs, needs-reads, needs-writes, Apart, entry, group, weak, strong}

pub needs-covered : (H : Holds) (s : ℕ) (r : Req) (d : Db) → Good d → Needs H s r → Covered store (touches H s) (changes H s) r d
needs-covered H s r d g n = record {
  answers = λ e ge h. ans-local r d e g ge (λ i p. h i (needs-reads H s r n i p));
  effects = λ e ge h. eff-local r d e g ge (λ i p. h i (needs-reads H s r n i p));
  frames = λ e ge h i f. frame r e ge i (λ p. true≢false (needs-writes H s r n i p) f);
}

-- ---- the lock rule in words

-- That is all that the lock rule asks of holders.
pub agree-exactly : (H : Holds) → Agree lock_rule H ↔ Apart H
agree-exactly H = (
  (λ A. ((λ m s t e h g. apart (A entry strong m s t e h g) (lock-rule-strict.exclusive_alone m)), λ s t k h g. apart (A group strong weak s t k h g) refl)),
  agreed,
)
  where
    agreed : Apart H → Agree lock_rule H
    agreed E entry weak weak s t x h g = inr refl
    agreed E entry weak strong s t x h g = inl (sym (E.0 weak t s x g h))
    agreed E entry strong n s t x h g = inl (E.0 n s t x h g)
    agreed E group weak weak s t x h g = inr refl
    agreed E group weak strong s t x h g = inl (sym (E.1 t s x g h))
    agreed E group strong weak s t x h g = inl (E.1 s t x h g)
    agreed E group strong strong s t x h g = inr refl

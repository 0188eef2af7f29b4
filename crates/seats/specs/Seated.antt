-- What is kept of a call, a run or a day call: seats that agree in party, record and answer are equal.
use Rattle.std.specs.Prelude.{◌≡◌, ℕ}
use Rattle.std.proofs.Common.{ap}
use Rattle.sessions.specs.declared.Session.{Session}
use Rattle.outcomes.specs.declared.Answer.{Answer}
use Rattle.outcomes.specs.declared.Made.{Made}
use Rattle.seats.specs.declared.Seat.{Seat}

-- The answer may be a call's, a run's or a day call's.
pub seat-made : {A : Type 0} (p : ℕ) (a : A) {x y : Session} → x ≡ y → ◌≡◌ {A = Seat A} (record { party = p; session = x; answer = a }) (record { party = p; session = y; answer = a })
seat-made p a e = ap (λ (z : Session). record { party = p; session = z; answer = a }) e

pub answer-made : (n : ℕ) {a b : Answer} → a ≡ b → ◌≡◌ {A = Made} (record { answer = a; steps = n }) (record { answer = b; steps = n })
answer-made n e = ap (λ (z : Answer). record { answer = z; steps = n }) e

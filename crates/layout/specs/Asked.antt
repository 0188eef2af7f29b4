-- The request in hand as a session record has it, and steps that wait.
use Rattle.std.specs.Prelude.{◌≡◌, refl, List, [], ◌∷◌, ℕ, zero, suc, ◌<◌, length, set}
use Rattle.std.proofs.Common.{sym, ap, subst, ◌∙◌, ne_eqb}
use Rattle.std.proofs.Math.Option.{some}
use Rattle.sessions.specs.declared.Session.{Session}
use Rattle.sessions.specs.Sessions.{session_at}
use Rattle.serial.specs.Calls as C
use Rattle.machine.specs.State.{Request, wait, session_of}
use Rattle.machine.specs.Steps.{answer}
use Rattle.meaning.specs.Reading.{hand_of, stage_of}
use Rattle.layout.specs.Layout.{Lay, Undone, Holds, means, session_in}
use Rattle.layout.specs.Places.{session-means}
use Rattle.layout.specs.Row.{Stands, Becomes, Moves}

unfoldable pub request_in : Session → Request
request_in x = record { code = x.code; entry = x.entry; first = x.first; second = x.second; stage = stage_of x }

pub hand_in : (x : Session) → ¬ (x.stage ≡ 0) → hand_of x ≡ some (request_in x)
unfolding request_in
hand_in x n = rw (ne_eqb x.stage 0 n) refl

-- A session record put where it stands.
pub set_same : (t : List Session) (p : ℕ) → set t p (session_at t p) ≡ t
set_same [] zero = refl
set_same [] (suc p) = refl
set_same (x ∷ t) zero = refl
set_same (x ∷ t) (suc p) = ap (λ l. x ∷ l) (set_same t p)

-- Nothing is changed.
pub becomes-same : (s : List ℕ) (t : List Session) (A : Stands s t) (p : ℕ) → Becomes s s (set t p (session_at t p)) (means A.lay t)
becomes-same s t A p = record {
  lay = A.lay;
  holds = subst (λ z. Holds s z A.lay) (sym (set_same t p)) A.holds;
  means_next = ap (means A.lay) (set_same t p);
  long = refl;
  entries = refl;
  records = refl;
  rest = refl;
}

-- A step that waits names the first of the parties in the way.
pub wait-moves : (s : List ℕ) (t : List Session) (A : Stands s t) (p q b : ℕ) (bs : List ℕ) → q ≡ b
    → Moves s t p s (session_at t p) (C.wait q) (answer (wait (b ∷ bs)) (means A.lay t))
wait-moves s t A p q b bs e = record { becomes = becomes-same s t A p; tells = ap C.wait e }

-- The machine's request of a party is the one that its record has.
hand-session : (u : ℕ → List Undone) (p : ℕ) (x : Session) → (session_in u p x).hand ≡ hand_of x
hand-session u zero x = refl
hand-session u (suc p) x = refl

pub hand-means : (L : Lay) (t : List Session) (p : ℕ) → p < length t → ¬ ((session_at t p).stage ≡ 0) → (session_of p (means L t)).hand ≡ some (request_in (session_at t p))
hand-means L t p l n = ap (λ z. z.hand) (session-means L t p l) ∙ hand-session L.undos p (session_at t p) ∙ hand_in (session_at t p) n

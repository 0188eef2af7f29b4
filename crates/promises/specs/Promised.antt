-- What the contracts of the calls say is what the list of calls is asked for: each return of a call is one by `Returns`.
use Rattle.std.specs.Prelude.{◌≡◌, refl, Bool, true, false, ◌||◌, List, [], ◌∷◌, ◌⊎◌, ℕ, eqb, ltb, length}
use Rattle.std.proofs.Common.{sym, ap, subst, ◌∙◌, inl, inr}
use Rattle.sessions.specs.declared.Session.{Session}
use Rattle.serial.specs.Calls as C
use Rattle.machine.specs.State.{State, Outcome, fresh, ok, refused}
use Rattle.machine.specs.Steps.{answer}
use Rattle.machine.specs.Calls.{call, refusing, records_for}
use Rattle.machine.specs.Demand.{Tells}
use Rattle.meaning.specs.Reading.{meaning}
use Rattle.meaning.specs.Sound.{Sound}
use Rattle.promises.specs.Relations.{outcome, stays, Answered, Calls, Formats}
use Rattle.promises.specs.Assembling.{is_refused, no-refusal, not-ending}
use Rattle.promises.specs.Demands.{Returns}

-- Begin, put, step, commit, abort.
pub calls-return : (c : C.Call) (s : List ℕ) (t : List Session) (a : C.Answer) (l s' : List ℕ) (t' : List Session) → Calls c s t a l s' t'
    → Returns (record { store = s; table = t }) (record { call = c; answer = a; list = l }) (record { store = s'; table = t' })
unfolding Returns
calls-return c s t a l s' t' P = λ S. (P.answers S).0

-- Format: refused, or a fresh store.
format-either : (b : Bool) (s : State) (o : Outcome) → (refusing ((3, b) ∷ []) s o ≡ answer (refused 3 0) s) ⊎ (refusing ((3, b) ∷ []) s o ≡ o)
unfolding refusing
format-either true s o = inl refl
format-either false s o = inr refl

pub formats-return : (m : ℕ) (s : List ℕ) (t : List Session) (a : C.Answer) (s' : List ℕ) (t' : List Session) → Formats m s t a s' t'
    → Returns (record { store = s; table = t }) (record { call = C.format m; answer = a; list = [] }) (record { store = s'; table = t' })
unfolding Returns call
formats-return m s t a s' t' F = λ S. go S (format-either (eqb m 0 || ltb 1024 m || ltb (records_for m (length s)) 8) (meaning s t) (answer ok (fresh m (records_for m (length s)))))
  where
    go : Sound s t → (outcome (C.format m) s t ≡ answer (refused 3 0) (meaning s t)) ⊎ (outcome (C.format m) s t ≡ answer ok (fresh m (records_for m (length s)))) → Answered (C.format m) s t a [] s' t'
    go S (inl e) =
        let told : a ≡ C.refused 3 0 = subst (λ z. Tells z.answer a) e F.tells in
        let still = F.refuses (ap stays told) in
        record {
          tells = F.tells;
          list_is = refl;
          sound = subst (λ u. Sound u t') (sym still.0) (subst (λ u. Sound s u) (sym still.1) S);
          means = ap (λ u. meaning u t') still.0 ∙ ap (meaning s) still.1 ∙ ap (λ z. z.next) (sym e);
          long = F.long;
          still = F.refuses;
          ended = λ n k q y. not-ending 3 refl n k (sym told ∙ q) y;
          others = tt;
          kept = tt;
        }
    go S (inr e) =
        let told : a ≡ C.ok = subst (λ z. Tells z.answer a) e F.tells in
        let new = F.accepts told in
        record {
          tells = F.tells;
          list_is = refl;
          sound = new.0;
          means = new.1 ∙ ap (λ z. z.next) (sym e);
          long = F.long;
          still = F.refuses;
          ended = no-refusal a (ap is_refused told);
          others = tt;
          kept = tt;
        }

-- What the eight calls promise over a lent table: a table that is not of 17 records is refused, and nothing is changed; else what the call by value promises.
use Rattle.std.specs.Prelude.{◌≡◌, List, [], ℕ, length}
use Rattle.sessions.specs.declared.Session.{Session}
use Rattle.sessions.specs.Sessions.{parties}
use Rattle.serial.specs.Calls as C
use Rattle.outcomes.specs.declared.Answer.{Answer}
use Rattle.outcomes.specs.declared.Answer.TheVariants.{Refused}
use Rattle.outcomes.specs.Said.{said}
use Rattle.promises.specs.Relations.{Calls, Formats}
use Rattle.store.specs.declared.PutArgs.{PutArgs}

-- What a call does with its argument: store and table as they were, the argument, the answer, store and table as they are left.
abbrev pub Effect : Type 0 → Type 1
Effect D = List ℕ → List Session → D → Answer → List ℕ → List Session → Type 0

abbrev pub Formatted : Effect ℕ
Formatted s t m a s' t' = Formats m s t (said a) s' t'

abbrev pub Begun : Effect ℕ
Begun s t p a s' t' = Calls (C.begin p) s t (said a) [] s' t'

abbrev pub Put : Effect PutArgs
Put s t k a s' t' = Calls (C.put k.party k.code k.entry k.first k.second) s t (said a) [] s' t'

abbrev pub Committed : Effect ℕ
Committed s t p a s' t' = Calls (C.commit p) s t (said a) [] s' t'

abbrev pub Aborted : Effect ℕ
Aborted s t p a s' t' = Calls (C.abort p) s t (said a) [] s' t'

abbrev pub Asked : Effect ℕ
Asked s t p a s' t' = Calls (C.ask p) s t (said a) [] s' t'

-- Recover has no argument.
abbrev pub Recovered : Effect (Unit {0})
Recovered s t _ a s' t' = Calls C.recover s t (said a) [] s' t'

-- A step has a lent list too.
abbrev pub Stepped : List ℕ → List Session → List ℕ → ℕ → Answer → List ℕ → List Session → List ℕ → Type 0
Stepped s t l p a s' t' l' = Calls (C.step p l) s t (said a) l' s' t'

-- Over a table of any length.
abbrev pub OnTable : {D : Type 0} → Effect D → Effect D
OnTable E s t k a s' t' = (length t ≡ parties → E s t k a s' t') × (¬ (length t ≡ parties) → (a ≡ Refused 1 0) × (s' ≡ s) × (t' ≡ t))

abbrev pub SteppedOnTable : List ℕ → List Session → List ℕ → ℕ → Answer → List ℕ → List Session → List ℕ → Type 0
SteppedOnTable s t l p a s' t' l' = (length t ≡ parties → Stepped s t l p a s' t' l') × (¬ (length t ≡ parties) → (a ≡ Refused 1 0) × (s' ≡ s) × (t' ≡ t) × (l' ≡ l))

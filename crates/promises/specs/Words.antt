-- Demand 3 of the words, with no premise: every call returns, as its ways out say.
use Rattle.std.specs.Prelude.{List, [], ℕ}
use Rattle.sessions.specs.declared.Session.{Session}
use Rattle.serial.specs.Calls as C
use Rattle.outcomes.specs.declared.Answer.{Answer}
use Rattle.outcomes.specs.Said.{said}
use Rattle.meaning.specs.Sound.{Sound}
use Rattle.promises.specs.Relations.{Calls, Formats}
use Rattle.promises.specs.Demands.{Lending, Returns}
use Rattle.promises.specs.Promised.{calls-return, formats-return}
use Rattle.promises.specs.Ways.{Serves}

-- Some return of a call: the answer, words and table that it leaves, and that they keep its promise. Only step has a list.
abbrev pub Served : C.Call → List ℕ → List Session → Type 0
Served c s t = (a : Answer) × (s' : List ℕ) × (t' : List Session) × Calls c s t (said a) [] s' t'

abbrev pub Can : C.Call → List ℕ → List Session → Type 0
Can (C.format m) s t = (a : Answer) × (s' : List ℕ) × (t' : List Session) × Formats m s t (said a) s' t'
Can (C.begin p) s t = Served (C.begin p) s t
Can (C.put p c e f g) s t = Served (C.put p c e f g) s t
Can (C.step p l) s t = (a : Answer) × (s' : List ℕ) × (t' : List Session) × (l' : List ℕ) × Calls (C.step p l) s t (said a) l' s' t'
Can (C.commit p) s t = Served (C.commit p) s t
Can (C.abort p) s t = Served (C.abort p) s t
Can (C.ask p) s t = Served (C.ask p) s t
Can C.recover s t = Served C.recover s t

pub serving : (c : C.Call) (s : List ℕ) (t : List Session) (a : C.Answer) (l s' : List ℕ) (t' : List Session) → Sound s t → Serves c s t a l s' t' → Calls c s t a l s' t'
serving c s t a l s' t' A h = record { answers = λ S. h; refuses = λ n. absurd (n A) }

pub served : (c : C.Call) (s : List ℕ) (t : List Session) (a : Answer) (s' : List ℕ) (t' : List Session) → Sound s t → Serves c s t (said a) [] s' t' → Served c s t
served c s t a s' t' A h = (a, s', t', serving c s t (said a) [] s' t' A h)

-- Some turn of a call.
abbrev Turns : C.Call → Lending → Type 0
Turns c x = (a : C.Answer) × (l : List ℕ) × (y : Lending) × Returns x (record { call = c; answer = a; list = l }) y

served-turn : (c : C.Call) (x : Lending) → Served c x.store x.table → Turns c x
served-turn c x k = (said k.0, [], record { store = k.1; table = k.2 }, calls-return c x.store x.table (said k.0) [] k.1 k.2 k.3)

pub can-turn : (c : C.Call) (x : Lending) → Can c x.store x.table → Turns c x
can-turn (C.format m) x k = (said k.0, [], record { store = k.1; table = k.2 }, formats-return m x.store x.table (said k.0) k.1 k.2 k.3)
can-turn (C.begin p) x k = served-turn (C.begin p) x k
can-turn (C.put p c e f g) x k = served-turn (C.put p c e f g) x k
can-turn (C.step p l) x k = (said k.0, k.3, record { store = k.1; table = k.2 }, calls-return (C.step p l) x.store x.table (said k.0) k.3 k.1 k.2 k.4)
can-turn (C.commit p) x k = served-turn (C.commit p) x k
can-turn (C.abort p) x k = served-turn (C.abort p) x k
can-turn (C.ask p) x k = served-turn (C.ask p) x k
can-turn C.recover x k = served-turn C.recover x k

module _ (m : ℕ) (s s' : List ℕ) (t t' : List Session) (F : Formats m s t C.ok s' t') where
  abbrev pub start : Lending
  start = record { store = s'; table = t' }

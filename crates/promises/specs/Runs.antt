-- A run and a request as lists of ordinary calls: the turns that each stands for, and what it promises.
use Rattle.std.specs.Prelude.{◌≡◌, List, [], ◌∷◌, ◌++◌, ◌⊎◌, ℕ, zero, suc, ◌≤◌, ◌<◌, replicate}
use Rattle.sessions.specs.declared.Session.{Session}
use Rattle.serial.specs.Calls.{Turn, Machine, Run}
use Rattle.serial.specs.Calls as C
use Rattle.promises.specs.Relations.{Calls}
use Rattle.promises.specs.Demands.{Lending, words}

abbrev pub lending : List ℕ → List Session → Lending
lending s t = record { store = s; table = t }

-- One ordinary call, as the contracts of all but format say it: demands 1, 2 and 3 are drawn from this.
abbrev pub Makes : Lending → Turn → Lending → Type 0
Makes x k y = Calls k.call x.store x.table k.answer k.list y.store y.table

abbrev pub calling : Machine
calling = record { X = Lending; Sound = words.Sound; meaning = words.meaning; hand = words.hand; marked = words.marked; Does = Makes }

-- A call without a list.
abbrev pub call_turn : C.Call → C.Answer → Turn
call_turn c a = record { call = c; answer = a; list = [] }

abbrev pub put_turn : ℕ → ℕ → ℕ → ℕ → ℕ → C.Answer → Turn
put_turn p c e f g a = call_turn (C.put p c e f g) a

abbrev pub step_turn : ℕ → List ℕ → C.Answer → List ℕ → Turn
step_turn p l a l' = record { call = C.step p l; answer = a; list = l' }

-- n steps of party p, all answered more but the last, which is answered a. Each is lent the list l; only the last may write it.
abbrev pub steps : ℕ → ℕ → List ℕ → C.Answer → List ℕ → List Turn
steps zero p l a l' = []
steps (suc k) p l a l' = replicate k (step_turn p l C.more l) ++ step_turn p l a l' ∷ []

-- A put alone, answered a; or one that is accepted, and then n steps.
abbrev pub asks : ℕ → ℕ → ℕ → ℕ → ℕ → ℕ → List ℕ → C.Answer → List ℕ → List Turn
asks zero p c e f g l a l' = put_turn p c e f g a ∷ []
asks (suc k) p c e f g l a l' = put_turn p c e f g C.ok ∷ steps (suc k) p l a l'

-- The most steps of one run: how many there were crosses to C in 14 bits.
abbrev pub most_steps : ℕ
most_steps = 16383

-- How many: never none; above one never more than the bound, nor than the most there are; fewer than both only if the last was not answered more.
pub record Within (bound n : ℕ) (a : C.Answer) : Type 0 where
  pub some : 1 ≤ n
  pub most : 1 < n → n ≤ bound
  pub few : n ≤ most_steps
  pub whole : a ≡ C.more → (bound ≤ n) ⊎ (n ≡ most_steps)

-- A run: it is n ordinary steps, from store, table and list as they were to those as they are left, and answers what the last one answers.
pub record Runs (p bound : ℕ) (s : List ℕ) (t : List Session) (l : List ℕ) (a : C.Answer) (n : ℕ) (l' s' : List ℕ) (t' : List Session) : Type 0 where
  pub within : Within bound n a
  pub made : Run calling (lending s t) (steps n p l a l') (lending s' t')

-- A request: an ordinary put, and, if it is accepted, a run. n counts the steps.
pub record Requests (p c e f g bound : ℕ) (s : List ℕ) (t : List Session) (l : List ℕ) (a : C.Answer) (n : ℕ) (l' s' : List ℕ) (t' : List Session) : Type 0 where
  -- No step only where the put is not accepted; then the list is as it was.
  pub not_put : n ≡ 0 → ¬ (a ≡ C.ok) × (l' ≡ l)
  pub within : ¬ (n ≡ 0) → Within bound n a
  pub made : Run calling (lending s t) (asks n p c e f g l a l') (lending s' t')

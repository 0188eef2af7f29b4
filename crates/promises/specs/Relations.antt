-- What each of the eight calls promises, over store, table and list at entry, the answer, and store, table and list at exit.
use Rattle.std.specs.Prelude.{◌≡◌, Bool, true, false, not, List, [], ◌⊎◌, ℕ, ◌≤◌, length, replicate, set}
use Rattle.words.specs.Store.{beyond}
use Rattle.sessions.specs.declared.Session.{Session}
use Rattle.sessions.specs.Sessions.{session_at, numbered, idle_session, parties}
use Rattle.serial.specs.Calls as C
use Rattle.machine.specs.State.{Outcome, fresh}
use Rattle.machine.specs.Calls.{call, records_for}
use Rattle.machine.specs.Demand.{call_of, Tells, list_after}
use Rattle.meaning.specs.Reading.{M-of, R-of, meaning}
use Rattle.meaning.specs.Sound.{Sound}
use Rattle.endings.specs.Table.{idled}
use Rattle.finishing.specs.Finishing.{end_request}

-- What the machine does with a call, on what the words mean.
abbrev pub outcome : C.Call → List ℕ → List Session → Outcome
outcome c s t = call (call_of c (length s)) (meaning s t)

-- Waits, and refusals but those that end the request, change nothing.
abbrev pub stays : C.Answer → Bool
stays C.ok = false
stays C.more = false
stays (C.wait p) = true
stays (C.done ns) = false
stays (C.refused n k) = not (C.ends_request n)

-- A begun session's record, with another number in the order of begins.
abbrev pub Renumbered : ℕ → Session → Session → Type 0
Renumbered q x x' = (1 ≤ q) × ¬ (x.begun ≡ 0) × ((n : ℕ) × (x' ≡ numbered n x))

-- The party of a call; only its session record may be another, and at a begin the numbers of begun sessions.
abbrev pub Others : C.Call → List Session → List Session → Type 0
Others (C.format m) t t' = Unit {0}
Others (C.begin p) t t' = (q : ℕ) → ¬ (q ≡ p) → (session_at t' q ≡ session_at t q) ⊎ Renumbered q (session_at t q) (session_at t' q)
Others (C.put p c e f g) t t' = (q : ℕ) → ¬ (q ≡ p) → session_at t' q ≡ session_at t q
Others (C.step p l) t t' = (q : ℕ) → ¬ (q ≡ p) → session_at t' q ≡ session_at t q
Others (C.commit p) t t' = (q : ℕ) → ¬ (q ≡ p) → session_at t' q ≡ session_at t q
Others (C.abort p) t t' = (q : ℕ) → ¬ (q ≡ p) → session_at t' q ≡ session_at t q
Others (C.ask p) t t' = (q : ℕ) → ¬ (q ≡ p) → session_at t' q ≡ session_at t q
-- The records of the sessions that are asked stay.
Others C.recover t t' = (q : ℕ) → ¬ (q ≡ 0) → ¬ ((session_at t q).asked ≡ 0) → session_at t' q ≡ session_at t q

-- Calls that write no word of the store.
abbrev pub Kept : C.Call → List ℕ → List ℕ → Type 0
Kept (C.format m) s s' = Unit {0}
Kept (C.begin p) s s' = s' ≡ s
Kept (C.put p c e f g) s s' = s' ≡ s
Kept (C.step p l) s s' = Unit {0}
Kept (C.commit p) s s' = Unit {0}
Kept (C.abort p) s s' = Unit {0}
Kept (C.ask p) s s' = s' ≡ s
Kept C.recover s s' = Unit {0}

-- What 11 and 12 leave: the request is ended, its latch and its pins with it, and nothing else is written. They arise only inside a step.
abbrev pub Ended : C.Call → List ℕ → List Session → List ℕ → List Session → Type 0
Ended (C.format m) s t s' t' = ⊥
Ended (C.begin p) s t s' t' = ⊥
Ended (C.put p c e f g) s t s' t' = ⊥
Ended (C.step p l) s t s' t' = (s' ≡ end_request s (M-of s) (session_at t p)) × (t' ≡ set t p (idled (session_at t p)))
Ended (C.commit p) s t s' t' = ⊥
Ended (C.abort p) s t s' t' = ⊥
Ended (C.ask p) s t s' t' = ⊥
Ended C.recover s t s' t' = ⊥

-- A call on sound words: the machine's answer, the list that it writes, and words that mean the machine's next state.
pub record Answered (c : C.Call) (s : List ℕ) (t : List Session) (a : C.Answer) (l' : List ℕ) (s' : List ℕ) (t' : List Session) : Type 0 where
  pub tells : Tells (outcome c s t).answer a
  pub list_is : l' ≡ list_after c (outcome c s t).written
  pub sound : Sound s' t'
  pub means : meaning s' t' ≡ (outcome c s t).next
  pub long : length s' ≡ length s
  pub still : stays a ≡ true → (s' ≡ s) × (t' ≡ t)
  pub ended : (n k : ℕ) → a ≡ C.refused n k → C.ends_request n ≡ true → Ended c s t s' t'
  pub others : Others c t t'
  pub kept : Kept c s s'

-- What no call but an accepted format changes: M, R; and the words beyond the records, which none does.
pub record Around (s s' : List ℕ) : Type 0 where
  pub entries : M-of s' ≡ M-of s
  pub records : R-of s' ≡ R-of s
  pub rest : beyond s' (M-of s) (R-of s) ≡ beyond s (M-of s) (R-of s)

-- The list that a call is lent: step's alone.
abbrev pub list_of : C.Call → List ℕ
list_of (C.format m) = []
list_of (C.begin p) = []
list_of (C.put p c e f g) = []
list_of (C.step p l) = l
list_of (C.commit p) = []
list_of (C.abort p) = []
list_of (C.ask p) = []
list_of C.recover = []

-- Refusal 2, of a store or table that is not sound: nothing is changed.
pub record Unsound (c : C.Call) (s : List ℕ) (t : List Session) (a : C.Answer) (l' : List ℕ) (s' : List ℕ) (t' : List Session) : Type 0 where
  pub answer : a ≡ C.refused 2 0
  pub list_same : l' ≡ list_of c
  pub store_same : s' ≡ s
  pub table_same : t' ≡ t

-- Begin, put, step, commit, abort, ask, recover: refused 2 exactly if store or table is not sound.
pub record Calls (c : C.Call) (s : List ℕ) (t : List Session) (a : C.Answer) (l' : List ℕ) (s' : List ℕ) (t' : List Session) : Type 0 where
  pub answers : Sound s t → Answered c s t a l' s' t' × Around s s'
  pub refuses : ¬ Sound s t → Unsound c s t a l' s' t'

-- Format: never 2; accepted, the fresh store and the table cleared.
pub record Formats (m : ℕ) (s : List ℕ) (t : List Session) (a : C.Answer) (s' : List ℕ) (t' : List Session) : Type 0 where
  pub tells : Tells (outcome (C.format m) s t).answer a
  pub long : length s' ≡ length s
  pub refuses : stays a ≡ true → (s' ≡ s) × (t' ≡ t)
  pub accepts : a ≡ C.ok → Sound s' t' × (meaning s' t' ≡ fresh m (records_for m (length s))) × (beyond s' m (records_for m (length s)) ≡ beyond s m (records_for m (length s))) × (t' ≡ replicate parties idle_session)

-- Demand 3 as one claim about whole lists of calls: the calls with raw numbers, the history that is read off calls and answers alone, the three
-- sentences as one record, what a store owes for them, and the theorem that it then keeps them.
use Rattle.std.specs.Prelude.{◌≡◌, refl, Bool, true, false, cond, not, ◌||◌, ◌&&◌, List, [], ◌∷◌, map, ◌⊎◌, ℕ, zero, suc, ◌*◌, eqb, take}
use Rattle.std.proofs.Common.{ap}
use Rattle.std.proofs.Math.Option.{Option, none, some}
use Rattle.serial.specs.Serial.{In, Distinct, Event, hstep, hist, Hist, none_yet, Inv, run_answers, serial_db, serial_answers, requests, results}
use Rattle.serial.specs.Serial as S
use Rattle.serial.specs.Model.{Db, Req, Ans, Item, get, empty, request_of}
use Rattle.serial.specs.Footprints.{store}
use Rattle.serial.specs.Locks.{Table, Strict}
use Rattle.serial.specs.LockMachine.{Store, view, Acts, Formatted}

-- ---- calls and answers

-- A call with its arguments, each any word: format entries; begin party; put party code entry first second; step party list; commit party; abort party;
-- ask party; recover.
-- A step has the words of its own lent list.
pub data Call : Type 0 where
  format begin commit abort ask : ℕ → Call
  recover : Call
  put : ℕ → ℕ → ℕ → ℕ → ℕ → Call
  step : ℕ → List ℕ → Call

-- wait names a party; beside done stand numbers; a refusal has its number and the one beside it.
pub data Answer : Type 0 where
  ok more : Answer
  wait : ℕ → Answer
  done : List ℕ → Answer
  refused : ℕ → ℕ → Answer

-- One call, its answer, and the words of the lent list when it returned.
pub record Turn : Type 0 where
  pub call : Call
  pub answer : Answer
  pub list : List ℕ

-- ---- the history, read off calls and answers alone

-- A request in hand, as it was put.
pub record Asked : Type 0 where
  pub code : ℕ
  pub entry : ℕ
  pub first : ℕ
  pub second : ℕ

-- The committed sessions in order of commit and each unfinished one, with their finished requests in turn; which sessions are unfinished;
-- and the request that each party has in hand.
pub record Told : Type 0 where
  pub past : Hist store
  pub unfinished : ℕ → Bool
  pub hands : ℕ → Option Asked
  -- The sessions that are asked.
  pub asked : ℕ → Bool

abbrev pub nothing : Told
nothing = record { past = none_yet store; unfinished = λ s. false; hands = λ p. none; asked = λ s. false }

-- A session lasts from an accepted begin to the next accepted commit or abort of its number.
abbrev pub session_event : Event store → ℕ → Bool → (ℕ → Bool) → Told → Told
session_event e s b m t = record { past = hstep store e t.past; unfinished = S.put t.unfinished s b; hands = S.put t.hands s none; asked = m }

-- The end of a session is the end of its mark.
abbrev pub unmarked : ℕ → Told → ℕ → Bool
unmarked s t = S.put t.asked s false

abbrev pub take_in_hand : ℕ → Option Asked → Told → Told
take_in_hand p a t = record { past = t.past; unfinished = t.unfinished; hands = S.put t.hands p a; asked = t.asked }

-- An accepted ask fixes its session.
abbrev pub fix_session : ℕ → Told → Told
fix_session s t = record { past = t.past; unfinished = t.unfinished; hands = t.hands; asked = S.put t.asked s true }

-- Recover aborts each unfinished session that was not asked,
abbrev pub given_up : Told → ℕ → Bool
given_up t s = t.unfinished s && not (t.asked s)

-- whose finished requests feed nothing, and ends every request in hand.
abbrev pub without : (ℕ → Bool) → Hist store → Hist store
without f h = record { closed = h.closed; current = λ s. cond (f s) [] (h.current s) }

abbrev pub recovered : Told → Told
recovered t = record { past = without (given_up t) t.past; unfinished = λ s. t.unfinished s && t.asked s; hands = λ p. none; asked = t.asked }

-- An accepted call. An accepted format starts the history anew.
abbrev pub tell_ok : Call → Told → Told
tell_ok (format m) t = nothing
tell_ok (begin s) t = session_event (S.begin s) s true t.asked t
tell_ok (commit s) t = session_event (S.commit s) s false (unmarked s t) t
tell_ok (abort s) t = session_event (S.abort s) s false (unmarked s t) t
tell_ok (put p code entry first second) t = take_in_hand p (some (record { code = code; entry = entry; first = first; second = second })) t
tell_ok (step p l) t = t
tell_ok (ask s) t = fix_session s t
tell_ok recover t = recovered t

-- The first number beside done. All of them are the answer, and for a locate twice so many words of the list as the first one says.
abbrev pub number_of : List ℕ → ℕ
number_of [] = 0
number_of (n ∷ ns) = n

abbrev pub answer_of : ℕ → List ℕ → List ℕ → Ans
answer_of code ns l = record { numbers = ns; words = cond (eqb code 5) (take (2 * number_of ns) l) [] }

-- No number is left out: answers that are the same have the same numbers beside done.
pub answer-whole : (c d : ℕ) (ns ms l m : List ℕ) → answer_of c ns l ≡ answer_of d ms m → ns ≡ ms
answer-whole c d ns ms l m e = ap (λ a. a.numbers) e

abbrev pub fed : ℕ → Option Req → Ans → Hist store → Hist store
fed s none a h = h
fed s (some r) a h = hstep store (S.finish s r a) h

-- A request is finished once a step answers done. The housekeeper, party 0, feeds nothing.
abbrev pub finished : ℕ → Option Asked → List ℕ → List ℕ → Hist store → Hist store
finished zero a ns l h = h
finished (suc k) none ns l h = h
finished (suc k) (some a) ns l h = fed (suc k) (request_of a.code a.entry a.first a.second) (answer_of a.code ns l) h

abbrev pub tell_done : Call → List ℕ → List ℕ → Told → Told
tell_done (format m) ns l t = t
tell_done (begin s) ns l t = t
tell_done (commit s) ns l t = t
tell_done (abort s) ns l t = t
tell_done (put p code entry first second) ns l t = t
tell_done (step p l₀) ns l t = record { past = finished p (t.hands p) ns l t.past; unfinished = t.unfinished; hands = S.put t.hands p none; asked = t.asked }
tell_done (ask s) ns l t = t
tell_done recover ns l t = t

-- The refusals that end the request.
abbrev pub ends_request : ℕ → Bool
ends_request n = eqb n 11 || eqb n 12

abbrev pub tell_refused : Call → ℕ → Told → Told
tell_refused (format m) n t = t
tell_refused (begin s) n t = t
tell_refused (commit s) n t = t
tell_refused (abort s) n t = t
tell_refused (put p code entry first second) n t = t
tell_refused (step p l) n t = cond (ends_request n) (take_in_hand p none t) t
tell_refused (ask s) n t = t
tell_refused recover n t = t

abbrev pub tell_answer : Call → Answer → List ℕ → Told → Told
tell_answer c ok l t = tell_ok c t
tell_answer c more l t = t
tell_answer c (wait p) l t = t
tell_answer c (done ns) l t = tell_done c ns l t
tell_answer c (refused n k) l t = tell_refused c n t

abbrev pub tell : Turn → Told → Told
tell k t = tell_answer k.call k.answer k.list t

-- What a list of calls tells.
abbrev pub told : Told → List Turn → Told
told t [] = t
told t (k ∷ ks) = told (tell k t) ks

-- ---- a store

-- States, which of them are sound, what they mean to the lock machine, the requests in hand, and the calls as a relation: from a state, a call may
-- return with this answer and list and leave that state.
pub record Machine : Type 1 where
  pub X : Type 0
  pub Sound : X → Type 0
  pub meaning : X → Store
  pub hand : X → ℕ → Option Asked
  -- The sessions that are asked.
  pub marked : X → ℕ → Bool
  pub Does : X → Turn → X → Type 0

-- The database that the model has after the committed sessions, run whole, one after another, in order of commit.
abbrev pub committed_db : Told → Db
committed_db t = serial_db store (map (requests store) t.past.closed) empty

-- The sessions of ss are the unfinished ones, each once.
pub record Unfinished (t : Told) (ss : List ℕ) : Type 0 where
  pub once : Distinct ss
  pub each : (s : ℕ) → In s ss → t.unfinished s ≡ true
  pub all : (s : ℕ) → t.unfinished s ≡ true → In s ss

abbrev pub calls_of : List Turn → List Call
calls_of ks = map (λ k. k.call) ks

abbrev pub Accepted : List Turn → Type 0
Accepted [] = Unit {0}
Accepted (k ∷ ks) = (k.answer ≡ ok) × Accepted ks

module _ (𝓢 : Machine) where
  open 𝓢 use {X, Sound, meaning, hand, marked, Does}

  -- A list of calls, whoever's turn each is.
  pub data Run : X → List Turn → X → Type 0 where
    stop : {x : X} → Run x [] x
    next : {x y z : X} {k : Turn} {ks : List Turn} → Does x k y → Run y ks z → Run x (k ∷ ks) z

  -- A list of calls ks from x that can be made.
  pub record Made (x : X) (cs : List Call) : Type 0 where
    pub turns : List Turn
    pub last : X
    pub run : Run x turns last
    pub as_called : calls_of turns ≡ cs

  -- Demand 3, of what a list of calls told and the state that it left.
  pub record Demand3 (t : Told) (x : X) : Type 0 where
    -- The finished requests of the committed sessions got exactly the answers of the logical model run session by session in order of commit.
    pub committed : map (results store) t.past.closed ≡ serial_answers store (map (requests store) t.past.closed) empty
    -- Each unfinished session's got what the model gives if it ran next, alone.
    pub unfinished : (s : ℕ) → results store (t.past.current s) ≡ run_answers store (requests store (t.past.current s)) (committed_db t)
    -- Then all unfinished sessions can be aborted in any sequence,
    pub can_abort : (ss : List ℕ) → Unfinished t ss → Made x (map abort ss)
    -- each abort accepted, and every entry and group is as the model has it.
    pub aborted : (ss : List ℕ) → Unfinished t ss → (ks : List Turn) (y : X) → calls_of ks ≡ map abort ss → Run x ks y
        → Accepted ks × ((i : Item) → (meaning y).db i ≡ get (committed_db t) i)

  -- ---- what a store owes

  -- A sound state that agrees with what was told.
  pub record Knows (t : Told) (x : X) : Type 0 where
    pub sound : Sound x
    pub hand_told : (p : ℕ) → hand x p ≡ t.hands p
    pub begun_told : (s : ℕ) → (meaning x).begun s ≡ t.unfinished s
    pub asked_told : (s : ℕ) → marked x s ≡ t.asked s

  -- The history that was told is one of this store's.
  abbrev pub Serial : Told → X → Type 0
  Serial t x = Inv store empty t.past (view (meaning x))

  -- An accepted format.
  pub record Anew (t : Told) (y : X) : Type 0 where
    pub nothing_told : t.past ≡ none_yet store
    pub as_new : Formatted (meaning y)

  module _ (T : Table) where
    -- One call is some events of the lock machine, with the history that was told.
    pub record Moves (t t' : Told) (x y : X) : Type 0 where
      pub events : List (Event store)
      pub moved : Acts T (meaning x) events (meaning y)
      pub as_told : t'.past ≡ hist store t.past events

    pub record Laws : Type 0 where
      -- Each call returns.
      pub returns : (c : Call) (x : X) → Sound x → (a : Answer) × (l : List ℕ) × (y : X) × Does x (record { call = c; answer = a; list = l }) y
      pub knows : (k : Turn) (x y : X) (t : Told) → Does x k y → Knows t x → Knows (tell k t) y
      pub moves : (k : Turn) (x y : X) (t : Told) → Does x k y → Knows t x → Moves t (tell k t) x y ⊎ Anew (tell k t) y
      -- The abort of a begun session is accepted.
      pub abort_ok : (s : ℕ) (k : Turn) (x y : X) → k.call ≡ abort s → Does x k y → Sound x → (meaning x).begun s ≡ true → k.answer ≡ ok
      -- The commit of a session that is asked is accepted.
      pub commit_ok : (s : ℕ) (k : Turn) (x y : X) → k.call ≡ commit s → Does x k y → Sound x → marked x s ≡ true → k.answer ≡ ok

    -- ---- the theorem

    module _ (strict : Strict T) (𝓛 : Laws) where
      -- Every list of calls can be made, from every sound state of which something is known.
      pub calls-made : (cs : List Call) (t : Told) (x : X) → Knows t x → Made x cs
      calls-made [] t x w = record { turns = []; last = x; run = stop; as_called = refl }
      calls-made (c ∷ cs) t x w =
          let o = 𝓛.returns c x w.sound in
          let k : Turn = record { call = c; answer = o.0; list = o.1 } in
          let m = calls-made cs (tell k t) o.2 (𝓛.knows k x o.2 t o.3 w) in
          record { turns = k ∷ m.turns; last = m.last; run = next o.3 m.run; as_called = ap (λ z. c ∷ z) m.as_called }

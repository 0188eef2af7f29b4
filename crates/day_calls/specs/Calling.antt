-- What a day call promises: it is one ordinary put or step, with its answer renamed, or a refusal that changes nothing.
use Rattle.std.specs.Prelude.{◌≡◌, Bool, cond, not, ◌&&◌, ◌||◌, List, [], ◌∷◌, ℕ, ◌+◌, ◌*◌, ◌%◌, eqb, leb, ltb, length}
use Rattle.card_days.specs.declared.DayRequest.{DayRequest}
use Rattle.card_days.specs.Day.{words, proper, stretches, request_at}
use Rattle.sessions.specs.declared.Session.{Session}
use Rattle.sessions.specs.Sessions.{session_at}
use Rattle.serial.specs.Calls as C
use Rattle.machine.specs.Calls.{no_party}
use Rattle.meaning.specs.Reading.{M-of}
use Rattle.meaning.specs.Sound.{Sound}
use Rattle.refusals.specs.Refusing.{first_of, is_begun_in, asked_in, hand_in}
use Rattle.promises.specs.Ways.{Serves}
use Rattle.outcomes.specs.declared.DayAnswer.{DayAnswer}
use Rattle.outcomes.specs.declared.DayAnswer.TheVariants.{Ok, More, Wait, Done, Refused}

-- What is handed in beside store, table and party: the day, and the place that the call before returned, 0 for the first.
pub record Handed : Type 0 where
  pub bytes : List ℕ
  pub driver : ℕ
  pub start : ℕ
  pub entry : ℕ
  pub place : ℕ

abbrev pub handed : List ℕ → ℕ → ℕ → ℕ → ℕ → Handed
handed bytes driver start entry place = record { bytes = bytes; driver = driver; start = start; entry = entry; place = place }

abbrev pub day_count : Handed → ℕ
day_count h = length (stretches (words h.bytes))

-- The request that the place names.
abbrev pub named : Handed → DayRequest
named h = request_at h.bytes h.driver h.start h.entry h.place

-- ---- refusals

-- Another request is in hand than this one.
unfoldable pub other_in_hand : Session → DayRequest → Bool
other_in_hand x r = not (eqb x.stage 0) && not (eqb x.code r.code && (eqb x.entry r.entry && eqb x.first r.first))

unfoldable pub bad_day : Session → Handed → Bool
bad_day x h = not (proper (words h.bytes)) || (leb (2 * day_count h) h.place || other_in_hand x (named h))

-- The last two: an entry or a key out of range; m entries, n stretches.
abbrev pub number_list : ℕ → ℕ → ℕ → ℕ → ℕ → List (ℕ × Bool)
number_list m n driver start entry = (8, eqb entry 0 || ltb (m + 1) (entry + n)) ∷ (9, eqb driver 0 || (ltb 4094 driver || ltb 1047136 start)) ∷ []

-- After 1 and 2, in order.
abbrev pub day_list : ℕ → List Session → ℕ → Handed → List (ℕ × Bool)
day_list m t p h =
    (4, no_party p) ∷ (5, not (is_begun_in t p)) ∷ (21, asked_in t p) ∷ (6, eqb p 0) ∷ (13, eqb (length h.bytes % 2) 1) ∷ (14, bad_day (session_at t p) h)
    ∷ number_list m (day_count h) h.driver h.start h.entry

-- The number of the first that holds, 0 for none.
abbrev pub day_refusal : List ℕ → List Session → ℕ → Handed → ℕ
day_refusal s t p h = first_of (day_list (M-of s) t p h)

-- ---- the ordinary call

-- With none in hand the put of the request named, else a step, which is lent no list.
abbrev pub ordinary : List Session → ℕ → Handed → C.Call
ordinary t p h = cond (hand_in t p) (C.step p []) (C.put p (named h).code (named h).entry (named h).first 0)

-- Its answer, renamed: more for done until the last, which has the number of stretches. The place is the next request's after done.
abbrev pub renamed : ℕ → ℕ → C.Answer → DayAnswer
renamed n j C.ok = Ok j
renamed n j C.more = More j
renamed n j (C.wait q) = Wait q j
renamed n j (C.done ns) = cond (ltb (j + 1) (2 * n)) (More (j + 1)) (Done n (j + 1))
renamed n j (C.refused i k) = Refused i k

-- ---- the promise

-- A refusal: nothing is changed.
pub record Refuses (n : ℕ) (s : List ℕ) (t : List Session) (a : DayAnswer) (s' : List ℕ) (t' : List Session) : Type 0 where
  pub answer : a ≡ Refused n 0
  pub store_same : s' ≡ s
  pub table_same : t' ≡ t

-- An ordinary call with its answer renamed, at place j of n stretches.
pub record Renames (c : C.Call) (n j : ℕ) (s : List ℕ) (t : List Session) (a : DayAnswer) (s' : List ℕ) (t' : List Session) : Type 0 where
  pub inner : C.Answer
  pub serves : Serves c s t inner [] s' t'
  pub answer : a ≡ renamed n j inner

-- On sound words.
pub record DayServes (p : ℕ) (h : Handed) (s : List ℕ) (t : List Session) (a : DayAnswer) (s' : List ℕ) (t' : List Session) : Type 0 where
  pub refuses : ¬ (day_refusal s t p h ≡ 0) → Refuses (day_refusal s t p h) s t a s' t'
  pub accepts : day_refusal s t p h ≡ 0 → Renames (ordinary t p h) (day_count h) h.place s t a s' t'

-- Refused 2 exactly if store or table is not sound.
pub record Days (p : ℕ) (h : Handed) (s : List ℕ) (t : List Session) (a : DayAnswer) (s' : List ℕ) (t' : List Session) : Type 0 where
  pub answers : Sound s t → DayServes p h s t a s' t'
  pub unsound : ¬ Sound s t → Refuses 2 s t a s' t'

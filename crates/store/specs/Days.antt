-- What a day call promises over a lent table: a table that is not of 17 records is refused, and nothing is changed; else what the day call by value promises,
-- which changes no session record but its party's. And how far its places go.
use Rattle.std.specs.Prelude.{◌≡◌, Bool, true, false, cond, List, [], ℕ, ◌≤◌, length}
use Rattle.std.proofs.Common.{sym, ap, subst, arith}
use Rattle.std.proofs.Math.Decide.{ℕ_discrete}
use Rattle.sessions.specs.declared.Session.{Session}
use Rattle.sessions.specs.Sessions.{parties, session_at}
use Rattle.serial.specs.Calls as C
use Rattle.outcomes.specs.declared.DayAnswer.{DayAnswer}
use Rattle.outcomes.specs.declared.DayAnswer.TheVariants.{Refused}
use Rattle.outcomes.specs.Said.{day_place}
use Rattle.meaning.specs.Sound.{Sound}
use Rattle.refusals.specs.Refusing.{hand_in}
use Rattle.soundness.specs.Parts.{Table}
use Rattle.promises.specs.Relations.{Others, Calls}
use Rattle.promises.specs.Ways.{Serves}
use Rattle.day_calls.specs.Calling.{Handed, handed, named, day_refusal, ordinary, Days}
use Rattle.day_calls.specs.Places.{day-few-place}
use Rattle.seats.specs.declared.Seat.{Seat}
use Rattle.store.specs.declared.DayAsk.{DayAsk}
use Rattle.store.specs.OneRecord.{seated, Apart, one_set}

-- What a day call does: store and table as they were, the bytes, the argument, the answer, store and table as they are left.
abbrev pub DayEffect : Type 1
DayEffect = List ℕ → List Session → List ℕ → DayAsk → DayAnswer → List ℕ → List Session → Type 0

-- What is handed in.
abbrev pub handed_by : List ℕ → DayAsk → Handed
handed_by bytes k = handed bytes k.driver k.start k.entry k.place

abbrev pub DayBy : DayEffect
DayBy s t bytes k a s' t' = Days k.party (handed_by bytes k) s t a s' t'

-- Over a table of any length.
abbrev pub DayOnTable : DayEffect → DayEffect
DayOnTable E s t bytes k a s' t' = (length t ≡ parties → E s t bytes k a s' t') × (¬ (length t ≡ parties) → (a ≡ Refused 1 0) × (s' ≡ s) × (t' ≡ t))

-- ---- one record

-- The ordinary call that it is: a call of its party.
others_apart : (t u : List Session) (p : ℕ) (h : Handed) → Others (ordinary t p h) t u → Apart p t u
others_apart t u p h = go (hand_in t p)
  where
    go : (b : Bool) → Others (cond b (C.step p []) (C.put p (named h).code (named h).entry (named h).first 0)) t u → Apart p t u
    go true o = o
    go false o = o

sound-apart : (p : ℕ) (h : Handed) (s : List ℕ) (t : List Session) (a : DayAnswer) (s' : List ℕ) (u : List Session) → Days p h s t a s' u → Sound s t → Sound s' u × Apart p t u
sound-apart p h s t a s' u d S = go (ℕ_discrete (day_refusal s t p h) 0)
  where
    go : Dec (day_refusal s t p h ≡ 0) → Sound s' u × Apart p t u
    go (yes z) = let A = ((d.answers S).accepts z).serves.0 in (A.sound, others_apart t u p h A.others)
    go (no n) =
        let R = (d.answers S).refuses n in
        (subst (λ (v : List Session). Sound s' v) (sym R.table_same) (subst (λ (w : List ℕ). Sound w t) (sym R.store_same) S), λ q z. ap (λ (v : List Session). session_at v q) R.table_same)

-- A day call keeps its promise where only its party's record is stored back.
pub day-kept : (k : DayAsk) (s : List ℕ) (t : List Session) (bytes : List ℕ) (a : DayAnswer) (s' : List ℕ) (u : List Session) (r : Seat DayAnswer) → Table t
    → r ≡ record { party = k.party; session = session_at u k.party; answer = a } → DayBy s t bytes k a s' u → DayBy s t bytes k r.answer s' (seated t r)
day-kept k s t bytes a s' u r T e d =
    subst (λ (r : Seat DayAnswer). DayBy s t bytes k r.answer s' (seated t r)) (sym e)
    (subst (λ (v : List Session). DayBy s t bytes k a s' v) (sym (one_set k.party s t s' u T (sound-apart k.party (handed_by bytes k) s t a s' u d) (λ n. (d.unsound n).table_same))) d)

-- ---- how far places go

-- A place crosses to C in 16 bits.
pub places-few : (s : List ℕ) (t : List Session) (bytes : List ℕ) (k : DayAsk) (a : DayAnswer) (s' : List ℕ) (t' : List Session) → DayOnTable DayBy s t bytes k a s' t' → day_place a ≤ 2880
places-few s t bytes k a s' t' d = go (ℕ_discrete (length t) parties)
  where
    go : Dec (length t ≡ parties) → day_place a ≤ 2880
    go (yes n) = day-few-place k.party (handed_by bytes k) s t a s' t' (d.0 n)
    go (no z) = omega (arith, ap day_place (d.1 z).0)

-- ---- the ordinary call

-- What serves on sound words is a call.
pub served-calls : (c : C.Call) (s : List ℕ) (t : List Session) (a : C.Answer) (l s' : List ℕ) (t' : List Session) → Sound s t → Serves c s t a l s' t' → Calls c s t a l s' t'
served-calls c s t a l s' t' S v = record { answers = λ _. v; refuses = λ n. absurd (n S) }

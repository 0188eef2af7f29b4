-- A small machine for the laws of Calls in which sessions work side by side under interval locks: it shows that the laws can be met, and that the
-- theorem is not empty. Its state is what is stored, who has begun, the long locks, the undo logs, the requests in hand and who is asked. Every step is the last
-- of its request. It has no words, no records and no descriptors: refusals 1, 2, 8, 9, 10 and 11 do not arise, and a tidy finds nothing.
use Rattle.std.specs.Prelude.{◌≡◌, refl, Bool, true, false, cond, not, ◌&&◌, List, [], ◌∷◌, ◌++◌, ℕ, zero, suc, ◌≤◌, min, max, eqb, leb, length, drop}
use Rattle.std.proofs.Math.Option.{Option, none, some}
use Rattle.std.proofs.Math.Decide.{ℕ_discrete, dec_le, dec_lt}
use Rattle.std.proofs.Common.{arith}
use Rattle.serial.specs.Serial.{pick, put, Log}
use Rattle.serial.specs.Model.{both, Db, empty, Req, read, write, insert, remove, locate, Ans, ans, eff, request_of, Item, value, cell, get}
use Rattle.serial.specs.Footprints.{Good, store}
use Rattle.serial.specs.Locks.{Kind, entry, group, Mode, weak, strong, lock_rule, Holds, Agree, undo_of}
use Rattle.serial.specs.LockMachine.{Store}
use Rattle.serial.specs.Calls.{Call, format, begin, commit, abort, ask, recover, step, Answer, ok, wait, done, refused, Turn, Asked, Machine, number_of}
use Rattle.serial.specs.Calls as C
use Rattle.serial.specs.Recovery.{each}

-- ---- long locks

-- What a lock is on: the entries, or the groups of the keys, from lo to hi, both included, in a mode.
pub record Span : Type 0 where
  pub kind : Kind
  pub mode : Mode
  pub lo : ℕ
  pub hi : ℕ

-- A lock: whose it is, and on what.
pub record Lock : Type 0 where
  pub holder : ℕ
  pub span : Span

unfoldable pub kind? : (a b : Kind) → Dec (a ≡ b)
kind? entry entry = yes refl
kind? entry group = no (λ e. let z : ◌≡◌ {A = ℕ} 0 1 = cc in omega arith)
kind? group entry = no (λ e. let z : ◌≡◌ {A = ℕ} 0 1 = cc in omega arith)
kind? group group = yes refl

unfoldable pub mode? : (a b : Mode) → Dec (a ≡ b)
mode? weak weak = yes refl
mode? weak strong = no (λ e. let z : ◌≡◌ {A = ℕ} 0 1 = cc in omega arith)
mode? strong weak = no (λ e. let z : ◌≡◌ {A = ℕ} 0 1 = cc in omega arith)
mode? strong strong = yes refl

-- The lock is this session's, of this kind and mode, and on x.
abbrev pub Covers : Lock → Kind → Mode → ℕ → ℕ → Type 0
Covers l k m s x = ((l.span.kind ≡ k) × (l.span.mode ≡ m)) × ((l.holder ≡ s) × ((l.span.lo ≤ x) × (x ≤ l.span.hi)))

abbrev pub covers? : (l : Lock) (k : Kind) (m : Mode) (s x : ℕ) → Dec (Covers l k m s x)
covers? l k m s x = both (both (kind? l.span.kind k) (mode? l.span.mode m))
    (both (ℕ_discrete l.holder s) (both (dec_le l.span.lo x) (dec_le x l.span.hi)))

abbrev pub holds : List Lock → Holds
holds [] k m s x = false
holds (l ∷ ls) k m s x = pick (covers? l k m s x) true (holds ls k m s x)

-- Some entry or key lies in both.
abbrev pub meet? : (v w : Span) → Dec (max v.lo w.lo ≤ min v.hi w.hi)
meet? v w = dec_le (max v.lo w.lo) (min v.hi w.hi)

-- The lock is another session's, of the kind asked for, meets what is asked for, and does not agree with it.
abbrev pub conflicts : Lock → ℕ → Span → Bool
conflicts h s w = pick (ℕ_discrete h.holder s) false
    (pick (kind? h.span.kind w.kind) (pick (meet? h.span w) (not (lock_rule w.kind h.span.mode w.mode)) false) false)

-- The holder of the first lock in the way.
abbrev pub blocker : ℕ → Span → List Lock → Option ℕ
blocker s w [] = none
blocker s w (h ∷ hs) = cond (conflicts h s w) (some h.holder) (blocker s w hs)

abbrev pub or_else : Option ℕ → Option ℕ → Option ℕ
or_else (some h) o = some h
or_else none o = o

-- Of the first of several asked for together.
abbrev pub blocked : ℕ → List Span → List Lock → Option ℕ
blocked s [] ls = none
blocked s (w ∷ ws) ls = or_else (blocker s w ls) (blocked s ws ls)

abbrev pub lock : ℕ → Span → Lock
lock s w = record { holder = s; span = w }

abbrev pub taken : ℕ → List Span → List Lock → List Lock
taken s [] ls = ls
taken s (w ∷ ws) ls = lock s w ∷ taken s ws ls

-- The locks without those of a session.
abbrev pub released : ℕ → List Lock → List Lock
released s [] = []
released s (l ∷ ls) = pick (ℕ_discrete l.holder s) (released s ls) (l ∷ released s ls)

abbrev pub on : Kind → Mode → ℕ → ℕ → Span
on k m lo hi = record { kind = k; mode = m; lo = lo; hi = hi }

-- The locks that a request asks for.
abbrev pub wanted : Req → List Span
wanted (read e) = on entry weak e e ∷ []
wanted (write e v) = on entry strong e e ∷ []
wanted (insert e k) = on group strong k k ∷ (on entry strong e e ∷ [])
wanted (remove e k) = on group strong k k ∷ (on entry strong e e ∷ [])
wanted (locate lo hi) = on group weak lo hi ∷ []

-- ---- the undo log (document 01: take-back) on a database

-- One item set: a value, or a membership there (1) or not (0).
abbrev pub put_back : Item → ℕ → Db → Db
put_back (value e) v d = eff (write e v) d
put_back (cell k e) zero d = eff (remove e k) d
put_back (cell k e) (suc n) d = eff (insert e k) d

-- Newest first.
abbrev pub undone : Log store → Db → Db
undone [] d = d
undone (u ∷ l) d = undone l (put_back u.0 u.1 d)

-- ---- states and calls

pub record State : Type 0 where
  pub now : Db
  pub begun : ℕ → Bool
  pub locks : List Lock
  pub log : ℕ → Log store
  pub hands : ℕ → Option Asked
  pub asked : ℕ → Bool

abbrev pub meaning : State → Store
meaning x = record { db = get x.now; begun = x.begun; holds = holds x.locks; log = x.log }

abbrev pub blank : State
blank = record { now = empty; begun = λ s. false; locks = []; log = λ s. []; hands = λ p. none; asked = λ s. false }

-- What an accepted begin leaves; a request taken in hand, or ended; the locks of a request; a request done; a commit or an abort.
abbrev pub opened : ℕ → State → State
opened s x = record { now = x.now; begun = put x.begun s true; locks = x.locks; log = x.log; hands = put x.hands s none; asked = x.asked }

abbrev pub handed : ℕ → Option Asked → State → State
handed p a x = record { now = x.now; begun = x.begun; locks = x.locks; log = x.log; hands = put x.hands p a; asked = x.asked }

abbrev pub locked : ℕ → Req → State → State
locked s r x = record { now = x.now; begun = x.begun; locks = taken s (wanted r) x.locks; log = x.log; hands = x.hands; asked = x.asked }

abbrev pub served : ℕ → Req → State → State
served s r x = record {
  now = eff r x.now;
  begun = x.begun;
  locks = taken s (wanted r) x.locks;
  log = put x.log s (undo_of r x.now ++ x.log s);
  hands = put x.hands s none;
  asked = x.asked;
}

abbrev pub ended : ℕ → Db → State → State
ended s d x = record { now = d; begun = put x.begun s false; locks = released s x.locks; log = put x.log s []; hands = put x.hands s none; asked = put x.asked s false }

-- What an accepted ask leaves; and a recover, which ends every request and aborts each begun session that is not asked.
abbrev pub fixed : ℕ → State → State
fixed s x = record { now = x.now; begun = x.begun; locks = x.locks; log = x.log; hands = x.hands; asked = put x.asked s true }

abbrev pub lapse : ℕ → State → State
lapse s x = cond (x.begun s && not (x.asked s)) (ended s (undone (x.log s) x.now) x) x

abbrev pub dropped : State → State
dropped x = record { now = x.now; begun = x.begun; locks = x.locks; log = x.log; hands = λ p. none; asked = x.asked }

-- The answer, the list when the call returns, and the state that it leaves.
abbrev pub Result : Type 0
Result = Answer × List ℕ × State

abbrev pub session : ℕ → Bool
session s = leb 1 s && leb s 16

-- The housekeeper always counts as begun.
abbrev pub active : State → ℕ → Bool
active x zero = true
active x (suc k) = x.begun (suc k)

abbrev pub empty_hand : Option Asked → Bool
empty_hand none = true
empty_hand (some a) = false

-- The codes that a party may put: 6 the housekeeper, 1 to 5 a session.
abbrev pub allowed : ℕ → ℕ → Bool
allowed zero code = eqb code 6
allowed (suc k) code = leb 1 code && leb code 5

-- What each call checks, in turn, with the refusal where it fails.
abbrev pub Check : Type 0
Check = Bool × ℕ

abbrev pub checks : Call → State → List Check
checks (format m) x = (leb 1 m && leb m 1024, 3) ∷ []
checks (begin s) x = (session s, 4) ∷ ((not (x.begun s), 5) ∷ [])
checks (C.put p code e f g) x = (leb p 16, 4) ∷ ((active x p, 5) ∷ ((not (x.asked p), 21) ∷ ((empty_hand (x.hands p), 7) ∷ ((allowed p code, 6) ∷ []))))
checks (step p l) x = (leb p 16, 4) ∷ ((active x p, 5) ∷ [])
checks (commit s) x = (session s, 4) ∷ ((x.begun s, 5) ∷ ((empty_hand (x.hands s), 7) ∷ []))
checks (abort s) x = (session s, 4) ∷ ((x.begun s, 5) ∷ [])
checks (ask s) x = (session s, 4) ∷ ((x.begun s, 5) ∷ ((not (x.asked s), 21) ∷ ((empty_hand (x.hands s), 7) ∷ [])))
checks recover x = []

abbrev pub first_failed : List Check → Option ℕ
first_failed [] = none
first_failed (c ∷ cs) = cond c.0 (first_failed cs) (some c.1)

-- The list that a call is lent.
abbrev pub lent : Call → List ℕ
lent (format m) = []
lent (begin s) = []
lent (C.put p code e f g) = []
lent (step p l) = l
lent (commit s) = []
lent (abort s) = []
lent (ask s) = []
lent recover = []

-- A locate's words at the start of the list, whose later words stay.
abbrev pub written : Ans → List ℕ → List ℕ
written a l = a.words ++ drop (length a.words) l

-- A locate's words are twice its count.
abbrev pub short : Ans → List ℕ → Bool
short a l = pick (dec_lt (length l) (length a.words)) true false

-- The request ends: refused with its count, or done under its locks.
abbrev pub serve : ℕ → List ℕ → State → Req → Bool → Result
serve s l x r true = (refused 12 (number_of (ans r x.now).numbers), l, handed s none x)
serve s l x r false = (done (ans r x.now).numbers, written (ans r x.now) l, served s r x)

-- It waits for the holder of a lock in the way.
abbrev pub try : ℕ → List ℕ → State → Req → Option ℕ → Result
try s l x r (some h) = (wait h, l, x)
try s l x r none = serve s l x r (short (ans r x.now) l)

-- The first clause is never met: a session's request in hand has a code from 1 to 5.
abbrev pub serve_asked : ℕ → List ℕ → State → Option Req → Result
serve_asked s l x none = (done (0 ∷ (0 ∷ [])), l, handed s none x)
serve_asked s l x (some r) = try s l x r (blocked s (wanted r) x.locks)

-- The housekeeper's tidy answers 0 and 0.
abbrev pub step_on : ℕ → List ℕ → State → Option Asked → Result
step_on p l x none = (refused 7 0, l, x)
step_on zero l x (some a) = (done (0 ∷ (0 ∷ [])), l, handed zero none x)
step_on (suc k) l x (some a) = serve_asked (suc k) l x (request_of a.code a.entry a.first a.second)

abbrev pub accepted : Call → State → Result
accepted (format m) x = (ok, [], blank)
accepted (begin s) x = (ok, [], opened s x)
accepted (C.put p code e f g) x = (ok, [], handed p (some (record { code = code; entry = e; first = f; second = g })) x)
accepted (step p l) x = step_on p l x (x.hands p)
accepted (commit s) x = (ok, [], ended s x.now x)
accepted (abort s) x = (ok, [], ended s (undone (x.log s) x.now) x)
accepted (ask s) x = (ok, [], fixed s x)
accepted recover x = (ok, [], each lapse 16 1 (dropped x))

abbrev pub unless : Option ℕ → Call → State → Result
unless (some n) c x = (refused n 0, lent c, x)
unless none c x = accepted c x

abbrev pub call : Call → State → Result
call c x = unless (first_failed (checks c x)) c x

-- A membership is put back as 0 or 1.
abbrev pub Bit : Item → ℕ → Type 0
Bit (value e) v = Unit {0}
Bit (cell k e) v = v ≤ 1

abbrev pub Bits : Log store → Type 0
Bits [] = Unit {0}
Bits (u ∷ l) = Bit u.0 u.1 × Bits l

-- What the laws need of a state: the memberships rise, only sessions have begun, the locks agree, the logs can be undone, and who may be asked.
pub record Sound (x : State) : Type 0 where
  pub good : Good x.now
  pub sessions : (s : ℕ) → x.begun s ≡ true → session s ≡ true
  pub agree : Agree lock_rule (holds x.locks)
  pub bits : (s : ℕ) → Bits (x.log s)
  -- Only a begun session with no request in hand is asked.
  pub only_asked : (s : ℕ) → x.asked s ≡ true → (x.begun s ≡ true) × (x.hands s ≡ none)

abbrev pub Does : State → Turn → State → Type 0
Does x k y = ◌≡◌ {A = Result} (k.answer, k.list, y) (call k.call x)

abbrev pub example : Machine
example = record { X = State; Sound = Sound; meaning = meaning; hand = λ x. x.hands; marked = λ x. x.asked; Does = Does }

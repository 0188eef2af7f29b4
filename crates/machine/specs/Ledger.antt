-- Demand 2, long locks: a ledger that knows entries and keys, and neither descriptors nor gaps. Each call adds to it what it grants, and only a
-- session's end, or format, takes from it. That the holders read from a sound state are the ledger's, at every entry and every key, is in Held.
use Rattle.std.specs.Prelude.{Bool, true, false, cond, not, ◌&&◌, ◌||◌, List, [], ◌∷◌, map, suc, ℕ, leb, ltb, eqb}
use Rattle.serial.specs.Locks.{Kind, Mode, weak, strong}
use Rattle.serial.specs.Locks as L
use Rattle.machine.specs.State.{Stage, start, enter, change, take, Request, State, Answer, more, wait, done, refused, Outcome, top, session_of, stored, ok, at}
use Rattle.machine.specs.Calls.{Call, format, begin, put, step, commit, abort, ask, recover, call}
use Rattle.machine.specs.Sound.{of_hand}

-- By kind and mode of lock, session, and entry or key.
abbrev pub Ledger : Type 0
Ledger = Kind → Mode → ℕ → ℕ → Bool

abbrev pub no_locks : Ledger
no_locks k m q z = false

abbrev pub same_kind : Kind → Kind → Bool
same_kind L.entry L.entry = true
same_kind L.entry L.group = false
same_kind L.group L.entry = false
same_kind L.group L.group = true

abbrev pub same_mode : Mode → Mode → Bool
same_mode weak weak = true
same_mode weak strong = false
same_mode strong weak = false
same_mode strong strong = true

-- The locks of session p, of one kind and mode, on all from lo to below hi; on z alone.
abbrev pub lock : Kind → Mode → ℕ → ℕ → ℕ → Ledger
lock kind mode p lo hi k m q z = same_kind kind k && (same_mode mode m && (eqb p q && (leb lo z && ltb z hi)))

abbrev pub lock_one : Kind → Mode → ℕ → ℕ → Ledger
lock_one kind mode p z = lock kind mode p z (suc z)

-- The stored keys, rising; the lowest of them from x on, or the upper infinity, if there is none.
unfoldable pub keys : State → List ℕ
keys s = map (λ d. d.key) (stored s)

unfoldable pub key_from : ℕ → List ℕ → ℕ
key_from x [] = top
key_from x (k ∷ ks) = cond (leb x k) k (key_from x ks)

-- What is granted by a step that is done, and by one that goes on; any other grants nothing.
abbrev pub upon : Answer → Ledger → Ledger → Ledger
upon ok d g = no_locks
upon more d g = g
upon (wait ps) d g = no_locks
upon (done ns) d g = d
upon (refused n b) d g = no_locks

-- What a step of session p grants, by its request in hand, the stored keys, its stage and its answer.
unfoldable pub step_grants : ℕ → Request → List ℕ → Stage → Answer → Ledger
-- A read that is done: share. A write that is done, and the first step of an insert or remove: exclusive.
step_grants p r ks start a =
    upon a (cond (eqb r.code 1) (lock_one L.entry weak p r.entry) (cond (eqb r.code 2) (lock_one L.entry strong p r.entry) no_locks))
    (cond (eqb r.code 3 || eqb r.code 4) (lock_one L.entry strong p r.entry) no_locks)
-- A descent: nothing.
step_grants p r ks (enter x) a = no_locks
step_grants p r ks (at x) a = no_locks
-- The change of an insert or remove: update on its key.
step_grants p r ks change a = upon a (lock_one L.group strong p r.first) no_locks
-- A locate takes the lowest stored key from x on: locate on it and on every key to below the next stored one. The step at second, which is done: on second alone.
step_grants p r ks (take x) a = let k = key_from x ks in upon a (lock_one L.group weak p r.second) (lock L.group weak p k (key_from (suc k) ks))

-- Only steps grant.
abbrev pub granted : State → Call → Outcome → Ledger
granted s (format m words) o = no_locks
granted s (begin p) o = no_locks
granted s (put p c e f g) o = no_locks
granted s (step p n) o = of_hand no_locks (λ r. step_grants p r (keys s) r.stage o.answer) (session_of p s).hand
granted s (commit p) o = no_locks
granted s (abort p) o = no_locks
granted s (ask p) o = no_locks
granted s recover o = no_locks

-- The call is accepted.
abbrev pub is_ok : Answer → Bool
is_ok ok = true
is_ok more = false
is_ok (wait ps) = false
is_ok (done ns) = false
is_ok (refused n b) = false

-- Whose locks end: an accepted commit's or abort's session; a recover ends those of everybody who is not asked, as b says of q; an accepted format everybody's.
abbrev pub ends_at : Call → Answer → Bool → ℕ → Bool
ends_at (format m words) a b q = is_ok a
ends_at (begin p) a b q = false
ends_at (put p c e f g) a b q = false
ends_at (step p n) a b q = false
ends_at (commit p) a b q = is_ok a && eqb p q
ends_at (abort p) a b q = is_ok a && eqb p q
ends_at (ask p) a b q = false
ends_at recover a b q = is_ok a && not b

abbrev pub ended_by : State → Call → Outcome → ℕ → Bool
ended_by s c o q = ends_at c o.answer (session_of q s).asked q

abbrev pub next_ledger : Ledger → State → Call → Outcome → Ledger
next_ledger l s c o k m q z = not (ended_by s c o q) && (l k m q z || granted s c o k m q z)

-- The ledger after a list of calls that begins in s.
unfoldable pub ledger_after : Ledger → List Call → State → Ledger
ledger_after l [] s = l
ledger_after l (c ∷ cs) s = ledger_after (next_ledger l s c (call c s)) cs (call c s).next

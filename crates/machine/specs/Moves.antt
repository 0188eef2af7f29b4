-- Every call, refused or accepted, moves the lock machine as its answer says. What is asked of a state is one record, Safe.
use Rattle.std.specs.Prelude.{◌≡◌, refl, Bool, true, false, map, zero, suc, ◌≤◌, ◌<◌, ℕ, length}
use Rattle.std.proofs.Common.{ap, arith}
use Rattle.std.proofs.Math.Option.{none, some}
use Rattle.std.proofs.Math.Dec.{eqb-suc-zero}
use Rattle.serial.specs.LockMachine.{Opened, Committed, Aborted, Unseen}
use Rattle.machine.specs.Logic.{not-false, leb_no}
use Rattle.machine.specs.Holders.{width}
use Rattle.machine.specs.State.{start, enter, Request, State, Answer, more, wait, done, refused, Outcome, top, desc_of, session_of, on_session, fresh, at, ok}
use Rattle.machine.specs.Steps.{answer}
use Rattle.machine.specs.Calls.{Call, format, begin, put, step, commit, abort, ask, recover, call, refusing, has_begun, put_checks, begin_checks, abort_checks, ask_checks, format_checks, records_for, accepted, begins, aborts, asks, recovers, end_hand, first_stage}
use Rattle.machine.specs.View.{view, same_refl, same-unseen, set-hand-same, log_entry, frame-holders, frame-items}
use Rattle.machine.specs.Table.{as_asked, session-kept}
use Rattle.machine.specs.Recover.{Recovered}
use Rattle.machine.specs.Checks.{refusing-cases, session-number, party-seat, session-begun, session-unbegun}
use Rattle.machine.specs.Entries.{Fit}
use Rattle.machine.specs.Events.{Does, unfinished, asked}
use Rattle.machine.specs.Ends.{begin-opened}
use Rattle.machine.specs.Abort.{Chain, abort-aborted}
use Rattle.machine.specs.Session.{Ready, req_of}

-- Where the housekeeper's tidy stands: its choice, if any, is stored.
pub data Tidying (s : State) : Request → Type 0 where
  nothing_above : (e f g : ℕ) → Tidying s (asked 6 e f g start)
  entering : (e f g x : ℕ) → Tidying s (asked 6 e f g (enter x))
  descending : (e f g x : ℕ) → x ≤ top → (desc_of x s).key ≡ x → Tidying s (asked 6 e f g (at x))

pub record Safe (s : State) : Type 0 where
  pub fit : Fit s
  pub ready : (m : ℕ) (r : Request) → (session_of (suc m) s).begun ≡ true → suc m ≤ width → (session_of (suc m) s).hand ≡ some r → Ready (suc m) s r
  pub tidying : (r : Request) → (session_of 0 s).hand ≡ some r → Tidying s r
  pub chains : (m : ℕ) → (session_of (suc m) s).begun ≡ true → Chain (session_of (suc m) s).undos (end_hand (suc m) (session_of (suc m) s).hand s)
  pub recovery : Recovered s (recovers s)
  pub seats : (m : ℕ) → suc m ≤ width → suc m < length (end_hand (suc m) (session_of (suc m) s).hand s).table

-- An answer that tells nothing to the history of sessions and finished requests.
abbrev pub halted : Answer → Bool
halted ok = false
halted more = true
halted (wait ps) = true
halted (done ns) = false
halted (refused n b) = true

abbrev pub silent : Call → Answer → Bool
silent (format m words) a = halted a
silent (begin p) a = halted a
silent (put p c e f g) a = unfinished a
silent (step p n) a = unfinished a
silent (commit p) a = halted a
silent (abort p) a = halted a
silent (ask p) a = unfinished a
silent recover a = halted a

-- What a call did, as the lock machine sees it.
pub data Moves (s : State) (o : Outcome) : Call → Type 0 where
  -- Refused, waiting, put, a step of a descent or of a tidy: nothing is seen.
  quiet : (c : Call) → silent c o.answer ≡ true → Unseen (view s) (view o.next) → Moves s o c
  tidied : (n : ℕ) → Unseen (view s) (view o.next) → Moves s o (step 0 n)
  began : (p : ℕ) → o.answer ≡ ok → Opened p (view s) (view o.next) → Moves s o (begin p)
  committed : (p : ℕ) → o.answer ≡ ok → Committed p (view s) (view o.next) → Moves s o (commit p)
  aborted : (p : ℕ) → o.answer ≡ ok → Aborted p (view s) (view o.next) → Moves s o (abort p)
  -- The events of a recover are an abort of each session that it aborts.
  recovered : o.answer ≡ ok → Recovered s o.next → Moves s o recover
  -- A session's step: see Does.
  stepped : (m n : ℕ) (r : Request) → (session_of (suc m) s).hand ≡ some r → Does (suc m) (req_of r) s o → Moves s o (step (suc m) n)
  formatted : (m words : ℕ) → o.answer ≡ ok → o.next ≡ fresh m (records_for m words) → Moves s o (format m words)

-- ---- refusals

pub refused-quiet : (c : Call) (s : State) (n : ℕ) → Moves s (answer (refused n 0) s) c
refused-quiet c s n = quiet c (told c) (same-unseen s s (same_refl s))
  where
    told : (d : Call) → silent d (refused n 0) ≡ true
    told (format m words) = refl
    told (begin p) = refl
    told (put p e f g h) = refl
    told (step p m) = refl
    told (commit p) = refl
    told (abort p) = refl
    told (ask p) = refl
    told recover = refl

-- ---- the calls

pub begin-moves : (p : ℕ) (s : State) → Safe s → Moves s (call (begin p) s) (begin p)
unfolding call
begin-moves p s S = refusing-cases (λ o. Moves s o (begin p)) (begin_checks p s) s (answer ok (begins p s)) (refused-quiet (begin p) s)
    λ k. began p refl (begin-opened p s (party-seat p s S.fit.seats (session-number p k.0).1) (session-unbegun p s k.1.0))

pub abort-moves : (p : ℕ) (s : State) → Safe s → Moves s (call (abort p) s) (abort p)
unfolding call
abort-moves p s S = refusing-cases (λ o. Moves s o (abort p)) (abort_checks p s) s (answer ok (aborts p s)) (refused-quiet (abort p) s) λ k.
    go p (session-number p k.0) (not-false (has_begun p s) k.1.0)
  where
    go : (q : ℕ) → ¬ (q ≡ 0) × (q ≤ width) → has_begun q s ≡ true → Moves s (answer ok (aborts q s)) (abort q)
    go zero n b = absurd (n.0 refl)
    go (suc m) n b = let w = session-begun (suc m) s n.0 b in aborted (suc m) refl (abort-aborted (suc m) s (S.seats m n.1) w (S.chains m w))

-- Ask changes its mark alone.
ask-unseen : (p : ℕ) (s : State) → Unseen (view s) (view (asks p s))
unfolding asks on_session
ask-unseen p s =
    record {
      stays = λ t. record { holds_kept = λ k m z. frame-holders s (asks p s) refl refl k m t z; log_kept = ap (map log_entry) (session-kept (λ x. x.undos) p as_asked s (λ x. refl) t) };
      begun_same = session-kept (λ x. x.begun) p as_asked s (λ x. refl);
      db_kept = frame-items s (asks p s) refl refl;
    }

pub ask-moves : (p : ℕ) (s : State) → Safe s → Moves s (call (ask p) s) (ask p)
unfolding call
ask-moves p s S = refusing-cases (λ o. Moves s o (ask p)) (ask_checks p s) s (answer ok (asks p s)) (refused-quiet (ask p) s) λ k. quiet (ask p) refl (ask-unseen p s)

pub recover-moves : (s : State) → Safe s → Moves s (call recover s) recover
unfolding call
recover-moves s S = recovered refl S.recovery

-- A commit of a session that is begun and has no request in hand is accepted.
pub commit-accepted : (m : ℕ) (s : State) → suc m ≤ width → (session_of (suc m) s).begun ≡ true → (session_of (suc m) s).hand ≡ none → (call (commit (suc m)) s).answer ≡ ok
unfolding call refusing
commit-accepted m s h e f = rw (eqb-suc-zero m, leb_no (suc width) (suc m) (omega (arith, h)), e, f) refl

-- An abort of a session that is begun is accepted.
pub abort-accepted : (m : ℕ) (s : State) → suc m ≤ width → (session_of (suc m) s).begun ≡ true → (call (abort (suc m)) s).answer ≡ ok
unfolding call refusing
abort-accepted m s h e = rw (eqb-suc-zero m, leb_no (suc width) (suc m) (omega (arith, h)), e) refl

pub put-moves : (p c e f g : ℕ) (s : State) → Moves s (call (put p c e f g) s) (put p c e f g)
unfolding call accepted
put-moves p c e f g s = refusing-cases (λ o. Moves s o (put p c e f g)) (put_checks p c e f g s) s (answer ok (accepted p c e f g s)) (refused-quiet (put p c e f g) s) λ k.
    quiet (put p c e f g) refl (same-unseen s (accepted p c e f g s) (set-hand-same p (some (record { code = c; entry = e; first = f; second = g; stage = first_stage c f s })) s))

pub format-moves : (m words : ℕ) (s : State) → Moves s (call (format m words) s) (format m words)
unfolding call
format-moves m words s = refusing-cases (λ o. Moves s o (format m words)) (format_checks m words) s (answer ok (fresh m (records_for m words))) (refused-quiet (format m words) s) λ k. formatted m words refl refl

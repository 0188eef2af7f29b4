-- Demand 2, long locks: for every entry and every key, with a descriptor or without, the holders read from a sound state are the ledger's. So a locate that
-- is done keeps every key of its range held until its session ends, and no step of tidy or of a descent changes a holder.
use Rattle.std.specs.Prelude.{◌≡◌, refl, Bool, true, false, not, ◌&&◌, ◌||◌, List, [], ◌∷◌, ◌++◌, map, zero, suc, ℕ, eqb}
use Rattle.std.proofs.Common.{sym, ap₂, ◌∙◌, subst, ap}
use Rattle.std.proofs.Math.Bool.{or-false, and-true, and-false}
use Rattle.std.proofs.Math.Option.{some}
use Rattle.std.proofs.Math.Decide.{ℕ_discrete}
use Rattle.serial.specs.Serial.{true≢false, not-true}
use Rattle.serial.specs.Locks.{Kind, Mode}
use Rattle.serial.specs.LockMachine.{Unseen, Ended}
use Rattle.serial.specs.Calls.{Turn, Told, nothing, tell, told, Run, Knows}
use Rattle.serial.specs.Calls as C
use Rattle.serial.specs.Recovery.{told_ok}
use Rattle.machine.specs.Logic.{eqb_yes, eqb_no}
use Rattle.machine.specs.State.{Stage, start, enter, change, take, State, Outcome, session_of, Answer, at, wait, ok, done, refused, more}
use Rattle.machine.specs.Calls.{records_for, Call, call, begin, put, commit, abort, ask, recover, format, step}
use Rattle.machine.specs.View.{holders, view}
use Rattle.machine.specs.Sound.{of_hand, Sound}
use Rattle.machine.specs.Moves.{Moves, quiet, began, committed, aborted, recovered, formatted, halted}
use Rattle.machine.specs.Recover.{recovered-begun, recovered-stays}
use Rattle.machine.specs.Ledger.{is_ok, ends_at, ended_by, next_ledger}
use Rattle.machine.specs.Demand.{Lent, call_of, Tells, Performs, machine, fresh-formatted}

-- ---- the other calls

-- The holders after the call are the ledger's.
abbrev pub AsLedger : State → Outcome → Call → Type 0
AsLedger s o c = (k : Kind) (m : Mode) (q z : ℕ) → holders o.next k m q z ≡ next_ledger (holders s) s c o k m q z

halted-not-ok : (a : Answer) → halted a ≡ true → is_ok a ≡ false
halted-not-ok ok e = absurd (true≢false e refl)
halted-not-ok more e = refl
halted-not-ok (wait ps) e = refl
halted-not-ok (done ns) e = refl
halted-not-ok (refused n b) e = refl

-- A call that ends nobody's locks where it isn't accepted.
unseen-ledger : (s : State) (o : Outcome) (f : Bool → ℕ → Bool) → ((q : ℕ) → f false q ≡ false) → is_ok o.answer ≡ false → Unseen (view s) (view o.next)
    → (k : Kind) (m : Mode) (q z : ℕ) → holders o.next k m q z ≡ (not (f (is_ok o.answer) q) && (holders s k m q z || false))
unseen-ledger s o f e h x k m q z = (x.stays q).holds_kept k m z ∙ sym (or-false (holders s k m q z))
    ∙ sym (ap (λ b. not (f b q) && (holders s k m q z || false)) h ∙ ap (λ b. not b && (holders s k m q z || false)) (e q))

-- The end of session p.
end-ledger : (p : ℕ) (s : State) (o : Outcome) → o.answer ≡ ok → Ended p (view s) (view o.next)
    → (k : Kind) (m : Mode) (q z : ℕ) → holders o.next k m q z ≡ (not (is_ok o.answer && eqb p q) && (holders s k m q z || false))
end-ledger p s o u x k m q z = go (ℕ_discrete p q) ∙ sym (ap (λ a. not (is_ok a && eqb p q) && (holders s k m q z || false)) u)
  where
    go : Dec (p ≡ q) → holders o.next k m q z ≡ (not (eqb p q) && (holders s k m q z || false))
    go (yes e) = subst (λ t. holders o.next k m t z ≡ false) e (x.holds_off k m z) ∙ sym (ap (λ b. not b && (holders s k m q z || false)) (eqb_yes p q e))
    go (no n) = (x.others q n).holds_kept k m z ∙ sym (or-false (holders s k m q z)) ∙ sym (ap (λ b. not b && (holders s k m q z || false)) (eqb_no p q n))

pub begin-ledger : (p : ℕ) (s : State) (o : Outcome) → Moves s o (begin p) → AsLedger s o (begin p)
begin-ledger p s o (quiet c u x) k m q z = (x.stays q).holds_kept k m z ∙ sym (or-false (holders s k m q z))
begin-ledger p s o (began r u x) k m q z = (x.stays q).holds_kept k m z ∙ sym (or-false (holders s k m q z))

pub put-ledger : (p c e f g : ℕ) (s : State) (o : Outcome) → Moves s o (put p c e f g) → AsLedger s o (put p c e f g)
put-ledger p c e f g s o (quiet d u x) k m q z = (x.stays q).holds_kept k m z ∙ sym (or-false (holders s k m q z))

pub commit-ledger : (p : ℕ) (s : State) (o : Outcome) → Moves s o (commit p) → AsLedger s o (commit p)
commit-ledger p s o (quiet c u x) = unseen-ledger s o (λ b q. b && eqb p q) (λ q. refl) (halted-not-ok o.answer u) x
commit-ledger p s o (committed r u x) = end-ledger p s o u x.ended

pub abort-ledger : (p : ℕ) (s : State) (o : Outcome) → Moves s o (abort p) → AsLedger s o (abort p)
abort-ledger p s o (quiet c u x) = unseen-ledger s o (λ b q. b && eqb p q) (λ q. refl) (halted-not-ok o.answer u) x
abort-ledger p s o (aborted r u x) = end-ledger p s o u x.ended

pub ask-ledger : (p : ℕ) (s : State) (o : Outcome) → Moves s o (ask p) → AsLedger s o (ask p)
ask-ledger p s o (quiet d u x) k m q z = (x.stays q).holds_kept k m z ∙ sym (or-false (holders s k m q z))

-- Who is asked holds what he held, and nobody else anything.
pub recover-ledger : (s : State) (o : Outcome) → Sound s → Moves s o recover → AsLedger s o recover
recover-ledger s o S (quiet c u x) k m q z = (x.stays q).holds_kept k m z ∙ sym (or-false (holders s k m q z))
    ∙ sym (ap (λ b. not (b && not (session_of q s).asked) && (holders s k m q z || false)) (halted-not-ok o.answer u))
recover-ledger s o S (recovered u R) k m q z = go (session_of q s).asked refl ∙ sym (ap (λ a. not (is_ok a && not (session_of q s).asked) && (holders s k m q z || false)) u)
  where
    gone : Bool → Type 0
    gone b = holders o.next k m q z ≡ (not (not b) && (holders s k m q z || false))

    go : (b : Bool) → (session_of q s).asked ≡ b → holders o.next k m q z ≡ (not (not (session_of q s).asked) && (holders s k m q z || false))
    go true e = (recovered-stays s o.next R q e).holds_kept k m z ∙ sym (or-false (holders s k m q z)) ∙ sym (ap (λ b. not (not b) && (holders s k m q z || false)) e)
    go false e = not-true (holders o.next k m q z)
        (λ h. true≢false (R.gone.sound.only_begun k m q z h) (recovered-begun s o.next R q ∙ ap (λ b. (session_of q s).begun && b) e ∙ and-false (session_of q s).begun))
        ∙ sym (ap (λ b. not (not b) && (holders s k m q z || false)) e)

pub format-ledger : (n words : ℕ) (s : State) (o : Outcome) → Moves s o (format n words) → AsLedger s o (format n words)
format-ledger n words s o (quiet c u x) = unseen-ledger s o (λ b q. b) (λ q. refl) (halted-not-ok o.answer u) x
format-ledger n words s o (formatted r w u x) = λ k m q z.
    ap (λ t. holders t k m q z) x ∙ (fresh-formatted n (records_for n words)).no_holds k m q z ∙ sym (ap (λ a. not (is_ok a) && (holders s k m q z || false)) u)

-- The stages of a descent; a step of a descent, or of the housekeeper.
abbrev pub on_descent : Stage → Bool
on_descent start = false
on_descent (enter x) = true
on_descent (at x) = true
on_descent change = false
on_descent (take x) = false

abbrev pub unseen_step : ℕ → State → Bool
unseen_step zero s = true
unseen_step (suc m) s = of_hand false (λ r. on_descent r.stage) (session_of (suc m) s).hand

-- ---- turns

-- By what was told, call and answer alone: an accepted commit or abort of session p, a recover where p was not asked, or an accepted format.
abbrev pub turn_ends : ℕ → Told → Turn → Bool
turn_ends p t k = told_ok k.answer && ends_at (call_of k.call 0) ok (t.asked p) p

-- Session p does not end in these turns.
abbrev pub Lasts : ℕ → Told → List Turn → Type 0
Lasts p t [] = Unit {0}
Lasts p t (k ∷ ks) = (turn_ends p t k ≡ false) × Lasts p (tell k t) ks

-- By calls and answers alone: after the turns before, the turn k finishes a locate of first to second by session p.
pub record LocateDone (before : List Turn) (k : Turn) (p first second : ℕ) : Type 0 where
  pub list : List ℕ
  pub numbers : List ℕ
  pub entry : ℕ
  pub in_hand : (told nothing before).hands p ≡ some (record { code = 5; entry = entry; first = first; second = second })
  pub called : k.call ≡ C.step p list
  pub answered : k.answer ≡ C.done numbers

told_is : (a : Answer) (b : C.Answer) → Tells a b → told_ok b ≡ is_ok a
told_is ok b e = ap told_ok e
told_is more b e = ap told_ok e
told_is (wait ps) b e = ap told_ok e.2
told_is (done ns) b e = ap told_ok e
told_is (refused n i) b e = ap told_ok e

ends-ok : (c : Call) (a : Answer) (b : Bool) (p : ℕ) → ends_at c a b p ≡ (is_ok a && ends_at c ok b p)
ends-ok (format m words) a b p = sym (and-true (is_ok a))
ends-ok (begin q) a b p = sym (and-false (is_ok a))
ends-ok (put q c e f g) a b p = sym (and-false (is_ok a))
ends-ok (step q n) a b p = sym (and-false (is_ok a))
ends-ok (commit q) a b p = refl
ends-ok (abort q) a b p = refl
ends-ok (ask q) a b p = sym (and-false (is_ok a))
ends-ok recover a b p = refl

ends-any : (c : C.Call) (w p : ℕ) (b : Bool) → ends_at (call_of c w) ok b p ≡ ends_at (call_of c 0) ok b p
ends-any (C.format m) w p b = refl
ends-any (C.begin q) w p b = refl
ends-any (C.put q c e f g) w p b = refl
ends-any (C.step q l) w p b = refl
ends-any (C.commit q) w p b = refl
ends-any (C.abort q) w p b = refl
ends-any (C.ask q) w p b = refl
ends-any C.recover w p b = refl

-- The turn ends what the call ends.
pub turn_is : (k : Turn) (x y : Lent) (t : Told) (p : ℕ) → Performs x k y → Knows machine t x → ended_by x.state (call_of k.call x.words) (call (call_of k.call x.words) x.state) p ≡ turn_ends p t k
turn_is k x y t p d w =
    let a = (call (call_of k.call x.words) x.state).answer in
    ends-ok (call_of k.call x.words) a (session_of p x.state).asked p ∙ ap₂ (λ u v. u && v) (sym (told_is a k.answer d.tells))
    (ends-any k.call x.words p (session_of p x.state).asked ∙ ap (λ b. ends_at (call_of k.call 0) ok b p) (w.asked_told p))

-- A run of two lists is two runs.
pub run-cut : (ks js : List Turn) {x z : Lent} → Run machine x (ks ++ js) z → (y : Lent) × Run machine x ks y × Run machine y js z
run-cut [] js {x} {z} r = (x, C.stop, r)
run-cut (k ∷ ks) js (C.next d r) = let q = run-cut ks js r in (q.0, C.next d q.1, q.2)

-- ---- the theorem

-- The calls of a list of turns, on a store of so many words.
abbrev pub calls_on : ℕ → List Turn → List Call
calls_on n ks = map (λ k. call_of k.call n) ks

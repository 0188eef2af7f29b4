-- Theorems that rest on theorems of specs/: the rest of specs/Held.antt.
use Rattle.std.specs.Prelude.{◌≡◌, refl, true, false, not, ◌&&◌, ◌||◌, List, ◌∷◌, ◌++◌, zero, suc, ◌≤◌, ℕ, length}
use Rattle.std.proofs.Common.{sym, ap₂, ◌∙◌, subst, ap, arith}
use Rattle.std.proofs.Math.Bool.{or-false}
use Rattle.std.proofs.Math.Option.{Option, none, some, some-injective}
use Rattle.serial.specs.Serial.{true≢false}
use Rattle.serial.specs.Model.{Item}
use Rattle.serial.specs.Model as R
use Rattle.serial.specs.Locks.{Kind, Mode, weak}
use Rattle.serial.specs.Locks as L
use Rattle.serial.specs.LockMachine.{Unseen}
use Rattle.serial.specs.Calls.{Turn, Told, nothing, tell, told, Run, Knows}
use Rattle.serial.specs.Calls as C
use Rattle.machine.specs.Logic.{not-false}
use Rattle.machine.specs.Holders.{width}
use Rattle.machine.specs.State.{enter, Request, State, Outcome, session_of, fresh, at, done}
use Rattle.machine.specs.Steps.{next_step}
use Rattle.machine.specs.Calls.{steps, bad_code, is_some, step_checks, has_begun, Call, call, begin, put, commit, abort, ask, recover, format, step}
use Rattle.machine.specs.View.{items, holders, view, same_refl, same-unseen}
use Rattle.machine.specs.Sound.{of_hand, Sound}
use Rattle.machine.specs.Housekeeping.{like-unseen, enter-step-like}
use Rattle.machine.proofs.Housekeeping.{at-step-like}
use Rattle.machine.specs.Checks.{refusing-cases, party-number, session-begun}
use Rattle.machine.specs.Looks.{sound-ordered}
use Rattle.machine.specs.Fresh.{fresh-session}
use Rattle.machine.proofs.Keeping.{keeps}
use Rattle.machine.specs.Events.{Does, unseen, locks, finishes, unfinished, asked}
use Rattle.machine.specs.Session.{Ready, reads, writes, to_insert, to_remove, enters, descends, inserts, removes, takes, req_of}
use Rattle.machine.specs.Moves.{Moves, quiet, tidied, stepped}
use Rattle.machine.proofs.Moves.{moves}
use Rattle.machine.proofs.Safety.{safe-of}
use Rattle.machine.specs.Ledger.{Ledger, no_locks, keys, step_grants, granted, ended_by, next_ledger, ledger_after}
use Rattle.machine.specs.Grows.{GrowsBy, StepGrows, alike-grows, wait-grows, refused-grants}
use Rattle.machine.proofs.Grows.{ready-grows, tidy-grows}
use Rattle.machine.specs.Answers.{req-locate}
use Rattle.machine.specs.Demand.{Lent, as_put, hand_put, call_of, Tells, told-done, Performs, machine}
use Rattle.machine.proofs.Demand3.{machine-laws}
use Rattle.machine.specs.Waits.{settled-step}
use Rattle.machine.specs.Held.{begin-ledger, put-ledger, commit-ledger, abort-ledger, ask-ledger, recover-ledger, format-ledger, on_descent, unseen_step, Lasts, LocateDone, turn_is, run-cut, calls_on}

-- ---- the theorem

step-ledger : (p n : ℕ) (s : State) → Sound s → GrowsBy s (call (step p n) s).next (granted s (step p n) (call (step p n) s))
unfolding call steps
step-ledger p n s S = refusing-cases (λ o. GrowsBy s o.next (granted s (step p n) o)) (step_checks p s) s (steps p n (session_of p s).hand s)
    (λ i k m q z. sym (or-false _) ∙ ap (λ b. holders s k m q z || b) (sym (refused-grants p i 0 s (session_of p s).hand k m q z)))
    λ c. go p (party-number p c.0) (not-false (has_begun p s) c.1.0) (session_of p s).hand refl
  where
    go : (q : ℕ) → q ≤ width → has_begun q s ≡ true → (h : Option Request) → (session_of q s).hand ≡ h
        → GrowsBy s (steps q n h s).next (of_hand no_locks (λ r. step_grants q r (keys s) r.stage (steps q n h s).answer) h)
    go q le b none e = alike-grows s s (λ k m t z. refl)
    go zero le b (some r) e = settled-step (StepGrows 0 r s) n 0 r s (tidy-grows n s S r ((safe-of s S).tidying r e)) (λ c _. wait-grows 0 r s c)
    go (suc m) le b (some r) e = settled-step (StepGrows (suc m) r s) n (suc m) r s
        (ready-grows n m s S r e ((safe-of s S).ready m r (session-begun (suc m) s (λ z. omega (arith, z)) b) le e)) (λ c _. wait-grows (suc m) r s c)

-- Every call, from every sound state, at every entry and key z, whatever number that is.
pub ledger-step : (c : Call) (s : State) → Sound s → (k : Kind) (m : Mode) (q z : ℕ) → holders (call c s).next k m q z ≡ next_ledger (holders s) s c (call c s) k m q z
ledger-step (step p n) s S = step-ledger p n s S
ledger-step (format m words) s S = format-ledger m words s (call (format m words) s) (moves (format m words) s (safe-of s S))
ledger-step (begin p) s S = begin-ledger p s (call (begin p) s) (moves (begin p) s (safe-of s S))
ledger-step (put p c e f g) s S = put-ledger p c e f g s (call (put p c e f g) s) (moves (put p c e f g) s (safe-of s S))
ledger-step (commit p) s S = commit-ledger p s (call (commit p) s) (moves (commit p) s (safe-of s S))
ledger-step (abort p) s S = abort-ledger p s (call (abort p) s) (moves (abort p) s (safe-of s S))
ledger-step (ask p) s S = ask-ledger p s (call (ask p) s) (moves (ask p) s (safe-of s S))
ledger-step recover s S = recover-ledger s (call recover s) S (moves recover s (safe-of s S))

-- Any list of turns from a sound state whose holders a ledger has.
pub ledger-run : {x y : Lent} {ks : List Turn} → Run machine x ks y → Sound x.state → (l : Ledger) → ((k : Kind) (m : Mode) (q z : ℕ) → holders x.state k m q z ≡ l k m q z)
    → (k : Kind) (m : Mode) (q z : ℕ) → holders y.state k m q z ≡ ledger_after l (calls_on x.words ks) x.state k m q z
unfolding ledger_after
ledger-run C.stop S l h = h
ledger-run (C.next {x} {y} {z} {k} {ks} d r) S l h = λ e m q v.
    let c = call_of k.call x.words in
    let o = call c x.state in
    let next = next_ledger l x.state c o in
    let sound : Sound y.state = subst Sound (sym d.state_is) (keeps c x.state S) in
    let here : (e : Kind) (m : Mode) (q v : ℕ) → holders y.state e m q v ≡ next e m q v =
    λ e m q v. ap (λ s. holders s e m q v) d.state_is ∙ ledger-step c x.state S e m q v ∙ ap (λ b. not (ended_by x.state c o q) && (b || granted x.state c o e m q v)) (h e m q v) in
    ledger-run r sound next here e m q v
    ∙ ap (λ s. ledger_after next (calls_on y.words ks) s e m q v) d.state_is ∙ ap (λ n. ledger_after next (calls_on n ks) o.next e m q v) d.words_same

-- ---- tidy and descents

-- The step is the housekeeper's, or one of a descent: no value, no membership and no holder of any entry or key changes.
descent-unseen : (p n : ℕ) (s : State) → Sound s → unseen_step p s ≡ true → Unseen (view s) (view (call (step p n) s).next)
unfolding call steps next_step
descent-unseen zero n s S h = go (moves (step 0 n) s (safe-of s S))
  where
    go : Moves s (call (step 0 n) s) (step 0 n) → Unseen (view s) (view (call (step 0 n) s).next)
    go (quiet c u x) = x
    go (tidied k x) = x
descent-unseen (suc m) n s S h = refusing-cases (λ o. Unseen (view s) (view o.next)) (step_checks (suc m) s) s (steps (suc m) n (session_of (suc m) s).hand s)
    (λ i. same-unseen s s (same_refl s)) λ c. go (party-number (suc m) c.0) (session-begun (suc m) s (λ z. omega (arith, z)) (not-false (has_begun (suc m) s) c.1.0)) (session_of (suc m) s).hand refl h
  where
    at_stage : (r : Request) → Ready (suc m) s r → on_descent r.stage ≡ true → Unseen (view s) (view (next_step n (suc m) r s r.stage).next)
    at_stage r (reads i f g w) e = absurd (true≢false e refl)
    at_stage r (writes i f g w) e = absurd (true≢false e refl)
    at_stage r (to_insert i f g w) e = absurd (true≢false e refl)
    at_stage r (to_remove i f g w) e = absurd (true≢false e refl)
    at_stage r (enters c a f g x) e = like-unseen s _ (enter-step-like (suc m) (asked c a f g (enter x)) x s)
    at_stage r (descends c a f g x w) e = like-unseen s _ (at-step-like (suc m) (asked c a f g (at x)) x s (sound-ordered S) w (λ z. absurd (omega (arith, z))))
    at_stage r (inserts a f g K w) e = absurd (true≢false e refl)
    at_stage r (removes a f g K w) e = absurd (true≢false e refl)
    at_stage r (takes a f g x K q u needs) e = absurd (true≢false e refl)

    go : suc m ≤ width → (session_of (suc m) s).begun ≡ true → (v : Option Request) → (session_of (suc m) s).hand ≡ v → of_hand false (λ r. on_descent r.stage) v ≡ true
        → Unseen (view s) (view (steps (suc m) n v s).next)
    go le b none e w = absurd (true≢false w refl)
    go le b (some r) e w = settled-step (λ o. Unseen (view s) (view o.next)) n (suc m) r s (at_stage r ((safe-of s S).ready m r b le e) w) (λ c _. same-unseen s s (same_refl s))

pub descents-keep : (p n : ℕ) (s : State) → Sound s → unseen_step p s ≡ true
    → ((i : Item) → items (call (step p n) s).next i ≡ items s i) × ((k : Kind) (m : Mode) (q z : ℕ) → holders (call (step p n) s).next k m q z ≡ holders s k m q z)
descents-keep p n s S h = let x = descent-unseen p n s S h in (x.db_kept, λ k m q z. (x.stays q).holds_kept k m z)

-- ---- a locate that is done

-- What a session holds lasts until its end.
pub held-lasts : (c : Call) (s : State) → Sound s → (k : Kind) (m : Mode) (q z : ℕ) → ended_by s c (call c s) q ≡ false → holders s k m q z ≡ true → holders (call c s).next k m q z ≡ true
held-lasts c s S k m q z e h = ledger-step c s S k m q z ∙ ap₂ (λ a b. not a && (b || granted s c (call c s) k m q z)) e h

-- It holds every key of its range.
pub locate-holds : (m n : ℕ) (s : State) → Sound s → (r : Request) → (session_of (suc m) s).hand ≡ some r → r.code ≡ 5 → (ns : List ℕ) → (call (step (suc m) n) s).answer ≡ done ns
    → (z : ℕ) → r.first ≤ z → z ≤ r.second → holders (call (step (suc m) n) s).next L.group weak (suc m) z ≡ true
locate-holds m n s S r h c ns e = go (moves (step (suc m) n) s (safe-of s S))
  where
    o : Outcome
    o = call (step (suc m) n) s

    open-not : unfinished o.answer ≡ true → ⊥
    open-not u = true≢false u (ap unfinished e)

    does : Does (suc m) (R.locate r.first r.second) s o → (z : ℕ) → r.first ≤ z → z ≤ r.second → holders o.next L.group weak (suc m) z ≡ true
    does (unseen u x) = absurd (open-not u)
    does (locks u x) = absurd (open-not (ap unfinished u))
    does (finishes t a u w x f) = λ z lo hi. f.holds_same L.group weak (suc m) z ∙ f.needs z lo hi

    go : Moves s o (step (suc m) n) → (z : ℕ) → r.first ≤ z → z ≤ r.second → holders o.next L.group weak (suc m) z ≡ true
    go (quiet d u x) = absurd (open-not u)
    go (stepped k l q g d) = does (subst (λ y. Does (suc m) y s o) (ap req_of (some-injective q r (sym g ∙ h)) ∙ req-locate r c) d)

pub run-lasts : (kind : Kind) (m : Mode) (p q : ℕ) {x y : Lent} {ks : List Turn} (t : Told) → Run machine x ks y → Knows machine t x → Lasts p t ks
    → holders x.state kind m p q ≡ true → holders y.state kind m p q ≡ true
run-lasts kind m p q t C.stop v w h = h
run-lasts kind m p q t (C.next {x} {y} {z} {k} {ks} d r) v w h =
    let c = call_of k.call x.words in
    run-lasts kind m p q (tell k t) r (machine-laws.knows k x y t d v) w.1
    (ap (λ s. holders s kind m p q) d.state_is ∙ held-lasts c x.state v.sound kind m p q (turn_is k x y t p d v ∙ w.0) h)

run-knows : {x y : Lent} {ks : List Turn} (t : Told) → Run machine x ks y → Knows machine t x → Knows machine (told t ks) y
run-knows t C.stop w = w
run-knows t (C.next {x} {y} {z} {k} {ks} d r) w = run-knows (tell k t) r (machine-laws.knows k x y t d w)

-- The turn that finishes a locate leaves every key of its range held.
module _ (before : List Turn) (k : Turn) (first second : ℕ) (x y : Lent) (w : Knows machine (told nothing before) x) (d : Performs x k y) where
  abbrev Held : ℕ → Type 0
  Held p = (z : ℕ) → first ≤ z → z ≤ second → holders y.state L.group weak p z ≡ true

  hand-holds : (p : ℕ) (D : LocateDone before k p first second) (r : Request) → (session_of p x.state).hand ≡ some r
      → as_put r ≡ record { code = 5; entry = D.entry; first = first; second = second } → Held p
  hand-holds zero D r e q = absurd (true≢false (ap (λ c. bad_code 0 c) (ap (λ a. a.code) q)) (w.sound.checked 0 r e).0)
  hand-holds (suc m) D r e q = λ z lo hi.
      ap (λ s. holders s L.group weak (suc m) z) (d.state_is ∙ ap (λ c. (call (call_of c x.words) x.state).next) D.called)
      ∙ locate-holds m (length D.list) x.state w.sound r e (ap (λ a. a.code) q) D.numbers
      (told-done (call (step (suc m) (length D.list)) x.state).answer D.numbers
      (subst (λ a. Tells (call (step (suc m) (length D.list)) x.state).answer a) D.answered
      (subst (λ c. Tells (call (call_of c x.words) x.state).answer k.answer) D.called d.tells)))
      z (omega (arith, ap (λ a. a.first) q, lo)) (omega (arith, ap (λ a. a.second) q, hi))

  turn_holds : (p : ℕ) → LocateDone before k p first second → Held p
  turn_holds p D = go (session_of p x.state).hand refl (w.hand_told p ∙ D.in_hand)
    where
      go : (h : Option Request) → (session_of p x.state).hand ≡ h → hand_put h ≡ some (record { code = 5; entry = D.entry; first = first; second = second }) → Held p
      go none e q = absurd (true≢false {b = true} refl (ap is_some (sym q)))
      go (some r) e q = hand-holds p D r e (some-injective (as_put r) (record { code = 5; entry = D.entry; first = first; second = second }) q)

-- Any list of turns from a fresh store: once a locate of session p is done, it holds every key of its range, stored or not, until its end.
pub located-held : (entries records words : ℕ) → Sound (fresh entries records) → (before : List Turn) (k : Turn) (after : List Turn) (y : Lent)
    → Run machine (record { state = fresh entries records; words = words }) (before ++ k ∷ after) y
    → (p first second : ℕ) → LocateDone before k p first second → Lasts p (tell k (told nothing before)) after → (z : ℕ) → first ≤ z → z ≤ second → holders y.state L.group weak p z ≡ true
located-held e r words S before k after y run p first second D w =
    let cut = run-cut before (k ∷ after) run in
    go cut.2 (run-knows nothing cut.1 (record {
      sound = S;
      hand_told = λ q. ap (λ t. hand_put t.hand) (fresh-session e r q);
      begun_told = λ q. ap (λ t. t.begun) (fresh-session e r q);
      asked_told = λ q. ap (λ t. t.asked) (fresh-session e r q);
    }))
  where
    go : {x : Lent} → Run machine x (k ∷ after) y → Knows machine (told nothing before) x → (z : ℕ) → first ≤ z → z ≤ second → holders y.state L.group weak p z ≡ true
    go (C.next {x} {y} d r) v = λ z lo hi.
        run-lasts L.group weak p z (tell k (told nothing before)) r (machine-laws.knows k x y (told nothing before) d v) w (turn_holds before k first second x y v d p D z lo hi)

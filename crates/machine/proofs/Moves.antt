-- Theorems that rest on theorems of specs/: the rest of specs/Moves.antt.
use Rattle.std.specs.Prelude.{◌≡◌, refl, true, [], ◌∷◌, zero, suc, ◌≤◌, ℕ}
use Rattle.std.proofs.Common.{arith}
use Rattle.std.proofs.Math.Option.{Option, none, some}
use Rattle.serial.specs.LockMachine.{Unseen}
use Rattle.machine.specs.Logic.{not-false}
use Rattle.machine.specs.Holders.{width}
use Rattle.machine.specs.State.{start, enter, Request, State, session_of, at, ok}
use Rattle.machine.specs.Steps.{finished, next_step, first_step, enter_step, at_step, answer}
use Rattle.machine.specs.Calls.{Call, format, begin, put, step, commit, abort, ask, recover, call, has_begun, step_checks, commit_checks, commits, steps}
use Rattle.machine.specs.View.{view, same_refl, same-unseen}
use Rattle.machine.specs.Descents.{finished-same}
use Rattle.machine.specs.Housekeeping.{like-unseen, enter-step-like}
use Rattle.machine.proofs.Housekeeping.{at-step-like}
use Rattle.machine.specs.Checks.{refusing-cases, party-number, session-number, party-seat, session-begun}
use Rattle.machine.specs.Entries.{Fit}
use Rattle.machine.specs.Events.{asked}
use Rattle.machine.specs.Ends.{commit-committed}
use Rattle.machine.proofs.Session.{session-step}
use Rattle.machine.specs.Waits.{settled-step}
use Rattle.machine.specs.Moves.{Tidying, nothing_above, entering, descending, Safe, Moves, quiet, tidied, committed, stepped, refused-quiet, begin-moves, abort-moves, ask-moves, recover-moves, put-moves, format-moves}

-- ---- the calls

commit-moves : (p : ℕ) (s : State) → Safe s → Moves s (call (commit p) s) (commit p)
unfolding call
commit-moves p s S = refusing-cases (λ o. Moves s o (commit p)) (commit_checks p s) s (answer ok (commits p s)) (refused-quiet (commit p) s) λ k.
    let n = session-number p k.0 in
    committed p refl (commit-committed p s (party-seat p s S.fit.seats n.1) (session-begun p s n.0 (not-false (has_begun p s) k.1.0)))

tidy-unseen : (n : ℕ) (s : State) → Fit s → (r : Request) → Tidying s r → Unseen (view s) (view (next_step n 0 r s r.stage).next)
unfolding next_step first_step
tidy-unseen n s F r (nothing_above e f g) = same-unseen s (finished 0 (asked 6 e f g start) (0 ∷ 0 ∷ []) s).next (finished-same 0 (asked 6 e f g start) (0 ∷ 0 ∷ []) s s (same_refl s))
tidy-unseen n s F r (entering e f g x) = like-unseen s (enter_step 0 (asked 6 e f g (enter x)) x s).next (enter-step-like 0 (asked 6 e f g (enter x)) x s)
tidy-unseen n s F r (descending e f g x h q) = like-unseen s (at_step 0 (asked 6 e f g (at x)) x s).next (at-step-like 0 (asked 6 e f g (at x)) x s F.ordered h (λ z. q))

step-moves : (p n : ℕ) (s : State) → Safe s → Moves s (call (step p n) s) (step p n)
unfolding call steps
step-moves p n s S = refusing-cases (λ o. Moves s o (step p n)) (step_checks p s) s (steps p n (session_of p s).hand s) (refused-quiet (step p n) s) λ k.
    go p (party-number p k.0) (not-false (has_begun p s) k.1.0) (session_of p s).hand refl
  where
    go : (q : ℕ) → q ≤ width → has_begun q s ≡ true → (h : Option Request) → (session_of q s).hand ≡ h → Moves s (steps q n h s) (step q n)
    go q le b none e = quiet (step q n) refl (same-unseen s s (same_refl s))
    go zero le b (some r) e =
        settled-step (λ o. Moves s o (step 0 n)) n 0 r s (tidied n (tidy-unseen n s S.fit r (S.tidying r e))) (λ c _. quiet (step 0 n) refl (same-unseen s s (same_refl s)))
    go (suc m) le b (some r) e =
        let w = session-begun (suc m) s (λ z. omega (arith, z)) b in
        settled-step (λ o. Moves s o (step (suc m) n)) n (suc m) r s (stepped m n r e (session-step n m s S.fit w le r (S.ready m r w le e)))
        (λ c _. quiet (step (suc m) n) refl (same-unseen s s (same_refl s)))

-- Every call.
pub moves : (c : Call) (s : State) → Safe s → Moves s (call c s) c
moves (format m words) s S = format-moves m words s
moves (begin p) s S = begin-moves p s S
moves (put p c e f g) s S = put-moves p c e f g s
moves (step p n) s S = step-moves p n s S
moves (commit p) s S = commit-moves p s S
moves (abort p) s S = abort-moves p s S
moves (ask p) s S = ask-moves p s S
moves recover s S = recover-moves s S

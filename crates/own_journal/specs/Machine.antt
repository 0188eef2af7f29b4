-- The machine's own journals are accepted: every list of its calls from a fresh store.
use Rattle.std.specs.Prelude.{◌≡◌, refl, true, List, ℕ, suc, ◌≤◌}
use Rattle.std.proofs.Common.{sym, ◌∙◌, ap, subst}
use Rattle.std.proofs.Math.Option.{Option, none, some, some-injective, none-ne-some}
use Rattle.serial.specs.Serial.{by_bool}
use Rattle.serial.specs.Locks.{lock_rule, lock-rule-strict}
use Rattle.serial.specs.Calls.{Turn, Asked, nothing, Run, Knows}
use Rattle.serial.specs.Calls as C
use Rattle.machine.specs.Logic.{not-false}
use Rattle.machine.specs.State.{Request, State, session_of, ok}
use Rattle.machine.specs.Steps.{answer}
use Rattle.machine.specs.Calls.{call, commit, commits, commit_checks, has_begun}
use Rattle.machine.specs.Sound.{Sound}
use Rattle.machine.specs.Checks.{refusing-cases, session-number, session-begun}
use Rattle.machine.specs.Fresh.{fresh-session}
use Rattle.machine.specs.Ending.{fresh-sound}
use Rattle.machine.specs.Demand.{Lent, Tells, call_of, Performs, machine, as_put, hand_put, fresh-formatted}
use Rattle.machine.specs.Demand3.{fresh_lent, fresh-known}
use Rattle.machine.proofs.Demand3.{machine-laws}
use Rattle.journal_lines.specs.Journal.{proper}
use Rattle.own_journal.specs.Diary.{request_line}
use Rattle.own_journal.specs.Own.{Careful, JournalAccepted, own-journal}
use Rattle.own_journal.specs.Checked.{passes-proper}

-- ---- requests in hand

-- A request in hand, and it as it was put.
put_of : (h : Option Request) (a : Asked) → hand_put h ≡ some a → (r : Request) × (h ≡ some r) × (as_put r ≡ a)
put_of none a e = absurd (none-ne-some a e)
put_of (some r) a e = (r, refl, some-injective (as_put r) a e)

-- A sound state's requests in hand passed put's checks.
hand_proper : (x : Lent) (s : ℕ) (a : Asked) → Sound x.state → hand_put (session_of (suc s) x.state).hand ≡ some a → (run : ℕ) (ns l : List ℕ) → proper (request_line run a ns l) ≡ true
hand_proper x s a S e run ns l =
    let q = put_of (session_of (suc s) x.state).hand a e in
    subst (λ b. proper (request_line run b ns l) ≡ true) q.2
    (passes-proper s x.state S.sizes.1 (request_line run (as_put q.0) ns l) (S.checked (suc s) q.0 q.1))

-- Who has a request in hand is begun.
hand_begun : (x : Lent) (s : ℕ) (a : Asked) → Sound x.state → hand_put (session_of (suc s) x.state).hand ≡ some a → (session_of (suc s) x.state).begun ≡ true
hand_begun x s a S e = by_bool (session_of (suc s) x.state).begun (λ b. b) (λ b. absurd (none-ne-some a (sym (ap hand_put (S.unbegun_hand s b)) ∙ e)))

-- ---- an accepted commit

commit-accepted : (p : ℕ) (s : State) → Tells (call (commit p) s).answer C.ok → (session_of p s).begun ≡ true
unfolding call
commit-accepted p s = refusing-cases (λ o. Tells o.answer C.ok → (session_of p s).begun ≡ true) (commit_checks p s) s (answer ok (commits p s)) (λ n e. cc)
    (λ k e. session-begun p s (session-number p k.0).0 (not-false (has_begun p s) k.1.0))

commit_begun : (s : ℕ) (k : Turn) (x y : Lent) → k.call ≡ C.commit s → k.answer ≡ C.ok → Performs x k y → Sound x.state → (session_of s x.state).begun ≡ true
commit_begun s k x y e f d S =
    commit-accepted s x.state (subst (λ a. Tells (call (commit s) x.state).answer a) f (subst (λ c. Tells (call (call_of c x.words) x.state).answer k.answer) e d.tells))

pub machine-careful : Careful machine
machine-careful = record { hand_proper = hand_proper; hand_begun = hand_begun; commit_begun = commit_begun }

-- ---- the theorem

-- Any list of calls, whoever's turn each is, from a fresh store.
pub machine-journal : (m r words : ℕ) → 1 ≤ m → m ≤ 1024 → 8 ≤ r → r ≤ 4096 → (ks : List Turn) (y : Lent) → Run machine (fresh_lent m r words) ks y → JournalAccepted ks
machine-journal m r words a b c d ks y run =
    own-journal machine lock_rule lock-rule-strict machine-laws machine-careful (fresh_lent m r words) y ks (fresh-known m r words a b c d) (fresh-formatted m r) run

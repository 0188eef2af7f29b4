-- Theorems that rest on theorems of specs/: the rest of specs/Safety.antt.
use Rattle.std.specs.Prelude.{◌≡◌, refl, suc, ◌≤◌, ℕ}
use Rattle.std.proofs.Common.{arith}
use Rattle.std.proofs.Math.Option.{some}
use Rattle.machine.specs.State.{Stage, start, enter, change, take, State, session_of, at}
use Rattle.machine.specs.Sound.{Changing, Sound}
use Rattle.machine.specs.Table.{end-many}
use Rattle.machine.specs.Checks.{checked-entry, session-code}
use Rattle.machine.specs.Looks.{kept_of, fit_of, change-stored}
use Rattle.machine.proofs.Nearest.{takes_of}
use Rattle.machine.specs.Leaving.{chain-of}
use Rattle.machine.specs.Recover.{recovered}
use Rattle.machine.specs.Events.{asked}
use Rattle.machine.specs.Session.{Ready, enters, descends}
use Rattle.machine.specs.Moves.{Safe}
use Rattle.machine.specs.Safety.{descent-most, start-ready, change-ready, take-ready, keeper-tidying}

-- ---- a sound state

module _ (s : State) (S : Sound s) where
  -- ---- a session's request

  session-ready : (m c e f g : ℕ) (st : Stage) → (session_of (suc m) s).hand ≡ some (asked c e f g st) → Ready (suc m) s (asked c e f g st)
  session-ready m c e f g start h =
      let k = session-code m c (S.checked (suc m) (asked c e f g start) h).0 in
      let n : ¬ (c ≡ 5) = S.standing (suc m) (asked c e f g start) h in
      let w : c ≤ 4 = omega (arith, k.1, n) in
      let i = checked-entry (suc m) c e f g s (S.checked (suc m) (asked c e f g start) h) w in
      (start-ready s S) (suc m) c e f g k.0 w i.0 i.1
  session-ready m c e f g (enter x) h = enters c e f g x
  session-ready m c e f g (at x) h = descends c e f g x (descent-most s S (suc m) (asked c e f g (at x)) x h (S.standing (suc m) (asked c e f g (at x)) h))
  session-ready m c e f g change h =
      let C : Changing (suc m) s (asked c e f g change) = S.standing (suc m) (asked c e f g change) h in
      (change-ready s S) (suc m) c e f g C.code_3_4.0 C.code_3_4.1 (kept_of f s S (change-stored S (suc m) (asked c e f g change) h refl)) C.excludes
  session-ready m c e f g (take x) h =
      let T = takes_of S (suc m) (asked c e f g (take x)) x h refl in
      (take-ready s S) (suc m) c e f g x T.passing.code_5 T

-- ---- the whole

pub safe-of : (s : State) → Sound s → Safe s
safe-of s S = record {
  fit = fit_of S;
  ready = λ m r b w e. session-ready s S m r.code r.entry r.first r.second r.stage e;
  tidying = keeper-tidying s S;
  chains = λ m b. chain-of (suc m) s S b;
  recovery = recovered s S;
  seats = λ m w. let n = end-many (suc m) (session_of (suc m) s).hand s in omega (arith, n, S.seats, w);
}

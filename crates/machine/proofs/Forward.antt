-- Theorems that rest on theorems of specs/: the rest of specs/Forward.antt.
use Rattle.std.specs.Prelude.{◌≡◌, leb, ltb}
use Rattle.std.proofs.Math.Path.{refl}
use Rattle.std.proofs.Math.Logic.{inr}
use Rattle.std.proofs.Math.Option.{some}
use Prim.Native.Nat.{suc, ◌*◌, ◌≤◌, ℕ}
use native.Mathlib.Omega.{arith}
use Rattle.std.proofs.Math.ListN.{length}
use Rattle.serial.specs.Locks.{weak}
use Rattle.machine.specs.Logic.{either}
use Rattle.machine.specs.State.{Stage, start, enter, change, take, Request, State, Outcome, or_none, session_of, stored, lowest_from, on_tree, at}
use Rattle.machine.specs.Steps.{group_blockers, passed_state, memberships, last_take, take_desc, take_step, next_step, settled}
use Rattle.machine.specs.Sound.{Sound}
use Rattle.machine.proofs.Nearest.{takes_of}
use Rattle.machine.specs.Waits.{settled-step}
use Rattle.machine.specs.Forward.{Onward, to-stage, on-guard, held, first_on, enter-on, at_on, change-on}

-- ---- each step

module _ (p : ℕ) (r : Request) (s : State) (S : Sound s) (e : (session_of p s).hand ≡ some r) where
  -- The hand after more is in the stage that the step says.
  abbrev StepsOn : Stage → Outcome → Type 0
  StepsOn g o = Onward p r s g o.answer o.next

  take_on : (n x : ℕ) → r.stage ≡ take x → StepsOn (take x) (take_step n p r x s)
  unfolding take_step take_desc last_take on_tree
  take_on n x q =
      let d = or_none (lowest_from x (stored s)) in
      let w : x ≤ d.key = (takes_of S p r x e q).next.from in
      (on-guard p r s S e) (take x) (group_blockers weak p d) 0 _
      (either (StepsOn (take x)) (ltb d.key r.second) _ _
      (to-stage p r s S e (take x) (take (suc d.key)) (passed_state p d s) (held p r s S e (take (suc d.key)) (passed_state p d s) refl) (inr (refl, inr (omega arith))))
      (either (StepsOn (take x)) (leb (2 * length (memberships r.first r.second (stored s))) n) _ _ tt tt))

  step_on : (n : ℕ) (g : Stage) → r.stage ≡ g → StepsOn g (next_step n p r s g)
  unfolding next_step
  step_on n start q = first_on p r s S e q
  step_on n (enter x) q = enter-on p r s S e x
  step_on n (at x) q = at_on p r s S e x q
  step_on n change q = change-on p r s S e
  step_on n (take x) q = take_on n x q

  -- Every step of every party: after more the request is ahead.
  pub step-forward : (n : ℕ) → StepsOn r.stage (settled s r.stage (next_step n p r s r.stage))
  step-forward n = settled-step (StepsOn r.stage) n p r s (step_on n r.stage refl) (λ b _. tt)

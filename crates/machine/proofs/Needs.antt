-- Theorems that rest on theorems of specs/: the rest of specs/Needs.antt.
use Rattle.std.specs.Prelude.{◌≡◌, refl, Bool, true, false, cond, List, [], ◌∷◌, ◌↔◌, suc, ◌*◌, ◌<◌, ℕ, leb, ltb, length}
use Rattle.std.proofs.Common.{sym, ◌∙◌, subst, ap, arith}
use Rattle.std.proofs.Math.Logic.Iff.{trans as iff_trans}
use Rattle.std.proofs.Math.Option.{some}
use Rattle.serial.specs.Serial.{true≢false}
use Rattle.serial.specs.Locks.{weak}
use Rattle.serial.specs.Model as R
use Rattle.machine.specs.Logic.{leb-is, leb-not}
use Rattle.machine.specs.State.{Desc, Stage, start, enter, change, take, Request, State, done, refused, Outcome, or_none, session_of, stored, lowest_from, at}
use Rattle.machine.specs.Steps.{ended, goes_on, guarded, group_blockers, change-step, memberships, last_take, take_desc, take_step, passed_state, located_state, enter_step, at_step, first_step, next_step, answer, is_empty, settled}
use Rattle.machine.specs.Model.{memberships-are, model}
use Rattle.machine.specs.Sound.{Sound}
use Rattle.machine.specs.Looks.{kept-stored}
use Rattle.machine.proofs.Nearest.{takes_of}
use Rattle.machine.specs.InTheWay.{LowestFrom, InTheWay}
use Rattle.machine.proofs.Conflicts.{nobody-in-the-way}
use Rattle.machine.specs.Waits.{step_blockers, settled_says}
use Rattle.machine.specs.Answers.{TooShort, req-locate, ordinary, first_plain, enter-plain, at_plain, change-plain}
use Rattle.machine.specs.Needs.{step_needs, Lacks, beside_same, first-lacks, enter-lacks, at-lacks, change-lacks, take-lacks, in_words, AtSecond, Plain, never, nobody, none_needed}

-- ---- 11

step-lacks : (n p : ℕ) (r : Request) (s : State) (g : Stage) → Lacks s (step_blockers p r s g) (step_needs p r s g) (next_step n p r s g)
unfolding next_step
step-lacks n p r s start = first-lacks p r s
step-lacks n p r s (enter x) = enter-lacks p r x s
step-lacks n p r s (at x) = at-lacks p r x s
step-lacks n p r s change = change-lacks p r s
step-lacks n p r s (take x) = take-lacks n p r x s

-- Every step of every party, from every sound state.
pub step-11 : (n p : ℕ) (r : Request) (s : State) → Sound s → (session_of p s).hand ≡ some r → (k : ℕ)
    → ((settled s r.stage (next_step n p r s r.stage)).answer ≡ refused 11 k) ↔ ((k ≡ 0) × ((q : ℕ) → ¬ InTheWay p r s r.stage q) × (s.free < step_needs p r s r.stage))
step-11 n p r s S e k = iff_trans (settled_says s r.stage (next_step n p r s r.stage) (refused 11 k) refl) (in_words (nobody-in-the-way S p r e) (step-lacks n p r s r.stage k))

-- ---- 12

module _ (n p : ℕ) (r : Request) (s : State) (S : Sound s) (e : (session_of p s).hand ≡ some r) where
  take-12 : (x k : ℕ) → r.stage ≡ take x → ((take_step n p r x s).answer ≡ refused 12 k) ↔ (((or_none (lowest_from x (stored s))).key ≡ r.second) × (step_blockers p r s (take x) ≡ []) × TooShort r s n k)
  unfolding step_blockers take_step take_desc last_take goes_on guarded stored
  take-12 x k q = go (group_blockers weak p d)
    where
      d : Desc
      d = or_none (lowest_from x (stored s))

      found : List R.Pair
      found = memberships r.first r.second (stored s)

      count : length found ≡ length (R.located r.first r.second (model s))
      count = ap length (memberships-are r.first r.second (stored s))

      last : Bool → Outcome
      last b = cond b (record { answer = done (length found ∷ []); next = ended p r (located_state p d s); written = found }) (answer (refused 12 (length found)) (ended p r s))

      pass : Outcome
      pass = goes_on p r (take (suc d.key)) (passed_state p d s)

      free-way : (a : Bool) → ltb d.key r.second ≡ a → (b : Bool) → leb (2 * length found) n ≡ b
          → ((cond a pass (last b)).answer ≡ refused 12 k) ↔ ((d.key ≡ r.second) × (nobody ≡ []) × TooShort r s n k)
      free-way true u b v = ((λ i. absurd (true≢false {b = true} refl (ap ordinary i))), λ f. absurd (omega (arith, f.0, leb-is (suc d.key) r.second u)))
      free-way false u true v = ((λ i. absurd (true≢false {b = true} refl (ap ordinary i))), λ f. absurd (omega (arith, f.2.short, f.2.count_is, count, leb-is (2 * length found) n v)))
      free-way false u false v =
          let T = takes_of S p r x e q in (
            (λ i. let z = beside_same 12 (length found) k i in (
              omega (arith, T.to-second, leb-not (suc d.key) r.second u),
              refl,
              record { locates = req-locate r T.passing.code_5; count_is = sym z ∙ count; short = omega (arith, z, leb-not (2 * length found) n v) },
            )),
            λ f. ap (refused 12) (count ∙ sym f.2.count_is),
          )

      go : (bs : List ℕ) → ((guarded bs 0 p r s (cond (ltb d.key r.second) pass (last (leb (2 * length found) n)))).answer ≡ refused 12 k) ↔ ((d.key ≡ r.second) × (bs ≡ []) × TooShort r s n k)
      go [] = subst (λ (o : Outcome). (o.answer ≡ refused 12 k) ↔ ((d.key ≡ r.second) × (nobody ≡ []) × TooShort r s n k)) (sym (none_needed p r s _))
          (free-way (ltb d.key r.second) refl (leb (2 * length found) n) refl)
      go (c ∷ bs) = ((λ i. absurd (true≢false {b = true} refl (ap ordinary i))), λ f. absurd (true≢false (ap is_empty f.1) refl))

  at_second : (x : ℕ) → r.stage ≡ take x → ((or_none (lowest_from x (stored s))).key ≡ r.second) ↔ LowestFrom x s r.second
  at_second x q =
      let d : Desc = or_none (lowest_from x (stored s)) in
      let N = (takes_of S p r x e q).next in
      let here = kept-stored d.key s N.K in (
        (λ i. subst (LowestFrom x s) i (record { is_stored = here; from = N.from; lowest = N.least })),
        λ l. omega (arith, l.lowest d.key here N.from, N.least r.second l.is_stored l.from),
      )

  step-12-at : (g : Stage) (k : ℕ) → r.stage ≡ g → ((next_step n p r s g).answer ≡ refused 12 k) ↔ (AtSecond r s g × (step_blockers p r s g ≡ []) × TooShort r s n k)
  unfolding next_step
  step-12-at start k q = never (step_blockers p r s start ≡ []) (TooShort r s n k) (first_step p r s) k (first_plain Plain p r s (λ a t h. h))
  step-12-at (enter x) k q = never (step_blockers p r s (enter x) ≡ []) (TooShort r s n k) (enter_step p r x s) k (enter-plain Plain p r s (λ a t h. h) x)
  step-12-at (at x) k q = never (step_blockers p r s (at x) ≡ []) (TooShort r s n k) (at_step p r x s) k (at_plain Plain p r s (λ a t h. h) x)
  step-12-at change k q = never (step_blockers p r s change ≡ []) (TooShort r s n k) (change-step p r s) k (change-plain Plain p r s (λ a t h. h))
  step-12-at (take x) k q = let f = at_second x q in let h = take-12 x k q in ((λ i. let z = h.0 i in (f.0 z.0, z.1, z.2)), λ z. h.1 (f.1 z.0, z.1, z.2))

  -- Every step of every party, from every sound state.
  pub step-12 : (k : ℕ)
      → ((settled s r.stage (next_step n p r s r.stage)).answer ≡ refused 12 k) ↔ (AtSecond r s r.stage × ((q : ℕ) → ¬ InTheWay p r s r.stage q) × TooShort r s n k)
  step-12 k = iff_trans (settled_says s r.stage (next_step n p r s r.stage) (refused 12 k) refl) (in_words (nobody-in-the-way S p r e) (step-12-at r.stage k refl))

-- The ways out of a step.
use Rattle.std.specs.Prelude.{◌≡◌, refl, not, List, [], ℕ, ◌≤◌, eqb, length, set}
use Rattle.std.proofs.Common.{sym, subst, ◌∙◌, arith, eq-eqb}
use Rattle.std.proofs.Math.Path.{ap}
use Rattle.std.proofs.Math.Bool.{cond}
use Rattle.std.proofs.Math.Option.{some}
use Rattle.sessions.specs.declared.Session.{Session}
use Rattle.sessions.specs.Sessions.{session_at}
use Rattle.serial.specs.Serial.{true≢false}
use Rattle.serial.specs.Calls as C
use Rattle.outcomes.specs.declared.Answer as D
use Rattle.outcomes.specs.declared.Moved.{Moved}
use Rattle.outcomes.specs.Said.{said, Stepped}
use Rattle.machine.specs.Holders.{width}
use Rattle.machine.specs.State.{State, Outcome, refused, session_of}
use Rattle.machine.specs.Steps.{answer, next_step, settled}
use Rattle.machine.specs.Waits.{settled-next, settled-written}
use Rattle.machine.specs.Calls.{call, steps, no_party}
use Rattle.machine.specs.Demand.{Tells, list_after}
use Rattle.serial.specs.Model.{two_words}
use Rattle.meaning.specs.Reading.{M-of, R-of, meaning}
use Rattle.meaning.specs.Sound.{Sound}
use Rattle.layout.specs.Row.{Stands, Becomes}
use Rattle.layout.specs.Laid.{sound-stands}
use Rattle.layout.specs.Asked.{request_in, hand-means, set_same}
use Rattle.taking.specs.Taking.{over}
use Rattle.refusals.specs.Refusing.{first_of, is_begun_in, hand_in, step_list, step-refused}
use Rattle.promises.specs.Relations.{outcome, stays}
use Rattle.promises.specs.Assembling.{first-not-ending, stands-means, answered-by, set-others}
use Rattle.promises.specs.Ways.{Serves, none_true, any-party, serve-refused}
use Rattle.promises.specs.Stepping.{stage_step, stage_written, settled_answer, StageReady, Nameable, LeavesBoth, Careful, stage-careful, stage-moves, stage-list, stage-ready}
use Rattle.promises.specs.Naming.{settled_step, settled-tells, settled-careful, settled-after}

pub step-refuses : (s : List ℕ) (t : List Session) (p : ℕ) (l : List ℕ) (n : ℕ) → Sound s t → n ≡ first_of (step_list t p) → ¬ (n ≡ 0) → Serves (C.step p l) s t (C.refused n 0) l s t
unfolding call
step-refuses s t p l n A e z =
    let o = steps p (length l) (session_of p (meaning s t)).hand (meaning s t) in
    serve-refused (C.step p l) s t n (first_of (step_list t p)) o A e z (first-not-ending (step_list t p) (refl, (refl, (refl, tt)))) (step-refused s t A p o)

-- A request is in hand.
pub has-hand : (t : List Session) (p : ℕ) → first_of (step_list t p) ≡ 0 → ¬ ((session_at t p).stage ≡ 0)
unfolding hand_in
has-hand t p z =
    let a = none_true 4 (no_party p) _ (λ q. omega (arith, q)) z in
    let b = none_true 5 (not (is_begun_in t p)) _ (λ q. omega (arith, q)) a.1 in
    let c = none_true 7 (not (hand_in t p)) [] (λ q. omega (arith, q)) b.1 in
    λ e. true≢false {b = not (not (eqb (session_at t p).stage 0))} (ap (λ k. not (not k)) (eq-eqb (session_at t p).stage 0 e)) c.0

module _ (s : List ℕ) (t : List Session) (p : ℕ) (l : List ℕ) (A : Sound s t) (z : first_of (step_list t p) ≡ 0) where
  abbrev x : Session
  x = session_at t p

  abbrev row : Stepped
  row = stage_step s (M-of s) (R-of s) (length l) p x

  abbrev done_step : Stepped
  done_step = settled_step s (M-of s) (R-of s) t p x row

  B : Stands s t
  B = sound-stands s t A

  pub party : p ≤ width
  party = any-party p _ z

  abbrev pub over_state : State → Outcome
  over_state σ = settled σ (request_in x).stage (next_step (length l) p (request_in x) σ (request_in x).stage)

  pub hand-is : (session_of p (meaning s t)).hand ≡ some (request_in x)
  hand-is = subst (λ σ. (session_of p σ).hand ≡ some (request_in x)) (stands-means s t B) (hand-means B.lay t p (omega (arith, party, B.holds.seats)) (has-hand t p z))

  tells : Tells (over_state (meaning s t)).answer (said done_step.answer)
  tells = subst (λ σ. Tells (over_state σ).answer (said done_step.answer)) (stands-means s t B) (settled-tells s t B p party (length l) (has-hand t p z))

  becomes : Becomes s done_step.words (set t p done_step.session) (over_state (meaning s t)).next
  becomes = subst (λ σ. Becomes s done_step.words (set t p done_step.session) (over_state σ).next) (stands-means s t B)
      (subst (Becomes s done_step.words (set t p done_step.session)) (sym (settled-next _ _ _)) (stage-moves s t B p party (length l) (has-hand t p z)).becomes)

  written_is : over (stage_written s (M-of s) (R-of s) (length l) p x) l ≡ list_after (C.step p l) (over_state (meaning s t)).written
  written_is = ap (λ w. over w l)
      (subst (λ σ. stage_written s (M-of s) (R-of s) (length l) p x ≡ two_words (over_state σ).written) (stands-means s t B)
      (stage-list s t B p party (length l) (has-hand t p z) ∙ ap two_words (sym (settled-written _ _ _))))

  pub outcome-is : outcome (C.step p l) s t ≡ over_state (meaning s t)
  unfolding call steps
  outcome-is =
      let σ = meaning s t in
      let o = steps p (length l) (session_of p σ).hand σ in
      let n = first_of (step_list t p) in
      step-refused s t A p o ∙ ap (λ q. cond q o (answer (refused n 0) σ)) (eq-eqb n 0 z) ∙ ap (λ h. steps p (length l) h σ) hand-is

  row-careful : Careful s (M-of s) x row
  row-careful = stage-careful s (M-of s) x (has-hand t p z) (B.holds.hands p party).stage (R-of s) (length l) p

  careful : Careful s (M-of s) x done_step
  careful = settled-careful s (M-of s) (R-of s) t p x row row-careful

  pub step-done : Serves (C.step p l) s t (said done_step.answer) (over (stage_written s (M-of s) (R-of s) (length l) p x) l) done_step.words (set t p done_step.session)
  step-done =
      answered-by (C.step p l) s t A (over_state (meaning s t)) outcome-is (said done_step.answer) (over (stage_written s (M-of s) (R-of s) (length l) p x) l) done_step.words (set t p done_step.session)
      tells written_is becomes
      (λ q. let e = careful.still q in (e.0, ap (set t p) e.1 ∙ set_same t p))
      (λ i k q y. let e = careful.closes i k q y in (e.0, ap (set t p) e.1))
      (set-others t p done_step.session) tt

  -- Named after the step, a wait names whom it names before it.
  pub named-after : settled_answer row.words (M-of s) (R-of s) (set t p row.session) p row.session row.answer ≡ done_step.answer
  named-after = settled-after s row.words (M-of s) (R-of s) t p row.session row.answer row-careful.still

  -- And what the step asked is there yet.
  pub ready-after : Nameable row.words (M-of s) (R-of s) p row.session row.answer
  ready-after q e =
      let f = row-careful.still (ap (λ a. stays (said a)) e) in
      subst (λ w. StageReady w (M-of s) (R-of s) p row.session) (sym f.0) (subst (StageReady s (M-of s) (R-of s) p) (sym f.1) (stage-ready s t B p party 0 (has-hand t p z)))

-- ---- the run of the code, as equations

module _ (s : List ℕ) (t : List Session) (p : ℕ) (l : List ℕ) {m r : ℕ} {x : Session} {s' l' : List ℕ} {w : Moved} (A : Sound s t) (z : first_of (step_list t p) ≡ 0) (i : m ≡ M-of s) (j : r ≡ R-of s)
    (a : x ≡ session_at t p) (h : LeavesBoth s' w l' (stage_step s m r (length l) p x) (over (stage_written s m r (length l) p x) l)) where
  abbrev made : Stepped
  made = stage_step s (M-of s) (R-of s) (length l) p (session_at t p)

  left : LeavesBoth s' w l' made (over (stage_written s (M-of s) (R-of s) (length l) p (session_at t p)) l)
  left =
      let P : ℕ → ℕ → Session → Type 0 = λ m r x. LeavesBoth s' w l' (stage_step s m r (length l) p x) (over (stage_written s m r (length l) p x) l) in
      subst (P (M-of s) (R-of s)) a (subst (λ q. P (M-of s) q x) j (subst (λ q. P q r x) i h))

  -- Its wait can be named,
  pub step-names : Nameable s' m r p w.session w.answer
  step-names =
      let P : ℕ → ℕ → List ℕ → Moved → Type 0 = λ m r s y. Nameable s m r p y.session y.answer in
      subst (λ q. P q r s' w) (sym i) (subst (λ q. P (M-of s) q s' w) (sym j) (subst (λ q. P (M-of s) (R-of s) q w) (sym left.0) (subst (P (M-of s) (R-of s) made.words) (sym left.1) (ready-after s t p l A z))))

  -- and named it is the machine's.
  pub step_run : {u : List Session} {b : D.Answer} → u ≡ set t p w.session → b ≡ settled_answer s' m r u p w.session w.answer → Serves (C.step p l) s t (said b) l' s' u
  step_run {u} {b} c d =
      let Q : ℕ → ℕ → List ℕ → Moved → Type 0 = λ m r v y. settled_answer v m r (set t p y.session) p y.session y.answer ≡ (settled_step s (M-of s) (R-of s) t p (session_at t p) made).answer in
      let e : Q m r s' w = subst (λ q. Q q r s' w) (sym i) (subst (λ q. Q (M-of s) q s' w) (sym j) (subst (λ q. Q (M-of s) (R-of s) q w) (sym left.0) (subst (Q (M-of s) (R-of s) made.words) (sym left.1) (named-after s t p l A z)))) in
      let v : b ≡ (settled_step s (M-of s) (R-of s) t p (session_at t p) made).answer = d ∙ ap (λ q. settled_answer s' m r q p w.session w.answer) c ∙ e in
      subst (λ q. Serves (C.step p l) s t (said q) l' s' u) (sym v)
      (subst (λ q. Serves (C.step p l) s t (said (settled_step s (M-of s) (R-of s) t p (session_at t p) made).answer) l' s' q) (sym (c ∙ ap (λ y. set t p y.session) left.1))
      (subst (λ q. Serves (C.step p l) s t (said (settled_step s (M-of s) (R-of s) t p (session_at t p) made).answer) l' q (set t p made.session)) (sym left.0)
      (subst (λ q. Serves (C.step p l) s t (said (settled_step s (M-of s) (R-of s) t p (session_at t p) made).answer) q made.words (set t p made.session)) (sym left.2)
      (step-done s t p l A z))))

pub step-can : (s : List ℕ) (t : List Session) (p : ℕ) {m r : ℕ} {x : Session} → Sound s t → first_of (step_list t p) ≡ 0 → m ≡ M-of s → r ≡ R-of s → x ≡ session_at t p → StageReady s m r p x
step-can s t p {m} {r} {x} A z i j a =
    subst (λ w. StageReady s w r p x) (sym i) (subst (λ w. StageReady s (M-of s) w p x) (sym j)
    (subst (StageReady s (M-of s) (R-of s) p) (sym a) (stage-ready s t (sound-stands s t A) p (any-party p _ z) 0 (has-hand t p z))))

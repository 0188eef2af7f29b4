-- How lists of ordinary calls are made: one call more at the end, one list after another, a step after one that is answered more; a run of one step that is
-- refused; a request.
use Rattle.std.specs.Prelude.{◌≡◌, refl, Bool, true, false, not, cond, ◌&&◌, ◌||◌, List, [], ◌∷◌, ◌++◌, ℕ, zero, suc, eqb, length, replicate}
use Rattle.std.proofs.Common.{sym, ap, subst, ◌∙◌, arith}
use Rattle.std.proofs.Math.Option.{some}
use Rattle.sessions.specs.declared.Session.{Session}
use Rattle.sessions.specs.Sessions.{session_at}
use Rattle.serial.specs.Serial.{true≢false}
use Rattle.serial.specs.Calls.{Turn, Run, stop, next}
use Rattle.serial.specs.Calls as C
use Rattle.machine.specs.Logic.{eqb_is}
use Rattle.machine.specs.State.{State, Request, Outcome, ok, more, refused, session_of, in_stage}
use Rattle.machine.specs.Steps.{answer}
use Rattle.machine.specs.Calls.{call, step, refusing, step_checks, no_party, has_begun, in_hand, is_some}
use Rattle.machine.specs.Sound.{of_hand}
use Rattle.machine.specs.Sound as M
use Rattle.machine.specs.Events.{unfinished}
use Rattle.machine.specs.Answers.{written-only}
use Rattle.machine.specs.Demand.{Tells, list_after}
use Rattle.meaning.specs.Reading.{meaning}
use Rattle.meaning.specs.Sound.{Sound}
use Rattle.layout.specs.Asked.{request_in}
use Rattle.refusals.specs.Refusing.{first_of, step_list, step-refused}
use Rattle.promises.specs.Relations.{Answered, Calls}
use Rattle.promises.specs.Ways.{Serves, none_true}
use Rattle.promises.specs.Demands.{Lending}
use Rattle.promises.specs.Demand2.{told_more, demand-2}
use Rattle.promises.specs.Runs.{Makes, calling, step_turn, steps, Runs, Requests}

-- ---- lists of turns

-- A call that is served on sound words keeps the contract of the call.
pub serves-makes : (c : C.Call) (s : List ℕ) (t : List Session) (a : C.Answer) (l s' : List ℕ) (t' : List Session) → Sound s t → Serves c s t a l s' t' → Calls c s t a l s' t'
serves-makes c s t a l s' t' S h = record { answers = λ A. h; refuses = λ n. absurd (n S) }

pub run-append : {x y z : Lending} {ks ls : List Turn} → Run calling x ks y → Run calling y ls z → Run calling x (ks ++ ls) z
run-append stop r = r
run-append (next d q) r = next d (run-append q r)

pub run_more : {x y z : Lending} {ks : List Turn} {k : Turn} → Run calling x ks y → Makes y k z → Run calling x (ks ++ k ∷ []) z
run_more r d = run-append r (next d stop)

replicate_more : (k : ℕ) (m : Turn) → replicate k m ++ m ∷ [] ≡ m ∷ replicate k m
replicate_more zero m = refl
replicate_more (suc k) m = ap (λ z. m ∷ z) (replicate_more k m)

-- One step more after n that are all answered more.
pub steps-more : (n : ℕ) {p : ℕ} {l : List ℕ} {a : C.Answer} {l' : List ℕ} {x y z : Lending} → Run calling x (steps n p l C.more l) y → Makes y (step_turn p l a l') z
    → Run calling x (steps (suc n) p l a l') z
steps-more zero r d = run_more r d
steps-more (suc k) {p} {l} {a} {l'} {x} {y} r d = run_more (subst (λ v. Run calling x v y) (replicate_more k (step_turn p l C.more l)) r) d

-- ---- a step that is answered more

and-false : (b : Bool) → (b && false) ≡ false
and-false true = refl
and-false false = refl

-- It leaves the list,
pub more_same : (p : ℕ) (s : List ℕ) (t : List Session) (a : C.Answer) (l l' s' : List ℕ) (t' : List Session) → Sound s t → Answered (C.step p l) s t a l' s' t' → a ≡ C.more → l' ≡ l
more_same p s t a l l' s' t' S A e =
    let c = step p (length l) in
    let σ = meaning s t in
    let b = of_hand false (λ r. eqb r.code 5) (session_of p σ).hand in
    let q : (call c σ).answer ≡ more = told_more (call c σ).answer (subst (Tells (call c σ).answer) e A.tells) in
    let w : (call c σ).written ≡ [] = written-only c σ S.state (ap (λ z. b && not (unfinished z)) q ∙ and-false b) in
    A.list_is ∙ ap (list_after (C.step p l)) w

or-true : (b : Bool) → (b || true) ≡ true
or-true true = refl
or-true false = refl

hand_begun : (p : ℕ) (σ : State) (r : Request) → M.Sound σ → (session_of p σ).hand ≡ some r → has_begun p σ ≡ true
hand_begun zero σ r S h = refl
hand_begun (suc p) σ r S h = go (session_of (suc p) σ).begun refl
  where
    go : (b : Bool) → (session_of (suc p) σ).begun ≡ b → has_begun (suc p) σ ≡ true
    go true e = ap (λ b. eqb (suc p) 0 || b) e ∙ or-true (eqb (suc p) 0)
    go false e = absurd (true≢false {b = in_hand (suc p) σ} (ap is_some h) (ap is_some (S.unbegun_hand p e)))

none-refuse : (a b c : Bool) (σ : State) (o : Outcome) → a ≡ false → b ≡ true → c ≡ true → refusing ((4, a) ∷ (5, not b) ∷ (7, not c) ∷ []) σ o ≡ o
unfolding refusing
none-refuse a b c σ o i j k = rw (i, j, k) refl

-- A party with a request in hand is refused no step.
hand-goes : (s : List ℕ) (t : List Session) (p : ℕ) (r : Request) → Sound s t → no_party p ≡ false → (session_of p (meaning s t)).hand ≡ some r → first_of (step_list t p) ≡ 0
hand-goes s t p r S n h = go (eqb k 0) refl
  where
    k : ℕ
    k = first_of (step_list t p)

    σ : State
    σ = meaning s t

    passes : refusing (step_checks p σ) σ (answer ok σ) ≡ answer ok σ
    passes = none-refuse (no_party p) (has_begun p σ) (in_hand p σ) σ (answer ok σ) n (hand_begun p σ r S.state h) (ap is_some h)

    go : (b : Bool) → eqb k 0 ≡ b → k ≡ 0
    go true e = eqb_is k 0 e
    go false e =
        let q : ok ≡ refused k 0 = ap (λ z. z.answer) (sym passes ∙ step-refused s t S p (answer ok σ) ∙ ap (λ b. cond b (answer ok σ) (answer (refused k 0) σ)) e) in
        let z : ◌≡◌ {A = ℕ} 0 1 = cc in
        absurd (omega arith)

-- and the party's next step is not refused.
pub more-goes : (p : ℕ) (l s : List ℕ) (t : List Session) (a : C.Answer) (l' s' : List ℕ) (t' : List Session) → Sound s t → first_of (step_list t p) ≡ 0
    → Serves (C.step p l) s t a l' s' t' → a ≡ C.more → first_of (step_list t' p) ≡ 0
more-goes p l s t a l' s' t' S z h e =
    let f = (demand-2 p l s t a l' s' t' (serves-makes (C.step p l) s t a l' s' t' S h) S z).forward e in
    hand-goes s' t' p (in_stage f.0 (request_in (session_at t p))) h.0.sound (none_true 4 (no_party p) _ (λ q. omega (arith, q)) z).0 f.1

-- ---- a run of one step that is refused

pub run-refused : (p bound n k : ℕ) (s : List ℕ) (t : List Session) (l : List ℕ) → Calls (C.step p l) s t (C.refused n k) l s t → Runs p bound s t l (C.refused n k) 1 l s t
run-refused p bound n k s t l d = record {
  within = record { some = omega arith; most = λ h. absurd (omega (arith, h)); few = omega arith; whole = λ e. let z : ◌≡◌ {A = ℕ} 0 1 = cc in absurd (omega arith) };
  made = next d stop;
}

-- ---- a request

-- The put is not accepted.
pub ask-refused : (p c e f g bound : ℕ) (s : List ℕ) (t : List Session) (l : List ℕ) (a : C.Answer) (s' : List ℕ) (t' : List Session)
    → Calls (C.put p c e f g) s t a [] s' t' → ¬ (a ≡ C.ok) → Requests p c e f g bound s t l a 0 l s' t'
ask-refused p c e f g bound s t l a s' t' d z = record { not_put = λ q. (z, refl); within = λ q. absurd (q refl); made = next d stop }

-- It is, and a run follows.
pub ask-run : {p c e f g bound : ℕ} (n : ℕ) {s : List ℕ} {t : List Session} {l : List ℕ} {a : C.Answer} {s₁ : List ℕ} {t₁ : List Session} {l' s' : List ℕ} {t' : List Session}
    → Calls (C.put p c e f g) s t C.ok [] s₁ t₁ → Runs p bound s₁ t₁ l a n l' s' t' → Requests p c e f g bound s t l a n l' s' t'
ask-run zero d R = absurd (omega (arith, R.within.some))
ask-run (suc k) d R = record { not_put = λ q. absurd (omega (arith, q)); within = λ q. R.within; made = next d R.made }

-- Demand 1 of the words: what the promises of the calls say of refusals.
use Rattle.std.specs.Prelude.{◌≡◌, refl, Bool, true, false, cond, not, ◌&&◌, List, [], ◌∷◌, ◌↔◌, ℕ, eqb, length, get_or}
use Rattle.std.proofs.Common.{sym, ap, subst, ◌∙◌, arith, eq-eqb, ne_eqb}
use Rattle.std.proofs.Math.Option.{none}
use Rattle.std.proofs.Math.Decide.{ℕ_discrete}
use Rattle.sessions.specs.declared.Session.{Session}
use Rattle.sessions.specs.Sessions.{session_at}
use Rattle.serial.specs.Serial.{true≢false}
use Rattle.serial.specs.Calls as C
use Rattle.machine.specs.State.{State, Request, Answer, ok, more, wait, done, refused, Outcome, session_of, fresh}
use Rattle.machine.specs.Steps.{answer}
use Rattle.machine.specs.Calls.{Call, call, steps, begins, commits, aborts, asks, recovers, accepted, format_checks, records_for}
use Rattle.machine.specs.Sound.{of_hand}
use Rattle.machine.specs.Hands.{Handed, Own, step-handed}
use Rattle.machine.specs.Answers.{may_write, written-only}
use Rattle.machine.specs.Demand.{call_of, Tells, told-refused, list_after}
use Rattle.meaning.specs.Reading.{M-of, meaning}
use Rattle.meaning.specs.Sound.{Sound}
use Rattle.layout.specs.Asked.{request_in}
use Rattle.finishing.specs.Finishing.{Elsewhere, elsewhere-same}
use Rattle.refusals.specs.Refusing.{first_of, begin_list, put_list, step_list, commit_list, abort_list, ask_list, ask-refused, begin-refused, put_refused, step-refused, commit-refused, abort_refused}
use Rattle.refusals.specs.Coded.{format-refused}
use Rattle.promises.specs.Relations.{outcome, stays, list_of, Ended, Answered, Calls, Formats}
use Rattle.promises.specs.Assembling.{is_refused, number_of, Each, first-is, list_same}
use Rattle.promises.specs.Steps.{hand-is, outcome-is, party}

-- The checks of a call after 1 and 2, in document 01's order; each is read from the store's length, M and the table.
abbrev pub checks_of : C.Call → List ℕ → List Session → List (ℕ × Bool)
checks_of (C.format m) s t = format_checks m (length s)
checks_of (C.begin p) s t = begin_list t p
checks_of (C.put p c e f g) s t = put_list (M-of s) t p c e f g
checks_of (C.step p l) s t = step_list t p
checks_of (C.commit p) s t = commit_list t p
checks_of (C.abort p) s t = abort_list t p
checks_of (C.ask p) s t = ask_list t p
checks_of C.recover s t = []

-- The number of the first that holds, 0 for none.
abbrev pub refusal_of : C.Call → List ℕ → List Session → ℕ
refusal_of c s t = first_of (checks_of c s t)

-- What a step may answer that no check refuses.
abbrev pub steps_with : C.Answer → Bool
steps_with C.ok = false
steps_with C.more = true
steps_with (C.wait p) = true
steps_with (C.done ns) = true
steps_with (C.refused n k) = C.ends_request n

abbrev pub Accepts : C.Call → C.Answer → Type 0
Accepts (C.format m) a = a ≡ C.ok
Accepts (C.begin p) a = a ≡ C.ok
Accepts (C.put p c e f g) a = a ≡ C.ok
Accepts (C.step p l) a = steps_with a ≡ true
Accepts (C.commit p) a = a ≡ C.ok
Accepts (C.abort p) a = a ≡ C.ok
Accepts (C.ask p) a = a ≡ C.ok
Accepts C.recover a = a ≡ C.ok

-- The party whose request a step ends.
abbrev pub Ends : C.Call → State → Type 0
Ends (C.format m) z = Unit {0}
Ends (C.begin p) z = Unit {0}
Ends (C.put p c e f g) z = Unit {0}
Ends (C.step p l) z = (session_of p z).hand ≡ none
Ends (C.commit p) z = Unit {0}
Ends (C.abort p) z = Unit {0}
Ends (C.ask p) z = Unit {0}
Ends C.recover z = Unit {0}

-- Every word of the store but the latch and the pins of the request that a step ends.
abbrev pub Spared : C.Call → List ℕ → List Session → List ℕ → Type 0
Spared (C.format m) s t s' = ⊥
Spared (C.begin p) s t s' = ⊥
Spared (C.put p c e f g) s t s' = ⊥
Spared (C.step p l) s t s' = (i : ℕ) → Elsewhere (M-of s) (session_at t p) i → get_or s' i 0 ≡ get_or s i 0
Spared (C.commit p) s t s' = ⊥
Spared (C.abort p) s t s' = ⊥
Spared (C.ask p) s t s' = ⊥
Spared C.recover s t s' = ⊥

spared : (c : C.Call) (s : List ℕ) (t : List Session) (s' : List ℕ) (t' : List Session) → Ended c s t s' t' → Spared c s t s'
spared (C.format m) s t s' t' e = e
spared (C.begin p) s t s' t' e = e
spared (C.put p c i f g) s t s' t' e = e
spared (C.step p l) s t s' t' e = λ i a. ap (λ z. get_or z i 0) e.0 ∙ elsewhere-same s (M-of s) (session_at t p) i a
spared (C.commit p) s t s' t' e = e
spared (C.abort p) s t s' t' e = e
spared (C.ask p) s t s' t' e = e
spared C.recover s t s' t' e = e

pub record Demand1 (c : C.Call) (s : List ℕ) (t : List Session) (a : C.Answer) (l' s' : List ℕ) (t' : List Session) : Type 0 where
  -- Refused first: a damaged store or a wrong session table by its number and never for another cause,
  pub damaged : (a ≡ C.refused 2 0) ↔ ¬ Sound s t
  -- a bad number and a call out of turn by theirs.
  pub refused_first : Sound s t → ¬ (refusal_of c s t ≡ 0) → a ≡ C.refused (refusal_of c s t) 0
  -- Then accepted: everything else.
  pub accepted_then : Sound s t → refusal_of c s t ≡ 0 → Accepts c a
  -- A refusal changes nothing,
  pub left_damaged : ¬ Sound s t → (l' ≡ list_of c) × (s' ≡ s) × (t' ≡ t)
  pub unchanged : Sound s t → (n k : ℕ) → a ≡ C.refused n k → C.ends_request n ≡ false → (l' ≡ list_of c) × (s' ≡ s) × (t' ≡ t)
  -- except that 11 and 12 end the request
  pub ends : Sound s t → (n k : ℕ) → a ≡ C.refused n k → C.ends_request n ≡ true → Ends c (meaning s' t')
  -- and change nothing else: the list, another party's session record, a word but the latch and the pins.
  pub ended : Sound s t → (n k : ℕ) → a ≡ C.refused n k → C.ends_request n ≡ true → (l' ≡ list_of c) × Ended c s t s' t'
  pub spares : Sound s t → (n k : ℕ) → a ≡ C.refused n k → C.ends_request n ≡ true → Spared c s t s'

-- ---- the first refusal

-- None of the checks has number 1, 2, 11 or 12.
abbrev Early : ℕ → Type 0
Early n = ¬ (n ≡ 1) × ¬ (n ≡ 2) × (C.ends_request n ≡ false)

early : (c : C.Call) (s : List ℕ) (t : List Session) → Early (refusal_of c s t)
early c s t = first-is Early (checks_of c s t) (out 0 (λ e. omega (arith, e)) (λ e. omega (arith, e)) refl) (all c)
  where
    out : (n : ℕ) → ¬ (n ≡ 1) → ¬ (n ≡ 2) → C.ends_request n ≡ false → Early n
    out n a b c = (a, b, c)

    all : (c : C.Call) → Each Early (checks_of c s t)
    all (C.format m) = (((λ e. omega (arith, e)), (λ e. omega (arith, e)), refl), tt)
    all (C.begin p) = (((λ e. omega (arith, e)), (λ e. omega (arith, e)), refl), (((λ e. omega (arith, e)), (λ e. omega (arith, e)), refl), tt))
    all (C.ask p) = (((λ e. omega (arith, e)), (λ e. omega (arith, e)), refl), (((λ e. omega (arith, e)), (λ e. omega (arith, e)), refl), (((λ e. omega (arith, e)), (λ e. omega (arith, e)), refl), (((λ e. omega (arith, e)), (λ e. omega (arith, e)), refl), tt))))
    all C.recover = tt
    all (C.put p c e f g) = (((λ e. omega (arith, e)), (λ e. omega (arith, e)), refl), (((λ e. omega (arith, e)), (λ e. omega (arith, e)), refl), (((λ e. omega (arith, e)), (λ e. omega (arith, e)), refl), (((λ e. omega (arith, e)), (λ e. omega (arith, e)), refl), (((λ e. omega (arith, e)), (λ e. omega (arith, e)), refl), (((λ e. omega (arith, e)), (λ e. omega (arith, e)), refl), (((λ e. omega (arith, e)), (λ e. omega (arith, e)), refl), (((λ e. omega (arith, e)), (λ e. omega (arith, e)), refl), tt))))))))
    all (C.step p l) = (((λ e. omega (arith, e)), (λ e. omega (arith, e)), refl), (((λ e. omega (arith, e)), (λ e. omega (arith, e)), refl), (((λ e. omega (arith, e)), (λ e. omega (arith, e)), refl), tt)))
    all (C.commit p) = (((λ e. omega (arith, e)), (λ e. omega (arith, e)), refl), (((λ e. omega (arith, e)), (λ e. omega (arith, e)), refl), (((λ e. omega (arith, e)), (λ e. omega (arith, e)), refl), tt)))
    all (C.abort p) = (((λ e. omega (arith, e)), (λ e. omega (arith, e)), refl), (((λ e. omega (arith, e)), (λ e. omega (arith, e)), refl), tt))

-- ---- a call on sound words

-- What the machine does where no check refuses.
abbrev unrefused : C.Call → List ℕ → List Session → Outcome
unrefused (C.format m) s t = answer ok (fresh m (records_for m (length s)))
unrefused (C.begin p) s t = answer ok (begins p (meaning s t))
unrefused (C.put p c e f g) s t = answer ok (accepted p c e f g (meaning s t))
unrefused (C.step p l) s t = steps p (length l) (session_of p (meaning s t)).hand (meaning s t)
unrefused (C.commit p) s t = answer ok (commits p (meaning s t))
unrefused (C.abort p) s t = answer ok (aborts p (meaning s t))
unrefused (C.ask p) s t = answer ok (asks p (meaning s t))
unrefused C.recover s t = answer ok (recovers (meaning s t))

recover-checks : (s : List ℕ) (t : List Session) → call (call_of C.recover (length s)) (meaning s t) ≡ cond (eqb (first_of []) 0) (unrefused C.recover s t) (answer (refused (first_of []) 0) (meaning s t))
unfolding call first_of
recover-checks s t = refl

by-checks : (c : C.Call) (s : List ℕ) (t : List Session) → Sound s t
    → outcome c s t ≡ cond (eqb (refusal_of c s t) 0) (unrefused c s t) (answer (refused (refusal_of c s t) 0) (meaning s t))
unfolding call
by-checks (C.format m) s t A = format-refused m (length s) (meaning s t) (unrefused (C.format m) s t)
by-checks (C.begin p) s t A = begin-refused s t A p (unrefused (C.begin p) s t)
by-checks (C.put p c e f g) s t A = put_refused s t A p c e f g (unrefused (C.put p c e f g) s t)
by-checks (C.step p l) s t A = step-refused s t A p (unrefused (C.step p l) s t)
by-checks (C.commit p) s t A = commit-refused s t A p (unrefused (C.commit p) s t)
by-checks (C.abort p) s t A = abort_refused s t A p (unrefused (C.abort p) s t)
by-checks (C.ask p) s t A = ask-refused s t A p (unrefused (C.ask p) s t)
by-checks C.recover s t A = recover-checks s t

-- A step's own answers.
step-with : (p : ℕ) (r : Request) (s : State) (z : Answer) (t : State) (a : C.Answer) → Own p r s z t → Tells z a → steps_with a ≡ true
step-with p r s ok t a w e = absurd w
step-with p r s more t a w e = ap steps_with e
step-with p r s (wait ps) t a w e = ap steps_with e.2
step-with p r s (done ns) t a w e = ap steps_with e
step-with p r s (refused n k) t a w e = ap steps_with e ∙ w.0

module _ (c : C.Call) (s : List ℕ) (t : List Session) (a : C.Answer) (l' s' : List ℕ) (t' : List Session) (S : Sound s t) (A : Answered c s t a l' s' t') where
  refused-by : ¬ (refusal_of c s t ≡ 0) → a ≡ C.refused (refusal_of c s t) 0
  refused-by n =
      let e = by-checks c s t S ∙ ap (λ b. cond b (unrefused c s t) (answer (refused (refusal_of c s t) 0) (meaning s t))) (ne_eqb (refusal_of c s t) 0 n) in
      subst (λ o. Tells o.answer a) e A.tells

  taken : refusal_of c s t ≡ 0 → outcome c s t ≡ unrefused c s t
  taken z = by-checks c s t S ∙ ap (λ b. cond b (unrefused c s t) (answer (refused (refusal_of c s t) 0) (meaning s t))) (eq-eqb (refusal_of c s t) 0 z)

  same-list : (n k : ℕ) → a ≡ C.refused n k → l' ≡ list_of c
  same-list n k e =
      let z = told-refused (outcome c s t).answer n k (subst (Tells (outcome c s t).answer) e A.tells) in
      A.list_is ∙ ap (list_after c) (written-only (call_of c (length s)) (meaning s t) S.state (ap (may_write (call_of c (length s)) (meaning s t)) z ∙ quiet (call_of c (length s)))) ∙ sym (list_same c)
    where
      and-false : (b : Bool) → (b && false) ≡ false
      and-false true = refl
      and-false false = refl

      quiet : (d : Call) → may_write d (meaning s t) (refused n k) ≡ false
      quiet (Call.format m w) = refl
      quiet (Call.begin p) = refl
      quiet (Call.put p c e f g) = refl
      quiet (Call.step p i) = and-false (of_hand false (λ r. eqb r.code 5) (session_of p (meaning s t)).hand)
      quiet (Call.commit p) = refl
      quiet (Call.abort p) = refl
      quiet (Call.ask p) = refl
      quiet Call.recover = refl

-- A step that no check refuses.
module _ (p : ℕ) (l : List ℕ) (s : List ℕ) (t : List Session) (S : Sound s t) (z : refusal_of (C.step p l) s t ≡ 0) where
  abbrev r : Request
  r = request_in (session_at t p)

  handed : Handed p r (meaning s t) (outcome (C.step p l) s t)
  handed = subst (Handed p r (meaning s t)) (sym (outcome-is s t p l S z))
      (step-handed p r (meaning s t) (omega (arith, party s t p l S z, S.state.seats)) (hand-is s t p l S z) (length l))

  own-answer : (a : C.Answer) → Tells (outcome (C.step p l) s t).answer a → steps_with a ≡ true
  own-answer a e = step-with p r (meaning s t) (outcome (C.step p l) s t).answer (outcome (C.step p l) s t).next a handed.own e

  own-end : (n k : ℕ) → (outcome (C.step p l) s t).answer ≡ refused n k → (session_of p (outcome (C.step p l) s t).next).hand ≡ none
  own-end n k e = let w : Own p r (meaning s t) (refused n k) (outcome (C.step p l) s t).next = subst (λ x. Own p r (meaning s t) x (outcome (C.step p l) s t).next) e handed.own in w.1

accepts : (c : C.Call) (s : List ℕ) (t : List Session) (a : C.Answer) → Sound s t → refusal_of c s t ≡ 0 → outcome c s t ≡ unrefused c s t → Tells (outcome c s t).answer a → Accepts c a
accepts (C.format m) s t a S z e h = subst (λ o. Tells o.answer a) e h
accepts (C.begin p) s t a S z e h = subst (λ o. Tells o.answer a) e h
accepts (C.put p c i f g) s t a S z e h = subst (λ o. Tells o.answer a) e h
accepts (C.step p l) s t a S z e h = own-answer p l s t S z a h
accepts (C.commit p) s t a S z e h = subst (λ o. Tells o.answer a) e h
accepts (C.abort p) s t a S z e h = subst (λ o. Tells o.answer a) e h
accepts (C.ask p) s t a S z e h = subst (λ o. Tells o.answer a) e h
accepts C.recover s t a S z e h = subst (λ o. Tells o.answer a) e h

ended_by : (c : C.Call) (s : List ℕ) (t : List Session) → Sound s t → refusal_of c s t ≡ 0 → (n k : ℕ) → (outcome c s t).answer ≡ refused n k → Ends c (outcome c s t).next
ended_by (C.format m) s t S z n k e = tt
ended_by (C.begin p) s t S z n k e = tt
ended_by (C.put p c i f g) s t S z n k e = tt
ended_by (C.step p l) s t S z n k e = own-end p l s t S z n k e
ended_by (C.commit p) s t S z n k e = tt
ended_by (C.abort p) s t S z n k e = tt
ended_by (C.ask p) s t S z n k e = tt
ended_by C.recover s t S z n k e = tt

-- Not refused by 2: an accepted call.
not-2 : (c : C.Call) (a : C.Answer) → Accepts c a → a ≡ C.refused 2 0 → ⊥
not-2 (C.format m) a h e = true≢false {b = true} refl (ap is_refused (sym e ∙ h))
not-2 (C.begin p) a h e = true≢false {b = true} refl (ap is_refused (sym e ∙ h))
not-2 (C.put p c i f g) a h e = true≢false {b = true} refl (ap is_refused (sym e ∙ h))
not-2 (C.step p l) a h e = true≢false (sym (ap steps_with e) ∙ h) refl
not-2 (C.commit p) a h e = true≢false {b = true} refl (ap is_refused (sym e ∙ h))
not-2 (C.abort p) a h e = true≢false {b = true} refl (ap is_refused (sym e ∙ h))
not-2 (C.ask p) a h e = true≢false {b = true} refl (ap is_refused (sym e ∙ h))
not-2 C.recover a h e = true≢false {b = true} refl (ap is_refused (sym e ∙ h))

-- Every call on every words and table.
pub demand-1 : (c : C.Call) (s : List ℕ) (t : List Session) (a : C.Answer) (l' s' : List ℕ) (t' : List Session) → Calls c s t a l' s' t' → Demand1 c s t a l' s' t'
demand-1 c s t a l' s' t' P = record {
  damaged = ((λ e S. only S (ℕ_discrete (refusal_of c s t) 0) e), λ n. (P.refuses n).answer);
  refused_first = λ S n. refused-by c s t a l' s' t' S (P.answers S).0 n;
  accepted_then = taken_then;
  left_damaged = λ n. let U = P.refuses n in (U.list_same, U.store_same, U.table_same);
  unchanged = λ S n k e z. let A = (P.answers S).0 in let w = A.still (ap stays e ∙ ap not z) in (same-list c s t a l' s' t' S A n k e, w.0, w.1);
  ends = λ S n k e y. ending S n k e y (ℕ_discrete (refusal_of c s t) 0);
  ended = λ S n k e y. let A = (P.answers S).0 in (same-list c s t a l' s' t' S A n k e, A.ended n k e y);
  spares = λ S n k e y. spared c s t s' t' ((P.answers S).0.ended n k e y);
}
  where
    taken_then : Sound s t → refusal_of c s t ≡ 0 → Accepts c a
    taken_then S z = let A = (P.answers S).0 in accepts c s t a S z (taken c s t a l' s' t' S A z) A.tells

    only : Sound s t → Dec (refusal_of c s t ≡ 0) → a ≡ C.refused 2 0 → ⊥
    only S (yes z) e = not-2 c a (taken_then S z) e
    only S (no n) e = (early c s t).1 (ap number_of (sym (refused-by c s t a l' s' t' S (P.answers S).0 n) ∙ e))

    ending : Sound s t → (n k : ℕ) → a ≡ C.refused n k → C.ends_request n ≡ true → Dec (refusal_of c s t ≡ 0) → Ends c (meaning s' t')
    ending S n k e y (yes z) =
        let A = (P.answers S).0 in
        subst (Ends c) (sym A.means) (ended_by c s t S z n k (told-refused (outcome c s t).answer n k (subst (Tells (outcome c s t).answer) e A.tells)))
    ending S n k e y (no i) = absurd (true≢false y (ap C.ends_request (sym (ap number_of (sym (refused-by c s t a l' s' t' S (P.answers S).0 i) ∙ e))) ∙ (early c s t).2))

-- Format: refused 3 by its sizes alone, for words and tables of every kind, and never 2.
pub format-1 : (m : ℕ) (s : List ℕ) (t : List Session) (a : C.Answer) (s' : List ℕ) (t' : List Session) → Formats m s t a s' t' → let n = refusal_of (C.format m) s t in
    (¬ (n ≡ 0) → (a ≡ C.refused n 0) × (s' ≡ s) × (t' ≡ t)) × (n ≡ 0 → a ≡ C.ok)
unfolding call
format-1 m s t a s' t' F = ((λ n. let e = told (ne_eqb (refusal_of (C.format m) s t) 0 n) in let w = F.refuses (ap stays e ∙ ap not (early (C.format m) s t).2) in (e, w.0, w.1)), λ z. told (eq-eqb (refusal_of (C.format m) s t) 0 z))
  where
    told : {b : Bool} → eqb (refusal_of (C.format m) s t) 0 ≡ b → Tells (cond b (unrefused (C.format m) s t) (answer (refused (refusal_of (C.format m) s t) 0) (meaning s t))).answer a
    told e = subst (λ o. Tells o.answer a) (format-refused m (length s) (meaning s t) (unrefused (C.format m) s t) ∙ ap (λ b. cond b (unrefused (C.format m) s t) (answer (refused (refusal_of (C.format m) s t) 0) (meaning s t))) e) F.tells

-- ---- refusal 1 is of the table's length alone

accepts-not-1 : (c : C.Call) (a : C.Answer) (k : ℕ) → Accepts c a → a ≡ C.refused 1 k → ⊥
accepts-not-1 (C.format m) a k h e = true≢false {b = true} refl (ap is_refused (sym e ∙ h))
accepts-not-1 (C.begin p) a k h e = true≢false {b = true} refl (ap is_refused (sym e ∙ h))
accepts-not-1 (C.put p c i f g) a k h e = true≢false {b = true} refl (ap is_refused (sym e ∙ h))
accepts-not-1 (C.step p l) a k h e = true≢false (sym (ap steps_with e) ∙ h) refl
accepts-not-1 (C.commit p) a k h e = true≢false {b = true} refl (ap is_refused (sym e ∙ h))
accepts-not-1 (C.abort p) a k h e = true≢false {b = true} refl (ap is_refused (sym e ∙ h))
accepts-not-1 (C.ask p) a k h e = true≢false {b = true} refl (ap is_refused (sym e ∙ h))
accepts-not-1 C.recover a k h e = true≢false {b = true} refl (ap is_refused (sym e ∙ h))

-- No call by value is refused 1.
pub calls-not-1 : (c : C.Call) (s : List ℕ) (t : List Session) (a : C.Answer) (l' s' : List ℕ) (t' : List Session) → Calls c s t a l' s' t' → (k : ℕ) → ¬ (a ≡ C.refused 1 k)
calls-not-1 c s t a l' s' t' P k e = unsound (λ S. by S (ℕ_discrete (refusal_of c s t) 0))
  where
    D : Demand1 c s t a l' s' t'
    D = demand-1 c s t a l' s' t' P

    by : Sound s t → Dec (refusal_of c s t ≡ 0) → ⊥
    by S (yes z) = accepts-not-1 c a k (D.accepted_then S z) e
    by S (no n) = (early c s t).0 (ap number_of (sym (D.refused_first S n) ∙ e))

    unsound : ¬ Sound s t → ⊥
    unsound n = omega (arith, ap number_of (sym (D.damaged.1 n) ∙ e))

pub format-not-1 : (m : ℕ) (s : List ℕ) (t : List Session) (a : C.Answer) (s' : List ℕ) (t' : List Session) → Formats m s t a s' t' → (k : ℕ) → ¬ (a ≡ C.refused 1 k)
format-not-1 m s t a s' t' F k e = by (ℕ_discrete (refusal_of (C.format m) s t) 0)
  where
    by : Dec (refusal_of (C.format m) s t ≡ 0) → ⊥
    by (yes z) = accepts-not-1 (C.format m) a k ((format-1 m s t a s' t' F).1 z) e
    by (no n) = (early (C.format m) s t).0 (ap number_of (sym ((format-1 m s t a s' t' F).0 n).0 ∙ e))

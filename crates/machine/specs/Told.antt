-- The requests in hand after a call, and who is asked, are what calls and answers tell.
use Rattle.std.specs.Prelude.{◌≡◌, Bool, List, [], ℕ}
use Rattle.std.proofs.Math.Path.{refl, ap}
use Rattle.std.proofs.Common.{sym, ◌∙◌, subst, arith}
use Rattle.std.proofs.Math.Bool.{true, false}
use Rattle.std.proofs.Math.Option.{Option, none, some}
use Rattle.std.proofs.Math.Decide.{ℕ_discrete}
use Rattle.std.proofs.Math.ListN.{length}
use Rattle.serial.specs.Serial.{put-cases}
use Rattle.serial.specs.Serial as Serial
use Rattle.serial.specs.Calls.{Told}
use Rattle.serial.specs.Calls as C
use Rattle.machine.specs.Logic.{either}
use Rattle.machine.specs.State.{Request, State, Answer, more, wait, done, refused, Outcome, session_of, set_hand, in_stage, fresh, ok}
use Rattle.machine.specs.Steps.{next_step, answer, settled}
use Rattle.machine.specs.Calls.{Call, format, begin, commit, abort, ask, recover, call, put_checks, step_checks, begin_checks, commit_checks, abort_checks, ask_checks, format_checks, records_for, accepted, begins, commits, aborts, asks, recovers, undo-all, end_hand, steps, first_stage, put, step}
use Rattle.machine.specs.Sound.{Sound}
use Rattle.machine.specs.Table.{as_asked, hand-other, hand-seat, hand-marks, session-put, session-other, session-kept, begins-kept, session-same, undo-all-table, end-other, end-many, leave_own, leave-other, hand_put}
use Rattle.machine.specs.Checks.{refusing-numbers, party-number, session-number, party-seat, session-unbegun}
use Rattle.machine.specs.Looks.{unbegun_hand}
use Rattle.machine.specs.Recover.{recovered, recovered-hands, recovered-asked, abort-own, abort-other}
use Rattle.machine.specs.Fresh.{fresh-session}
use Rattle.machine.specs.Hands.{Own, step-handed}
use Rattle.machine.specs.Demand.{as_told, tell_of}
use Rattle.machine.specs.Demand as D

-- ---- hands

-- What party q has in hand after the call is what is told.
abbrev pub HandsTold : Call → List ℕ → Told → Outcome → Type 0
HandsTold c l t o = (q : ℕ) → D.hand_put (session_of q o.next).hand ≡ (tell_of (as_told c) o.answer l t).hands q

module _ (s : State) (S : Sound s) (t : Told) (l : List ℕ) (h : (q : ℕ) → D.hand_put (session_of q s).hand ≡ t.hands q) where
  -- One party's hand becomes v, the others' stay.
  one-hand : (p : ℕ) (u : State) (v : Option Request) → (session_of p u).hand ≡ v → ((q : ℕ) → ¬ (p ≡ q) → (session_of q u).hand ≡ (session_of q s).hand)
      → (q : ℕ) → D.hand_put (session_of q u).hand ≡ Serial.put t.hands p (D.hand_put v) q
  one-hand p u v e n = put-cases (λ q z. D.hand_put (session_of q u).hand ≡ z) t.hands p (D.hand_put v) (ap D.hand_put e) (λ q m. ap D.hand_put (n q m) ∙ h q)

  pub format-hands : (m w : ℕ) → HandsTold (format m w) l t (call (format m w) s)
  unfolding call
  format-hands m w = refusing-numbers (HandsTold (format m w) l t) (format_checks m w) s (answer ok (fresh m (records_for m w))) (h, tt)
      λ k q. ap (λ x. D.hand_put x.hand) (fresh-session m (records_for m w) q)

  pub begin-hands : (p : ℕ) → HandsTold (begin p) l t (call (begin p) s)
  unfolding call
  begin-hands p = refusing-numbers (HandsTold (begin p) l t) (begin_checks p s) s (answer ok (begins p s)) (h, (h, tt)) λ k.
      let was : (q : ℕ) → (session_of q (begins p s)).hand ≡ (session_of q s).hand = λ q. begins-kept (λ x. x.hand) (λ n x. refl) (λ n x. refl) p q s in
      one-hand p (begins p s) none (was p ∙ unbegun_hand S p (session-number p k.0).0 (session-unbegun p s k.1.0)) (λ q n. was q)

  pub put-hands : (p c e f g : ℕ) → HandsTold (put p c e f g) l t (call (put p c e f g) s)
  unfolding call accepted
  put-hands p c e f g = refusing-numbers (HandsTold (put p c e f g) l t) (put_checks p c e f g s) s (answer ok (accepted p c e f g s)) (h, (h, (h, (h, (h, (h, (h, (h, tt)))))))) λ k.
      let r : Request = record { code = c; entry = e; first = f; second = g; stage = first_stage c f s } in
      one-hand p (set_hand p (some r) s) (some r) (ap (λ x. x.hand) (hand_put p (some r) s (party-seat p s S.seats (party-number p k.0)))) (λ q n. ap (λ x. x.hand) (hand-other p q (some r) s n))

  pub commit-hands : (p : ℕ) → HandsTold (commit p) l t (call (commit p) s)
  unfolding call commits
  commit-hands p = refusing-numbers (HandsTold (commit p) l t) (commit_checks p s) s (answer ok (commits p s)) (h, (h, (h, tt))) λ k.
      one-hand p (commits p s) none (ap (λ x. x.hand) (leave_own p _ (party-seat p s S.seats (session-number p k.0).1)))
      (λ q n. ap (λ x. x.hand) (leave-other p q _ n ∙ session-same s _ refl q))

  pub abort-hands : (p : ℕ) → HandsTold (abort p) l t (call (abort p) s)
  unfolding call aborts
  abort-hands p = refusing-numbers (HandsTold (abort p) l t) (abort_checks p s) s (answer ok (aborts p s)) (h, (h, tt)) λ k.
      let a = end_hand p (session_of p s).hand s in
      let b = undo-all (session_of p s).undos a in
      let e : b.table ≡ a.table = undo-all-table (session_of p s).undos a in
      let m : length b.table ≡ length s.table = ap length e ∙ end-many p (session_of p s).hand s in
      one-hand p (aborts p s) none
      (ap (λ x. x.hand) (leave_own p b (let z = party-seat p s S.seats (session-number p k.0).1 in omega arith)))
      (λ q n. ap (λ x. x.hand) (leave-other p q b n ∙ session-same a b e q ∙ end-other p q (session_of p s).hand s n))

  pub ask-hands : (p : ℕ) → HandsTold (ask p) l t (call (ask p) s)
  unfolding call asks
  ask-hands p = refusing-numbers (HandsTold (ask p) l t) (ask_checks p s) s (answer ok (asks p s)) (h, (h, (h, (h, tt)))) λ k q.
      ap D.hand_put (session-kept (λ x. x.hand) p as_asked s (λ x. refl) q) ∙ h q

  pub recover-hands : HandsTold recover l t (call recover s)
  unfolding call
  recover-hands q = ap D.hand_put (recovered-hands s (recovers s) (recovered s S) q)

  -- The same request in hand, perhaps in another stage.
  hold-told : (p : ℕ) (u : State) (v : Option Request) → (session_of p u).hand ≡ v → D.hand_put v ≡ D.hand_put (session_of p s).hand
      → ((q : ℕ) → ¬ (p ≡ q) → (session_of q u).hand ≡ (session_of q s).hand) → (q : ℕ) → D.hand_put (session_of q u).hand ≡ t.hands q
  hold-told p u v e w n q = go (ℕ_discrete p q)
    where
      go : Dec (p ≡ q) → D.hand_put (session_of q u).hand ≡ t.hands q
      go (yes m) = subst (λ z. D.hand_put (session_of z u).hand ≡ t.hands z) m (ap D.hand_put e ∙ w ∙ h p)
      go (no m) = ap D.hand_put (n q m) ∙ h q

  pub step-hands : (p n : ℕ) → HandsTold (step p n) l t (call (step p n) s)
  unfolding call steps
  step-hands p n = refusing-numbers (HandsTold (step p n) l t) (step_checks p s) s (steps p n (session_of p s).hand s) (h, (h, (h, tt))) λ k. go (session_of p s).hand refl
    where
      after : (r : Request) (o : Outcome) (a : Answer) → (session_of p s).hand ≡ some r → Own p r s a o.next
          → ((q : ℕ) → ¬ (p ≡ q) → (session_of q o.next).hand ≡ (session_of q s).hand) → (q : ℕ) → D.hand_put (session_of q o.next).hand ≡ (tell_of (C.step p []) a l t).hands q
      after r o ok e w n q = absurd w
      after r o more e w n q = hold-told p o.next (some (in_stage w.0 r)) w.1 (ap D.hand_put (sym e)) n q
      after r o (wait ps) e w n q = hold-told p o.next (some r) w (ap D.hand_put (sym e)) n q
      after r o (done ns) e w n q = one-hand p o.next none w n q
      after r o (refused i b) e w n q = rw w.0 (one-hand p o.next none w.1 n q)

      go : (v : Option Request) → (session_of p s).hand ≡ v → HandsTold (step p n) l t (steps p n v s)
      go none e = h
      go (some r) e = let o = settled s r.stage (next_step n p r s r.stage) in let d = step-handed p r s (hand-seat p r s e) e n in after r o o.answer e d.own d.others

-- ---- who is asked

abbrev pub MarksTold : Call → List ℕ → Told → Outcome → Type 0
MarksTold c l t o = (q : ℕ) → (session_of q o.next).asked ≡ (tell_of (as_told c) o.answer l t).asked q

module _ (s : State) (S : Sound s) (t : Told) (l : List ℕ) (h : (q : ℕ) → (session_of q s).asked ≡ t.asked q) where
  -- One party's mark becomes b, the others' stay.
  one-mark : (p : ℕ) (u : State) (b : Bool) → (session_of p u).asked ≡ b → ((q : ℕ) → ¬ (p ≡ q) → session_of q u ≡ session_of q s)
      → (q : ℕ) → (session_of q u).asked ≡ Serial.put t.asked p b q
  one-mark p u b e n = put-cases (λ q z. (session_of q u).asked ≡ z) t.asked p b e (λ q m. ap (λ x. x.asked) (n q m) ∙ h q)

  pub format-marks : (m w : ℕ) → MarksTold (format m w) l t (call (format m w) s)
  unfolding call
  format-marks m w = refusing-numbers (MarksTold (format m w) l t) (format_checks m w) s (answer ok (fresh m (records_for m w))) (h, tt) λ k q. ap (λ x. x.asked) (fresh-session m (records_for m w) q)

  pub begin-marks : (p : ℕ) → MarksTold (begin p) l t (call (begin p) s)
  unfolding call begins
  begin-marks p = refusing-numbers (MarksTold (begin p) l t) (begin_checks p s) s (answer ok (begins p s)) (h, (h, tt)) λ k q.
      begins-kept (λ x. x.asked) (λ n x. refl) (λ n x. refl) p q s ∙ h q

  pub put-marks : (p c e f g : ℕ) → MarksTold (put p c e f g) l t (call (put p c e f g) s)
  unfolding call accepted
  put-marks p c e f g = refusing-numbers (MarksTold (put p c e f g) l t) (put_checks p c e f g s) s (answer ok (accepted p c e f g s)) (h, (h, (h, (h, (h, (h, (h, (h, tt)))))))) λ k q.
      hand-marks p q (some (record { code = c; entry = e; first = f; second = g; stage = first_stage c f s })) s ∙ h q

  pub commit-marks : (p : ℕ) → MarksTold (commit p) l t (call (commit p) s)
  unfolding call commits
  commit-marks p = refusing-numbers (MarksTold (commit p) l t) (commit_checks p s) s (answer ok (commits p s)) (h, (h, (h, tt))) λ k.
      one-mark p (commits p s) false (ap (λ x. x.asked) (leave_own p _ (party-seat p s S.seats (session-number p k.0).1))) (λ q n. leave-other p q _ n ∙ session-same s _ refl q)

  pub abort-marks : (p : ℕ) → MarksTold (abort p) l t (call (abort p) s)
  unfolding call
  abort-marks p = refusing-numbers (MarksTold (abort p) l t) (abort_checks p s) s (answer ok (aborts p s)) (h, (h, tt)) λ k.
      one-mark p (aborts p s) false (ap (λ x. x.asked) (abort-own p s (party-seat p s S.seats (session-number p k.0).1))) (λ q n. abort-other p q s n)

  pub ask-marks : (p : ℕ) → MarksTold (ask p) l t (call (ask p) s)
  unfolding call asks
  ask-marks p = refusing-numbers (MarksTold (ask p) l t) (ask_checks p s) s (answer ok (asks p s)) (h, (h, (h, (h, tt)))) λ k.
      one-mark p (asks p s) true (ap (λ x. x.asked) (session-put p as_asked s (party-seat p s S.seats (session-number p k.0).1))) (λ q n. session-other p q as_asked s n)

  pub step-marks : (p n : ℕ) → MarksTold (step p n) l t (call (step p n) s)
  unfolding call steps
  step-marks p n = refusing-numbers (MarksTold (step p n) l t) (step_checks p s) s (steps p n (session_of p s).hand s) (h, (h, (h, tt))) λ k. go (session_of p s).hand refl
    where
      same : (a : Answer) (q : ℕ) → t.asked q ≡ (tell_of (C.step p []) a l t).asked q
      same ok q = refl
      same more q = refl
      same (wait ps) q = refl
      same (done ns) q = refl
      same (refused i b) q = either (λ u. t.asked q ≡ u.asked q) (C.ends_request i) (C.take_in_hand p none t) t refl refl

      go : (v : Option Request) → (session_of p s).hand ≡ v → MarksTold (step p n) l t (steps p n v s)
      go none e = h
      go (some r) e = λ q. ap (λ x. x.2) ((step-handed p r s (hand-seat p r s e) e n).tenures q) ∙ h q ∙ same (settled s r.stage (next_step n p r s r.stage)).answer q

  pub recover-marks : MarksTold recover l t (call recover s)
  unfolding call
  recover-marks q = recovered-asked s (recovers s) (recovered s S) q ∙ h q

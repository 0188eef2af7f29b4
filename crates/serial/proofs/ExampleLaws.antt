-- Theorems of specs/ExampleLaws: what it defines is there.
use Rattle.std.specs.Prelude.{◌≡◌, refl, Bool, true, false, cond, List, [], ◌∷◌, ◌++◌, map, ◌⊎◌, ℕ, zero, suc, ◌≤◌, length, drop}
use Rattle.std.proofs.Common.{sym, ◌∙◌, ap, subst, inl, inr, arith}
use Rattle.std.proofs.Math.Option.{Option, none, some, some-ne-none}
use Rattle.serial.specs.Serial.{put, put_same, put_other, put-cases, true≢false, hstep}
use Rattle.serial.specs.Serial as S
use Rattle.serial.specs.Model.{Req, read, write, insert, remove, locate, ans, request_of}
use Rattle.serial.specs.Footprints.{eff_good, store}
use Rattle.serial.specs.Locks.{entry, group, Mode, weak, strong, lock_rule, lock-rule-strict, Agree, Needs, undo_of}
use Rattle.serial.specs.LockMachine as M
use Rattle.serial.specs.Calls.{Turn, Asked, Told, nothing, tell_answer, tell_ok, fed, finished, told, Run, Knows, Laws, Demand3}
use Rattle.serial.proofs.Calls.{demand-3}
use Rattle.serial.specs.Calls as C
use Rattle.serial.specs.Codes.{tells-answer}
use Rattle.serial.specs.Recovery.{each, Lapse, each-lapsed, lapsed-begun}
use Rattle.serial.proofs.Recovery.{lapsed-past}
use Rattle.serial.specs.Example.{Span, Lock, Covers, covers?, holds, blocker, or_else, blocked, lock, taken, on, wanted, undone, State, meaning, blank, locked, served, ended, lapse, dropped, active, checks, first_failed, written, serve, short, try, serve_asked, step_on, accepted, unless, call, Bits, Sound, Does, example}
use Rattle.serial.specs.ExampleLaws.{pick_true, lock-rule-sym, not-flip, Clear, clear_none, clear-taken, taken-other, taken_more, holds-first, strong-pair, undone-good, bits-append, bits-undo, Kept, put_map, Passed, all-passed, refused-told, blank-knows, blank-formatted, by-event, ended-sound, abort-acts, lapses-begun, lapse-is, each-empty, session-range, unchanged, handed-kept, begin-kept, ended-knows, commit-kept, ask-kept, After, done-told, abort-accepted, commit-accepted}

-- ---- the locks agree

agree-one : (s : ℕ) (w : Span) (ls : List Lock) → Clear s w ls → Agree lock_rule (holds ls) → Agree lock_rule (holds (lock s w ∷ ls))
agree-one s w ls f A k m n u v x p q = at (pick_true (covers? (lock s w) k m u x) p) (pick_true (covers? (lock s w) k n v x) q)
  where
    mine : (a : Mode) (t : ℕ) → Covers (lock s w) k a t x → Covers (lock s w) k a s x
    mine a t c = (c.0, (refl, c.1.1))

    left : (v ≡ s) ⊎ (lock_rule k n m ≡ true) → s ≡ u → (u ≡ v) ⊎ (lock_rule k m n ≡ true)
    left (inl e) h = inl (sym h ∙ sym e)
    left (inr e) h = inr (lock-rule-sym k n m e)

    right : (u ≡ s) ⊎ (lock_rule k m n ≡ true) → s ≡ v → (u ≡ v) ⊎ (lock_rule k m n ≡ true)
    right (inl e) h = inl (e ∙ h)
    right (inr e) h = inr e

    at : Covers (lock s w) k m u x ⊎ (holds ls k m u x ≡ true) → Covers (lock s w) k n v x ⊎ (holds ls k n v x ≡ true)
        → (u ≡ v) ⊎ (lock_rule k m n ≡ true)
    at (inl c) (inl d) = inl (sym c.1.0 ∙ d.1.0)
    at (inl c) (inr d) = left (f k n m v x d (mine m u c)) c.1.0
    at (inr c) (inl d) = right (f k m n u x c (mine n v d)) d.1.0
    at (inr c) (inr d) = A k m n u v x c d

agree-taken : (s : ℕ) (ws : List Span) (ls : List Lock) → blocked s ws ls ≡ none → Agree lock_rule (holds ls) → Agree lock_rule (holds (taken s ws ls))
agree-taken s [] ls e A = A
agree-taken s (w ∷ ws) ls e A = at (blocker s w ls) refl e (λ q. agree-taken s ws ls q A)
  where
    at : (o : Option ℕ) → blocker s w ls ≡ o → or_else o (blocked s ws ls) ≡ none → (blocked s ws ls ≡ none → Agree lock_rule (holds (taken s ws ls)))
        → Agree lock_rule (holds (taken s (w ∷ ws) ls))
    at (some h) f q rest = absurd (some-ne-none h q)
    at none f q rest = agree-one s w (taken s ws ls) (clear-taken s w ws ls (clear_none s w ls f)) (rest q)

needs-taken : (s : ℕ) (r : Req) (ls : List Lock) → Needs (holds (taken s (wanted r) ls)) s r
needs-taken s (read e) ls = rw (holds-first s (on entry weak e e) ls e (omega arith) (omega arith))
needs-taken s (write e v) ls = holds-first s (on entry strong e e) ls e (omega arith) (omega arith)
needs-taken s (insert e k) ls = strong-pair s e k ls
needs-taken s (remove e k) ls = strong-pair s e k ls
needs-taken s (locate lo hi) ls = λ k p q. holds-first s (on group weak lo hi) ls k p q

-- ---- recover

lapse-laws : Lapse lock_rule Sound meaning (λ x. x.asked) lapse
lapse-laws = record {
  sound = λ p x S e. subst Sound (sym (lapse-is p x e)) (ended-sound x S p (undone (x.log p) x.now) (undone-good (x.log p) x.now S.good));
  aborted = λ p x S e. subst (λ y. M.Aborted p (meaning x) (meaning y)) (sym (lapse-is p x e)) (abort-acts x S p (lapses-begun p x e).0);
  marks = λ p x S e q. ap (λ y. y.asked q) (lapse-is p x e)
      ∙ put-cases (λ u b. b ≡ x.asked u) x.asked p false (sym (lapses-begun p x e).1) (λ u n. refl) q;
  spares = λ p x e. ap (λ b. cond b (ended p (undone (x.log p) x.now) x) x) e;
}

module _ (t : Told) (x : State) (w : Knows example t x) where
  abort-kept : (s : ℕ) → x.begun s ≡ true → Kept t (tell_ok (C.abort s) t) x (ended s (undone (x.log s) x.now) x)
  abort-kept s e = (
    ended-knows t x w s (undone (x.log s) x.now) (undone-good (x.log s) x.now w.sound.good) (hstep store (S.abort s) t.past),
    by-event t (tell_ok (C.abort s) t) x (ended s (undone (x.log s) x.now) x) (S.abort s)
        (abort-acts x w.sound s e) refl,
  )

  recover-kept : Kept t (tell_ok C.recover t) x (each lapse 16 1 (dropped x))
  recover-kept =
      let D : Sound (dropped x) = record
      { good = w.sound.good; sessions = w.sound.sessions; agree = w.sound.agree; bits = w.sound.bits; only_asked = λ u q. ((w.sound.only_asked u q).0, refl) } in
      let r = each-lapsed lock_rule Sound meaning (λ x. x.asked) lapse lapse-laws 16 1 (dropped x) D in
      let range : (s : ℕ) → x.begun s ≡ true → (1 ≤ s) × (s ≤ 16) = λ s b. session-range s (w.sound.sessions s b) in (
        record {
          sound = r.sound;
          hand_told = each-empty 16 1 (dropped x) (λ q. refl);
          begun_told = lapsed-begun lock_rule Sound meaning (λ x. x.asked) lapse 16 (dropped x) (each lapse 16 1 (dropped x)) range r t w.begun_told w.asked_told;
          asked_told = λ s. r.marks s ∙ w.asked_told s;
        },
        inl (record {
          events = S.quiet ∷ map S.abort r.who;
          moved = M.more {y = meaning (dropped x)} {e = S.quiet} (record { stays = λ u. record { holds_kept = λ k m z. refl; log_kept = refl }; begun_same = λ u. refl; db_kept = λ i. refl }) r.moved;
          as_told = lapsed-past lock_rule Sound meaning (λ x. x.asked) lapse 16 (dropped x) (each lapse 16 1 (dropped x)) range r t w.begun_told w.asked_told;
        }),
      )

  -- The locks, then the request under them.
  locked-acts : (s : ℕ) (r : Req) → x.begun s ≡ true → blocked s (wanted r) x.locks ≡ none → M.Locked lock_rule s (meaning x) (meaning (locked s r x))
  locked-acts s r b f = record {
    was = b;
    more = λ k m z h. taken_more s (wanted r) x.locks k m s z h;
    log_same = refl;
    others = λ u n. record { holds_kept = λ k m z. taken-other s (wanted r) x.locks k m u z n; log_kept = refl };
    begun_same = λ u. refl;
    db_kept = λ i. refl;
    agree = agree-taken s (wanted r) x.locks f w.sound.agree;
  }

  served-acts : (s : ℕ) (r : Req) → x.begun s ≡ true → M.Finished s r (ans r x.now) (meaning (locked s r x)) (meaning (served s r x))
  served-acts s r b = record {
    was = b;
    needs = needs-taken s r x.locks;
    model = x.now;
    model_good = w.sound.good;
    is_model = λ i. refl;
    answer = refl;
    change = λ i. refl;
    log_now = put_same x.log s (undo_of r x.now ++ x.log s);
    log_others = λ u n. put_other x.log s (undo_of r x.now ++ x.log s) u n;
    holds_same = λ k m u z. refl;
    begun_same = λ u. refl;
  }

  served-sound : (s : ℕ) (r : Req) → blocked s (wanted r) x.locks ≡ none → Sound (served s r x)
  served-sound s r f = record {
    good = eff_good r x.now w.sound.good;
    sessions = w.sound.sessions;
    agree = agree-taken s (wanted r) x.locks f w.sound.agree;
    bits = put-cases (λ u l. Bits l) x.log s (undo_of r x.now ++ x.log s)
        (bits-append (undo_of r x.now) (x.log s) (bits-undo r x.now) (w.sound.bits s)) (λ u m. w.sound.bits u);
    only_asked = λ u q. ((w.sound.only_asked u q).0, put-cases (λ v o. x.asked v ≡ true → o ≡ none) x.hands s none (λ i. refl) (λ v n i. (w.sound.only_asked v i).1) u q);
  }

  module _ (k : ℕ) (l : List ℕ) (q : Asked) (e : x.hands (suc k) ≡ some q) (b : x.begun (suc k) ≡ true) where
    serve-kept : (r : Req) → request_of q.code q.entry q.first q.second ≡ some r → blocked (suc k) (wanted r) x.locks ≡ none
        → (c : Bool) → After t x w k l q e b (serve (suc k) l x r c)
    serve-kept r f g true = handed-kept t x w (suc k) none (λ z. refl) t.past refl
    serve-kept r f g false = (
      record {
        sound = served-sound (suc k) r g;
        hand_told = put_map x.hands t.hands (suc k) none w.hand_told;
        begun_told = w.begun_told;
        asked_told = w.asked_told;
      },
      inl (record {
        events = S.grow (suc k) ∷ (S.finish (suc k) r (ans r x.now) ∷ []);
        moved = M.more {y = meaning (locked (suc k) r x)} (locked-acts (suc k) r b g) (M.more (served-acts (suc k) r b) M.still);
        as_told = done-told t x w k l q e b (some r) f _ (written (ans r x.now) l)
            ∙ ap (λ a. fed (suc k) (some r) a t.past) (tells-answer q.code q.entry q.first q.second r x.now (drop (length (ans r x.now).words) l) f);
      }),
    )

    try-kept : (r : Req) → request_of q.code q.entry q.first q.second ≡ some r → (o : Option ℕ) → blocked (suc k) (wanted r) x.locks ≡ o
        → After t x w k l q e b (try (suc k) l x r o)
    try-kept r f (some h) g = unchanged t x w
    try-kept r f none g = serve-kept r f g (short (ans r x.now) l)

    asked-kept : (o : Option Req) → request_of q.code q.entry q.first q.second ≡ o → After t x w k l q e b (serve_asked (suc k) l x o)
    asked-kept none f = handed-kept t x w (suc k) none (λ z. refl) (finished (suc k) (t.hands (suc k)) (0 ∷ (0 ∷ [])) l t.past)
        (done-told t x w k l q e b none f (0 ∷ (0 ∷ [])) l)
    asked-kept (some r) f = try-kept r f (blocked (suc k) (wanted r) x.locks) refl

  step_kept : (p : ℕ) (l : List ℕ) → active x p ≡ true → (o : Option Asked) → x.hands p ≡ o
      → Kept t (tell_answer (C.step p l) (step_on p l x o).0 (step_on p l x o).1 t) x (step_on p l x o).2
  step_kept p l b none e = unchanged t x w
  step_kept zero l b (some q) e = handed-kept t x w zero none (λ z. refl) t.past refl
  step_kept (suc k) l b (some q) e = asked-kept k l q e b (request_of q.code q.entry q.first q.second) refl

  accepted-kept : (c : C.Call) → Passed (checks c x) → Kept t (tell_answer c (accepted c x).0 (accepted c x).1 t) x (accepted c x).2
  accepted-kept (C.format m) h = (blank-knows, inr (record { nothing_told = refl; as_new = blank-formatted }))
  accepted-kept (C.begin s) h = begin-kept t x w s h.0 h.1.0
  accepted-kept (C.put p code e f g) h = handed-kept t x w p (some (record { code = code; entry = e; first = f; second = g }))
      (λ z. absurd (true≢false z (not-flip (x.asked p) true h.1.1.0))) t.past refl
  accepted-kept (C.step p l) h = step_kept p l h.1.0 (x.hands p) refl
  accepted-kept (C.commit s) h = commit-kept t x w s h.1.0
  accepted-kept (C.abort s) h = abort-kept s h.1.0
  accepted-kept (C.ask s) h = ask-kept t x w s h.1.0 h.1.1.1.0
  accepted-kept C.recover h = recover-kept

  call_kept : (c : C.Call) → Kept t (tell_answer c (call c x).0 (call c x).1 t) x (call c x).2
  call_kept c = at (first_failed (checks c x)) refl
    where
      at : (o : Option ℕ) → first_failed (checks c x) ≡ o → Kept t (tell_answer c (unless o c x).0 (unless o c x).1 t) x (unless o c x).2
      at (some n) e = subst (λ z. Kept t z x x) (sym (refused-told c x t n e)) (unchanged t x w)
      at none e = accepted-kept c (all-passed (checks c x) e)

turn-kept : (k : Turn) (x y : State) (t : Told) → Does x k y → Knows example t x → Kept t (C.tell k t) x y
turn-kept k x y t d w = subst (λ r. Kept t (tell_answer k.call r.0 r.1 t) x r.2) (sym d) (call_kept t x w k.call)

pub example-laws : Laws example lock_rule
example-laws = record {
  returns = λ c x w. ((call c x).0, (call c x).1, (call c x).2, refl);
  knows = λ k x y t d w. (turn-kept k x y t d w).0;
  moves = λ k x y t d w. (turn-kept k x y t d w).1;
  abort_ok = λ s k x y e d w b. ap (λ r. r.0) d ∙ ap (λ c. (call c x).0) e ∙ abort-accepted s x (w.sessions s b) b;
  commit_ok = λ s k x y e d w m. ap (λ r. r.0) d ∙ ap (λ c. (call c x).0) e ∙ commit-accepted s x w m;
}

-- Demand 3 of this machine, for every list of calls.
pub example-demand-3 : (ks : List Turn) (y : State) → Run example blank ks y → Demand3 example (told nothing ks) y
example-demand-3 ks y r = demand-3 example lock_rule lock-rule-strict example-laws blank y ks blank-knows blank-formatted r

-- Demand 3: the calls of the machine meet the laws of the serial-run theorem, so every list of them keeps its three sentences.
use Rattle.std.specs.Prelude.{◌≡◌, refl, true, false, List, [], ◌∷◌, ◌⊎◌, zero, suc, ◌≤◌, ℕ, length, drop}
use Rattle.std.proofs.Common.{sym, ◌∙◌, subst, ap, inl, inr, arith}
use Rattle.std.proofs.Math.Option.{Option, none, some}
use Rattle.serial.specs.Serial.{true≢false}
use Rattle.serial.specs.Model.{two_words}
use Rattle.serial.specs.Calls.{Turn, Told, nothing, tell, Knows}
use Rattle.serial.specs.Calls as C
use Rattle.machine.specs.Logic.{eqb_yes}
use Rattle.machine.specs.Holders.{width}
use Rattle.machine.specs.State.{Request, State, Outcome, session_of, fresh, Answer, wait, done, refused, ok, more}
use Rattle.machine.specs.Steps.{next_step, answer}
use Rattle.machine.specs.Calls.{put_checks, step_checks, begin_checks, commit_checks, abort_checks, ask_checks, format_checks, accepted, begins, commits, aborts, asks, steps, records_for, call, Call, format, abort, ask, recover, begin, put, step, commit}
use Rattle.machine.specs.Sound.{Sound}
use Rattle.machine.specs.Checks.{refusing-cases}
use Rattle.machine.specs.Looks.{begun-party}
use Rattle.machine.specs.Fresh.{fresh-session}
use Rattle.machine.specs.Ending.{fresh-sound}
use Rattle.machine.specs.Moves.{abort-accepted, commit-accepted}
use Rattle.machine.specs.Waits.{waiting, WaitsFor, step_blockers, step_waits, settled-step}
use Rattle.machine.specs.Demand.{Lent, call_of, Tells, list_after, Performs, machine, tell_of, tells-told, told-alike, ListOf, ToldSo, ToldNew, hand_put, as_told}

-- ---- a wait names somebody

abbrev pub Somebody : Answer → Type 0
Somebody ok = Unit {0}
Somebody more = Unit {0}
Somebody (wait []) = ⊥
Somebody (wait (p ∷ ps)) = Unit {0}
Somebody (done ns) = Unit {0}
Somebody (refused n k) = Unit {0}

no-wait : (a : Answer) → waiting a ≡ false → Somebody a
no-wait ok e = tt
no-wait more e = tt
no-wait (wait ps) e = absurd (true≢false {b = true} refl e)
no-wait (done ns) e = tt
no-wait (refused n k) e = tt

waits-named : (s : State) (bs : List ℕ) (o : Outcome) → WaitsFor s bs o → Somebody o.answer
waits-named s [] o h = no-wait o.answer h
waits-named s (b ∷ bs) o h = subst (λ z. Somebody z.answer) (sym h) tt

steps-named : (p n : ℕ) (s : State) (h : Option Request) → Somebody (steps p n h s).answer
unfolding steps
steps-named p n s none = tt
steps-named p n s (some r) = settled-step (λ o. Somebody o.answer) n p r s (waits-named s (step_blockers p r s r.stage) (next_step n p r s r.stage) (step_waits n p r s r.stage)) (λ b _. tt)

pub call-named : (c : Call) (s : State) → Somebody (call c s).answer
unfolding call
call-named (format m w) s = refusing-cases (λ o. Somebody o.answer) (format_checks m w) s (answer ok (fresh m (records_for m w))) (λ n. tt) (λ k. tt)
call-named (begin p) s = refusing-cases (λ o. Somebody o.answer) (begin_checks p s) s (answer ok (begins p s)) (λ n. tt) (λ k. tt)
call-named (put p c e f g) s = refusing-cases (λ o. Somebody o.answer) (put_checks p c e f g s) s (answer ok (accepted p c e f g s)) (λ n. tt) (λ k. tt)
call-named (step p n) s = refusing-cases (λ o. Somebody o.answer) (step_checks p s) s (steps p n (session_of p s).hand s) (λ i. tt) (λ k. steps-named p n s (session_of p s).hand)
call-named (commit p) s = refusing-cases (λ o. Somebody o.answer) (commit_checks p s) s (answer ok (commits p s)) (λ n. tt) (λ k. tt)
call-named (abort p) s = refusing-cases (λ o. Somebody o.answer) (abort_checks p s) s (answer ok (aborts p s)) (λ n. tt) (λ k. tt)
call-named (ask p) s = refusing-cases (λ o. Somebody o.answer) (ask_checks p s) s (answer ok (asks p s)) (λ n. tt) (λ k. tt)
call-named recover s = tt

told_of : (a : Answer) → Somebody a → (b : C.Answer) × Tells a b
told_of ok n = (C.ok, refl)
told_of more n = (C.more, refl)
told_of (wait []) n = absurd n
told_of (wait (p ∷ ps)) n = (C.wait p, (p, rw (eqb_yes p p refl) refl, refl))
told_of (done ns) n = (C.done ns, refl)
told_of (refused i k) n = (C.refused i k, refl)

-- ---- the laws

pub call_returns : (c : C.Call) (x : Lent) → (a : C.Answer) × (l : List ℕ) × (y : Lent) × Performs x (record { call = c; answer = a; list = l }) y
call_returns c x =
    let o = call (call_of c x.words) x.state in
    let b = told_of o.answer (call-named (call_of c x.words) x.state) in
    (b.0, list_after c o.written, record { state = o.next; words = x.words }, record { tells = b.1; list_is = refl; state_is = refl; words_same = refl })

pub list_of : (c : C.Call) (w : ℕ) (l : List ℕ) (o : Outcome) → l ≡ list_after c o.written → ListOf (call_of c w) l o
list_of (C.format m) w l o e = tt
list_of (C.begin p) w l o e = tt
list_of (C.put p c f g h) w l o e = tt
list_of (C.step p l₀) w l o e = (drop (length (two_words o.written)) l₀, e)
list_of (C.commit p) w l o e = tt
list_of (C.abort p) w l o e = tt
list_of (C.ask p) w l o e = tt
list_of C.recover w l o e = tt

module _ (k : Turn) (x y : Lent) (t : Told) (d : Performs x k y) (w : Knows machine t x) where
  abbrev c : Call
  c = call_of k.call x.words

  abbrev pub o : Outcome
  o = call c x.state

  abbrev pub u : Told
  u = tell_of (as_told c) o.answer k.list t

  pub telling : tell k t ≡ u
  telling = tells-told k.call o.answer k.answer k.list t d.tells ∙ told-alike k.call x.words o.answer k.list t

  pub begun-after : ToldSo x.state o.next t u ⊎ ToldNew o.next u → (p : ℕ) → (session_of p o.next).begun ≡ u.unfinished p
  begun-after (inl m) p = m.begun_told w.begun_told p
  begun-after (inr m) p = m.none_begun p ∙ sym (ap (λ z. z.unfinished p) m.nothing_told)

pub abort_ok : (s : ℕ) (k : Turn) (x y : Lent) → k.call ≡ C.abort s → Performs x k y → Sound x.state → (session_of s x.state).begun ≡ true → k.answer ≡ C.ok
abort_ok s k x y e d S b = go s (begun-party S s b) b (subst (λ z. Tells (call (call_of z x.words) x.state).answer k.answer) e d.tells)
  where
    go : (s : ℕ) → (1 ≤ s) × (s ≤ width) → (session_of s x.state).begun ≡ true → Tells (call (abort s) x.state).answer k.answer → k.answer ≡ C.ok
    go zero h b z = absurd (omega (arith, h))
    go (suc m) h b z = subst (λ a. Tells a k.answer) (abort-accepted m x.state h.1 b) z

pub commit_ok : (s : ℕ) (k : Turn) (x y : Lent) → k.call ≡ C.commit s → Performs x k y → Sound x.state → (session_of s x.state).asked ≡ true → k.answer ≡ C.ok
commit_ok s k x y e d S m =
    let q = S.only_asked s m in
    go s (begun-party S s q.0) q.0 q.1 (subst (λ z. Tells (call (call_of z x.words) x.state).answer k.answer) e d.tells)
  where
    go : (s : ℕ) → (1 ≤ s) × (s ≤ width) → (session_of s x.state).begun ≡ true → (session_of s x.state).hand ≡ none → Tells (call (commit s) x.state).answer k.answer → k.answer ≡ C.ok
    go zero h b o z = absurd (omega (arith, h))
    go (suc m) h b o z = subst (λ a. Tells a k.answer) (commit-accepted m x.state h.1 b o) z

-- A fresh store of m entries and r records, of so many words.
abbrev pub fresh_lent : ℕ → ℕ → ℕ → Lent
fresh_lent m r words = record { state = fresh m r; words = words }

pub fresh-known : (m r words : ℕ) → 1 ≤ m → m ≤ 1024 → 8 ≤ r → r ≤ 4096 → Knows machine nothing (fresh_lent m r words)
fresh-known m r words a b c d = record {
  sound = fresh-sound m r a b c d;
  hand_told = λ p. ap (λ z. hand_put z.hand) (fresh-session m r p);
  begun_told = λ p. ap (λ z. z.begun) (fresh-session m r p);
  asked_told = λ p. ap (λ z. z.asked) (fresh-session m r p);
}

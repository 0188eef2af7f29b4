-- The machine as the serial-run theorem asks for it: calls and answers in raw numbers, and every call as the events that its answer tells.
use Rattle.std.specs.Prelude.{◌≡◌, refl, Bool, true, false, cond, ◌&&◌, List, [], ◌∷◌, ◌++◌, map, ◌⊎◌, suc, ◌≤◌, ℕ, eqb, length, drop}
use Rattle.std.proofs.Common.{sym, ◌∙◌, subst, ap, inl, inr}
use Rattle.std.proofs.Math.Option.{Option, none, some}
use Rattle.serial.specs.Serial.{true≢false, put-cases, hstep}
use Rattle.serial.specs.Serial as S
use Rattle.serial.specs.Model.{Item, two_words, request_of}
use Rattle.serial.specs.Model as R
use Rattle.serial.specs.Footprints.{store}
use Rattle.serial.specs.LockMachine.{Acts, Formatted}
use Rattle.serial.specs.LockMachine as M
use Rattle.serial.specs.Calls.{Turn, Asked, Told, nothing, tell_ok, tell_done, tell_refused, tell_answer, Machine, take_in_hand, finished, fed, answer_of, ends_request}
use Rattle.serial.specs.Calls as C
use Rattle.serial.proofs.Recovery.{lapsed-past}
use Rattle.serial.specs.Codes.{by-code-upto-5, tells-answer}
use Rattle.machine.specs.Holders.{width, elem}
use Rattle.machine.specs.State.{Request, Stage, State, Outcome, session_of, fresh, Answer, wait, done, refused, ok, more}
use Rattle.machine.specs.Steps.{rule}
use Rattle.machine.specs.Calls.{records_for, call, Call, format, step, begin, put, commit, abort, ask, recover, lapse}
use Rattle.machine.specs.View.{view, seen_under, group_in, log_entry, items}
use Rattle.machine.specs.Sound.{Sound}
use Rattle.machine.specs.Keeps.{under}
use Rattle.machine.specs.Checks.{session-code}
use Rattle.machine.specs.Looks.{begun-party}
use Rattle.machine.specs.Fresh.{fresh-session, fresh-entry, fresh-held}
use Rattle.machine.specs.Events.{unseen, locks, finishes, Does}
use Rattle.machine.specs.Session.{req_of}
use Rattle.machine.specs.Moves.{Moves, tidied, began, committed, aborted, recovered, stepped, formatted, silent, quiet}
use Rattle.machine.specs.Recover.{Recovered, marks, recovered-begun}

-- ---- the machine as a store of the serial-run theorem

-- A state, and how many words the store has that is lent.
pub record Lent : Type 0 where
  pub state : State
  pub words : ℕ

-- A request in hand, as it was put.
abbrev pub as_put : Request → Asked
as_put r = record { code = r.code; entry = r.entry; first = r.first; second = r.second }

abbrev pub hand_put : Option Request → Option Asked
hand_put none = none
hand_put (some r) = some (as_put r)

-- The machine's call: of a lent list only its length counts.
abbrev pub call_of : C.Call → ℕ → Call
call_of (C.format m) w = format m w
call_of (C.begin p) w = begin p
call_of (C.put p c e f g) w = put p c e f g
call_of (C.step p l) w = step p (length l)
call_of (C.commit p) w = commit p
call_of (C.abort p) w = abort p
call_of (C.ask p) w = ask p
call_of C.recover w = recover

-- An answer tells the machine's: wait names one of its list, of which a step as it is settled has one.
abbrev pub Tells : Answer → C.Answer → Type 0
Tells ok a = a ≡ C.ok
Tells more a = a ≡ C.more
Tells (wait ps) a = (p : ℕ) × (elem p ps ≡ true) × (a ≡ C.wait p)
Tells (done ns) a = a ≡ C.done ns
Tells (refused n k) a = a ≡ C.refused n k

pub told-done : (a : Answer) (ns : List ℕ) → Tells a (C.done ns) → a ≡ done ns
told-done ok ns e = cc
told-done more ns e = cc
told-done (wait ps) ns e = let q = e.2 in cc
told-done (done ms) ns e = cc
told-done (refused n b) ns e = cc

pub told-refused : (a : Answer) (n k : ℕ) → Tells a (C.refused n k) → a ≡ refused n k
told-refused ok n k e = cc
told-refused more n k e = cc
told-refused (wait ps) n k e = let q = e.2 in cc
told-refused (done ms) n k e = cc
told-refused (refused i j) n k e = cc

-- The list at exit: the pairs written at its start, later words as they were. Calls but step have none.
abbrev pub list_after : C.Call → List (ℕ × ℕ) → List ℕ
list_after (C.format m) w = []
list_after (C.begin p) w = []
list_after (C.put p c e f g) w = []
list_after (C.step p l) w = two_words w ++ drop (length (two_words w)) l
list_after (C.commit p) w = []
list_after (C.abort p) w = []
list_after (C.ask p) w = []
list_after C.recover w = []

pub record Performs (x : Lent) (k : Turn) (y : Lent) : Type 0 where
  pub tells : Tells (call (call_of k.call x.words) x.state).answer k.answer
  pub list_is : k.list ≡ list_after k.call (call (call_of k.call x.words) x.state).written
  pub state_is : y.state ≡ (call (call_of k.call x.words) x.state).next
  pub words_same : y.words ≡ x.words

abbrev pub machine : Machine
machine = record {
  X = Lent;
  Sound = λ x. Sound x.state;
  meaning = λ x. view x.state;
  hand = λ x p. hand_put (session_of p x.state).hand;
  marked = λ x p. (session_of p x.state).asked;
  Does = Performs;
}

-- ---- what is told of an answer

abbrev pub tell_of : C.Call → Answer → List ℕ → Told → Told
tell_of c ok l t = tell_ok c t
tell_of c more l t = t
tell_of c (wait ps) l t = t
tell_of c (done ns) l t = tell_done c ns l t
tell_of c (refused n k) l t = tell_refused c n t

pub tells-told : (c : C.Call) (a : Answer) (b : C.Answer) (l : List ℕ) (t : Told) → Tells a b → tell_answer c b l t ≡ tell_of c a l t
tells-told c ok b l t e = ap (λ z. tell_answer c z l t) e
tells-told c more b l t e = ap (λ z. tell_answer c z l t) e
tells-told c (wait ps) b l t e = ap (λ z. tell_answer c z l t) e.2
tells-told c (done ns) b l t e = ap (λ z. tell_answer c z l t) e
tells-told c (refused n k) b l t e = ap (λ z. tell_answer c z l t) e

-- The call that is told, up to the words of the lent list.
abbrev pub as_told : Call → C.Call
as_told (format m w) = C.format m
as_told (begin p) = C.begin p
as_told (put p c e f g) = C.put p c e f g
as_told (step p n) = C.step p []
as_told (commit p) = C.commit p
as_told (abort p) = C.abort p
as_told (ask p) = C.ask p
as_told recover = C.recover

pub told-alike : (k : C.Call) (w : ℕ) (a : Answer) (l : List ℕ) (t : Told) → tell_of k a l t ≡ tell_of (as_told (call_of k w)) a l t
told-alike (C.format m) w a l t = refl
told-alike (C.begin p) w a l t = refl
told-alike (C.put p c e f g) w a l t = refl
told-alike (C.step p l₀) w ok l t = refl
told-alike (C.step p l₀) w more l t = refl
told-alike (C.step p l₀) w (wait ps) l t = refl
told-alike (C.step p l₀) w (done ns) l t = refl
told-alike (C.step p l₀) w (refused n k) l t = refl
told-alike (C.commit p) w a l t = refl
told-alike (C.abort p) w a l t = refl
told-alike (C.ask p) w a l t = refl
told-alike C.recover w a l t = refl

-- A silent call tells neither a finished request nor a session's begin or end.
pub record Alike (t u : Told) : Type 0 where
  pub past_same : u.past ≡ t.past
  pub unfinished_same : (p : ℕ) → u.unfinished p ≡ t.unfinished p

alike : (t : Told) → Alike t t
alike t = record { past_same = refl; unfinished_same = λ p. refl }

silent-told : (c : Call) (a : Answer) (l : List ℕ) (t : Told) → silent c a ≡ true → Alike t (tell_of (as_told c) a l t)
silent-told c more l t e = alike t
silent-told c (wait ps) l t e = alike t
silent-told (format m w) ok l t e = absurd (true≢false e refl)
silent-told (begin p) ok l t e = absurd (true≢false e refl)
silent-told (put p c f g h) ok l t e = record { past_same = refl; unfinished_same = λ q. refl }
silent-told (step p n) ok l t e = alike t
silent-told (commit p) ok l t e = absurd (true≢false e refl)
silent-told (abort p) ok l t e = absurd (true≢false e refl)
silent-told (ask p) ok l t e = record { past_same = refl; unfinished_same = λ q. refl }
silent-told recover ok l t e = absurd (true≢false e refl)
silent-told (format m w) (done ns) l t e = alike t
silent-told (begin p) (done ns) l t e = alike t
silent-told (put p c f g h) (done ns) l t e = alike t
silent-told (step p n) (done ns) l t e = absurd (true≢false e refl)
silent-told (commit p) (done ns) l t e = alike t
silent-told (abort p) (done ns) l t e = alike t
silent-told (ask p) (done ns) l t e = alike t
silent-told recover (done ns) l t e = alike t
silent-told (format m w) (refused n k) l t e = alike t
silent-told (begin p) (refused n k) l t e = alike t
silent-told (put p c f g h) (refused n k) l t e = alike t
silent-told (step p m) (refused n k) l t e = go (ends_request n)
  where
    go : (b : Bool) → Alike t (cond b (take_in_hand p none t) t)
    go true = record { past_same = refl; unfinished_same = λ q. refl }
    go false = alike t
silent-told (commit p) (refused n k) l t e = alike t
silent-told (abort p) (refused n k) l t e = alike t
silent-told (ask p) (refused n k) l t e = alike t
silent-told recover (refused n k) l t e = alike t

-- ---- a finished request

-- What is fed is the request in hand.
asked_is : (c e f g : ℕ) (st : Stage) → 1 ≤ c → c ≤ 5 → request_of c e f g ≡ some (req_of (record { code = c; entry = e; first = f; second = g; stage = st }))
unfolding req_of
asked_is c e f g st lo hi = by-code-upto-5 c lo hi (λ k. rw k refl) (λ k. rw k refl) (λ k. rw k refl) (λ k. rw k refl) (λ k. rw k refl)

-- ---- a fresh store

pub fresh-formatted : (m r : ℕ) → Formatted (view (fresh m r))
unfolding seen_under under group_in fresh
fresh-formatted m r = record { no_values = item; no_holds = fresh-held m r; no_log = λ p. ap (λ x. map log_entry x.undos) (fresh-session m r p) }
  where
    item : (i : Item) → items (fresh m r) i ≡ 0
    item (R.value e) = ap (λ x. x.value) (fresh-entry m r e)
    item (R.cell k e) = go (eqb 0 k)
      where
        go : (b : Bool) → cond {A = ℕ} (elem e (cond b [] [])) 1 0 ≡ 0
        go true = refl
        go false = refl

-- ---- each call is some events

pub record ToldSo (s t : State) (u v : Told) : Type 0 where
  pub events : List (S.Event store)
  pub moved : Acts rule (view s) events (view t)
  pub past_is : v.past ≡ S.hist store u.past events
  pub begun_told : ((p : ℕ) → (session_of p s).begun ≡ u.unfinished p) → (p : ℕ) → (session_of p t).begun ≡ v.unfinished p

pub record ToldNew (t : State) (v : Told) : Type 0 where
  pub nothing_told : v ≡ nothing
  pub as_new : Formatted (view t)
  pub none_begun : (p : ℕ) → (session_of p t).begun ≡ false

-- The list of a step begins with what was written.
abbrev pub ListOf : Call → List ℕ → Outcome → Type 0
ListOf (format m w) l o = Unit {0}
ListOf (begin p) l o = Unit {0}
ListOf (put p c e f g) l o = Unit {0}
ListOf (step p n) l o = (rest : List ℕ) × (l ≡ two_words o.written ++ rest)
ListOf (commit p) l o = Unit {0}
ListOf (abort p) l o = Unit {0}
ListOf (ask p) l o = Unit {0}
ListOf recover l o = Unit {0}

one-act : (e : S.Event store) (s t : State) → M.Act rule e (view s) (view t) → Acts rule (view s) (e ∷ []) (view t)
one-act e s t a = M.more a M.still

quiet-so : (s t : State) (u v : Told) → M.Unseen (view s) (view t) → Alike u v → ToldSo s t u v
quiet-so s t u v x a = record {
  events = S.quiet ∷ [];
  moved = one-act S.quiet s t x;
  past_is = a.past_same;
  begun_told = λ h p. x.begun_same p ∙ h p ∙ sym (a.unfinished_same p);
}

-- A begin, commit or abort.
turned-told : (s t : State) (u : Told) (p : ℕ) (b : Bool) → (session_of p t).begun ≡ b → ((q : ℕ) → ¬ (p ≡ q) → (session_of q t).begun ≡ (session_of q s).begun)
    → ((q : ℕ) → (session_of q s).begun ≡ u.unfinished q) → (q : ℕ) → (session_of q t).begun ≡ S.put u.unfinished p b q
turned-told s t u p b now others h = put-cases (λ q z. (session_of q t).begun ≡ z) u.unfinished p b now (λ q n. others q n ∙ h q)

step-told : (m n : ℕ) (r : Request) (s : State) (o : Outcome) (l : List ℕ) (t : Told) → (1 ≤ r.code) × (r.code ≤ 5) → t.hands (suc m) ≡ some (as_put r)
    → ListOf (step (suc m) n) l o → Does (suc m) (req_of r) s o → ToldSo s o.next t (tell_of (C.step (suc m) []) o.answer l t)
step-told m n r s o l t c h w (unseen u x) = quiet-so s o.next t (tell_of (C.step (suc m) []) o.answer l t) x (silent-told (step (suc m) n) o.answer l t u)
step-told m n r s o l t c h w (locks u x) = subst (λ a. ToldSo s o.next t (tell_of (C.step (suc m) []) a l t)) (sym u) (record {
  events = S.grow (suc m) ∷ [];
  moved = one-act (S.grow (suc m)) s o.next x;
  past_is = refl;
  begun_told = λ g p. x.begun_same p ∙ g p;
})
step-told m n r s o l t c h w (finishes i a u v x y) = subst (λ b. ToldSo s o.next t (tell_of (C.step (suc m) []) b l t)) (sym u) (record {
  events = S.grow (suc m) ∷ (S.finish (suc m) (req_of r) a ∷ []);
  moved = M.more x (M.more y M.still);
  past_is = ap (λ z. finished (suc m) z a.numbers l t.past) h
      ∙ ap (λ z. fed (suc m) z (answer_of r.code a.numbers l) t.past) (asked_is r.code r.entry r.first r.second r.stage c.0 c.1)
      ∙ ap (λ z. hstep store (S.finish (suc m) (req_of r) z) t.past) answered;
  begun_told = λ g p. y.begun_same p ∙ x.begun_same p ∙ g p;
})
  where
    answered : answer_of r.code a.numbers l ≡ a
    answered = ap (λ z. answer_of r.code a.numbers z) (w.1 ∙ ap (λ z. z ++ w.0) v)
        ∙ ap (λ z. answer_of r.code z.numbers (z.words ++ w.0)) y.answer
        ∙ tells-answer r.code r.entry r.first r.second (req_of r) y.model w.0
        (asked_is r.code r.entry r.first r.second r.stage c.0 c.1) ∙ sym y.answer

-- A recover: the housekeeper's end is not seen, and each abort is one event.
recover-so : (s o : State) (t : Told) → ((p : ℕ) → (session_of p s).begun ≡ t.unfinished p) → ((p : ℕ) → (session_of p s).asked ≡ t.asked p) → Recovered s o
    → ToldSo s o t (tell_ok C.recover t)
recover-so s o t b m R = record {
  events = S.quiet ∷ map S.abort R.gone.who;
  moved = M.more {y = view R.kept} {e = S.quiet} R.unseen R.gone.moved;
  past_is = lapsed-past rule Sound view marks lapse width R.kept o (begun-party R.sound) R.gone t (λ p. R.unseen.begun_same p ∙ b p) (λ p. R.marks_same p ∙ m p);
  begun_told = λ h p. recovered-begun s o R p ∙ ap (λ x. x && (session_of p s).asked) (h p) ∙ ap (λ x. t.unfinished p && x) (m p);
}

pub call-told : (c : Call) (s : State) (o : Outcome) (l : List ℕ) (t : Told) → Sound s → ((p : ℕ) → hand_put (session_of p s).hand ≡ t.hands p)
    → ((p : ℕ) → (session_of p s).begun ≡ t.unfinished p) → ((p : ℕ) → (session_of p s).asked ≡ t.asked p) → ListOf c l o → Moves s o c
    → ToldSo s o.next t (tell_of (as_told c) o.answer l t) ⊎ ToldNew o.next (tell_of (as_told c) o.answer l t)
call-told c s o l t σ h b m w (quiet d u x) = inl (quiet-so s o.next t (tell_of (as_told c) o.answer l t) x (silent-told c o.answer l t u))
call-told c s o l t σ h b m w (tidied n x) = inl (quiet-so s o.next t (tell_of (C.step 0 []) o.answer l t) x (go o.answer))
  where
    go : (a : Answer) → Alike t (tell_of (C.step 0 []) a l t)
    go ok = alike t
    go more = alike t
    go (wait ps) = alike t
    go (done ns) = record { past_same = refl; unfinished_same = λ q. refl }
    go (refused i k) = silent-told (step 0 n) (refused i k) l t refl
call-told c s o l t σ h b m w (began p u x) = inl (subst (λ a. ToldSo s o.next t (tell_of (C.begin p) a l t)) (sym u) (record {
  events = S.begin p ∷ [];
  moved = one-act (S.begin p) s o.next x;
  past_is = refl;
  begun_told = turned-told s o.next t p true x.now x.begun_others;
}))
call-told c s o l t σ h b m w (committed p u x) = inl (subst (λ a. ToldSo s o.next t (tell_of (C.commit p) a l t)) (sym u) (record {
  events = S.commit p ∷ [];
  moved = one-act (S.commit p) s o.next x;
  past_is = refl;
  begun_told = turned-told s o.next t p false x.ended.now x.ended.begun_others;
}))
call-told c s o l t σ h b m w (aborted p u x) = inl (subst (λ a. ToldSo s o.next t (tell_of (C.abort p) a l t)) (sym u) (record {
  events = S.abort p ∷ [];
  moved = one-act (S.abort p) s o.next x;
  past_is = refl;
  begun_told = turned-told s o.next t p false x.ended.now x.ended.begun_others;
}))
call-told c s o l t σ h b m w (recovered u R) = inl (subst (λ a. ToldSo s o.next t (tell_of C.recover a l t)) (sym u) (recover-so s o.next t b m R))
call-told c s o l t σ h b a w (stepped m n r q d) =
    inl (step-told m n r s o l t (session-code m r.code (σ.checked (suc m) r q).0) (sym (h (suc m)) ∙ ap hand_put q) w d)
call-told c s o l t σ h b a w (formatted m words u e) = inr (subst (λ a. ToldNew o.next (tell_of (C.format m) a l t)) (sym u) (subst (λ z. ToldNew z nothing) (sym e) (record {
  nothing_told = refl;
  as_new = fresh-formatted m (records_for m words);
  none_begun = λ p. ap (λ x. x.begun) (fresh-session m (records_for m words) p);
})))

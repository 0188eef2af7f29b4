-- What ask promises, and what recover leaves (M-105): only commit and abort remain to a session that is asked; from its ask on its commit is accepted and
-- what it holds stays held, whatever others call and across recovers, until its commit or abort; recover undoes each session that it aborts.
use Rattle.std.specs.Prelude.{◌≡◌, refl, true, false, not, ◌&&◌, List, [], ◌∷◌, ◌++◌, zero, suc, ◌≤◌, ℕ}
use Rattle.std.proofs.Common.{sym, ◌∙◌, ap, arith}
use Rattle.std.proofs.Math.Option.{none}
use Rattle.std.proofs.Math.Dec.{eqb-suc-zero}
use Rattle.serial.specs.Serial.{In, undo, undo-cong}
use Rattle.serial.specs.Model.{Item}
use Rattle.serial.specs.Footprints.{store}
use Rattle.serial.specs.LockMachine.{Stays}
use Rattle.serial.specs.Calls.{Turn, Told, nothing, tell, told}
use Rattle.serial.specs.Calls as C
use Rattle.serial.specs.Recovery.{logs, Unclosed, told_ok, closes, told-stays, lapsed-listed}
use Rattle.machine.specs.Logic.{leb_no}
use Rattle.machine.specs.Holders.{width}
use Rattle.machine.specs.State.{State, refused, session_of, ok}
use Rattle.machine.specs.Steps.{rule, answer}
use Rattle.machine.specs.Calls.{call, refusing, begin, put, step, commit, abort, ask, recover, recovers, is_asked, lapse}
use Rattle.machine.specs.View.{items, view}
use Rattle.machine.specs.Sound.{Sound}
use Rattle.machine.specs.Looks.{begun-party}
use Rattle.machine.specs.Recover.{marks, recovered}
use Rattle.machine.specs.Moves.{abort-accepted, commit-accepted}
use Rattle.machine.specs.Held.{Lasts, turn_ends}

-- ---- only commit and abort remain

pub record Fixed (p : ℕ) (s : State) : Type 0 where
  pub no_put : (c e f g : ℕ) → call (put p c e f g) s ≡ answer (refused 21 0) s
  pub no_ask : call (ask p) s ≡ answer (refused 21 0) s
  pub no_step : (n : ℕ) → call (step p n) s ≡ answer (refused 7 0) s
  pub no_begin : call (begin p) s ≡ answer (refused 5 0) s
  pub commit_ok : (call (commit p) s).answer ≡ ok
  pub abort_ok : (call (abort p) s).answer ≡ ok

module _ (m : ℕ) (s : State) (h : suc m ≤ width) (b : (session_of (suc m) s).begun ≡ true) (a : is_asked (suc m) s ≡ true) (o : (session_of (suc m) s).hand ≡ none) where
  fixed-session : Fixed (suc m) s
  unfolding call refusing
  fixed-session =
      let low = eqb-suc-zero m in
      let few = leb_no (suc width) (suc m) (omega (arith, h)) in
      record {
        no_put = λ c e f g. rw (few, low, b, a) refl;
        no_ask = rw (low, few, b, a) refl;
        no_step = λ n. rw (few, low, b, o) refl;
        no_begin = rw (low, few, b) refl;
        commit_ok = commit-accepted m s h b o;
        abort_ok = abort-accepted m s h b;
      }

pub asked-fixed : (p : ℕ) (s : State) → Sound s → is_asked p s ≡ true → Fixed p s
asked-fixed p s S a = let q = S.only_asked p a in go p (begun-party S p q.0) q.0 a q.1
  where
    go : (p : ℕ) → (1 ≤ p) × (p ≤ width) → (session_of p s).begun ≡ true → is_asked p s ≡ true → (session_of p s).hand ≡ none → Fixed p s
    go zero n b a o = absurd (omega (arith, n.0))
    go (suc m) n b a o = fixed-session m s n.1 b a o

-- ---- the promise, over lists of calls

-- No such turn ends what p holds.
pub unclosed-lasts : (p : ℕ) (ks : List Turn) (t : Told) → t.asked p ≡ true → Unclosed p ks → Lasts p t ks
unclosed-lasts p [] t a u = tt
unclosed-lasts p (k ∷ ks) t a u = (ends k.call k.answer u.0, unclosed-lasts p ks (tell k t) (told-stays p (k ∷ []) t (u.0, tt) a) u.1)
  where
    ends : (c : C.Call) (b : C.Answer) → (told_ok b && closes p c) ≡ false → turn_ends p t (record { call = c; answer = b; list = [] }) ≡ false
    ends (C.format m) b e = e
    ends (C.begin q) b e = e
    ends (C.put q c i f g) b e = e
    ends (C.step q l) b e = e
    ends (C.commit q) b e = e
    ends (C.abort q) b e = e
    ends (C.ask q) b e = e
    ends C.recover b e = ap (λ z. told_ok b && not z) a ∙ e

-- ---- what recover changes

-- The sessions who are those that are begun and not asked; every item is put back, session after session.
pub record Undoes (s t : State) : Type 0 where
  pub who : List ℕ
  pub each : (p : ℕ) → In p who → ((session_of p s).begun && not (is_asked p s)) ≡ true
  pub all : (p : ℕ) → ((session_of p s).begun && not (is_asked p s)) ≡ true → In p who
  pub put_back : (i : Item) → items t i ≡ undo store (logs rule Sound view marks lapse who s) (items s) i

pub recover-logical : (s : State) → Sound s → ((call recover s).answer ≡ ok) × Undoes s (call recover s).next
unfolding call
recover-logical s S =
    let R = recovered s S in
    let lapses : (p : ℕ) → ((session_of p R.kept).begun && not (is_asked p R.kept)) ≡ ((session_of p s).begun && not (is_asked p s))
    = λ p. ap (λ b. b && not (is_asked p R.kept)) (R.unseen.begun_same p) ∙ ap (λ b. (session_of p s).begun && not b) (R.marks_same p) in (
      refl,
      record {
        who = R.gone.who;
        each = λ p i. sym (lapses p) ∙ R.gone.lapse p i;
        all = λ p e. lapsed-listed rule Sound view marks lapse width R.kept (recovers s) (begun-party R.sound) R.gone p (lapses p ∙ e);
        put_back = λ i. R.gone.put_back i
            ∙ undo-cong store (logs rule Sound view marks lapse R.gone.who R.kept) (items R.kept) (items s) i (R.unseen.db_kept i)
            ∙ ap (λ l. undo store l (items s) i) (same-logs R.gone.who R.kept R.unseen.stays);
      },
    )
  where
    same-logs : (ps : List ℕ) (k : State) → ((p : ℕ) → Stays p (view s) (view k)) → logs rule Sound view marks lapse ps k ≡ logs rule Sound view marks lapse ps s
    same-logs [] k h = refl
    same-logs (p ∷ ps) k h = ap (λ l. l ++ logs rule Sound view marks lapse ps k) (h p).log_kept ∙ ap (λ l. (view s).log p ++ l) (same-logs ps k h)

-- Recover: housekeeping ends, and then every begun session that is not asked is aborted, one after another. Soundness is kept, each abort is an event of the
-- lock machine, and what is asked keeps all it had.
use Rattle.std.specs.Prelude.{◌≡◌, refl, Bool, true, false, cond, not, ◌&&◌, zero, suc, ◌<◌, ℕ, length}
use Rattle.std.proofs.Common.{sym, ◌∙◌, subst, ap, arith}
use Rattle.std.proofs.Math.Option.{Option, none, some}
use Rattle.std.proofs.Math.Decide.{ℕ_discrete}
use Rattle.serial.specs.Serial.{true≢false, by_bool}
use Rattle.serial.specs.LockMachine.{Stays, Unseen, Aborted}
use Rattle.serial.specs.Recovery.{each, Lapse, Lapsed, each-lapsed, lapsed-left, lapsed-spared}
use Rattle.machine.specs.Logic.{eqb_no, leb_no}
use Rattle.machine.specs.Holders.{width}
use Rattle.machine.specs.State.{Request, State, idle, session_of}
use Rattle.machine.specs.Steps.{rule}
use Rattle.machine.specs.Calls.{aborts, undo-all, end_hand, is_asked, lapse, recovers, call, recover}
use Rattle.machine.specs.View.{view, same-unseen}
use Rattle.machine.specs.Sound.{Sound}
use Rattle.machine.specs.Table.{session-same, ended-tenure, begun-seat, undo-all-table, end-other, end-many, leave_own, leave-other}
use Rattle.machine.specs.Looks.{begun-party}
use Rattle.machine.specs.Leaving.{stopped, chain-of, abort-sound}
use Rattle.machine.specs.Abort.{abort-aborted}

abbrev pub marks : State → ℕ → Bool
marks s p = is_asked p s

-- ---- the session table after an abort

pub abort-own : (p : ℕ) (s : State) → p < length s.table → session_of p (aborts p s) ≡ idle
unfolding aborts
abort-own p s h =
    let a = end_hand p (session_of p s).hand s in
    let n = ap length (undo-all-table (session_of p s).undos a) ∙ end-many p (session_of p s).hand s in
    leave_own p (undo-all (session_of p s).undos a) (omega (arith, h, n))

pub abort-other : (p q : ℕ) (s : State) → ¬ (p ≡ q) → session_of q (aborts p s) ≡ session_of q s
unfolding aborts
abort-other p q s n =
    let a = end_hand p (session_of p s).hand s in
    let b = undo-all (session_of p s).undos a in
    leave-other p q b n ∙ session-same a b (undo-all-table (session_of p s).undos a) q ∙ end-other p q (session_of p s).hand s n

-- ---- one session

lapses-so : (p : ℕ) (s : State) → ((session_of p s).begun && not (is_asked p s)) ≡ true → ((session_of p s).begun ≡ true) × (is_asked p s ≡ false)
lapses-so p s e = go (session_of p s).begun (is_asked p s) e
  where
    go : (a b : Bool) → (a && not b) ≡ true → (a ≡ true) × (b ≡ false)
    go true true q = absurd (true≢false q refl)
    go true false q = (refl, refl)
    go false b q = absurd (true≢false q refl)

pub lapse-is : (p : ℕ) (s : State) (b : Bool) → ((session_of p s).begun && not (is_asked p s)) ≡ b → lapse p s ≡ cond b (aborts p s) s
unfolding lapse
lapse-is p s b e = ap (λ b. cond b (aborts p s) s) e

begun-sound : (p : ℕ) (s : State) → Sound s → (session_of p s).begun ≡ true → Sound (aborts p s)
begun-sound zero s S b = absurd (true≢false b S.zero_unmarked)
begun-sound (suc m) s S b = abort-sound (suc m) s S
    (let n = begun-party S (suc m) b in rw (eqb_no (suc m) 0 (λ z. omega (arith, z)), leb_no (suc width) (suc m) (omega (arith, n.1))) refl)
    (rw (eqb_no (suc m) 0 (λ z. omega (arith, z)), b) refl)

begun-aborted : (p : ℕ) (s : State) → Sound s → (session_of p s).begun ≡ true → Aborted p (view s) (view (aborts p s))
begun-aborted p s S b = abort-aborted p s (let h = begun-seat p s b in let n = end-many p (session_of p s).hand s in omega (arith, h, n)) b (chain-of p s S b)

pub lapse-laws : Lapse rule Sound view marks lapse
lapse-laws = record {
  sound = λ p s S e. subst Sound (sym (lapse-is p s true e)) (begun-sound p s S (lapses-so p s e).0);
  aborted = λ p s S e. subst (λ t. Aborted p (view s) (view t)) (sym (lapse-is p s true e)) (begun-aborted p s S (lapses-so p s e).0);
  marks = λ p s S e q. ap (λ t. is_asked q t) (lapse-is p s true e) ∙ same p s (lapses-so p s e) q (ℕ_discrete p q);
  spares = λ p s e. lapse-is p s false e;
}
  where
    same : (p : ℕ) (s : State) → ((session_of p s).begun ≡ true) × (is_asked p s ≡ false) → (q : ℕ) → Dec (p ≡ q) → is_asked q (aborts p s) ≡ is_asked q s
    same p s b q (yes e) = subst (λ z. is_asked z (aborts p s) ≡ is_asked z s) e (ap (λ x. x.asked) (abort-own p s (begun-seat p s b.0)) ∙ sym b.1)
    same p s b q (no n) = ap (λ x. x.asked) (abort-other p q s n)

-- ---- all of them

-- From s to t: first housekeeping ends, in kept.
pub record Recovered (s t : State) : Type 0 where
  pub kept : State
  pub unseen : Unseen (view s) (view kept)
  pub marks_same : (q : ℕ) → is_asked q kept ≡ is_asked q s
  pub sound : Sound kept
  pub gone : Lapsed rule Sound view marks lapse 1 width kept t
  pub idle_zero : (session_of 0 t).hand ≡ none

end-asked : (p q : ℕ) (h : Option Request) (s : State) → is_asked q (end_hand p h s) ≡ is_asked q s
unfolding end_hand
end-asked p q none s = refl
end-asked p q (some r) s = ap (λ x. x.2) (ended-tenure p q r s)

each-zero : (n p : ℕ) (s : State) → session_of 0 (each lapse n (suc p) s) ≡ session_of 0 s
each-zero zero p s = refl
each-zero (suc n) p s = each-zero n (suc p) (lapse (suc p) s) ∙ go ((session_of (suc p) s).begun && not (is_asked (suc p) s)) refl
  where
    go : (b : Bool) → ((session_of (suc p) s).begun && not (is_asked (suc p) s)) ≡ b → session_of 0 (lapse (suc p) s) ≡ session_of 0 s
    go true e = ap (session_of 0) (lapse-is (suc p) s true e) ∙ abort-other (suc p) 0 s (λ z. omega (arith, z))
    go false e = ap (session_of 0) (lapse-is (suc p) s false e)

pub recovered : (s : State) → Sound s → Recovered s (recovers s)
unfolding recovers
recovered s S =
    let E = stopped 0 s S (session_of 0 s).hand refl in
    let k = end_hand 0 (session_of 0 s).hand s in
    record {
      kept = k;
      unseen = same-unseen s k E.same;
      marks_same = λ q. end-asked 0 q (session_of 0 s).hand s;
      sound = E.sound;
      gone = each-lapsed rule Sound view marks lapse lapse-laws width 1 k E.sound;
      idle_zero = ap (λ x. x.hand) (each-zero width 0 k) ∙ E.empty;
    }

pub recover-keeps : (s : State) → Sound s → Sound (call recover s).next
unfolding call
recover-keeps s S = (recovered s S).gone.sound

-- What an asked session has in its record stays, its place in the order of begins too.
each-kept : (n p q : ℕ) (s : State) → is_asked q s ≡ true → session_of q (each lapse n p s) ≡ session_of q s
each-kept zero p q s a = refl
each-kept (suc n) p q s a = let e = one (ℕ_discrete p q) in each-kept n (suc p) q (lapse p s) (ap (λ x. x.asked) e ∙ a) ∙ e
  where
    spared : (b m : Bool) → m ≡ true → (b && not m) ≡ false
    spared true m e = ap not e
    spared false m e = refl

    other : (b : Bool) → ((session_of p s).begun && not (is_asked p s)) ≡ b → ¬ (p ≡ q) → session_of q (lapse p s) ≡ session_of q s
    other true e n = ap (session_of q) (lapse-is p s true e) ∙ abort-other p q s n
    other false e n = ap (session_of q) (lapse-is p s false e)

    one : Dec (p ≡ q) → session_of q (lapse p s) ≡ session_of q s
    one (yes e) = ap (session_of q) (lapse-is p s false (spared (session_of p s).begun (is_asked p s) (ap (λ z. is_asked z s) e ∙ a)))
    one (no n) = other ((session_of p s).begun && not (is_asked p s)) refl n

pub recover-kept : (s : State) → Sound s → (q : ℕ) → is_asked q s ≡ true → session_of q (recovers s) ≡ session_of q s
unfolding recovers
recover-kept s S q a =
    let k = end_hand 0 (session_of 0 s).hand s in
    let n : ¬ (0 ≡ q) = λ e. true≢false (S.only_asked q a).0 (ap (λ z. (session_of z s).begun) (sym e) ∙ S.zero_unmarked) in
    let e : session_of q k ≡ session_of q s = end-other 0 q (session_of 0 s).hand s n in
    each-kept width 1 q k (ap (λ x. x.asked) e ∙ a) ∙ e

module _ (s t : State) (R : Recovered s t) where
  -- Only the sessions that were asked are begun,
  pub recovered-begun : (q : ℕ) → (session_of q t).begun ≡ ((session_of q s).begun && is_asked q s)
  recovered-begun q = lapsed-left rule Sound view marks lapse width R.kept t (begun-party R.sound) R.gone q
      ∙ ap (λ b. b && is_asked q R.kept) (R.unseen.begun_same q) ∙ ap (λ b. (session_of q s).begun && b) (R.marks_same q)

  pub recovered-asked : (q : ℕ) → is_asked q t ≡ is_asked q s
  recovered-asked q = R.gone.marks q ∙ R.marks_same q

  -- which keep their locks and undo records,
  pub recovered-stays : (q : ℕ) → is_asked q s ≡ true → Stays q (view s) (view t)
  recovered-stays q e =
      let a = R.unseen.stays q in
      let b = R.gone.stays q (lapsed-spared rule Sound view marks lapse width R.kept t (begun-party R.sound) R.gone q (R.marks_same q ∙ e)) in
      record { holds_kept = λ k m z. b.holds_kept k m z ∙ a.holds_kept k m z; log_kept = b.log_kept ∙ a.log_kept }

  -- and nobody has a request in hand.
  pub recovered-hands : (q : ℕ) → (session_of q t).hand ≡ none
  recovered-hands zero = R.idle_zero
  recovered-hands (suc m) = by_bool (session_of (suc m) t).begun (λ b. (R.gone.sound.only_asked (suc m) (asked b)).1) (λ b. R.gone.sound.unbegun_hand m b)
    where
      second : (a b : Bool) → (a && b) ≡ true → b ≡ true
      second true b e = e
      second false b e = absurd (true≢false e refl)

      asked : (session_of (suc m) t).begun ≡ true → is_asked (suc m) t ≡ true
      asked b = recovered-asked (suc m) ∙ second (session_of (suc m) s).begun (is_asked (suc m) s) (sym (recovered-begun (suc m)) ∙ b)

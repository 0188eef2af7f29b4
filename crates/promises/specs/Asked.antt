-- What ask and recover promise of the words (document 02, M-105): only commit and abort remain to a session that is asked, and both are accepted; recover ends
-- every request in hand with its latch and its pins, aborts each begun session that was not asked, and leaves the others all that they hold.
use Rattle.std.specs.Prelude.{◌≡◌, Bool, ◌&&◌, ◌||◌, List, [], ◌∷◌, ℕ, zero, suc, ◌≤◌, ◌<◌, eqb, length, get_or}
use Rattle.std.proofs.Math.Path.{refl, ap, subst}
use Rattle.std.proofs.Common.{sym, ◌∙◌, arith}
use Rattle.std.proofs.Math.Bool.{true, false, not}
use Rattle.std.proofs.Math.Option.{none}
use Rattle.sessions.specs.declared.Session.{Session}
use Rattle.sessions.specs.Sessions.{session_at}
use Rattle.serial.specs.Locks.{Kind, Mode}
use Rattle.serial.specs.Calls as C
use Rattle.machine.specs.Logic.{eqb_no}
use Rattle.machine.specs.Holders.{width, latch_word}
use Rattle.machine.specs.State.{State, Answer, ok, refused, Outcome, idle, session_of}
use Rattle.machine.specs.State as M
use Rattle.machine.specs.Steps.{answer, pinned}
use Rattle.machine.specs.Calls.{call, is_asked}
use Rattle.machine.specs.View.{holders}
use Rattle.machine.specs.Ledger.{is_ok}
use Rattle.machine.specs.Sound as S
use Rattle.machine.specs.Sound.{latch_count, of_hand, stands, total, times, pins_by, pins_in}
use Rattle.machine.specs.Housekeeping.{lvs}
use Rattle.machine.specs.Recover.{Recovered, recovered, recovered-begun, recovered-hands}
use Rattle.machine.specs.Asked.{Fixed, asked-fixed, Undoes, recover-logical}
use Rattle.machine.specs.Demand.{Tells}
use Rattle.meaning.specs.Reading.{meaning}
use Rattle.meaning.specs.Sound.{Sound}
use Rattle.meaning.specs.Table.{session_is, table-many}
use Rattle.promises.specs.Relations.{outcome, Calls}
use Rattle.promises.specs.Demand2.{holders-2}

-- ---- a session that is asked

-- Its record says so.
asked-read : (s : List ℕ) (t : List Session) → Sound s t → (p : ℕ) → p ≤ width → ¬ ((session_at t p).asked ≡ 0) → is_asked p (meaning s t) ≡ true
asked-read s t S p l n = go p l n
  where
    seat : (p : ℕ) → p ≤ width → p < length t
    seat p l = omega (arith, l, table-many s t S.state)

    go : (p : ℕ) → p ≤ width → ¬ ((session_at t p).asked ≡ 0) → is_asked p (meaning s t) ≡ true
    go zero l n = ap (λ x. x.asked) (session_is s t 0 (seat 0 l)) ∙ ap not (eqb_no (session_at t 0).asked 0 n)
    go (suc p) l n = ap (λ x. x.asked) (session_is s t (suc p) (seat (suc p) l)) ∙ ap not (eqb_no (session_at t (suc p)).asked 0 n)

told-as : (o : Outcome) (σ : State) (n : ℕ) (a : C.Answer) → Tells o.answer a → o ≡ answer (refused n 0) σ → a ≡ C.refused n 0
told-as o σ n a h e = subst (λ z. Tells z.answer a) e h

told-accepted : (o : Outcome) (a : C.Answer) → Tells o.answer a → o.answer ≡ ok → a ≡ C.ok
told-accepted o a h e = subst (λ z. Tells z a) e h

-- What its calls answer, on sound words.
pub record Remains (p : ℕ) (s : List ℕ) (t : List Session) : Type 0 where
  pub put_21 : (c e f g : ℕ) (a : C.Answer) (l s' : List ℕ) (t' : List Session) → Calls (C.put p c e f g) s t a l s' t' → a ≡ C.refused 21 0
  pub ask_21 : (a : C.Answer) (l s' : List ℕ) (t' : List Session) → Calls (C.ask p) s t a l s' t' → a ≡ C.refused 21 0
  pub step_7 : (w : List ℕ) (a : C.Answer) (l s' : List ℕ) (t' : List Session) → Calls (C.step p w) s t a l s' t' → a ≡ C.refused 7 0
  pub begin_5 : (a : C.Answer) (l s' : List ℕ) (t' : List Session) → Calls (C.begin p) s t a l s' t' → a ≡ C.refused 5 0
  pub commit_ok : (a : C.Answer) (l s' : List ℕ) (t' : List Session) → Calls (C.commit p) s t a l s' t' → a ≡ C.ok
  pub abort_ok : (a : C.Answer) (l s' : List ℕ) (t' : List Session) → Calls (C.abort p) s t a l s' t' → a ≡ C.ok

pub asked-remains : (p : ℕ) (s : List ℕ) (t : List Session) → Sound s t → p ≤ width → ¬ ((session_at t p).asked ≡ 0) → Remains p s t
asked-remains p s t S l n =
    let σ = meaning s t in
    let F = asked-fixed p σ S.state (asked-read s t S p l n) in
    record {
      put_21 = λ c e f g a w s' t' P. told-as (outcome (C.put p c e f g) s t) σ 21 a (P.answers S).0.tells (F.no_put c e f g);
      ask_21 = λ a w s' t' P. told-as (outcome (C.ask p) s t) σ 21 a (P.answers S).0.tells F.no_ask;
      step_7 = λ v a w s' t' P. told-as (outcome (C.step p v) s t) σ 7 a (P.answers S).0.tells (F.no_step (length v));
      begin_5 = λ a w s' t' P. told-as (outcome (C.begin p) s t) σ 5 a (P.answers S).0.tells F.no_begin;
      commit_ok = λ a w s' t' P. told-accepted (outcome (C.commit p) s t) a (P.answers S).0.tells F.commit_ok;
      abort_ok = λ a w s' t' P. told-accepted (outcome (C.abort p) s t) a (P.answers S).0.tells F.abort_ok;
    }

-- ---- recover

no-totals : (F : M.Session → ℕ) (l : List M.Session) → ((i : ℕ) → F (get_or l i idle) ≡ 0) → total F l ≡ 0
no-totals F [] h = refl
no-totals F (x ∷ l) h = omega (arith, h 0, no-totals F l (λ i. h (suc i)))

-- Where nobody has a request in hand nothing is pinned.
pinless : (σ : State) → S.Sound σ → ((q : ℕ) → (session_of q σ).hand ≡ none) → (k : ℕ) → pins_in k (lvs σ) ≡ 0
unfolding session_of
pinless σ A h k = A.pins_match k ∙ no-totals (pins_by k) σ.table (λ i. ap (of_hand 0 (λ r. times k (pinned r r.stage))) (h i))

-- From sound words to those that it leaves.
pub record Recovers2 (s : List ℕ) (t : List Session) (a : C.Answer) (s' : List ℕ) (t' : List Session) : Type 0 where
  pub accepted : a ≡ C.ok
  -- Those are begun that were asked, and nobody has a request in hand, the housekeeper neither; so there is no latch and no pin.
  pub begun_left : (q : ℕ) → (session_of q (meaning s' t')).begun ≡ ((session_of q (meaning s t)).begun && is_asked q (meaning s t))
  pub no_request : (q : ℕ) → (session_of q (meaning s' t')).hand ≡ none
  pub no_latch : (q : ℕ) → latch_count (latch_word q) (suc (meaning s' t').root.height) (meaning s' t').root.node ≡ 0
  pub no_pin : (k : ℕ) → pins_in k (lvs (meaning s' t')) ≡ 0
  -- The record of a session that was asked is as it was: its undo records, its place in the order of begins, its mark.
  pub records_kept : (q : ℕ) → ¬ (q ≡ 0) → ¬ ((session_at t q).asked ≡ 0) → session_at t' q ≡ session_at t q
  -- It holds what it held, and nobody else holds anything.
  pub holders_left : (k : Kind) (m : Mode) (q z : ℕ) → holders (meaning s' t') k m q z ≡ (is_asked q (meaning s t) && holders (meaning s t) k m q z)
  -- Values and memberships: what the others did is undone, and nothing else.
  pub undone : Undoes (meaning s t) (meaning s' t')

pub recover-2 : (s : List ℕ) (t : List Session) (a : C.Answer) (l s' : List ℕ) (t' : List Session) → Calls C.recover s t a l s' t' → Sound s t → Recovers2 s t a s' t'
recover-2 s t a l s' t' P S =
    let A = (P.answers S).0 in
    let σ = meaning s t in
    let τ = (outcome C.recover s t).next in
    let G = recover-logical σ S.state in
    let R : Recovered σ τ = unfold call in (recovered σ S.state) in
    let hands : (q : ℕ) → (session_of q (meaning s' t')).hand ≡ none = λ q. ap (λ z. (session_of q z).hand) A.means ∙ recovered-hands σ τ R q in
    record {
      accepted = told-accepted (outcome C.recover s t) a A.tells G.0;
      begun_left = λ q. ap (λ z. (session_of q z).begun) A.means ∙ recovered-begun σ τ R q;
      no_request = hands;
      no_latch = λ q. A.sound.state.latches_match q ∙ ap (of_hand 0 (λ r. stands r.stage)) (hands q);
      no_pin = pinless (meaning s' t') A.sound.state hands;
      records_kept = A.others;
      holders_left = λ k m q z. (holders-2 C.recover s t a l s' t' P S).holders_are k m q z ∙ left q (holders σ k m q z) G.0;
      undone = subst (Undoes σ) (sym A.means) G.1;
    }
  where
    left : (q : ℕ) (h : Bool) → (outcome C.recover s t).answer ≡ ok
        → (not (is_ok (outcome C.recover s t).answer && not (is_asked q (meaning s t))) && (h || false)) ≡ (is_asked q (meaning s t) && h)
    left q h e = ap (λ z. not (is_ok z && not (is_asked q (meaning s t))) && (h || false)) e ∙ go (is_asked q (meaning s t)) h
      where
        go : (b h : Bool) → (not (not b) && (h || false)) ≡ (b && h)
        go true true = refl
        go true false = refl
        go false h = refl

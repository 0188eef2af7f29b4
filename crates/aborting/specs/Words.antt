-- What abort does to the words of a store.
use Rattle.std.specs.Prelude.{◌≡◌, Bool, cond, List, ℕ, eqb}
use Rattle.std.proofs.Common.{sym, ap, subst, ◌∙◌, eq-eqb, ne_eqb}
use Rattle.sessions.specs.declared.Session.{Session}
use Rattle.undo_log.specs.Undoing.{undo_all, Undoings}
use Rattle.finishing.specs.Finishing.{end_request, Endable}
use Rattle.leaving.specs.Words.{leave_all, LeaveReady}

-- The request in hand ends, if there is one.
unfoldable pub hand_ended : List ℕ → ℕ → Session → List ℕ
hand_ended s m x = cond (eqb x.stage 0) s (end_request s m x)

-- The session's undo records, undone newest first.
unfoldable pub abort_undone : List ℕ → ℕ → ℕ → Session → List ℕ
abort_undone s m r x = undo_all (hand_ended s m x) m r x.undo

-- The session leaves every entry and every descriptor.
unfoldable pub abort_words : List ℕ → ℕ → ℕ → ℕ → Session → List ℕ
abort_words s m r p x = leave_all (abort_undone s m r x) m r p

-- ---- what the code asks

-- A request in hand can end.
abbrev pub HandReady : List ℕ → ℕ → Session → Type 0
HandReady s m x = ¬ (x.stage ≡ 0) → Endable s m x

-- The request can end, then the undo records can be undone, and then the session can leave.
pub record AbortReady (s : List ℕ) (m r p : ℕ) (x : Session) : Type 0 where
  pub hand : HandReady s m x
  pub undos : Undoings (hand_ended s m x) m r x.undo
  pub leave : LeaveReady (abort_undone s m r x) m r p

-- ---- the runs of the code, as equations

pub hand-none : (s : List ℕ) (m : ℕ) (x : Session) → x.stage ≡ 0 → s ≡ hand_ended s m x
unfolding hand_ended
hand-none s m x e = sym (ap (λ (b : Bool). cond b s (end_request s m x)) (eq-eqb x.stage 0 e))

pub hand-some : (s : List ℕ) (m : ℕ) (x : Session) → ¬ (x.stage ≡ 0) → end_request s m x ≡ hand_ended s m x
unfolding hand_ended
hand-some s m x n = sym (ap (λ (b : Bool). cond b s (end_request s m x)) (ne_eqb x.stage 0 n))

pub undos-at : {s t : List ℕ} {m r p : ℕ} {x : Session} → AbortReady s m r p x → t ≡ hand_ended s m x → Undoings t m r x.undo
undos-at {s} {t} {m} {r} {p} {x} A e = subst (λ z. Undoings z m r x.undo) (sym e) A.undos

pub undone-is : (s : List ℕ) {t u : List ℕ} (m r : ℕ) (x : Session) → t ≡ hand_ended s m x → u ≡ undo_all t m r x.undo → u ≡ abort_undone s m r x
unfolding abort_undone
undone-is s {t} {u} m r x a b = b ∙ ap (λ z. undo_all z m r x.undo) a

-- Theorems of specs/Abort: what it defines is there.
use Rattle.std.specs.Prelude.{◌≡◌, refl, List, ℕ, zero, suc, ◌≤◌, set}
use Rattle.std.proofs.Math.Path.{sym, ap, ap₂, subst}
use Rattle.std.proofs.Common.{◌∙◌, arith, set-set}
use Rattle.sessions.specs.declared.Session.{Session}
use Rattle.sessions.specs.Sessions.{session_at}
use Rattle.machine.specs.Holders.{width}
use Rattle.machine.specs.State.{session_of}
use Rattle.machine.specs.Calls.{leave, end_hand, aborts}
use Rattle.meaning.specs.Reading.{M-of, R-of}
use Rattle.layout.specs.Layout.{means}
use Rattle.layout.specs.Row.{Stands, Becomes, becomes-then}
use Rattle.layout.specs.Keep.{table_here}
use Rattle.undo_log.specs.Undoing.{undo_all, Undoings}
use Rattle.endings.specs.Table.{idled, unbegun}
use Rattle.undoing.specs.AllUndone.{all_undone_state, abort-is}
use Rattle.leaving.specs.Words.{leave_all, LeaveReady}
use Rattle.aborting.specs.Words.{hand_ended, abort_undone, abort_words, AbortReady}
use Rattle.aborting.specs.Abort.{x, σ, hand-becomes, hand_stands, hand-ready, p, y, left-becomes, left-ready, undos-ready}

-- ---- the session records

idled-undo : (x : Session) → (idled x).undo ≡ x.undo
unfolding idled
idled-undo x = refl

unbegun-idled : (x : Session) → unbegun (idled x) ≡ unbegun x
unfolding unbegun idled
unbegun-idled x = refl

-- ---- the whole

module _ (s : List ℕ) (t : List Session) (A : Stands s t) (q : ℕ) (high : suc q ≤ width) where
  abbrev n : ℕ
  n = suc q

  abbrev own : Session
  own = session_at t (suc q)

  abbrev s₁ : List ℕ
  s₁ = hand_ended s (M-of s) (session_at t (suc q))

  abbrev t₁ : List Session
  t₁ = set t (suc q) (idled (session_at t (suc q)))

  B : Becomes s s₁ t₁ (end_hand n (session_of n (means A.lay t)).hand (means A.lay t))
  B = hand-becomes s t A (suc q) high

  A₁ : Stands s₁ t₁
  A₁ = hand_stands s t A (suc q) high

  here : session_at t₁ n ≡ idled own
  here = table_here t n (idled own) A.holds.seats high

  undo-is : (session_at t₁ n).undo ≡ own.undo
  undo-is = ap (λ y. y.undo) here ∙ idled-undo own

  undone-is : undo_all s₁ (M-of s₁) (R-of s₁) (session_at t₁ n).undo ≡ abort_undone s (M-of s) (R-of s) own
  unfolding abort_undone
  undone-is = ap₂ (λ m r. undo_all s₁ m r (session_at t₁ n).undo) B.entries B.records ∙ ap (undo_all s₁ (M-of s) (R-of s)) undo-is

  words_are : leave_all (undo_all s₁ (M-of s₁) (R-of s₁) (session_at t₁ n).undo) (M-of s₁) (R-of s₁) n ≡ abort_words s (M-of s) (R-of s) n own
  unfolding abort_words
  words_are = ap₂ (λ m r. leave_all (undo_all s₁ (M-of s₁) (R-of s₁) (session_at t₁ n).undo) m r n) B.entries B.records ∙ ap (λ w. leave_all w (M-of s) (R-of s) n) undone-is

  table_is : set t₁ n (unbegun (session_at t₁ n)) ≡ set t n (unbegun own)
  table_is = ap (λ z. set t₁ n (unbegun z)) here ∙ ap (set t₁ n) (unbegun-idled own) ∙ set-set t n (idled own) (unbegun own)

  state_is : leave n (all_undone_state n (session_of n (means A₁.lay t₁)).undos (means A₁.lay t₁)) ≡ aborts n (means A.lay t)
  unfolding A₁ hand_stands B
  state_is = ap (λ σ. leave n (all_undone_state n (session_of n σ).undos σ)) B.means_next ∙ sym (abort-is n (means A.lay t))

  last-becomes : Becomes s₁ (abort_words s (M-of s) (R-of s) n own) (set t n (unbegun own)) (aborts n (means A.lay t))
  last-becomes =
      subst (λ z. Becomes s₁ (abort_words s (M-of s) (R-of s) n own) (set t n (unbegun own)) z) state_is
      (subst (λ z. Becomes s₁ (abort_words s (M-of s) (R-of s) n own) z (leave n (all_undone_state n (session_of n (means A₁.lay t₁)).undos (means A₁.lay t₁)))) table_is
      (subst (λ w. Becomes s₁ w (set t₁ n (unbegun (session_at t₁ n))) (leave n (all_undone_state n (session_of n (means A₁.lay t₁)).undos (means A₁.lay t₁)))) words_are
      (left-becomes s₁ t₁ A₁ q high)))

  whole : Becomes s (abort_words s (M-of s) (R-of s) n own) (set t n (unbegun own)) (aborts n (means A.lay t))
  whole =
      becomes-then s s₁ (abort_words s (M-of s) (R-of s) n own) t₁ (set t n (unbegun own)) (end_hand n (session_of n (means A.lay t)).hand (means A.lay t)) (aborts n (means A.lay t)) B last-becomes

  all-ready : AbortReady s (M-of s) (R-of s) n own
  all-ready = record {
    hand = hand-ready s t A n high;
    undos = subst (λ m. Undoings s₁ m (R-of s) own.undo) B.entries (subst (λ r. Undoings s₁ (M-of s₁) r own.undo) B.records
        (subst (Undoings s₁ (M-of s₁) (R-of s₁)) undo-is (undos-ready s₁ t₁ A₁ q high)));
    leave = subst (λ w. LeaveReady w (M-of s) (R-of s) n) undone-is
        (subst (λ m. LeaveReady (undo_all s₁ (M-of s₁) (R-of s₁) (session_at t₁ n).undo) m (R-of s) n) B.entries
        (subst (λ r. LeaveReady (undo_all s₁ (M-of s₁) (R-of s₁) (session_at t₁ n).undo) (M-of s₁) r n) B.records (left-ready s₁ t₁ A₁ q high)));
  }

pub abort-becomes : (s : List ℕ) (t : List Session) (A : Stands s t) (p : ℕ) → 1 ≤ p → p ≤ width
    → Becomes s (abort_words s (M-of s) (R-of s) p (session_at t p)) (set t p (unbegun (session_at t p))) (aborts p (means A.lay t))
abort-becomes s t A zero low high = absurd (omega (arith, low))
abort-becomes s t A (suc q) low high = whole s t A q high

-- What the code asks.
pub abort-ready : (s : List ℕ) (t : List Session) (A : Stands s t) (p : ℕ) → 1 ≤ p → p ≤ width → AbortReady s (M-of s) (R-of s) p (session_at t p)
abort-ready s t A zero low high = absurd (omega (arith, low))
abort-ready s t A (suc q) low high = all-ready s t A q high

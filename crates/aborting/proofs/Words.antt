-- Theorems of specs/Words: what it defines is there.
use Rattle.std.specs.Prelude.{◌≡◌, List, ℕ}
use Rattle.std.proofs.Common.{sym, ap, subst, ◌∙◌}
use Rattle.sessions.specs.declared.Session.{Session}
use Rattle.undo_log.specs.Undoing.{undo_all}
use Rattle.leaving.specs.Words.{leave_all, LeaveReady}
use Rattle.aborting.specs.Words.{hand_ended, abort_words, AbortReady, undone-is}

-- ---- the runs of the code, as equations

pub leave-at : {s t u : List ℕ} {m r p : ℕ} {x : Session} → AbortReady s m r p x → t ≡ hand_ended s m x → u ≡ undo_all t m r x.undo → LeaveReady u m r p
leave-at {s} {t} {u} {m} {r} {p} {x} A a b = subst (λ z. LeaveReady z m r p) (sym (undone-is s m r x a b)) A.leave

pub abort-run : (s : List ℕ) {t u v : List ℕ} (m r p : ℕ) (x : Session) → t ≡ hand_ended s m x → u ≡ undo_all t m r x.undo → v ≡ leave_all u m r p → v ≡ abort_words s m r p x
unfolding abort_words
abort-run s {t} {u} {v} m r p x a b c = c ∙ ap (λ z. leave_all z m r p) (undone-is s m r x a b)

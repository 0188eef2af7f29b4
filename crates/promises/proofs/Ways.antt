-- Theorems of specs/Ways: what it defines is there.
use Rattle.std.specs.Prelude.{◌≡◌, List, [], ℕ, set}
use Rattle.std.proofs.Common.{sym, ap, subst, ◌∙◌}
use Rattle.sessions.specs.declared.Session.{Session}
use Rattle.sessions.specs.Sessions.{session_at}
use Rattle.serial.specs.Calls as C
use Rattle.machine.specs.State.{ok}
use Rattle.meaning.specs.Reading.{M-of, R-of}
use Rattle.meaning.specs.Sound.{Sound}
use Rattle.endings.specs.Table.{unbegun}
use Rattle.leaving.specs.Words.{commit_words}
use Rattle.refusals.specs.Refusing.{first_of, commit_list}
use Rattle.promises.specs.Ways.{Serves, commit-done}

-- ---- the runs of the code, as equations

pub commit-run : (s : List ℕ) (t : List Session) (p : ℕ) {m r : ℕ} {x y : Session} {s' : List ℕ} {u : List Session} → Sound s t → first_of (commit_list t p) ≡ 0
    → m ≡ M-of s → r ≡ R-of s → x ≡ session_at t p → s' ≡ commit_words s m r p x.undo → y ≡ unbegun x → u ≡ set t p y → Serves (C.commit p) s t C.ok [] s' u
commit-run s t p {m} {r} {x} {y} {s'} {u} A z i j a w b c =
    subst (λ v. Serves (C.commit p) s t C.ok [] s' v) (sym (c ∙ ap (set t p) (b ∙ ap unbegun a)))
    (subst (λ v. Serves (C.commit p) s t C.ok [] v (set t p (unbegun (session_at t p))))
    (sym (w ∙ ap (λ k. commit_words s k r p x.undo) i ∙ ap (λ k. commit_words s (M-of s) k p x.undo) j ∙ ap (λ k. commit_words s (M-of s) (R-of s) p k.undo) a))
    (commit-done s t p z A))

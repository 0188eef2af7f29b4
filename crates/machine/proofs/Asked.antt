-- Theorems that rest on theorems of specs/: the rest of specs/Asked.antt.
use Rattle.std.specs.Prelude.{◌≡◌, true, List, ℕ}
use Rattle.std.proofs.Common.{sym, ◌∙◌}
use Rattle.serial.specs.Locks.{Kind, Mode, lock_rule}
use Rattle.serial.specs.Calls.{Turn, Told, Run, Knows}
use Rattle.serial.specs.Calls as C
use Rattle.serial.specs.Recovery.{Unclosed, AskedSince, ask-promise}
use Rattle.machine.specs.Calls.{is_asked}
use Rattle.machine.specs.View.{holders}
use Rattle.machine.specs.Demand.{Lent, Performs, machine}
use Rattle.machine.proofs.Demand3.{machine-laws}
use Rattle.machine.proofs.Held.{run-lasts}
use Rattle.machine.specs.Asked.{unclosed-lasts}

-- ---- the promise, over lists of calls

-- From an accepted ask of session p on, until an accepted commit or abort of p or a format: a commit of p is accepted.
pub asked-commits : (p : ℕ) (t : Told) (x y z : Lent) (ks : List Turn) (j : Turn) → Knows machine t x → Run machine x ks y → AskedSince p ks
    → j.call ≡ C.commit p → Performs y j z → j.answer ≡ C.ok
asked-commits = ask-promise lock_rule machine machine-laws

-- What a session that is asked holds, it holds until then, across recovers too.
pub asked-holds : (p : ℕ) (t : Told) (x y : Lent) (ks : List Turn) → Knows machine t x → is_asked p x.state ≡ true → Run machine x ks y → Unclosed p ks
    → (k : Kind) (m : Mode) (z : ℕ) → holders x.state k m p z ≡ true → holders y.state k m p z ≡ true
asked-holds p t x y ks w a r u k m z h = run-lasts k m p z t r w (unclosed-lasts p ks t (sym (w.asked_told p) ∙ a) u) h

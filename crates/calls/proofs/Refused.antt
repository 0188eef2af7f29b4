-- Calls that are refused, as they hand back their refusal.
use Rattle.std.specs.Prelude.{◌≡◌, ◌↔◌, Bool, true, false, List, ℕ}
use Rattle.std.proofs.Common.{sym, subst}
use Rattle.sessions.specs.declared.Session.{Session}
use Rattle.serial.specs.Calls as C
use Rattle.outcomes.specs.declared.Refusal.{Refusal}
use Rattle.outcomes.specs.declared.Refusal.TheVariants.{Unsound}
use Rattle.outcomes.specs.declared.Served.{Served}
use Rattle.outcomes.specs.Said.{said}
use Rattle.outcomes.specs.Refused.{number, refused_for}
use Rattle.meaning.specs.Sound.{Sound}
use Rattle.promises.specs.Relations.{Calls, list_of}
use Rattle.promises.specs.Ways.{way-unsound}

-- Whatever is promised of store and table as they were, and of the refusal.
pub refused-keeps : {t : List Session} (refusal : Refusal) {r : Served} (Q : C.Answer → List Session → Type 0) → r ≡ record { table = t; answer = refused_for refusal }
    → Q (C.refused (number refusal) 0) t → Q (said r.answer) r.table
refused-keeps refusal Q e h = subst (λ (r : Served). Q (said r.answer) r.table) (sym e) h

-- The test of soundness failed.
pub unsound-refused : (c : C.Call) {s : List ℕ} {t : List Session} {b : Bool} {r : Served} → ((b ≡ true) ↔ Sound s t) → b ≡ false → r ≡ record { table = t; answer = refused_for Unsound }
    → Calls c s t (said r.answer) (list_of c) s r.table
unsound-refused c {s} {t} {b} i z e = refused-keeps Unsound (λ a u. Calls c s t a (list_of c) s u) e (way-unsound c s t b i z)

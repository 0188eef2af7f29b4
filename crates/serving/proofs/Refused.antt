-- A call that is refused, as it hands back its refusal.
use Rattle.std.specs.Prelude.{◌≡◌, List, ℕ}
use Rattle.std.proofs.Common.{sym, subst}
use Rattle.sessions.specs.declared.Session.{Session}
use Rattle.serial.specs.Calls as C
use Rattle.outcomes.specs.declared.Refusal.{Refusal}
use Rattle.outcomes.specs.declared.Served.{Served}
use Rattle.outcomes.specs.Said.{said}
use Rattle.outcomes.specs.Refused.{number, refused_for}
use Rattle.promises.specs.Ways.{Serves}

pub served-refused : (c : C.Call) {s : List ℕ} {t : List Session} {l : List ℕ} (refusal : Refusal) {r : Served} → r ≡ record { table = t; answer = refused_for refusal }
    → Serves c s t (C.refused (number refusal) 0) l s t → Serves c s t (said r.answer) l s r.table
served-refused c {s} {t} {l} refusal e h = subst (λ (r : Served). Serves c s t (said r.answer) l s r.table) (sym e) h

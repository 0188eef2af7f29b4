-- Ask on words: only the mark in the session's record is another.
use Rattle.std.specs.Prelude.{◌≡◌, refl, List, ℕ, zero, suc, ◌≤◌, set}
use Rattle.std.proofs.Common.{sym, ap, ◌∙◌, arith}
use Rattle.sessions.specs.declared.Session.{Session}
use Rattle.sessions.specs.Sessions.{session_at}
use Rattle.machine.specs.Holders.{width}
use Rattle.machine.specs.State.{State, session_of, on_session, with_table}
use Rattle.machine.specs.State as M
use Rattle.machine.specs.Table.{as_asked}
use Rattle.machine.specs.Calls.{asks}
use Rattle.layout.specs.Layout.{Undone, means, session_in}
use Rattle.layout.specs.Row.{Stands, Becomes}
use Rattle.layout.specs.Keep.{table-row}
use Rattle.layout.specs.Places.{session-means, means-session}
use Rattle.endings.specs.Table.{asked_now}
use Rattle.leaving.specs.Begun.{idle-fits}

asks-put : (σ : State) (p : ℕ) (y : M.Session) → y ≡ as_asked (session_of p σ) → on_session p (λ _. y) σ ≡ asks p σ
unfolding on_session asks
asks-put σ p y e = ap (λ z. with_table (set σ.table p z) σ) e

asked-record : (u : ℕ → List Undone) (q : ℕ) (x : Session) → session_in u (suc q) (asked_now x) ≡ as_asked (session_in u (suc q) x)
unfolding asked_now
asked-record u q x = refl

asked-undo : (x : Session) → (asked_now x).undo ≡ x.undo
unfolding asked_now
asked-undo x = refl

asked-stage : (x : Session) → (asked_now x).stage ≡ x.stage
unfolding asked_now
asked-stage x = refl

pub ask-becomes : (s : List ℕ) (t : List Session) (A : Stands s t) (p : ℕ) → 1 ≤ p → p ≤ width → (session_at t p).stage ≡ 0
    → Becomes s s (set t p (asked_now (session_at t p))) (asks p (means A.lay t))
ask-becomes s t A zero low high e = absurd (omega (arith, low))
ask-becomes s t A (suc q) low high e =
    let p = suc q in
    let L = A.lay in
    let x = session_at t p in
    let σ = means L t in
    let at : session_of p σ ≡ session_in L.undos p x = session-means L t p (omega (arith, high, A.holds.seats)) in
    record {
      lay = L;
      holds = table-row s t L A.holds p (asked_now x) high (asked-undo x) (idle-fits L p (asked_now x) (asked-stage x ∙ e));
      means_next = means-session L t p (asked_now x) ∙ asks-put σ p (session_in L.undos p (asked_now x)) (asked-record L.undos q x ∙ ap as_asked (sym at));
      long = refl;
      entries = refl;
      records = refl;
      rest = refl;
    }

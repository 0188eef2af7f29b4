-- Tidy leaves the descriptor, and its request ends.
use Rattle.std.specs.Prelude.{◌≡◌, refl, List, ℕ, ◌≤◌, set}
use Rattle.std.proofs.Common.{sym, subst, ne_eqb}
use Rattle.std.proofs.Math.Option.{none}
use Rattle.sessions.specs.declared.Session.{Session}
use Rattle.sessions.specs.Sessions.{session_at}
use Rattle.machine.specs.Holders.{width, latch_word}
use Rattle.machine.specs.State.{at, on_tree, set_hand}
use Rattle.machine.specs.Descent.{on_latch, unlatched}
use Rattle.machine.specs.Steps.{pinned, unpin, unlatch, ended}
use Rattle.machine.specs.State as State
use Rattle.meaning.specs.Reading.{M-of}
use Rattle.meaning.specs.Latched.{at_request}
use Rattle.layout.specs.Layout.{means}
use Rattle.layout.specs.Row.{Stands, Becomes}
use Rattle.layout.specs.Left.{idle-fits}
use Rattle.nodes.specs.Ops.{latch_at}
use Rattle.endings.specs.Table.{idled}
use Rattle.finishing.specs.Ended.{end-latch}
use Rattle.arriving.specs.Handed.{left-hand}

-- A request that pins nothing on its descent ends.
pub ended-descent : (p : ℕ) (x : Session) (σ : State.State) → ¬ (x.code ≡ 5) → ended p (at_request x) σ ≡ set_hand p none (on_tree (on_latch (latch_word p) x.target unlatched) σ)
unfolding ended pinned unlatch unpin
ended-descent p x σ n = rw (ne_eqb x.code 5 n) refl

pub declined-becomes : (s : List ℕ) (t : List Session) (A : Stands s t) (p : ℕ) → p ≤ width → (session_at t p).stage ≡ 3 → ¬ ((session_at t p).code ≡ 5)
    → Becomes s (latch_at s (M-of s) (session_at t p).at 0) (set t p (idled (session_at t p))) (ended p (at_request (session_at t p)) (means A.lay t))
unfolding idled
declined-becomes s t A p l e n =
    let x = session_at t p in
    let s' = latch_at s (M-of s) x.at 0 in
    let R = end-latch s t A.lay A.holds A.sound p l e (idled x) refl refl in
    subst (Becomes s s' (set t p (idled x))) (sym (ended-descent p x (means A.lay t) n))
    (left-hand s t A.lay s' (on_tree (on_latch (latch_word p) x.target unlatched)) p (idled x) (idled x) R A.holds.seats l refl refl (idle-fits R.lay p (idled x) refl))

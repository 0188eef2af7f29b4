-- Begin on words: the party's session record is another, and the numbers of the begun sessions are.
use Rattle.std.specs.Prelude.{◌≡◌, refl, true, false, not, List, [], ◌∷◌, map, ℕ, zero, suc, ◌≤◌, set}
use Rattle.std.proofs.Common.{sym, ap, ap₂, subst, ◌∙◌, arith, eq-eqb}
use Rattle.std.proofs.Math.Option.{none}
use Rattle.sessions.specs.declared.Session.{Session}
use Rattle.sessions.specs.Sessions.{session_at}
use Rattle.serial.specs.Serial.{true≢false, not-true}
use Rattle.machine.specs.Holders.{width}
use Rattle.machine.specs.State.{State, session_of, on_session, with_table}
use Rattle.machine.specs.State as M
use Rattle.machine.specs.Calls.{begun_many, renumbered, begins}
use Rattle.meaning.specs.Reading.{Chained, M-of}
use Rattle.layout.specs.Layout.{Lay, Undone, undo_numbers, HandFits, UndosFit, means, session_in}
use Rattle.layout.specs.Row.{Stands, Becomes}
use Rattle.layout.specs.Keep.{table-row}
use Rattle.layout.specs.Places.{session-means, means-session}
use Rattle.layout.specs.Ranks.{renumbers-holds}
use Rattle.endings.specs.Table.{newly_begun}
use Rattle.seniority.specs.Seniority.{begun_in, renumbered_in}
use Rattle.leaving.specs.Renumbered.{renumbered-means, begun-means, renumbered-only, renumbered-unbegun}

-- No request in hand: a session record names no node and no descriptor.
pub idle-fits : (L : Lay) (p : ℕ) (x : Session) → x.stage ≡ 0 → HandFits L p x
idle-fits L p x e = record {
  stage = omega (arith, e);
  at-node = λ z. absurd (omega (arith, e, z));
  low = λ n. absurd (n e);
  high = λ z. absurd (omega (arith, e, z));
  last = λ z. absurd (omega (arith, e, z));
}

no-undone : (us : List Undone) → map (λ y. y.undo) us ≡ [] → us ≡ []
no-undone [] e = refl
no-undone (u ∷ us) e = let z : ◌≡◌ {A = ℕ} 0 1 = cc in absurd (omega arith)

-- A chain of no undo record.
pub no-chain : (s : List ℕ) (m i : ℕ) (us : List Undone) → us ≡ [] → UndosFit s m i us → i ≡ 0
no-chain s m i us e f = subst (λ z. Chained s m i (undo_numbers z)) e f.chained

-- ---- begin

begins-put : (σ : State) (p : ℕ) (y : M.Session)
    → y ≡ record { begun = true; order = suc (begun_many σ.table); hand = (session_of p (renumbered σ)).hand; undos = (session_of p (renumbered σ)).undos; asked = (session_of p (renumbered σ)).asked } → on_session p (λ _. y) (renumbered σ) ≡ begins p σ
unfolding on_session begins
begins-put σ p y e = ap (λ z. with_table (set (renumbered σ).table p z) (renumbered σ)) e

begun-record : (u : ℕ → List Undone) (q n : ℕ) (x : Session) (y : M.Session) → y ≡ session_in u (suc q) x → y.hand ≡ none → y.asked ≡ false
    → session_in u (suc q) (newly_begun x n) ≡ record { begun = true; order = n; hand = y.hand; undos = y.undos; asked = y.asked }
unfolding newly_begun
begun-record u q n x y e h a =
    ap₂ (λ z b. record { begun = true; order = n; hand = z; undos = map (λ w. w.undo) (u (suc q)); asked = b }) (sym h) (sym a)
    ∙ ap (λ v. record { begun = true; order = n; hand = y.hand; undos = v; asked = y.asked }) (sym (ap (λ z. z.undos) e))

begun-undo : (x : Session) (n : ℕ) → (newly_begun x n).undo ≡ 0
unfolding newly_begun
begun-undo x n = refl

begun-stage : (x : Session) (n : ℕ) → (newly_begun x n).stage ≡ 0
unfolding newly_begun
begun-stage x n = refl

-- The begun sessions are renumbered, and the session has the number behind theirs.
pub begin-becomes : (s : List ℕ) (t : List Session) (A : Stands s t) (p : ℕ) → 1 ≤ p → p ≤ width → (session_at t p).begun ≡ 0
    → Becomes s s (set (renumbered_in t) p (newly_begun (session_at t p) (suc (begun_in t)))) (begins p (means A.lay t))
begin-becomes s t A zero low high e = absurd (omega (arith, low))
begin-becomes s t A (suc q) low high e =
    let p = suc q in
    let L = A.lay in
    let x = session_at t p in
    let y = newly_begun x (suc (begun_in t)) in
    let σ = means L t in
    let v = renumbered_in t in
    let R = renumbered-only t in
    let H = renumbers-holds s t v L A.holds R in
    let was : session_at v p ≡ x = renumbered-unbegun t p e in
    let at : session_of p σ ≡ session_in L.undos p x = session-means L t p (omega (arith, high, A.holds.seats)) in
    let off : (session_of p σ).begun ≡ false = ap (λ z. z.begun) at ∙ ap not (eq-eqb x.begun 0 e) in
    let none-there : L.undos p ≡ [] = no-undone (L.undos p) (sym (ap (λ z. z.undos) at) ∙ A.sound.unbegun_undos p off) in
    let nothing : x.undo ≡ 0 = no-chain s (M-of s) x.undo (L.undos p) none-there (A.holds.fits.undos q high) in
    let ranks : means L v ≡ renumbered σ = renumbered-means L t A.holds.seats in
    let there : session_of p (renumbered σ) ≡ session_in L.undos p x =
    ap (session_of p) (sym ranks) ∙ session-means L v p (omega (arith, high, H.seats)) ∙ ap (session_in L.undos p) was in
    let idle-hand : (session_of p (renumbered σ)).hand ≡ none = ap (λ z. z.hand) (there ∙ sym at) ∙ A.sound.unbegun_hand q off in
    let unasked : (session_of p (renumbered σ)).asked ≡ false =
    ap (λ z. z.asked) (there ∙ sym at) ∙ not-true (session_of p σ).asked (λ a. true≢false (A.sound.only_asked p a).0 off) in
    record {
      lay = L;
      holds = table-row s v L H p y high (begun-undo x (suc (begun_in t)) ∙ sym (ap (λ z. z.undo) was ∙ nothing)) (idle-fits L p y (begun-stage x (suc (begun_in t))));
      means_next =
          means-session L v p y
          ∙ ap (on_session p (λ _. session_in L.undos p y)) ranks
          ∙ begins-put σ p (session_in L.undos p y)
          (begun-record L.undos q (suc (begun_in t)) x (session_of p (renumbered σ)) there idle-hand unasked
          ∙ ap (λ n. record { begun = true; order = suc n; hand = (session_of p (renumbered σ)).hand; undos = (session_of p (renumbered σ)).undos; asked = (session_of p (renumbered σ)).asked }) (sym (begun-means L t A.holds.seats)));
      long = refl;
      entries = refl;
      records = refl;
      rest = refl;
    }

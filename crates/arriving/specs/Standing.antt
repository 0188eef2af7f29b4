-- What a sound state says of a party whose descent stands at a node.
use Rattle.std.specs.Prelude.{◌≡◌, refl, false, List, ℕ, zero, suc, ◌≤◌, eqb, length}
use Rattle.std.proofs.Common.{sym, ap, ◌∙◌, arith, eq-eqb, ne_eqb}
use Rattle.std.proofs.Math.Option.{some}
use Rattle.sessions.specs.declared.Session.{Session}
use Rattle.sessions.specs.Sessions.{session_at}
use Rattle.machine.specs.Holders.{width}
use Rattle.machine.specs.State.{session_of, top}
use Rattle.machine.specs.Sound as S
use Rattle.machine.specs.Sound.{Descends}
use Rattle.machine.specs.Checks.{keeper-code, tidy-zero}
use Rattle.machine.specs.Descending.{proper_key}
use Rattle.machine.specs.Safety.{descent-most}
use Rattle.meaning.specs.Reading.{hand_of}
use Rattle.meaning.specs.Latched.{at_request}
use Rattle.layout.specs.Layout.{Lay, Undone, session_in, means}
use Rattle.layout.specs.Places.{session-means}

hand-is : (u : ℕ → List Undone) (p : ℕ) (x : Session) → (session_in u p x).hand ≡ hand_of x
hand-is u zero x = refl
hand-is u (suc p) x = refl

at-hand : (x : Session) → x.stage ≡ 3 → hand_of x ≡ some (at_request x)
at-hand x e =
    let n : (k : ℕ) → (3 ≡ k → ⊥) → eqb x.stage k ≡ false = λ k f. ne_eqb x.stage k (λ q. f (sym e ∙ q)) in
    rw (n 0 (λ q. omega arith), n 1 (λ q. omega arith), n 2 (λ q. omega arith), eq-eqb x.stage 3 e) refl

module _ (L : Lay) (t : List Session) (n : length t ≡ suc width) (A : S.Sound (means L t)) where
  pub hand_at : (p : ℕ) → p ≤ width → (session_at t p).stage ≡ 3 → (session_of p (means L t)).hand ≡ some (at_request (session_at t p))
  hand_at p l e = ap (λ z. z.hand) (session-means L t p (omega (arith, n, l))) ∙ hand-is L.undos p (session_at t p) ∙ at-hand (session_at t p) e

  pub descends-at : (p : ℕ) → p ≤ width → (session_at t p).stage ≡ 3 → Descends p (means L t) (at_request (session_at t p)) (session_at t p).target
  descends-at p l e = A.standing p (at_request (session_at t p)) (hand_at p l e)

  pub target-most : (p : ℕ) → p ≤ width → (session_at t p).stage ≡ 3 → (session_at t p).target ≤ top
  target-most p l e = descent-most (means L t) A p (at_request (session_at t p)) (session_at t p).target (hand_at p l e) (descends-at p l e)

  -- A session's descent goes to a proper key, and is no tidy.
  pub session-key : (p : ℕ) → p ≤ width → ¬ (p ≡ 0) → (session_at t p).stage ≡ 3 → 1 ≤ (session_at t p).target
  session-key zero l z e = absurd (z refl)
  session-key (suc q) l z e =
      (proper_key q (at_request (session_at t (suc q))) (means L t) (A.checked (suc q) (at_request (session_at t (suc q))) (hand_at (suc q) l e)) (session_at t (suc q)).target (descends-at (suc q) l e)).0

  pub session-code : (p : ℕ) → p ≤ width → ¬ (p ≡ 0) → (session_at t p).stage ≡ 3 → ¬ ((session_at t p).code ≡ 6)
  session-code p l z e c = z (tidy-zero p (session_at t p).code (A.checked p (at_request (session_at t p)) (hand_at p l e)).0 c)

  pub keeper-is : (session_at t 0).stage ≡ 3 → (session_at t 0).code ≡ 6
  keeper-is e = keeper-code (session_at t 0).code (A.checked 0 (at_request (session_at t 0)) (hand_at 0 (omega arith) e)).0

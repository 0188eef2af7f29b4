-- The session table: each party's session is read from its record.
use Rattle.std.specs.Prelude.{◌≡◌, refl, List, [], ◌∷◌, ℕ, zero, suc, ◌+◌, ◌<◌, length, get_or}
use Rattle.std.proofs.Math.Path.{sym, ap}
use Rattle.std.proofs.Common.{◌∙◌}
use native.Mathlib.Omega.{arith}
use Rattle.sessions.specs.declared.Session.{Session}
use Rattle.sessions.specs.Sessions.{session_at}
use Rattle.machine.specs.Holders.{width}
use Rattle.machine.specs.State.{session_of, idle}
use Rattle.machine.specs.Sound as S
use Rattle.meaning.specs.Reading.{session-of, sessions_of, M-of, R-of, meaning}

module _ (s : List ℕ) (m r : ℕ) where
  pub sessions-many : (q : ℕ) (t : List Session) → length (sessions_of s m r q t) ≡ length t
  sessions-many q [] = refl
  sessions-many q (x ∷ t) = ap suc (sessions-many (suc q) t)

  pub sessions-get : (q p : ℕ) (t : List Session) → p < length t → get_or (sessions_of s m r q t) p idle ≡ session-of s m r (q + p) (session_at t p)
  sessions-get q p [] l = absurd (omega (arith, l))
  sessions-get q zero (x ∷ t) l = let e : q ≡ q + 0 = omega arith in ap (λ n. session-of s m r n x) e
  sessions-get q (suc p) (x ∷ t) l =
      let e : suc q + p ≡ q + suc p = omega arith in
      sessions-get (suc q) p t (omega (arith, l)) ∙ ap (λ n. session-of s m r n (session_at t p)) e

module _ (s : List ℕ) (t : List Session) where
  -- A party's session is read from its record.
  pub session_is : (p : ℕ) → p < length t → session_of p (meaning s t) ≡ session-of s (M-of s) (R-of s) p (session_at t p)
  unfolding session_of meaning
  session_is p l =
      let e : 0 + p ≡ p = omega arith in
      sessions-get s (M-of s) (R-of s) 0 p t l ∙ ap (λ n. session-of s (M-of s) (R-of s) n (session_at t p)) e

  pub table-many : S.Sound (meaning s t) → length t ≡ suc width
  unfolding meaning
  table-many A = sym (sessions-many s (M-of s) (R-of s) 0 t) ∙ A.seats

-- The pass over the order of begins: true exactly if no two begun sessions share a number.
use Rattle.std.specs.Prelude.{◌≡◌, refl, true, false, List, [], ◌∷◌, ◌↔◌, ℕ, zero, suc, ◌≤◌, length, get_or}
use Rattle.std.proofs.Common.{sym, ap, ◌∙◌, arith}
use Rattle.std.proofs.lemmas.Bool.{false≢true}
use Rattle.std.proofs.Math.Decide.{dec_le}
use Rattle.std.proofs.Math.ListN.{get_or-eq_default}
use Rattle.sessions.specs.declared.Session.{Session}
use Rattle.sessions.specs.Sessions.{session_at, idle_session, is_begun}
use Rattle.seniority.specs.Seniority.{distinct_in}
use Rattle.seniority.specs.Laws.{distinct-one, one-distinct}
use Rattle.machine.specs.Holders.{width}
use Rattle.machine.specs.State.{session_of, idle}
use Rattle.meaning.specs.Reading.{sessions_of, M-of, R-of, meaning}
use Rattle.soundness.specs.HeldTests.{begun-meaning, zero-meaning}

-- "In a sound table no two begun sessions share a number" (document 02, M-101).
abbrev pub Orders : List ℕ → List Session → Type 0
Orders s t =
    (p q : ℕ) → (session_of p (meaning s t)).begun ≡ true → (session_of q (meaning s t)).begun ≡ true → (session_of p (meaning s t)).order ≡ (session_of q (meaning s t)).order → p ≡ q

orders-from : (s : List ℕ) (m r p : ℕ) (t : List Session) (q : ℕ) → (get_or (sessions_of s m r (suc p) t) q idle).order ≡ (session_at t q).order
orders-from s m r p [] q = refl
orders-from s m r p (x ∷ t) zero = refl
orders-from s m r p (x ∷ t) (suc q) = orders-from s m r (suc p) t q

pub order-meaning : (s : List ℕ) (t : List Session) (p : ℕ) → (session_of (suc p) (meaning s t)).order ≡ (session_at t (suc p)).order
unfolding meaning session_of
order-meaning s [] p = refl
order-meaning s (x ∷ t) p = orders-from s (M-of s) (R-of s) 0 t p

module _ (s : List ℕ) (t : List Session) (table : length t ≡ suc width) where
  -- A begun session has a record.
  seated : (p : ℕ) → is_begun (session_at t p) ≡ true → p ≤ width
  unfolding is_begun
  seated p e = go (dec_le p width)
    where
      go : Dec (p ≤ width) → p ≤ width
      go (yes h) = h
      go (no n) = absurd (false≢true (sym (ap is_begun (get_or-eq_default t idle_session (omega (arith, n, table)))) ∙ e))

  found : distinct_in t ≡ true → Orders s t
  found d zero q x y o = absurd (false≢true (sym (zero-meaning s t) ∙ x))
  found d (suc p) zero x y o = absurd (false≢true (sym (zero-meaning s t) ∙ y))
  found d (suc p) (suc q) x y o =
      let a = sym (begun-meaning s t p) ∙ x in
      let b = sym (begun-meaning s t q) ∙ y in
      distinct-one t d (suc p) (suc q) (omega arith) (seated (suc p) a) (omega arith) (seated (suc q) b) a b (sym (order-meaning s t p) ∙ o ∙ order-meaning s t q)

  passes : Orders s t → distinct_in t ≡ true
  passes A = one-distinct t apart
    where
      apart : (p q : ℕ) → 1 ≤ p → p ≤ width → 1 ≤ q → q ≤ width → is_begun (session_at t p) ≡ true → is_begun (session_at t q) ≡ true
          → (session_at t p).order ≡ (session_at t q).order → p ≡ q
      apart zero q a b c d x y o = absurd (omega (arith, a))
      apart (suc p) zero a b c d x y o = absurd (omega (arith, c))
      apart (suc p) (suc q) a b c d x y o = A (suc p) (suc q) (begun-meaning s t p ∙ x) (begun-meaning s t q ∙ y) (order-meaning s t p ∙ o ∙ sym (order-meaning s t q))

  pub orders-pass : (distinct_in t ≡ true) ↔ Orders s t
  orders-pass = (found, passes)

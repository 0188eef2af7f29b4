-- The session table renumbered means the state renumbered; of each record only the number is another, and that only where a session is begun.
use Rattle.std.specs.Prelude.{◌≡◌, Bool, ◌&&◌, eqb, length}
use Rattle.std.proofs.Math.Path.{refl, sym, ap}
use Rattle.std.proofs.Common.{◌∙◌, arith, eq-eqb}
use Rattle.std.proofs.Math.Bool.{true, false, cond, not}
use mathlib.Core.List.{List, [], ◌∷◌, map}
use Prim.Native.Nat.{ℕ, zero, suc}
use Rattle.std.proofs.Math.Dec.{ltb}
use Rattle.sessions.specs.declared.Session.{Session}
use Rattle.sessions.specs.Sessions.{session_at, is_begun, numbered}
use Rattle.seniority.specs.Seniority.{is_earlier, earlier_in, begun_in, ranked_in, but_first, renumbered_in}
use Rattle.seniority.specs.Laws.{many, many-sessions, ranked-idle, renumbered-many, renumbered-first, renumbered-at}
use Rattle.machine.specs.Holders.{width}
use Rattle.machine.specs.State as M
use Rattle.machine.specs.Calls.{earlier, begun_many, ranked, renumbered}
use Rattle.meaning.specs.Reading.{hand_of}
use Rattle.layout.specs.Layout.{Lay, Undone, means, session_in, sessions_in}
use Rattle.layout.specs.Ranks.{Renumbers, means-map}

-- ---- how many sessions have a property

module _ (u : ℕ → List Undone) where
  earlier-many : (n p : ℕ) (v : List Session) → earlier n (sessions_in u (suc p) v) ≡ many (is_earlier n) v
  unfolding earlier many is_earlier is_begun
  earlier-many n p [] = refl
  earlier-many n p (x ∷ v) = ap (λ (k : ℕ). cond (not (eqb x.begun 0) && ltb x.order n) (suc k) k) (earlier-many n (suc p) v)

  begun-count : (p : ℕ) (v : List Session) → begun_many (sessions_in u (suc p) v) ≡ many is_begun v
  unfolding begun_many many is_begun
  begun-count p [] = refl
  begun-count p (x ∷ v) = ap (λ (k : ℕ). cond (not (eqb x.begun 0)) (suc k) k) (begun-count (suc p) v)

-- ---- a table of one record for each party

module _ (L : Lay) (x : Session) (v : List Session) (seats : length v ≡ width) where
  abbrev t : List Session
  t = x ∷ v

  abbrev table : List M.Session
  table = sessions_in L.undos 0 t

  earlier-is : (n : ℕ) → earlier n table ≡ earlier_in t n
  unfolding earlier earlier_in
  earlier-is n = earlier-many L.undos n 0 v ∙ sym (many-sessions (is_earlier n) x v seats)

  begun-is : begun_many table ≡ begun_in t
  unfolding begun_many begun_in
  begun-is = begun-count L.undos 0 v ∙ sym (many-sessions is_begun x v seats)

  ranked-is : (p : ℕ) (y : Session) → session_in L.undos (suc p) (ranked_in t y) ≡ ranked table (session_in L.undos (suc p) y)
  unfolding ranked_in is_begun
  ranked-is p y = go (eqb y.begun 0)
    where
      go : (b : Bool) → session_in L.undos (suc p) (cond (not b) (numbered (suc (earlier_in t y.order)) y) y)
          ≡ cond (not b)
          (record { begun = not (eqb y.begun 0); order = suc (earlier y.order table); hand = hand_of y; undos = map (λ z. z.undo) (L.undos (suc p)); asked = not (eqb y.asked 0) })
          (session_in L.undos (suc p) y)
      go true = refl
      go false = ap (λ n. record { begun = not (eqb y.begun 0); order = suc n; hand = hand_of y; undos = map (λ z. z.undo) (L.undos (suc p)); asked = not (eqb y.asked 0) }) (sym (earlier-is y.order))

  whole_is : means L (renumbered_in t) ≡ renumbered (means L t)
  unfolding renumbered_in but_first renumbered means
  whole_is = means-map L (ranked_in t) (ranked table) ranked-is x v refl

-- ---- any such table

pub renumbered-means : (L : Lay) (t : List Session) → length t ≡ suc width → means L (renumbered_in t) ≡ renumbered (means L t)
renumbered-means L [] e = absurd (omega (arith, e))
renumbered-means L (x ∷ v) e = whole_is L x v (omega (arith, e))

pub begun-means : (L : Lay) (t : List Session) → length t ≡ suc width → begun_many (means L t).table ≡ begun_in t
unfolding means
begun-means L [] e = absurd (omega (arith, e))
begun-means L (x ∷ v) e = begun-is L x v (omega (arith, e))

-- ---- record by record

ranked-number : (t : List Session) (x : Session) → ranked_in t x ≡ numbered (ranked_in t x).order x
unfolding ranked_in
ranked-number t x = go (is_begun x)
  where
    go : (b : Bool) → cond b (numbered (suc (earlier_in t x.order)) x) x ≡ numbered (cond b (numbered (suc (earlier_in t x.order)) x) x).order x
    go true = refl
    go false = refl

-- Only numbers are others.
pub renumbered-only : (t : List Session) → Renumbers t (renumbered_in t)
renumbered-only t = record { long = renumbered-many t; same = same }
  where
    from : (q : ℕ) (y : Session) → session_at (renumbered_in t) q ≡ y → y ≡ numbered y.order (session_at t q) → session_at (renumbered_in t) q ≡ numbered (session_at (renumbered_in t) q).order (session_at t q)
    from q y e f = e ∙ f ∙ ap (λ z. numbered z.order (session_at t q)) (sym e)

    same : (q : ℕ) → session_at (renumbered_in t) q ≡ numbered (session_at (renumbered_in t) q).order (session_at t q)
    same zero = from 0 (session_at t 0) (renumbered-first t) refl
    same (suc q) = from (suc q) (ranked_in t (session_at t (suc q))) (renumbered-at t q) (ranked-number t (session_at t (suc q)))

-- A session that is not begun keeps its record.
pub renumbered-unbegun : (t : List Session) (q : ℕ) → (session_at t q).begun ≡ 0 → session_at (renumbered_in t) q ≡ session_at t q
unfolding is_begun
renumbered-unbegun t zero e = renumbered-first t
renumbered-unbegun t (suc q) e = renumbered-at t q ∙ ranked-idle t (session_at t (suc q)) (ap not (eq-eqb (session_at t (suc q)).begun 0 e))

-- The test of the marks: a table passes exactly if, in what it means, only a begun session with no request in hand is asked.
use Rattle.std.specs.Prelude.{◌≡◌, Bool, List, ◌↔◌}
use Rattle.std.proofs.Math.Path.{refl, subst}
use Rattle.std.proofs.Common.{sym, ap, ◌∙◌, arith}
use Rattle.std.proofs.Math.Bool.{true, false, cond, not}
use Rattle.std.proofs.Math.Option.{none}
use Prim.Native.Nat.{ℕ, zero, suc, ◌+◌, ◌≤◌, ◌<◌}
use Rattle.std.proofs.Math.Decide.{ℕ_discrete}
use Rattle.std.proofs.Math.Dec.{eqb, eqb-suc-zero}
use Rattle.std.proofs.Math.ListN.{length}
use Rattle.sessions.specs.declared.Session.{Session}
use Rattle.sessions.specs.Sessions.{parties, session_at}
use Rattle.serial.specs.Serial.{true≢false}
use Rattle.machine.specs.Holders.{width}
use Rattle.machine.specs.State.{session_of}
use Rattle.machine.specs.Calls.{is_some}
use Rattle.machine.specs.Table.{asked-seat}
use Rattle.meaning.specs.Reading.{hand_of, session-of, M-of, R-of, meaning}
use Rattle.meaning.specs.Table.{sessions-many, session_is}
use Rattle.parties.specs.Parties.{mark_ok, marks_from, marks_ok}

-- "In a sound table only a begun session with no request in hand is asked" (document 02, M-105).
abbrev pub Marks : List ℕ → List Session → Type 0
Marks s t = (p : ℕ) → (session_of p (meaning s t)).asked ≡ true → ((session_of p (meaning s t)).begun ≡ true) × ((session_of p (meaning s t)).hand ≡ none)

-- ---- the loop

marks-each : (t : List Session) (n p : ℕ) → marks_from t p n ≡ true → (q : ℕ) → p ≤ q → q < p + n → mark_ok q (session_at t q) ≡ true
unfolding marks_from
marks-each t zero p e q lo hi = absurd (omega (arith, lo, hi))
marks-each t (suc n) p e q lo hi = go (mark_ok p (session_at t p)) refl e (λ d. marks-each t n (p + 1) d)
  where
    go : (b : Bool) → mark_ok p (session_at t p) ≡ b → cond b (marks_from t (p + 1) n) false ≡ true
        → (marks_from t (p + 1) n ≡ true → (q : ℕ) → p + 1 ≤ q → q < (p + 1) + n → mark_ok q (session_at t q) ≡ true) → mark_ok q (session_at t q) ≡ true
    go true f d ih = at (ℕ_discrete p q)
      where
        at : Dec (p ≡ q) → mark_ok q (session_at t q) ≡ true
        at (yes w) = subst (λ z. mark_ok z (session_at t z) ≡ true) w f
        at (no w) = ih d q (omega (arith, lo, w)) (omega (arith, hi))
    go false f d ih = absurd (true≢false d refl)

marks-all : (t : List Session) (n p : ℕ) → ((q : ℕ) → p ≤ q → q < p + n → mark_ok q (session_at t q) ≡ true) → marks_from t p n ≡ true
unfolding marks_from
marks-all t zero p h = refl
marks-all t (suc n) p h = ap (λ b. cond b (marks_from t (p + 1) n) false) (h p (omega arith) (omega arith)) ∙ marks-all t n (p + 1) (λ q lo hi. h q (omega (arith, lo)) (omega (arith, hi)))

-- ---- one record

idle-hand : (x : Session) → eqb x.stage 0 ≡ true → hand_of x ≡ none
idle-hand x e = rw e refl

hand-idle : (x : Session) → hand_of x ≡ none → eqb x.stage 0 ≡ true
hand-idle x h = go (eqb x.stage 0) refl
  where
    busy : eqb x.stage 0 ≡ false → is_some (hand_of x) ≡ true
    busy e = rw e refl

    go : (b : Bool) → eqb x.stage 0 ≡ b → b ≡ true
    go true e = refl
    go false e = absurd (true≢false (busy e) (ap is_some h))

not-not : (b : Bool) → not b ≡ true → b ≡ false
not-not true e = sym e
not-not false e = refl

module _ (s : List ℕ) (m r : ℕ) (x : Session) where
  mark-is : (p : ℕ) → mark_ok p x ≡ true → (session-of s m r p x).asked ≡ true → ((session-of s m r p x).begun ≡ true) × ((session-of s m r p x).hand ≡ none)
  unfolding mark_ok
  mark-is zero k a = absurd (true≢false k (rw (not-not (eqb x.asked 0) a) refl))
  mark-is (suc p) k a = go (eqb x.begun 0) refl (eqb x.stage 0) refl (sym (rw (not-not (eqb x.asked 0) a, eqb-suc-zero p) refl) ∙ k)
    where
      go : (b : Bool) → eqb x.begun 0 ≡ b → (c : Bool) → eqb x.stage 0 ≡ c → cond (eqb x.begun 0) false (eqb x.stage 0) ≡ true → (not (eqb x.begun 0) ≡ true) × (hand_of x ≡ none)
      go true e c f z = absurd (true≢false z (rw e refl))
      go false e true f z = (ap not e, idle-hand x f)
      go false e false f z = absurd (true≢false z (rw (e, f) refl))

  is-mark : (p : ℕ) → ((session-of s m r p x).asked ≡ true → ((session-of s m r p x).begun ≡ true) × ((session-of s m r p x).hand ≡ none)) → mark_ok p x ≡ true
  unfolding mark_ok
  is-mark p h = go (eqb x.asked 0) refl p h
    where
      go : (a : Bool) → eqb x.asked 0 ≡ a → (p : ℕ) → ((session-of s m r p x).asked ≡ true → ((session-of s m r p x).begun ≡ true) × ((session-of s m r p x).hand ≡ none))
          → cond (eqb x.asked 0) true (cond (eqb p 0) false (cond (eqb x.begun 0) false (eqb x.stage 0))) ≡ true
      go true e p h = rw e refl
      go false e zero h = absurd (true≢false (h (ap not e)).0 refl)
      go false e (suc p) h = let q = h (ap not e) in rw (e, eqb-suc-zero p, not-not (eqb x.begun 0) q.0, hand-idle x q.1) refl

-- ---- the table

module _ (s : List ℕ) (t : List Session) (seats : length t ≡ suc width) where
  many : length (meaning s t).table ≡ length t
  unfolding meaning
  many = sessions-many s (M-of s) (R-of s) 0 t

  found : marks_ok t ≡ true → Marks s t
  unfolding marks_ok
  found o p a =
      let l : p < length t = omega (arith, asked-seat p (meaning s t) a, many) in
      let e = session_is s t p l in
      subst (λ y. (y.begun ≡ true) × (y.hand ≡ none)) (sym e)
      (mark-is s (M-of s) (R-of s) (session_at t p) p (marks-each t parties 0 o p (omega arith) (omega (arith, l, seats))) (sym (ap (λ y. y.asked) e) ∙ a))

  passes : Marks s t → marks_ok t ≡ true
  unfolding marks_ok
  passes h = marks-all t parties 0 λ q lo hi.
      is-mark s (M-of s) (R-of s) (session_at t q) q
      (subst (λ y. y.asked ≡ true → (y.begun ≡ true) × (y.hand ≡ none)) (session_is s t q (omega (arith, hi, seats))) (h q))

  pub marks-pass : (marks_ok t ≡ true) ↔ Marks s t
  marks-pass = (found, passes)

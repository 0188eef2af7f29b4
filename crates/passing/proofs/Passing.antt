-- That what is kept of the locates from one key to the next is right.
use mathlib.Core.Path.{◌≡◌, refl, sym, ap, ◌∙◌}
use mathlib.Core.List.{List}
use mathlib.Core.Bool.{Bool, true, false, cond, not, ◌&&◌, and-true, and-false}
use Prim.Native.Nat.{ℕ, zero, suc, ◌+◌, ◌-◌, ◌≤◌, ◌<◌, min}
use native.Mathlib.Omega.{arith}
use lib.Dec.{eqb, ltb, leb}
use borrow.Author.Tests.{eq-eqb, ne_eqb, le-leb, lt-leb, leb-true, leb-false, ltb-true, ltb-false}
use Rattle.locks.specs.Holders.{held_by}
use Rattle.sessions.specs.declared.Session.{Session}
use Rattle.sessions.specs.Sessions.{parties, session_at}
use Rattle.marks.specs.Steps.{both}
use Rattle.holders.specs.Holders.{with_from, sessions_with}
use Rattle.passing.specs.declared.Passed.{Passed}
use Rattle.passing.specs.Asked.{has_passed, needs_gap}
use Rattle.passing.specs.Passed.{changes_at, lowest_from, passed_at, Knows, Covers}

-- ---- holders words by a property

-- the property of each session decides
with-same : (f g : Session → Bool) (t : List Session) (word p n : ℕ) → ((q : ℕ) → p ≤ q → q < p + n → f (session_at t q) ≡ g (session_at t q))
    → with_from f t word p n ≡ with_from g t word p n
unfolding with_from
with-same f g t word p zero h = refl
with-same f g t word p (suc n) h =
    ap (λ (b : Bool). with_from f t (cond b (held_by p word) word) (p + 1) n) (h p (omega arith) (omega arith))
    ∙ with-same f g t (cond (g (session_at t p)) (held_by p word) word) (p + 1) n (λ q a b. h q (omega arith) (omega arith))

pub sessions-same : (f g : Session → Bool) (t : List Session) → ((p : ℕ) → 1 ≤ p → p < parties → f (session_at t p) ≡ g (session_at t p))
    → sessions_with f t ≡ sessions_with g t
unfolding sessions_with
sessions-same f g t h = with-same f g t 0 1 (parties - 1) h

with_none : (f : Session → Bool) (t : List Session) (word p n : ℕ) → ((q : ℕ) → p ≤ q → q < p + n → f (session_at t q) ≡ false) → with_from f t word p n ≡ word
unfolding with_from
with_none f t word p zero h = refl
with_none f t word p (suc n) h =
    ap (λ (b : Bool). with_from f t (cond b (held_by p word) word) (p + 1) n) (h p (omega arith) (omega arith))
    ∙ with_none f t word (p + 1) n (λ q a b. h q (omega arith) (omega arith))

pub sessions-none : (f : Session → Bool) (t : List Session) → ((p : ℕ) → 1 ≤ p → p < parties → f (session_at t p) ≡ false) → sessions_with f t ≡ 0
unfolding sessions_with
sessions-none f t h = with_none f t 0 1 (parties - 1) h

-- ---- where it may change

lowest-le : (f : Session → ℕ) (t : List Session) (low p n : ℕ) → lowest_from f t low p n ≤ low
unfolding lowest_from
lowest-le f t low p zero = omega arith
lowest-le f t low p (suc n) = let h = lowest-le f t (min low (f (session_at t p))) (p + 1) n in omega arith

lowest-each : (f : Session → ℕ) (t : List Session) (low p n q : ℕ) → p ≤ q → q < p + n → lowest_from f t low p n ≤ f (session_at t q)
unfolding lowest_from
lowest-each f t low p zero q a b = absurd (omega arith)
lowest-each f t low p (suc n) q a b = go (leb q p) refl (lowest-each f t (min low (f (session_at t p))) (p + 1) n q)
  where
    go : (o : Bool) → leb q p ≡ o → (p + 1 ≤ q → q < p + 1 + n → lowest_from f t (min low (f (session_at t p))) (p + 1) n ≤ f (session_at t q))
        → lowest_from f t (min low (f (session_at t p))) (p + 1) n ≤ f (session_at t q)
    go true e r =
        let y = leb-true q p e in
        let z : q ≡ p = omega arith in
        let h = lowest-le f t (min low (f (session_at t p))) (p + 1) n in rw z (omega arith)
    go false e r = let y = leb-false q p e in r (omega arith) (omega arith)

lowest-above : (f : Session → ℕ) (t : List Session) (low p n k : ℕ) → k < low → ((s : Session) → k < f s) → k < lowest_from f t low p n
unfolding lowest_from
lowest-above f t low p zero k h a = h
lowest-above f t low p (suc n) k h a = let b = a (session_at t p) in lowest-above f t (min low (f (session_at t p))) (p + 1) n k (omega arith) a

changes-above : (key : ℕ) → key < 4294967296 → (s : Session) → key < changes_at key s
unfolding changes_at
changes-above key h s = go (eqb s.stage 5 && not (eqb s.last 0)) (leb key s.last) refl (ltb key s.first) refl
  where
    go : (a b : Bool) → leb key s.last ≡ b → (c : Bool) → ltb key s.first ≡ c → key < cond (a && b) (cond c s.first (s.last + 1)) 4294967296
    go false b e c d = h
    go true false e c d = h
    go true true e true d = ltb-true key s.first d
    go true true e false d = let y = leb-true key s.last e in omega arith

changes_same : (key k : ℕ) (s : Session) → key ≤ k → k < changes_at key s → has_passed k s ≡ has_passed key s
unfolding changes_at has_passed
changes_same key k s h = go (eqb s.stage 5 && not (eqb s.last 0)) (leb key s.last) refl (ltb key s.first) refl
  where
    out : (a x y : Bool) → (a && x && false) ≡ (a && y && false)
    out a x y = and-false (a && x) ∙ sym (and-false (a && y))

    before : (a x y : Bool) → (a && false && x) ≡ (a && false && y)
    before a x y = ap (λ (o : Bool). o && x) (and-false a) ∙ sym (ap (λ (o : Bool). o && y) (and-false a))

    go : (a b : Bool) → leb key s.last ≡ b → (c : Bool) → ltb key s.first ≡ c → k < cond (a && b) (cond c s.first (s.last + 1)) 4294967296
        → (a && leb s.first k && leb k s.last) ≡ (a && leb s.first key && leb key s.last)
    go false b e c d l = refl
    go true false e c d l =
        let y = leb-false key s.last e in
        rw (e, lt-leb k s.last (omega arith)) (out true (leb s.first k) (leb s.first key))
    go true true e true d l =
        let y = ltb-true key s.first d in
        rw (lt-leb s.first k l, lt-leb s.first key y) (before true (leb k s.last) (leb key s.last))
    go true true e false d l =
        let y = ltb-false key s.first d in
        rw (e, le-leb s.first k (omega arith), le-leb s.first key y, le-leb k s.last (omega arith)) refl

-- ---- what is known

pub covers_at : (t : List Session) (key : ℕ) → key < 4294967296 → {so : Passed} → so ≡ passed_at t key → Covers t key so
unfolding passed_at
covers_at t key h e =
    rw e
    (record {
      knows = record {
        mask = refl;
        same = λ p k a b l u. changes_same key k (session_at t p) l
            (let y = lowest-each (changes_at key) t 4294967296 1 (parties - 1) p a b in omega arith);
      };
      from = omega arith;
      until = lowest-above (changes_at key) t 4294967296 1 (parties - 1) key h (changes-above key h);
    })

-- what is known is enough for a key of its range
pub covers-same : {t : List Session} {key : ℕ} {so : Passed} → Knows t so → (leb so.from key && ltb key so.until) ≡ true → Covers t key so
covers-same {t} {key} {so} k e =
    let b = both (leb so.from key) (ltb key so.until) e in
    record { knows = k; from = leb-true so.from key b.0; until = ltb-true key so.until b.1 }

module _ {t : List Session} {key : ℕ} {so : Passed} (c : Covers t key so) where
  same-as : (k p : ℕ) → 1 ≤ p → p < parties → so.from ≤ k → k < so.until → has_passed k (session_at t p) ≡ has_passed key (session_at t p)
  same-as k p a b l u = c.knows.same p k a b l u ∙ sym (c.knows.same p key a b c.from c.until)

  -- the locates that have passed the key
  pub mask_at : so.mask ≡ sessions_with (has_passed key) t
  mask_at = c.knows.mask ∙ sessions-same _ _ t (λ p a b. sym (c.knows.same p key a b c.from c.until))

  -- the gap of a key that is not followed by the next number
  pub gap-wide : {next : ℕ} → (next ≡ key + 1 → ⊥) → so.mask ≡ sessions_with (needs_gap key next) t
  unfolding needs_gap
  gap-wide {next} n = mask_at ∙ sessions-same _ _ t (λ p a b. rw (ne_eqb next (key + 1) n) (sym (and-true (has_passed key (session_at t p)))))

  -- the gap of a key that is, where no locate ends at it
  pub gap-none : {next : ℕ} → next ≡ key + 1 → next < so.until → 0 ≡ sessions_with (needs_gap key next) t
  unfolding needs_gap
  gap-none {next} e u =
      let f = c.from in
      sym (sessions-none _ t (λ p a b. rw (eq-eqb next (key + 1) e, same-as next p a b (omega arith) u) (no_more (has_passed key (session_at t p)))))
    where
      no_more : (b : Bool) → (b && not (true && b)) ≡ false
      no_more true = refl
      no_more false = refl

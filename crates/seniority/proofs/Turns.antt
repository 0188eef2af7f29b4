-- The turns of the loops over the sessions.
use mathlib.Core.Path.{◌≡◌, refl, sym, ap, ap₂, ◌∙◌}
use mathlib.Core.List.{List, [], ◌∷◌}
use mathlib.Core.Bool.{Bool, true, false, cond, not, ◌&&◌, ◌||◌}
use Prim.Native.Nat.{ℕ, zero, suc, ◌+◌, ◌-◌, ◌≤◌, ◌<◌}
use native.Mathlib.Omega.{arith}
use native.Mathlib.Numerals.{add-one}
use lib.Dec.{eqb, ltb}
use lib.ListN.{length, set, take, drop, drop_of_length-le, length-drop}
use lib.Seq.{drop-cons, take_all}
use Rattle.std.specs.List.{filter, list_any, list_all, range_with_len}
use borrow.Author.Tests.{eqb-true, eqb-false, eq-eqb, ne_eqb, lt-ltb, le-ltb}
use Rattle.locks.specs.Holders.{width, word_bits, left_by, holders, first_of}
use Rattle.locks.specs.Bits.{left_le}
use Rattle.locks.specs.Blockers.{none-holds}
use Rattle.sessions.specs.declared.Session.{Session}
use Rattle.sessions.specs.Sessions.{parties, idle_session, session_at, is_begun}
use Rattle.seniority.specs.Seniority.{many_from, earlier_in, ranked_in, but_first, renumbered_in, is_numbered, shared_from, distinct_from, elder_of, eldest_from, eldest_of, eldest_in, best_of}
use Rattle.seniority.specs.Laws.{many, many-sessions, earlier-few, renumbered-many, renumbered-at}
use Rattle.seniority.proofs.Walk.{First, first-is, none_within, first-within}

-- the slice of the records from p on
pub behind : (t : List Session) (p n : ℕ) → p + n ≡ length t → take n (drop p t) ≡ drop p t
behind t p n e = take_all n (drop p t) (omega (arith, length-drop p t, e))

-- ---- how many

many-filter : (f : Session → Bool) (t : List Session) → length (filter f t) ≡ many f t
unfolding many
many-filter f [] = refl
many-filter f (x ∷ t) = go (f x) (many-filter f t)
  where
    go : (b : Bool) → length (filter f t) ≡ many f t → length (cond b (x ∷ filter f t) (filter f t)) ≡ cond b (suc (many f t)) (many f t)
    go true h = ap suc h
    go false h = h

-- the records behind the first that have a property
pub many_kept : (f : Session → Bool) (t : List Session) → length t ≡ suc width → length (filter f (drop 1 t)) ≡ many_from f t 1 width
many_kept f [] e = absurd (omega (arith, e))
many_kept f (x ∷ t) e = many-filter f t ∙ sym (many-sessions f x t (omega (arith, e)))

pub earlier-le : (t : List Session) (n : ℕ) {k : ℕ} → k ≡ earlier_in t n → k ≤ width
earlier-le t n e = omega (arith, e, earlier-few t n)

-- ---- the table renumbered

-- the first i of one list, and the rest of another
unfoldable pub mixed : ℕ → List Session → List Session → List Session
mixed zero xs ys = ys
mixed (suc i) [] ys = ys
mixed (suc i) (x ∷ xs) [] = []
mixed (suc i) (x ∷ xs) (y ∷ ys) = x ∷ mixed i xs ys

mixed-set : (i : ℕ) (xs ys : List Session) → i < length xs → i < length ys → set (mixed i xs ys) i (session_at xs i) ≡ mixed (suc i) xs ys
unfolding mixed
mixed-set i [] ys l m = absurd (omega (arith, l))
mixed-set i (x ∷ xs) [] l m = absurd (omega (arith, m))
mixed-set zero (x ∷ xs) (y ∷ ys) l m = refl
mixed-set (suc i) (x ∷ xs) (y ∷ ys) l m = ap (λ (zs : List Session). x ∷ zs) (mixed-set i xs ys (omega (arith, l)) (omega (arith, m)))

mixed-all : (xs ys : List Session) → length xs ≡ length ys → mixed (length ys) xs ys ≡ xs
unfolding mixed
mixed-all [] [] e = refl
mixed-all [] (y ∷ ys) e = absurd (omega (arith, e))
mixed-all (x ∷ xs) [] e = absurd (omega (arith, e))
mixed-all (x ∷ xs) (y ∷ ys) e = ap (λ (zs : List Session). x ∷ zs) (mixed-all xs ys (omega (arith, e)))

-- the records before p are those of the table renumbered
pub record Ranking (t after : List Session) (p : ℕ) : Type 0 where
  pub is : after ≡ mixed p (renumbered_in t) t

pub rank-start : (t : List Session) → Ranking t t 1
unfolding renumbered_in but_first mixed
rank-start [] = record { is = refl }
rank-start (x ∷ t) = record { is = refl }

pub rank-more : {t after after' : List Session} {y : Session} {p : ℕ} → Ranking t after p → 1 ≤ p → p < length t
    → y ≡ ranked_in t (session_at t p) → after' ≡ set after p y → Ranking t after' (p + 1)
rank-more {t} {after} {after'} {y} {p} g h l ey e =
    let n : length (renumbered_in t) ≡ length t = renumbered-many t in
    let q : p + 1 ≡ suc p = omega arith in
    record {
      is = e ∙ ap (λ (l : List Session). set l p y) g.is ∙ ap (set (mixed p (renumbered_in t) t) p) (ey ∙ sym (at p h))
          ∙ mixed-set p (renumbered_in t) t (omega (arith, l, n)) l ∙ ap (λ (j : ℕ). mixed j (renumbered_in t) t) (sym q);
    }
  where
    at : (j : ℕ) → 1 ≤ j → session_at (renumbered_in t) j ≡ ranked_in t (session_at t j)
    at zero z = absurd (omega (arith, z))
    at (suc j) z = renumbered-at t j

pub rank-end : {t after : List Session} {p : ℕ} → Ranking t after p → p ≡ length t → after ≡ renumbered_in t
rank-end {t} g e = g.is ∙ ap (λ (j : ℕ). mixed j (renumbered_in t) t) e ∙ mixed-all (renumbered_in t) t (renumbered-many t)

-- ---- no two share a number

pub any-shared : (t : List Session) (n p k : ℕ) → p + k ≡ length t → list_any (is_numbered n) (drop p t) ≡ shared_from t n p k
unfolding shared_from
any-shared t n p zero e = ap (list_any (is_numbered n)) (drop_of_length-le t {i = p} (omega (arith, e)))
any-shared t n p (suc k) e =
    ap (list_any (is_numbered n)) (drop-cons t p idle_session (omega (arith, e)))
    ∙ ap (λ (b : Bool). is_numbered n (session_at t p) || b) (ap (λ (j : ℕ). list_any (is_numbered n) (drop j t)) (sym (add-one p)) ∙ any-shared t n (p + 1) k (omega (arith, e)))

-- session p is begun, and a later one has its number
abbrev pub clashes : List Session → ℕ → Bool
clashes t p = is_begun (session_at t p) && shared_from t (session_at t p).order (p + 1) (parties - (p + 1))

pub none-distinct : (t : List Session) (p n : ℕ) → p + n ≡ parties → list_all (λ q. not (clashes t q)) (range_with_len p n) ≡ distinct_from t p n
unfolding distinct_from
none-distinct t p zero e = refl
none-distinct t p (suc n) e =
    ap₂ (λ (k : ℕ) (b : Bool). not (is_begun (session_at t p) && shared_from t (session_at t p).order (p + 1) k) && b) (omega (arith, e)) (none-distinct t (p + 1) n (omega (arith, e)))

-- ---- who began first

-- of what is found, 0 for none, and the sessions of a list
unfoldable pub found : List Session → ℕ → List ℕ → ℕ
found t b l = cond (eqb b 0) (eldest_of t l) (eldest_from t b l)

found_at : (t : List Session) (b : ℕ) (l : List ℕ) → (b ≡ 0 → ⊥) → found t b l ≡ eldest_from t b l
unfolding found
found_at t b l n = ap (λ (u : Bool). cond u (eldest_of t l) (eldest_from t b l)) (ne_eqb b 0 n)

elder-some : (t : List Session) (b p : ℕ) → (b ≡ 0 → ⊥) → 1 ≤ p → elder_of t b p ≡ 0 → ⊥
unfolding elder_of
elder-some t b p n h = go (ltb (session_at t p).order (session_at t b).order)
  where
    go : (u : Bool) → cond u p b ≡ 0 → ⊥
    go true e = omega (arith, e, h)
    go false e = n e

-- what is found and the sessions of what is left of the word give the whole
pub record Finding (whole : ℕ) (t : List Session) (b rest : ℕ) : Type 0 where
  pub few : b ≤ width
  pub fits : rest < 4294967296
  pub is : found t b (holders width rest) ≡ whole

pub find-start : (t : List Session) (w : ℕ) → w < 4294967296 → Finding (eldest_in t w) t 0 w
unfolding found eldest_in
find-start t w h = record { few = omega arith; fits = h; is = refl }

pub best-few : (t : List Session) (b p : ℕ) {k : ℕ} → k ≡ best_of t b p → b ≤ width → p ≤ width → k ≤ width
unfolding best_of elder_of
best-few t b p {k} e h l = go (eqb b 0) (ltb (session_at t p).order (session_at t b).order) e
  where
    go : (v x : Bool) → k ≡ cond v p (cond x p b) → k ≤ width
    go true x e = omega (arith, e, l)
    go false true e = omega (arith, e, l)
    go false false e = omega (arith, e, h)

module _ {whole : ℕ} {t : List Session} {b rest : ℕ} (g : Finding whole t b rest) where
  -- the next session is the lowest of what is left
  pub find_first : {p : ℕ} → (rest ≡ 0 → ⊥) → p ≡ first_of (holders word_bits rest) → First word_bits rest p
  find_first n e = first-is word_bits rest (omega (arith, n)) g.fits e

  pub find-more : {p b' rest' : ℕ} → First word_bits rest p → p ≤ width → b' ≡ best_of t b p → rest' ≡ left_by p rest → Finding whole t b' rest'
  unfolding best_of found eldest_of eldest_from
  find-more {p} {b'} {rest'} F l e z =
      record {
        few = best-few t b p e g.few l;
        fits = let h = left_le p rest in let f = g.fits in omega (arith, h, f, z);
        is = ap (λ (w : ℕ). found t b' (holders width w)) z ∙ by (eqb b 0) refl e (ap (found t b) (sym (first-within width F l)) ∙ g.is);
      }
    where
      R : List ℕ
      R = holders width (left_by p rest)

      some : p ≡ 0 → ⊥
      some q = omega (arith, q, F.from)

      by : (v : Bool) → eqb b 0 ≡ v → b' ≡ cond v p (elder_of t b p) → cond v (eldest_of t (p ∷ R)) (eldest_from t b (p ∷ R)) ≡ whole → found t b' R ≡ whole
      by true a c q = ap (λ (x : ℕ). found t x R) c ∙ found_at t p R some ∙ q
      by false a c q = ap (λ (x : ℕ). found t x R) c ∙ found_at t (elder_of t b p) R (elder-some t b p (eqb-false b 0 a) F.from) ∙ q

  found_all : holders width rest ≡ [] → b ≡ whole
  unfolding found eldest_of eldest_from
  found_all e = go (eqb b 0) refl ∙ ap (found t b) (sym e) ∙ g.is
    where
      go : (u : Bool) → eqb b 0 ≡ u → b ≡ cond u 0 b
      go true a = eqb-true b 0 a
      go false a = refl

  -- a session above the last one: what follows is higher still
  pub find-stop : {p : ℕ} → First word_bits rest p → width < p → b ≡ whole
  find-stop F l = found_all (none_within width F l)

  pub find-end : rest ≡ 0 → b ≡ whole
  find-end e = found_all (ap (holders width) e ∙ none-holds width)

-- ---- the elder of two

module _ (t : List Session) (b p : ℕ) where
  pub best-first : b ≡ 0 → p ≡ best_of t b p
  unfolding best_of
  best-first z = sym (ap (λ (u : Bool). cond u p (elder_of t b p)) (eq-eqb b 0 z))

  best-next : (b ≡ 0 → ⊥) → best_of t b p ≡ elder_of t b p
  unfolding best_of
  best-next n = ap (λ (u : Bool). cond u p (elder_of t b p)) (ne_eqb b 0 n)

  pub best-elder : (b ≡ 0 → ⊥) → (session_at t p).order < (session_at t b).order → p ≡ best_of t b p
  unfolding elder_of
  best-elder n l = sym (best-next n ∙ ap (λ (u : Bool). cond u p b) (lt-ltb (session_at t p).order (session_at t b).order l))

  pub best-stays : (b ≡ 0 → ⊥) → (session_at t b).order ≤ (session_at t p).order → b ≡ best_of t b p
  unfolding elder_of
  best-stays n l = sym (best-next n ∙ ap (λ (u : Bool). cond u p b) (le-ltb (session_at t p).order (session_at t b).order l))

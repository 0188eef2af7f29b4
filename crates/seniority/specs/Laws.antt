-- What the definitions of Seniority mean.
use Rattle.std.specs.Prelude.{◌≡◌, Bool, cond, not, ◌&&◌, ◌||◌, ◌⊎◌, ◌↔◌, length}
use Rattle.std.proofs.Math.Path.{refl, ap}
use Rattle.std.proofs.Common.{sym, ◌∙◌, true≢false}
use Rattle.std.proofs.Math.Bool.{true, false}
use Rattle.std.proofs.lemmas.Bool.{false≢true}
use mathlib.Core.List.{List, [], ◌∷◌}
use Rattle.std.proofs.Math.Logic.{inl, inr}
use Prim.Native.Nat.{ℕ, zero, suc, ◌+◌, ◌≤◌, ◌<◌}
use Rattle.std.proofs.Math.Decide.{ℕ_discrete, dec_lt}
use native.Mathlib.Omega.{arith}
use Rattle.std.proofs.Math.Dec.{eqb, ltb}
use Rattle.std.proofs.lemmas.List.{length-map}
use Rattle.std.proofs.Math.ListN.{get_or-map}
use borrow.Author.Tests.{eqb-true, eq-eqb, ltb-true, ltb-false}
use Rattle.locks.specs.Holders.{width, holds, holders, filter, count_from}
use Rattle.locks.specs.Lists.{In, in-passing}
use Rattle.sessions.specs.declared.Session.{Session}
use Rattle.sessions.specs.Sessions.{idle_session, session_at, is_begun, numbered}
use Rattle.seniority.specs.Seniority.{many_from, earlier_in, begun_in, ranked_in, but_first, renumbered_in, is_numbered, shared_from, distinct_from, distinct_in, elder_of, eldest_from, eldest_of, eldest_in}

both : (a b : Bool) → (a && b) ≡ true → (a ≡ true) × (b ≡ true)
both true b e = (refl, e)
both false b e = absurd (false≢true e)

-- ---- how many

-- never more than there are sessions
many-few : (f : Session → Bool) (t : List Session) (p n : ℕ) → many_from f t p n ≤ n
unfolding many_from
many-few f t p zero = omega arith
many-few f t p (suc n) = go (f (session_at t p)) (many-few f t (p + 1) n)
  where
    go : (b : Bool) → many_from f t (p + 1) n ≤ n → cond b (suc (many_from f t (p + 1) n)) (many_from f t (p + 1) n) ≤ suc n
    go true h = omega (arith, h)
    go false h = omega (arith, h)

pub earlier-few : (t : List Session) (n : ℕ) → earlier_in t n ≤ width
unfolding earlier_in
earlier-few t n = many-few _ t 1 width

pub begun-few : (t : List Session) → begun_in t ≤ width
unfolding begun_in
begun-few t = many-few is_begun t 1 width

-- how many records of a list have a property
unfoldable pub many : (Session → Bool) → List Session → ℕ
many f [] = 0
many f (x ∷ t) = let rest = many f t in cond (f x) (suc rest) rest

many-shift : (f : Session → Bool) (x : Session) (t : List Session) (p q n : ℕ) → q ≡ suc p → many_from f (x ∷ t) q n ≡ many_from f t p n
unfolding many_from
many-shift f x t p q zero e = refl
many-shift f x t p q (suc n) e =
    let i : many_from f (x ∷ t) (q + 1) n ≡ many_from f t (p + 1) n = many-shift f x t (p + 1) (q + 1) n (omega (arith, e)) in
    ap (λ (k : ℕ). cond (f (session_at (x ∷ t) k)) (suc (many_from f (x ∷ t) (q + 1) n)) (many_from f (x ∷ t) (q + 1) n)) e
    ∙ ap (λ (k : ℕ). cond (f (session_at t p)) (suc k) k) i

many-all : (f : Session → Bool) (t : List Session) → many_from f t 0 (length t) ≡ many f t
unfolding many_from many
many-all f [] = refl
many-all f (x ∷ t) = ap (λ (k : ℕ). cond (f x) (suc k) k) (many-shift f x t 0 1 (length t) refl ∙ many-all f t)

-- of the sessions of a table: those behind its first record
pub many-sessions : (f : Session → Bool) (x : Session) (t : List Session) → length t ≡ width → many_from f (x ∷ t) 1 width ≡ many f t
many-sessions f x t e = ap (many_from f (x ∷ t) 1) (sym e) ∙ many-shift f x t 0 1 (length t) refl ∙ many-all f t

-- ---- the table renumbered

pub ranked-begun : (t : List Session) (x : Session) → is_begun x ≡ true → ranked_in t x ≡ numbered (suc (earlier_in t x.order)) x
unfolding ranked_in
ranked-begun t x e = ap (λ (b : Bool). cond b (numbered (suc (earlier_in t x.order)) x) x) e

pub ranked-idle : (t : List Session) (x : Session) → is_begun x ≡ false → ranked_in t x ≡ x
unfolding ranked_in
ranked-idle t x e = ap (λ (b : Bool). cond b (numbered (suc (earlier_in t x.order)) x) x) e

pub renumbered-many : (t : List Session) → length (renumbered_in t) ≡ length t
unfolding renumbered_in but_first
renumbered-many [] = refl
renumbered-many (x ∷ t) = ap suc (length-map t (ranked_in (x ∷ t)))

-- the first record stays as it is,
pub renumbered-first : (t : List Session) → session_at (renumbered_in t) 0 ≡ session_at t 0
unfolding renumbered_in but_first
renumbered-first [] = refl
renumbered-first (x ∷ t) = refl

-- and every other is ranked
pub renumbered-at : (t : List Session) (q : ℕ) → session_at (renumbered_in t) (suc q) ≡ ranked_in t (session_at t (suc q))
unfolding renumbered_in but_first ranked_in is_begun
renumbered-at [] q = refl
renumbered-at (x ∷ t) q = get_or-map (ranked_in (x ∷ t)) t q idle_session

-- ---- no two share a number

module _ (t : List Session) where
  -- session q is begun and has number n
  pub record Numbered (n q : ℕ) : Type 0 where
    pub begun : is_begun (session_at t q) ≡ true
    pub order : (session_at t q).order ≡ n

  is-numbered : (n q : ℕ) → is_numbered n (session_at t q) ≡ true → Numbered n q
  unfolding is_numbered
  is-numbered n q e =
      let h = both (is_begun (session_at t q)) (eqb (session_at t q).order n) e in
      record { begun = h.0; order = eqb-true (session_at t q).order n h.1 }

  numbered_is : (n q : ℕ) → Numbered n q → is_numbered n (session_at t q) ≡ true
  unfolding is_numbered
  numbered_is n q N = ap (λ (b : Bool). b && eqb (session_at t q).order n) N.begun ∙ eq-eqb (session_at t q).order n N.order

  -- a session of a range that is begun and has number n
  record Shares (n p k : ℕ) : Type 0 where
    who : ℕ
    from : p ≤ who
    below : who < p + k
    has : Numbered n who

  shared-some : (n p k : ℕ) → shared_from t n p k ≡ true → Shares n p k
  unfolding shared_from
  shared-some n p zero e = absurd (false≢true e)
  shared-some n p (suc k) e = go (is_numbered n (session_at t p)) refl e (shared-some n (p + 1) k)
    where
      go : (b : Bool) → is_numbered n (session_at t p) ≡ b → (b || shared_from t n (p + 1) k) ≡ true → (shared_from t n (p + 1) k ≡ true → Shares n (p + 1) k) → Shares n p (suc k)
      go true q e i = record { who = p; from = omega arith; below = omega arith; has = is-numbered n p q }
      go false q e i = let S = i e in record { who = S.who; from = omega (arith, S.from); below = omega (arith, S.below); has = S.has }

  shared-found : (n p k q : ℕ) → p ≤ q → q < p + k → Numbered n q → shared_from t n p k ≡ true
  unfolding shared_from
  shared-found n p zero q a b N = absurd (omega (arith, a, b))
  shared-found n p (suc k) q a b N = go (ℕ_discrete q p) (λ c. shared-found n (p + 1) k q (omega (arith, a, c)) (omega (arith, b)) N)
    where
      either : (b : Bool) → shared_from t n (p + 1) k ≡ true → (b || shared_from t n (p + 1) k) ≡ true
      either true e = refl
      either false e = e

      go : Dec (q ≡ p) → (¬ (q ≡ p) → shared_from t n (p + 1) k ≡ true) → shared_from t n p (suc k) ≡ true
      go (yes e) i = ap (λ (b : Bool). b || shared_from t n (p + 1) k) (ap (λ (j : ℕ). is_numbered n (session_at t j)) (sym e) ∙ numbered_is n q N)
      go (no c) i = either (is_numbered n (session_at t p)) (i c)

  -- two begun sessions with one number are one
  abbrev Apart : ℕ → ℕ → Type 0
  Apart p n = (a b : ℕ) → p ≤ a → a < b → b < p + n → is_begun (session_at t a) ≡ true → is_begun (session_at t b) ≡ true → (session_at t a).order ≡ (session_at t b).order → ⊥

  from-apart : (p n : ℕ) → distinct_from t p n ≡ true → Apart p n
  unfolding distinct_from
  from-apart p zero e a b h l r x y o = absurd (omega (arith, h, l, r))
  from-apart p (suc n) e a b h l r x y o = go (ℕ_discrete p a) (from-apart (p + 1) n parts.1 a b)
    where
      parts : (not (is_begun (session_at t p) && shared_from t (session_at t p).order (p + 1) n) ≡ true) × (distinct_from t (p + 1) n ≡ true)
      parts = both _ _ e

      clash : (u v : Bool) → u ≡ true → v ≡ true → not (u && v) ≡ true → ⊥
      clash true true c d f = false≢true f
      clash true false c d f = false≢true d
      clash false v c d f = false≢true c

      go : Dec (p ≡ a) → (p + 1 ≤ a → a < b → b < p + 1 + n → is_begun (session_at t a) ≡ true → is_begun (session_at t b) ≡ true → (session_at t a).order ≡ (session_at t b).order → ⊥) → ⊥
      go (yes q) i =
          clash (is_begun (session_at t p)) (shared_from t (session_at t p).order (p + 1) n) (ap (λ (j : ℕ). is_begun (session_at t j)) q ∙ x)
          (shared-found (session_at t p).order (p + 1) n b (omega (arith, q, l)) (omega (arith, r)) (record { begun = y; order = sym o ∙ ap (λ (j : ℕ). (session_at t j).order) (sym q) }))
          parts.0
      go (no q) i = i (omega (arith, h, q)) l (omega (arith, r)) x y o

  apart_from : (p n : ℕ) → Apart p n → distinct_from t p n ≡ true
  unfolding distinct_from
  apart_from p zero A = refl
  apart_from p (suc n) A = all (is_begun (session_at t p)) refl (shared_from t (session_at t p).order (p + 1) n) refl (apart_from (p + 1) n rest)
    where
      rest : Apart (p + 1) n
      rest a b h l r = A a b (omega (arith, h)) l (omega (arith, r))

      never : is_begun (session_at t p) ≡ true → Shares (session_at t p).order (p + 1) n → ⊥
      never x S = A p S.who (omega arith) (omega (arith, S.from)) (omega (arith, S.below)) x S.has.begun (sym S.has.order)

      all : (u : Bool) → is_begun (session_at t p) ≡ u → (v : Bool) → shared_from t (session_at t p).order (p + 1) n ≡ v → distinct_from t (p + 1) n ≡ true
          → (not (u && v) && distinct_from t (p + 1) n) ≡ true
      all true x true y d = absurd (never x (shared-some (session_at t p).order (p + 1) n y))
      all true x false y d = d
      all false x v y d = d

  -- the test says that begun sessions with one number are one session,
  pub distinct-one : distinct_in t ≡ true → (p q : ℕ) → 1 ≤ p → p ≤ width → 1 ≤ q → q ≤ width → is_begun (session_at t p) ≡ true → is_begun (session_at t q) ≡ true
      → (session_at t p).order ≡ (session_at t q).order → p ≡ q
  unfolding distinct_in
  distinct-one e p q a b c d x y o = go (ℕ_discrete p q) (dec_lt p q)
    where
      A : Apart 1 width
      A = from-apart 1 width e

      go : Dec (p ≡ q) → Dec (p < q) → p ≡ q
      go (yes s) l = s
      go (no n) (yes l) = absurd (A p q a l (omega (arith, d)) x y o)
      go (no n) (no l) = absurd (A q p c (omega (arith, n, l)) (omega (arith, b)) y x (sym o))

  -- and is true where they are
  pub one-distinct : ((p q : ℕ) → 1 ≤ p → p ≤ width → 1 ≤ q → q ≤ width → is_begun (session_at t p) ≡ true → is_begun (session_at t q) ≡ true
      → (session_at t p).order ≡ (session_at t q).order → p ≡ q) → distinct_in t ≡ true
  unfolding distinct_in
  one-distinct h = apart_from 1 width (λ a b f l r x y o. omega (arith, h a b f (omega (arith, l, r)) (omega (arith, f, l)) (omega (arith, r)) x y o, l))

-- ---- who began first

-- a number of the range that passes is in the list
passing-in : (f : ℕ → Bool) (k n q : ℕ) → k ≤ q → q < k + n → f q ≡ true → In q (filter f (count_from k n))
unfolding In
passing-in f k zero q a b e = absurd (omega (arith, a, b))
passing-in f k (suc n) q a b e = go (ℕ_discrete q k) (λ c. passing-in f (suc k) n q (omega (arith, a, c)) (omega (arith, b)) e)
  where
    here : (b : Bool) → b ≡ true → q ≡ k → In q (cond b (k ∷ filter f (count_from (suc k) n)) (filter f (count_from (suc k) n)))
    here true c d = inl d
    here false c d = absurd (false≢true c)

    there : (b : Bool) → In q (filter f (count_from (suc k) n)) → In q (cond b (k ∷ filter f (count_from (suc k) n)) (filter f (count_from (suc k) n)))
    there true i = inr i
    there false i = i

    go : Dec (q ≡ k) → (¬ (q ≡ k) → In q (filter f (count_from (suc k) n))) → In q (filter f (count_from k (suc n)))
    go (yes d) i = here (f k) (ap f (sym d) ∙ e) d
    go (no c) i = there (f k) (i c)

module _ (t : List Session) where
  abbrev ord : ℕ → ℕ
  ord q = (session_at t q).order

  elder-either : (b c : ℕ) → (elder_of t b c ≡ b) ⊎ (elder_of t b c ≡ c)
  unfolding elder_of
  elder-either b c = go (ltb (ord c) (ord b))
    where
      go : (u : Bool) → (cond u c b ≡ b) ⊎ (cond u c b ≡ c)
      go true = inr refl
      go false = inl refl

  elder-least : (b c : ℕ) → (ord (elder_of t b c) ≤ ord b) × (ord (elder_of t b c) ≤ ord c)
  unfolding elder_of
  elder-least b c = go (ltb (ord c) (ord b)) refl
    where
      go : (u : Bool) → ltb (ord c) (ord b) ≡ u → (ord (cond u c b) ≤ ord b) × (ord (cond u c b) ≤ ord c)
      go true e = let h = ltb-true (ord c) (ord b) e in (omega (arith, h), omega arith)
      go false e = let h = ltb-false (ord c) (ord b) e in (omega arith, h)

  -- what is found is one of them,
  from_in : (b : ℕ) (l : List ℕ) → In (eldest_from t b l) (b ∷ l)
  unfolding eldest_from In
  from_in b [] = inl refl
  from_in b (c ∷ l) = go (elder-either b c) (from_in (elder_of t b c) l)
    where
      go : (elder_of t b c ≡ b) ⊎ (elder_of t b c ≡ c) → In (eldest_from t (elder_of t b c) l) (elder_of t b c ∷ l) → In (eldest_from t (elder_of t b c) l) (b ∷ c ∷ l)
      go (inl e) (inl h) = inl (h ∙ e)
      go (inr e) (inl h) = inr (inl (h ∙ e))
      go d (inr h) = inr (inr h)

  -- and none of them has a lower number
  from-least : (b : ℕ) (l : List ℕ) (q : ℕ) → In q (b ∷ l) → ord (eldest_from t b l) ≤ ord q
  unfolding eldest_from In
  from-least b [] q (inl e) = let h : ord q ≡ ord b = ap ord e in omega (arith, h)
  from-least b [] q (inr h) = absurd h
  from-least b (c ∷ l) q h = go h (from-least (elder_of t b c) l)
    where
      go : In q (b ∷ c ∷ l) → ((j : ℕ) → In j (elder_of t b c ∷ l) → ord (eldest_from t (elder_of t b c) l) ≤ ord j) → ord (eldest_from t (elder_of t b c) l) ≤ ord q
      go (inl e) i = let h : ord q ≡ ord b = ap ord e in omega (arith, h, i (elder_of t b c) (inl refl), (elder-least b c).0)
      go (inr (inl e)) i = let h : ord q ≡ ord c = ap ord e in omega (arith, h, i (elder_of t b c) (inl refl), (elder-least b c).1)
      go (inr (inr k)) i = i q (inr k)

  -- of the sessions of a word, q began first
  pub record Eldest (w q : ℕ) : Type 0 where
    pub first : 1 ≤ q
    pub last : q ≤ width
    pub holds_it : holds w q ≡ true
    pub least : (c : ℕ) → 1 ≤ c → c ≤ width → holds w c ≡ true → ord q ≤ ord c

  -- where the word has a session, the eldest is one of its sessions and none has a lower number;
  pub eldest-is : (w c : ℕ) → 1 ≤ c → c ≤ width → holds w c ≡ true → Eldest w (eldest_in t w)
  unfolding eldest_in eldest_of holders In
  eldest-is w c a b e = go (filter (holds w) (count_from 1 width)) (λ q. in-passing (holds w) 1 width q) (λ q f l h. passing-in (holds w) 1 width q f (omega (arith, l)) h)
    where
      go : (l : List ℕ) → ((q : ℕ) → In q l → (1 ≤ q) × (q < 1 + width) × (holds w q ≡ true)) → ((q : ℕ) → 1 ≤ q → q ≤ width → holds w q ≡ true → In q l) → Eldest w (eldest_of t l)
      go [] f g = absurd (g c a b e)
      go (x ∷ l) f g =
          let h = f (eldest_from t x l) (from_in x l) in
          record { first = h.0; last = omega (arith, h.1); holds_it = h.2; least = λ q y z u. from-least x l q (g q y z u) }

  none-holds : (w : ℕ) → eldest_in t w ≡ 0 → (c : ℕ) → 1 ≤ c → c ≤ width → holds w c ≡ false
  none-holds w z c a b = go (holds w c) refl
    where
      go : (u : Bool) → holds w c ≡ u → u ≡ false
      go true e = absurd (omega (arith, z, (eldest-is w c a b e).first))
      go false e = refl

  none_found : (w : ℕ) → ((c : ℕ) → 1 ≤ c → c ≤ width → holds w c ≡ false) → eldest_in t w ≡ 0
  unfolding eldest_in eldest_of holders In
  none_found w f = go (filter (holds w) (count_from 1 width)) (λ q. in-passing (holds w) 1 width q)
    where
      go : (l : List ℕ) → ((q : ℕ) → In q l → (1 ≤ q) × (q < 1 + width) × (holds w q ≡ true)) → eldest_of t l ≡ 0
      go [] g = refl
      go (x ∷ l) g = let h = g x (inl refl) in absurd (true≢false (sym h.2 ∙ f x h.0 (omega (arith, h.1))))

  -- it is 0 exactly if the word has none
  pub eldest-none : (w : ℕ) → (eldest_in t w ≡ 0) ↔ ((c : ℕ) → 1 ≤ c → c ≤ width → holds w c ≡ false)
  eldest-none w = (none-holds w, none_found w)

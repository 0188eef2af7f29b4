-- The memberships in arrays: the place of one, whether it is one of them, one more, one less.
use Rattle.std.specs.Prelude.{◌≡◌, refl, Bool, true, false, ◌&&◌, List, ◌∷◌, ◌⊎◌, ℕ, suc, ◌+◌, ◌-◌, ◌≤◌, ◌<◌, eqb, ltb, length, get_or, drop}
use Rattle.std.proofs.Common.{sym, ap, subst, ◌∙◌, true≢false, inl, inr, arith, drop_of_length-le, eqb-true, ltb-true, ltb-false}
use Rattle.std.proofs.lemmas.Bool.{false≢true, eqb-false}
use Rattle.serial.specs.Rising.{Rising, has, ins, del, has-cases, rising-ins, rising-del}
use Rattle.serial.specs.Model.{Pair, Before, by_key}
use Rattle.reshaping.specs.Ops.{insert_in, remove_in}
use Rattle.reshaping.specs.Live.{insert_at, remove_at, length-insert_in, length-remove_in}
use Rattle.replay.specs.declared.Fed.{Fed}
use Rattle.replay.specs.Held.{members_in}
use Rattle.replay.specs.Places.{rank, rank-past, rank-here, rank-none, rank-le, has-at, rank-has, ins-new, ins-old, del-none, del-one}
use Rattle.replay.specs.Pairs.{length-members, member-at, members-from, members-more, members-less}

-- ---- by key, then by entry

-- A test tells whether p stands before q.
pub record Tells (p q : Pair) (b : Bool) : Type 0 where
  pub so : b ≡ true → Before p q
  pub not_so : b ≡ false → ¬ (Before p q)

module _ (k₁ e₁ k₂ e₂ : ℕ) where
  pub tells-before : k₁ < k₂ → Tells (k₁, e₁) (k₂, e₂) true
  tells-before h = record { so = λ _. inl h; not_so = λ t. absurd (true≢false t) }

  pub tells-behind : k₂ < k₁ → Tells (k₁, e₁) (k₂, e₂) false
  tells-behind h = record { so = λ t. absurd (false≢true t); not_so = λ _. go }
    where
      go : Before (k₁, e₁) (k₂, e₂) → ⊥
      go (inl b) = omega arith
      go (inr b) = omega arith

  pub tells-entries : k₁ ≡ k₂ → Tells (k₁, e₁) (k₂, e₂) (ltb e₁ e₂)
  tells-entries h = record { so = λ t. inr (h, ltb-true e₁ e₂ t); not_so = λ t. go (ltb-false e₁ e₂ t) }
    where
      go : e₂ ≤ e₁ → Before (k₁, e₁) (k₂, e₂) → ⊥
      go l (inl b) = omega arith
      go l (inr b) = omega arith

-- ---- the place of a membership

-- The arrays hold n memberships, which rise.
pub record Sorted (ks es : List ℕ) (n : ℕ) : Type 0 where
  pub keys : length ks ≡ 2048
  pub entries : length es ≡ 2048
  pub count : n ≤ 2048
  pub rising : Rising by_key (members_in ks es n)

module _ {ks es : List ℕ} {n : ℕ} (s : Sorted ks es n) where
  in-keys : n ≤ length ks
  in-keys = omega arith

  in-entries : n ≤ length es
  in-entries = omega arith

  count_of : length (members_in ks es n) ≡ n
  count_of = length-members ks es n in-keys in-entries

  pair_of : (i : ℕ) → i < n → get_or (members_in ks es n) i (0, 0) ≡ (get_or ks i 0, get_or es i 0)
  pair_of = member-at ks es n in-keys in-entries

abbrev pub place-in : List ℕ → List ℕ → ℕ → Pair → ℕ
place-in ks es n x = rank by_key x (members_in ks es n)

-- The first i stand before x; the others tell the rest of its place.
pub record Placing (ks es : List ℕ) (n : ℕ) (x : Pair) (i : ℕ) : Type 0 where
  pub is : i + rank by_key x (drop i (members_in ks es n)) ≡ place-in ks es n x

module _ (ks es : List ℕ) (n : ℕ) (x : Pair) where
  pub place-start : Placing ks es n x 0
  place-start = record { is = omega arith }

  module _ (i : ℕ) (s : Sorted ks es n) (z : Placing ks es n x i) where
    place-next : i < n → i + rank by_key x ((get_or ks i 0, get_or es i 0) ∷ drop (suc i) (members_in ks es n)) ≡ place-in ks es n x
    place-next h = ap (λ (l : List Pair). i + rank by_key x l) (sym (members-from ks es n (in-keys s) (in-entries s) i h)) ∙ z.is

    pub place-more : (b : Bool) → i < n → Tells (get_or ks i 0, get_or es i 0) x b → b ≡ true → Placing ks es n x (i + 1)
    place-more b h t e =
        let l = drop (suc i) (members_in ks es n) in
        let r = rank-past by_key x (get_or ks i 0, get_or es i 0) l (t.so e) in
        record {
          is = ap (λ (j : ℕ). i + 1 + rank by_key x (drop j (members_in ks es n))) {x = i + 1} {y = suc i} (omega arith) ∙ omega (arith, r, place-next h);
        }

    pub place-stop : (b : Bool) → i < n → Tells (get_or ks i 0, get_or es i 0) x b → b ≡ false → i ≡ place-in ks es n x
    place-stop b h t e = omega (arith, rank-here by_key x (get_or ks i 0, get_or es i 0) (drop (suc i) (members_in ks es n)) (t.not_so e), place-next h)

    pub place_end : i ≡ n → n ≡ place-in ks es n x
    place_end h =
        let none = drop_of_length-le (members_in ks es n) {i = i} (omega (arith, count_of s)) in
        omega (arith, ap (rank by_key x) none, rank-none by_key x, z.is)

-- ---- whether it is one of them

-- A test at place p tells whether x is a membership.
pub record Finds (ks es : List ℕ) (n : ℕ) (x : Pair) (p : ℕ) (b : Bool) : Type 0 where
  pub so : b ≡ true → (p < n) × (has by_key x (members_in ks es n) ≡ 1)
  pub not_so : b ≡ false → has by_key x (members_in ks es n) ≡ 0

module _ (ks es : List ℕ) (n p k e : ℕ) (s : Sorted ks es n) (at : p ≡ place-in ks es n (k, e)) where
  abbrev ms : List Pair
  ms = members_in ks es n

  found-there : has by_key (k, e) ms ≡ 1 → (p < n) × (get_or ks p 0 ≡ k) × (get_or es p 0 ≡ e)
  found-there h =
      let z = rank-has by_key (k, e) (0, 0) ms s.rising h in
      let l = count_of s in
      let b : p < n = omega (arith, z.0) in
      let q = sym (pair_of s p b) ∙ ap (λ (i : ℕ). get_or ms i (0, 0)) at ∙ z.1 in
      (b, ap (λ (r : Pair). r.0) q, ap (λ (r : Pair). r.1) q)

  none-there : ((p < n) × (get_or ks p 0 ≡ k) × (get_or es p 0 ≡ e) → ⊥) → has by_key (k, e) ms ≡ 0
  none-there h = go (has-cases by_key (k, e) ms)
    where
      go : (has by_key (k, e) ms ≡ 0) ⊎ (has by_key (k, e) ms ≡ 1) → has by_key (k, e) ms ≡ 0
      go (inl q) = q
      go (inr q) = absurd (h (found-there q))

  pub finds_past : n ≤ p → Finds ks es n (k, e) p false
  finds_past h = record { so = λ t. absurd (false≢true t); not_so = λ _. none-there (λ z. omega (arith, z.0)) }

  pub finds-other : ¬ (get_or ks p 0 ≡ k) → Finds ks es n (k, e) p false
  finds-other h = record { so = λ t. absurd (false≢true t); not_so = λ _. none-there (λ z. h z.1) }

  pub finds-entry : p < n → get_or ks p 0 ≡ k → Finds ks es n (k, e) p (eqb (get_or es p 0) e)
  finds-entry h q = record { so = λ t. (h, there (eqb-true (get_or es p 0) e t)); not_so = λ t. none-there (λ z. eqb-false (get_or es p 0) e t z.2) }
    where
      there : get_or es p 0 ≡ e → has by_key (k, e) ms ≡ 1
      there r = has-at by_key (k, e) (0, 0) ms p (omega (arith, count_of s)) (pair_of s p h ∙ λ i. (q i, r i))

  pub finds-both : p < n → Finds ks es n (k, e) p (eqb (get_or ks p 0) k && eqb (get_or es p 0) e)
  finds-both h = go (eqb (get_or ks p 0) k) refl
    where
      go : (b : Bool) → eqb (get_or ks p 0) k ≡ b → Finds ks es n (k, e) p (b && eqb (get_or es p 0) e)
      go true q = finds-entry h (eqb-true (get_or ks p 0) k q)
      go false q = finds-other (eqb-false (get_or ks p 0) k q)

-- ---- one more, one less

pub place-upto : (ks es : List ℕ) (n p k e : ℕ) → Sorted ks es n → p ≡ place-in ks es n (k, e) → p ≤ n
place-upto ks es n p k e s at = omega (arith, rank-le by_key (k, e) (members_in ks es n), count_of s)

-- An answer given, and the memberships that are there then.
pub record Becomes (n a : ℕ) (ms : List Pair) (r : Fed) (ks es : List ℕ) : Type 0 where
  pub sorted : Sorted ks es r.count
  pub few : r.count ≤ n + 1
  pub answered : r.answer ≡ a
  pub members : members_in ks es r.count ≡ ms

-- (k, e) put in: 1 if it is new.
abbrev pub Inserts : ℕ → ℕ → List ℕ → List ℕ → ℕ → Fed → List ℕ → List ℕ → Type 0
Inserts k e ks es n r ks' es' = Becomes n (1 - has by_key (k, e) (members_in ks es n)) (ins by_key (k, e) (members_in ks es n)) r ks' es'

-- (k, e) taken out: 1 if it was there.
abbrev pub Removes : ℕ → ℕ → List ℕ → List ℕ → ℕ → Fed → List ℕ → List ℕ → Type 0
Removes k e ks es n r ks' es' = Becomes n (has by_key (k, e) (members_in ks es n)) (del by_key (k, e) (members_in ks es n)) r ks' es'

module _ (ks es : List ℕ) (n p k e : ℕ) (b : Bool) (s : Sorted ks es n) (at : p ≡ place-in ks es n (k, e)) (f : Finds ks es n (k, e) p b) where
  abbrev ms₀ : List Pair
  ms₀ = members_in ks es n

  pub inserts-none : b ≡ true → Inserts k e ks es n (record { answer = 0; count = n }) ks es
  inserts-none t = record {
    sorted = s;
    few = omega arith;
    answered = omega (arith, (f.so t).1);
    members = sym (ins-old by_key (k, e) ms₀ s.rising (f.so t).1);
  }

  pub removes-none : b ≡ false → Removes k e ks es n (record { answer = 0; count = n }) ks es
  removes-none t = record {
    sorted = s;
    few = omega arith;
    answered = omega (arith, f.not_so t);
    members = sym (del-none by_key (k, e) ms₀ s.rising (f.not_so t));
  }

  module _ (ks' es' : List ℕ) where
    pub inserts-one : b ≡ false → n < 2048 → ks' ≡ insert_in ks p k → es' ≡ insert_in es p e → Inserts k e ks es n (record { answer = 1; count = n + 1 }) ks' es'
    inserts-one t room p₁ p₂ =
        let upto : p ≤ n = place-upto ks es n p k e s at in
        let in-ks : n < length ks = omega arith in
        let in-es : n < length es = omega arith in
        let is : members_in (insert_in ks p k) (insert_in es p e) (n + 1) ≡ ins by_key (k, e) ms₀ = members-more ks es n p k e upto in-ks in-es
        ∙ ap (λ (i : ℕ). insert_at ms₀ i (k, e)) at
        ∙ sym (ins-new by_key (k, e) ms₀ (f.not_so t)) in
        rw (p₁, p₂)
        (record {
          sorted = record {
            keys = length-insert_in ks p k (omega arith) ∙ s.keys;
            entries = length-insert_in es p e (omega arith) ∙ s.entries;
            count = omega arith;
            rising = subst (Rising by_key) (sym is) (rising-ins by_key (k, e) ms₀ s.rising);
          };
          few = omega arith;
          answered = omega (arith, f.not_so t);
          members = is;
        })

    pub removes-one : b ≡ true → ks' ≡ remove_in ks p → es' ≡ remove_in es p → Removes k e ks es n (record { answer = 1; count = n - 1 }) ks' es'
    removes-one t p₁ p₂ =
        let below : p < n = (f.so t).0 in
        let is : members_in (remove_in ks p) (remove_in es p) (n - 1) ≡ del by_key (k, e) ms₀ = members-less ks es n (in-keys s) (in-entries s) p below
        ∙ ap (remove_at ms₀) at
        ∙ sym (del-one by_key (k, e) ms₀ s.rising (f.so t).1) in
        rw (p₁, p₂)
        (record {
          sorted = record {
            keys = length-remove_in ks p (omega arith) ∙ s.keys;
            entries = length-remove_in es p (omega arith) ∙ s.entries;
            count = omega arith;
            rising = subst (Rising by_key) (sym is) (rising-del by_key (k, e) ms₀ s.rising);
          };
          few = omega arith;
          answered = sym (f.so t).1;
          members = is;
        })

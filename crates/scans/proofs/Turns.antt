-- The turns of the loops that only read: along descriptors and along members.
use mathlib.Core.Path.{◌≡◌, refl, sym, ap, subst, ◌∙◌}
use mathlib.Core.List.{List, [], ◌∷◌}
use mathlib.Core.Bool.{Bool, true, false, cond}
use Prim.Native.Nat.{ℕ, zero, suc, ◌+◌, ◌-◌, ◌*◌, ◌≤◌, ◌<◌}
use native.Mathlib.Omega.{arith}
use lib.Dec.{eqb, leb}
use lib.ListN.{length}
use borrow.Author.Tests.{eq-eqb, ne_eqb, le-leb, lt-leb}
use Rattle.words.specs.Store.{HasRecord, word_of}
use Rattle.chain.specs.Walk.{Walk}
use Rattle.scans.specs.Scans.{last_upto, membership_of, entries_in, range_count, WalkRange}

one_less : (k : ℕ) → 1 ≤ k → k ≡ suc (k - 1)
one_less k h = omega arith

pub all_turns : (r : ℕ) → r - 0 ≡ r
all_turns r = omega arith

pub one_turn : (r t : ℕ) → r - (t + 1) ≡ r - t - 1
one_turn r t = omega arith

-- ---- one record on

-- a walk that may meet no more records is at its end
pub walk-none : (s : List ℕ) (m n i : ℕ) → Walk s m n i → n ≡ 0 → i ≡ 0
unfolding Walk
walk-none s m n i w e = subst (λ (k : ℕ). Walk s m k i) e w

pub range-none : (s : List ℕ) (m r n i : ℕ) → WalkRange s m r n i → n ≡ 0 → i ≡ 0
unfolding WalkRange
range-none s m r n i w e = subst (λ (k : ℕ). WalkRange s m r k i) e w

-- the walk's record is there, and so is one more turn
pub record Onward (s : List ℕ) (m n i : ℕ) : Type 0 where
  pub some : 1 ≤ n
  pub has : HasRecord s m i
  pub walk : Walk s m (n - 1) (word_of s m i 0)

pub walk-one : {s : List ℕ} {m i : ℕ} (n : ℕ) → Walk s m n i → (i ≡ 0 → ⊥) → Onward s m n i
unfolding Walk
walk-one zero w ne = absurd (ne w)
walk-one {s} {m} {i} (suc n) w ne =
    record {
      some = omega arith;
      has = (w ne).0;
      walk = subst (λ (k : ℕ). Walk s m k (word_of s m i 0)) (let e : n ≡ suc n - 1 = omega arith in e) (w ne).1;
    }

pub record OnwardRange (s : List ℕ) (m r n i : ℕ) : Type 0 where
  pub some : 1 ≤ n
  pub has : HasRecord s m i
  pub members : Walk s m r (word_of s m i 6)
  pub walk : WalkRange s m r (n - 1) (word_of s m i 0)

pub range-one : {s : List ℕ} {m r i : ℕ} (n : ℕ) → WalkRange s m r n i → (i ≡ 0 → ⊥) → OnwardRange s m r n i
unfolding WalkRange
range-one zero w ne = absurd (ne w)
range-one {s} {m} {r} {i} (suc n) w ne =
    record {
      some = omega arith;
      has = (w ne).0;
      members = (w ne).1;
      walk = subst (λ (k : ℕ). WalkRange s m r k (word_of s m i 0)) (let e : n ≡ suc n - 1 = omega arith in e) (w ne).2;
    }

pub members_of : {s : List ℕ} {m r n i first : ℕ} → OnwardRange s m r n i → first ≡ word_of s m i 6 → Walk s m r first
members_of {s} {m} {r} on e = subst (λ (j : ℕ). Walk s m r j) (sym e) on.members

-- ---- the last descriptor

-- what is left of the walk, done, gives the whole
pub record Following (whole : ℕ) (s : List ℕ) (m at more k : ℕ) : Type 0 where
  pub has : HasRecord s m at
  pub walk : Walk s m more (word_of s m at 0)
  pub is : last_upto s m more at k ≡ whole

pub follow-over : {whole : ℕ} {s : List ℕ} {m at more k : ℕ} → Following whole s m at more k → more ≡ 0 → at ≡ whole
unfolding last_upto
follow-over {whole} {s} {m} {at} {more} {k} f e = ap (λ (n : ℕ). last_upto s m n at k) (sym e) ∙ f.is

module _ {whole : ℕ} {s : List ℕ} {m at more k next : ℕ} (f : Following whole s m at more k) (link : next ≡ word_of s m at 0) where
  pub follow-end : next ≡ 0 → at ≡ whole
  unfolding last_upto
  follow-end e = sym (at-end more) ∙ f.is
    where
      at-end : (n : ℕ) → last_upto s m n at k ≡ at
      at-end zero = refl
      at-end (suc n) = simp (eq-eqb (word_of s m at 0) 0 (sym link ∙ e))

  pub follow-on : (next ≡ 0 → ⊥) → Onward s m more next
  follow-on = walk-one more (subst (λ (j : ℕ). Walk s m more j) (sym link) f.walk)

  module _ (ne : next ≡ 0 → ⊥) {key : ℕ} (named : key ≡ word_of s m next 1) where
    some : more ≡ suc (more - 1)
    some = one_less more (follow-on ne).some

    there : eqb (word_of s m at 0) 0 ≡ false
    there = ne_eqb (word_of s m at 0) 0 (λ z. ne (link ∙ z))

    as-key : leb (word_of s m (word_of s m at 0) 1) k ≡ leb key k
    as-key = ap (λ (j : ℕ). leb (word_of s m j 1) k) (sym link) ∙ ap (λ (x : ℕ). leb x k) (sym named)

    pub follow-stop : k < key → at ≡ whole
    unfolding last_upto
    follow-stop h = (simp (there, as-key ∙ lt-leb key k h) at (ap (λ (n : ℕ). last_upto s m n at k) (sym some))) ∙ f.is

    pub follow-more : key ≤ k → Following whole s m next (more - 1) k
    unfolding last_upto
    follow-more h =
        record {
          has = (follow-on ne).has;
          walk = (follow-on ne).walk;
          is =
              ap (λ (j : ℕ). last_upto s m (more - 1) j k) link
              ∙ (simp (there, as-key ∙ le-leb key k h) at (ap (λ (n : ℕ). last_upto s m n at k) (sym some)))
              ∙ f.is;
        }

-- ---- a member

pub record Finding (whole : ℕ) (s : List ℕ) (m at more e : ℕ) : Type 0 where
  pub walk : Walk s m more at
  pub is : membership_of s m more at e ≡ whole

module _ {whole : ℕ} {s : List ℕ} {m at more e : ℕ} (f : Finding whole s m at more e) where
  pub find-end : at ≡ 0 → 0 ≡ whole
  unfolding membership_of
  find-end z = sym (at-end more) ∙ f.is
    where
      at-end : (n : ℕ) → membership_of s m n at e ≡ 0
      at-end zero = refl
      at-end (suc n) = simp (eq-eqb at 0 z)

  module _ (ne : at ≡ 0 → ⊥) {entry : ℕ} (named : entry ≡ word_of s m at 2) where
    some-member : more ≡ suc (more - 1)
    some-member = one_less more (walk-one more f.walk ne).some

    pub find-stop : entry ≡ e → at ≡ whole
    unfolding membership_of
    find-stop h = (simp (ne_eqb at 0 ne, eq-eqb (word_of s m at 2) e (sym named ∙ h)) at (ap (λ (n : ℕ). membership_of s m n at e) (sym some-member))) ∙ f.is

    pub find-more : {next : ℕ} → (entry ≡ e → ⊥) → next ≡ word_of s m at 0 → Finding whole s m next (more - 1) e
    unfolding membership_of
    find-more {next} h q =
        record {
          walk = subst (λ (j : ℕ). Walk s m (more - 1) j) (sym q) (walk-one more f.walk ne).walk;
          is =
              ap (λ (j : ℕ). membership_of s m (more - 1) j e) q
              ∙ (simp (ne_eqb at 0 ne, ne_eqb (word_of s m at 2) e (λ z. h (named ∙ z))) at (ap (λ (n : ℕ). membership_of s m n at e) (sym some-member)))
              ∙ f.is;
        }

-- ---- counting

pub none_in : (s : List ℕ) (m n i : ℕ) → i ≡ 0 → entries_in s m n i ≡ []
unfolding entries_in
none_in s m zero i z = refl
none_in s m (suc n) i z = simp (eq-eqb i 0 z)

pub more-in : (s : List ℕ) (m : ℕ) {n i : ℕ} → (i ≡ 0 → ⊥) → 1 ≤ n → entries_in s m n i ≡ word_of s m i 2 ∷ entries_in s m (n - 1) (word_of s m i 0)
unfolding entries_in
more-in s m {n} {i} ne h = sym (simp (ne_eqb i 0 ne) at (ap (λ (k : ℕ). entries_in s m k i) (sym (one_less n h))))

pub entries-few : (s : List ℕ) (m n i : ℕ) → length (entries_in s m n i) ≤ n
unfolding entries_in
entries-few s m zero i = omega arith
entries-few s m (suc n) i = go (eqb i 0) (entries-few s m n (word_of s m i 0))
  where
    go : (b : Bool) → length (entries_in s m n (word_of s m i 0)) ≤ n
        → length (cond b [] (word_of s m i 2 ∷ entries_in s m n (word_of s m i 0))) ≤ suc n
    go true h = omega arith
    go false h = omega arith

pub record Counting (whole : ℕ) (s : List ℕ) (m at more n : ℕ) : Type 0 where
  pub walk : Walk s m more at
  pub is : n + length (entries_in s m more at) ≡ whole

module _ {whole : ℕ} {s : List ℕ} {m at more n : ℕ} (f : Counting whole s m at more n) where
  pub count-end : at ≡ 0 → n ≡ whole
  count-end z = let e = f.is in let w : length (entries_in s m more at) ≡ 0 = ap length (none_in s m more at z) in omega arith

  pub count-more : {next : ℕ} → (at ≡ 0 → ⊥) → next ≡ word_of s m at 0 → Counting whole s m next (more - 1) (n + 1)
  count-more {next} ne q =
      let on : Onward s m more at = walk-one more f.walk ne in
      let w : length (entries_in s m more at) ≡ suc (length (entries_in s m (more - 1) (word_of s m at 0))) = ap length (more-in s m ne on.some) in
      let e = f.is in
      let v : length (entries_in s m (more - 1) next) ≡ length (entries_in s m (more - 1) (word_of s m at 0)) = ap (λ (j : ℕ). length (entries_in s m (more - 1) j)) q in
      record { walk = subst (λ (j : ℕ). Walk s m (more - 1) j) (sym q) on.walk; is = omega arith }

-- ---- counting a range

pub none_of : (s : List ℕ) (m r n i hi : ℕ) → i ≡ 0 → range_count s m r n i hi ≡ 0
unfolding range_count
none_of s m r zero i hi z = refl
none_of s m r (suc n) i hi z = simp (eq-eqb i 0 z)

pub past_of : (s : List ℕ) (m r n i hi : ℕ) → hi < word_of s m i 1 → range_count s m r n i hi ≡ 0
unfolding range_count
past_of s m r zero i hi h = refl
past_of s m r (suc n) i hi h = go (eqb i 0)
  where
    go : (b : Bool) → cond b 0 (cond (leb (word_of s m i 1) hi) (length (entries_in s m r (word_of s m i 6)) + range_count s m r n (word_of s m i 0) hi) 0) ≡ 0
    go true = refl
    go false = simp (lt-leb (word_of s m i 1) hi h)

pub more_of : (s : List ℕ) (m r : ℕ) {n i hi : ℕ} → (i ≡ 0 → ⊥) → 1 ≤ n → word_of s m i 1 ≤ hi
    → range_count s m r n i hi ≡ length (entries_in s m r (word_of s m i 6)) + range_count s m r (n - 1) (word_of s m i 0) hi
unfolding range_count
more_of s m r {n} {i} {hi} ne h k =
    sym (simp (ne_eqb i 0 ne, le-leb (word_of s m i 1) hi k) at (ap (λ (j : ℕ). range_count s m r j i hi) (sym (one_less n h))))

pub range-few : (s : List ℕ) (m r n i hi : ℕ) → r ≤ 4096 → range_count s m r n i hi ≤ 4096 * n
unfolding range_count
range-few s m r zero i hi h = omega arith
range-few s m r (suc n) i hi h = go (eqb i 0) (leb (word_of s m i 1) hi) (range-few s m r n (word_of s m i 0) hi h)
  where
    go : (b d : Bool) → range_count s m r n (word_of s m i 0) hi ≤ 4096 * n
        → cond b 0 (cond d (length (entries_in s m r (word_of s m i 6)) + range_count s m r n (word_of s m i 0) hi) 0) ≤ 4096 * suc n
    go true d on = omega arith
    go false false on = omega arith
    go false true on = let f = entries-few s m r (word_of s m i 6) in omega arith

pub record CountingRange (whole : ℕ) (s : List ℕ) (m r at more n hi : ℕ) : Type 0 where
  pub walk : WalkRange s m r more at
  pub is : n + range_count s m r more at hi ≡ whole

module _ {whole : ℕ} {s : List ℕ} {m r at more n hi : ℕ} (f : CountingRange whole s m r at more n hi) where
  pub range-end : at ≡ 0 → n ≡ whole
  range-end z = let e = f.is in let w = none_of s m r more at hi z in omega arith

  pub range-stop : {key : ℕ} → key ≡ word_of s m at 1 → hi < key → n ≡ whole
  range-stop {key} q h = let e = f.is in let w = past_of s m r more at hi (let z = q in omega arith) in omega arith

  module _ (ne : at ≡ 0 → ⊥) {key first more-n : ℕ} (named : key ≡ word_of s m at 1) (h : key ≤ hi) (to : first ≡ word_of s m at 6)
      (counted : more-n ≡ length (entries_in s m r first)) where
    range-on : OnwardRange s m r more at
    range-on = range-one more f.walk ne

    as_first : more-n ≡ length (entries_in s m r (word_of s m at 6))
    as_first = counted ∙ ap (λ (j : ℕ). length (entries_in s m r j)) to

    under : word_of s m at 1 ≤ hi
    under = subst (λ (x : ℕ). x ≤ hi) named h

    pub range-fits : n + more-n ≤ whole
    range-fits = let e = f.is in let w = more_of s m r {hi = hi} ne range-on.some under in let v = as_first in omega arith

    pub range-more : {next : ℕ} → next ≡ word_of s m at 0 → CountingRange whole s m r next (more - 1) (n + more-n) hi
    range-more {next} q =
        let w = more_of s m r {hi = hi} ne range-on.some under in
        let e = f.is in
        let v = as_first in
        let u : range_count s m r (more - 1) next hi ≡ range_count s m r (more - 1) (word_of s m at 0) hi = ap (λ (j : ℕ). range_count s m r (more - 1) j hi) q in
        record { walk = subst (λ (j : ℕ). WalkRange s m r (more - 1) j) (sym q) range-on.walk; is = omega arith }

-- The members of a descriptor: a membership added at the front of their chain, and one taken out of it by its links.
use Rattle.std.specs.Prelude.{◌≡◌, Bool, true, false, cond, ◌||◌, ℕ, ◌<◌, eqb}
use Rattle.std.proofs.Math.Path.{refl, subst}
use Rattle.std.proofs.Common.{sym, ap, ap₂, ◌∙◌, inl, inr, arith}
use mathlib.Core.List.{List, [], ◌∷◌, ◌++◌}
use Rattle.std.proofs.Math.Decide.{ℕ_discrete}
use borrow.Author.Tests.{eq-eqb, ne_eqb, lt-ltb, le-ltb}
use Rattle.serial.specs.Rising.{Tri, less, equal, greater}
use Rattle.serial.specs.Model.{ℕ-tri}
use Rattle.serial.specs.Serial.{true≢false}
use Rattle.words.specs.Store.{word_of}
use Rattle.machine.specs.Holders.{elem}
use Rattle.machine.specs.State.{with_member, without_member}
use Rattle.machine.specs.Keys.{elem-with}
use Rattle.meaning.specs.Reading.{Chained, gather}
use Rattle.meaning.specs.Sound.{All, Apart, Once, Linked}
use Rattle.meaning.specs.Numbers.{In, all_in, all_append, all_left, all_right, all-as, all_both, apart-left, apart-right, apart-all, apart_from, not_in, once-apart}
use Rattle.meaning.specs.Frame.{SameAt, SameWords, member_words, same-words, chained_same, chain-push, chain-pop}

-- ---- members in rising order

module _ (e x : ℕ) (l : List ℕ) where
  with-less : e < x → with_member e (x ∷ l) ≡ e ∷ x ∷ l
  unfolding with_member
  with-less h = rw (lt-ltb e x h) refl

  with-equal : e ≡ x → with_member e (x ∷ l) ≡ x ∷ l
  unfolding with_member
  with-equal h = rw (le-ltb e x (omega (arith, h)), eq-eqb e x h) refl

  with-greater : x < e → with_member e (x ∷ l) ≡ x ∷ with_member e l
  unfolding with_member
  with-greater h = rw (le-ltb e x (omega (arith, h)), ne_eqb e x (λ q. omega (arith, q, h))) refl

-- Two are put in in either order.
with-rising : (e f : ℕ) → e < f → (l : List ℕ) → with_member e (with_member f l) ≡ with_member f (with_member e l)
unfolding with_member
with-rising e f h [] = with-less e f [] h ∙ sym (with-greater f e [] h)
with-rising e f h (x ∷ l) = go (ℕ-tri e x) (with-rising e f h l)
  where
    first : e < x → Tri ◌<◌ f x → with_member e (with_member f (x ∷ l)) ≡ e ∷ with_member f (x ∷ l)
    first a (less b) = ap (with_member e) (with-less f x l b) ∙ with-less e f (x ∷ l) h ∙ sym (ap (λ k. e ∷ k) (with-less f x l b))
    first a (equal b) = ap (with_member e) (with-equal f x l b) ∙ with-less e x l a ∙ sym (ap (λ k. e ∷ k) (with-equal f x l b))
    first a (greater b) = ap (with_member e) (with-greater f x l b) ∙ with-less e x (with_member f l) a ∙ sym (ap (λ k. e ∷ k) (with-greater f x l b))

    go : Tri ◌<◌ e x → with_member e (with_member f l) ≡ with_member f (with_member e l) → with_member e (with_member f (x ∷ l)) ≡ with_member f (with_member e (x ∷ l))
    go (less a) ih = first a (ℕ-tri f x) ∙ sym (ap (with_member f) (with-less e x l a) ∙ with-greater f e (x ∷ l) h)
    go (equal a) ih =
        let b : x < f = omega (arith, a, h) in
        ap (with_member e) (with-greater f x l b) ∙ with-equal e x (with_member f l) a ∙ sym (ap (with_member f) (with-equal e x l a) ∙ with-greater f x l b)
    go (greater a) ih =
        let b : x < f = omega (arith, a, h) in
        ap (with_member e) (with-greater f x l b) ∙ with-greater e x (with_member f l) a ∙ ap (λ k. x ∷ k) ih
        ∙ sym (ap (with_member f) (with-greater e x l a) ∙ with-greater f x (with_member e l) b)

pub with-swap : (e f : ℕ) (l : List ℕ) → with_member e (with_member f l) ≡ with_member f (with_member e l)
with-swap e f l = go (ℕ-tri e f)
  where
    go : Tri ◌<◌ e f → with_member e (with_member f l) ≡ with_member f (with_member e l)
    go (less h) = with-rising e f h l
    go (equal h) = ap₂ (λ a b. with_member a (with_member b l)) h (sym h)
    go (greater h) = sym (with-rising f e h l)

-- One that is put in and taken out again.
pub without-with : (e : ℕ) (l : List ℕ) → elem e l ≡ false → without_member e (with_member e l) ≡ l
unfolding with_member without_member
without-with e [] n = rw (eq-eqb e e refl) refl
without-with e (x ∷ l) n = go (ℕ-tri e x) (without-with e l)
  where
    off : (a b : Bool) → (a || b) ≡ false → (a ≡ false) × (b ≡ false)
    off true b q = absurd (true≢false {b = true} refl q)
    off false b q = (refl, q)

    go : Tri ◌<◌ e x → (elem e l ≡ false → without_member e (with_member e l) ≡ l) → without_member e (with_member e (x ∷ l)) ≡ x ∷ l
    go (less h) ih = ap (without_member e) (with-less e x l h) ∙ rw (eq-eqb e e refl) refl
    go (equal h) ih = absurd (true≢false (eq-eqb e x h) (off (eqb e x) (elem e l) n).0)
    go (greater h) ih = ap (without_member e) (with-greater e x l h) ∙ rw (ne_eqb e x (λ q. omega (arith, q, h))) (ap (λ k. x ∷ k) (ih (off (eqb e x) (elem e l) n).1))

-- The place of one in a list does not matter.
pub gather-mid : (a : List ℕ) (e : ℕ) (b : List ℕ) → gather (a ++ e ∷ b) ≡ with_member e (gather (a ++ b))
gather-mid [] e b = refl
gather-mid (x ∷ a) e b = ap (with_member x) (gather-mid a e b) ∙ with-swap x e (gather (a ++ b))

pub gather-apart : (e : ℕ) (l : List ℕ) → Apart e l → elem e (gather l) ≡ false
gather-apart e [] a = refl
gather-apart e (x ∷ l) a = elem-with e x (gather l) ∙ rw (ne_eqb e x a.0) (gather-apart e l a.1)

pub gather-out : (a : List ℕ) (e : ℕ) (b : List ℕ) → Apart e (a ++ b) → gather (a ++ b) ≡ without_member e (gather (a ++ e ∷ b))
gather-out a e b n = sym (ap (without_member e) (gather-mid a e b) ∙ without-with e (gather (a ++ b)) (gather-apart e (a ++ b) n))

-- ---- chains

-- A chain's records are not 0.
pub chained-some : (s : List ℕ) (m i : ℕ) (l : List ℕ) → Chained s m i l → All (λ j. j ≡ 0 → ⊥) l
chained-some s m i [] c = tt
chained-some s m i (j ∷ l) c = (λ e. c.1 (c.0 ∙ e), chained-some s m (word_of s m i 0) l c.2)

-- One of two words, by a record number.
at_one : (j x v w : ℕ) → j ≡ x → cond (eqb j x) v w ≡ v
at_one j x v w e = ap (λ (b : Bool). cond b v w) (eq-eqb j x e)

at_other : (j x v w : ℕ) → (j ≡ x → ⊥) → cond (eqb j x) v w ≡ w
at_other j x v w n = ap (λ (b : Bool). cond b v w) (ne_eqb j x n)

module _ (s s' : List ℕ) (m : ℕ) where
  linked-same : (p : ℕ) (l : List ℕ) → All (λ j. word_of s' m j 1 ≡ word_of s m j 1) l → Linked s m p l → Linked s' m p l
  linked-same p [] a k = tt
  linked-same p (j ∷ l) a k = (a.0 ∙ k.0, linked-same j l a.1 k.1)

  -- The chain from x on, whose first record alone has another one, v, before it.
  linked-behind : (x v p : ℕ) (l : List ℕ) → Chained s m x l → Once l → All (λ j. word_of s' m j 1 ≡ cond (eqb j x) v (word_of s m j 1)) l → Linked s m p l → Linked s' m v l
  linked-behind x v p [] c o a k = tt
  linked-behind x v p (j ∷ l) c o a k = (
    a.0 ∙ at_one j x v (word_of s m j 1) (sym c.0),
    linked-same j l (all_both (λ q z n. z ∙ at_other q x v (word_of s m q 1) (λ y. n (sym c.0 ∙ sym y))) l a.1 (apart-all j l o.0)) k.1,
  )

-- ---- one more

-- The words of s' are those of s with the membership i of entry e at the front of the chain l of descriptor d.
pub record MemberAdded (s s' : List ℕ) (m d i e : ℕ) (l : List ℕ) : Type 0 where
  pub desc : SameWords s s' m (1 ∷ 2 ∷ 3 ∷ 4 ∷ 5 ∷ []) d
  pub first : word_of s' m d 6 ≡ i
  pub next : word_of s' m i 0 ≡ word_of s m d 6
  pub before : word_of s' m i 1 ≡ 0
  pub entry : word_of s' m i 2 ≡ e
  pub others : All (SameWords s s' m member_words) l
  -- The old first one has the new one before it.
  pub befores : All (λ j. word_of s' m j 1 ≡ cond (eqb j (word_of s m d 6)) i (word_of s m j 1)) l

module _ (s s' : List ℕ) (m d i e : ℕ) (l : List ℕ) (A : MemberAdded s s' m d i e l) (some : i ≡ 0 → ⊥) (was : Chained s m (word_of s m d 6) l) where
  pub added-chained : Chained s' m (word_of s' m d 6) (i ∷ l)
  added-chained =
      subst (λ x. Chained s' m x (i ∷ l)) (sym A.first) (chain-push s s' m i (word_of s m d 6) l was (all-as (λ j p. (p.0, tt)) l A.others) A.next some)

  pub added-linked : Once l → Linked s m 0 l → Linked s' m 0 (i ∷ l)
  added-linked o k = (A.before, linked-behind s s' m (word_of s m d 6) i 0 l was o A.befores k)

-- It is so if of the chain only the old first one is another record, and that one by its word 1 alone.
pub added-from : (s s' : List ℕ) (m d i e : ℕ) (l : List ℕ) → Chained s m (word_of s m d 6) l → SameWords s s' m (1 ∷ 2 ∷ 3 ∷ 4 ∷ 5 ∷ []) d → word_of s' m d 6 ≡ i
    → word_of s' m i 0 ≡ word_of s m d 6 → word_of s' m i 1 ≡ 0 → word_of s' m i 2 ≡ e
    → ((word_of s m d 6 ≡ 0 → ⊥) → SameWords s s' m member_words (word_of s m d 6) × (word_of s' m (word_of s m d 6) 1 ≡ i))
    → All (λ j. (j ≡ word_of s m d 6 → ⊥) → SameAt s s' m j) l → MemberAdded s s' m d i e l
added-from s s' m d i e l c w x n p q head rest =
    let some = chained-some s m (word_of s m d 6) l c in
    record {
      desc = w;
      first = x;
      next = n;
      before = p;
      entry = q;
      others = all_both (λ j z f. words j z f (ℕ_discrete j (word_of s m d 6))) l some rest;
      befores = all_both (λ j z f. link j z f (ℕ_discrete j (word_of s m d 6))) l some rest;
    }
  where
    o : ℕ
    o = word_of s m d 6

    words : (j : ℕ) → (j ≡ 0 → ⊥) → ((j ≡ o → ⊥) → SameAt s s' m j) → Dec (j ≡ o) → SameWords s s' m member_words j
    words j z f (yes e) = subst (SameWords s s' m member_words) (sym e) (head (λ y. z (e ∙ y))).0
    words j z f (no u) = same-words s s' m member_words j (f u)

    link : (j : ℕ) → (j ≡ 0 → ⊥) → ((j ≡ o → ⊥) → SameAt s s' m j) → Dec (j ≡ o) → word_of s' m j 1 ≡ cond (eqb j o) i (word_of s m j 1)
    link j z f (yes e) = ap (λ y. word_of s' m y 1) e ∙ (head (λ y. z (e ∙ y))).1 ∙ sym (at_one j o i (word_of s m j 1) e)
    link j z f (no u) = sym (same-words s s' m (1 ∷ []) j (f u)).0 ∙ sym (at_other j o i (word_of s m j 1) u)

-- ---- one less

-- What lies behind a record of a chain is a chain.
pub chained-behind : (s : List ℕ) (m x : ℕ) (a : List ℕ) (i : ℕ) (b : List ℕ) → Chained s m x (a ++ i ∷ b) → Chained s m (word_of s m i 0) b
chained-behind s m x [] i b c = (chain-pop s m x i b c).2
chained-behind s m x (j ∷ a) i b c = chained-behind s m (word_of s m x 0) a i b c.2

-- A record that is not in a chain is not its first.
not_first : (s : List ℕ) (m x j : ℕ) (l : List ℕ) → Chained s m x l → Apart j l → (j ≡ 0 → ⊥) → j ≡ x → ⊥
not_first s m x j [] c n z e = z (e ∙ c)
not_first s m x j (q ∷ l) c n z e = n.0 (e ∙ c.0)

-- The last record of a list that comes behind p.
abbrev pub last : ℕ → List ℕ → ℕ
last p [] = p
last p (j ∷ a) = last j a

last-in : (j : ℕ) (a : List ℕ) → In (last j a) (j ∷ a)
last-in j [] = inl refl
last-in j (q ∷ a) = inr (last-in q a)

-- The membership i, behind those of a, has the last of them before it.
pub linked-last : (s : List ℕ) (m p : ℕ) (a : List ℕ) (i : ℕ) (b : List ℕ) → Linked s m p (a ++ i ∷ b) → word_of s m i 1 ≡ last p a
linked-last s m p [] i b k = k.0
linked-last s m p (j ∷ a) i b k = linked-last s m j a i b k.1

-- The words of s' are those of s with the membership i, between those of a and of b, taken out of the chain of descriptor d: what was before it is now
-- before what was behind it.
pub record MemberOut (s s' : List ℕ) (m d i : ℕ) (a b : List ℕ) : Type 0 where
  pub desc : SameWords s s' m (1 ∷ 2 ∷ 3 ∷ 4 ∷ 5 ∷ []) d
  pub first : word_of s' m d 6 ≡ cond (eqb (word_of s m i 1) 0) (word_of s m i 0) (word_of s m d 6)
  pub nexts : All (λ j. word_of s' m j 0 ≡ cond (eqb j (word_of s m i 1)) (word_of s m i 0) (word_of s m j 0)) (a ++ b)
  pub befores : All (λ j. word_of s' m j 1 ≡ cond (eqb j (word_of s m i 0)) (word_of s m i 1) (word_of s m j 1)) (a ++ b)
  pub entries : All (λ j. word_of s m j 2 ≡ word_of s' m j 2) (a ++ b)

-- What a chain is read from when its next record is taken out.
start : ℕ → ℕ → List ℕ → ℕ
start next x [] = next
start next x (j ∷ a) = x

hop : (next y j : ℕ) (a : List ℕ) → Apart j a → cond (eqb j (last j a)) next y ≡ start next y a
unfolding start
hop next y j [] n = at_one j j next y refl
hop next y j (q ∷ a) n = at_other j (last q a) next y (λ e. not_in j (q ∷ a) n (subst (λ z. In z (q ∷ a)) (sym e) (last-in q a)))

begins : (next x : ℕ) (a : List ℕ) → All (λ j. j ≡ 0 → ⊥) a → cond (eqb (last 0 a) 0) next x ≡ start next x a
unfolding start
begins next x [] n = at_one 0 0 next x refl
begins next x (j ∷ a) n = at_other (last j a) 0 next x (all_in (λ q. q ≡ 0 → ⊥) (j ∷ a) n (last j a) (last-in j a))

module _ (s s' : List ℕ) (m i : ℕ) (b : List ℕ) where
  -- Word 0 of the last one before i is what was behind i, all else is the same.
  out-walk : (p x : ℕ) (a : List ℕ) → Chained s m x (a ++ i ∷ b) → Once (a ++ i ∷ b)
      → All (λ j. word_of s' m j 0 ≡ cond (eqb j (last p a)) (word_of s m i 0) (word_of s m j 0)) (a ++ b) → Apart p b
      → Chained s' m (start (word_of s m i 0) x a) (a ++ b)
  unfolding start
  out-walk p x [] c o w n =
      chained_same s s' m (word_of s m i 0) b
      (all_both (λ j e f. (sym (e ∙ at_other j p (word_of s m i 0) (word_of s m j 0) (λ q. f (sym q))), tt)) b w (apart-all p b n))
      (chained-behind s m x [] i b c)
  out-walk p x (j ∷ a) c o w n =
      let e : word_of s' m x 0 ≡ start (word_of s m i 0) (word_of s m x 0) a =
      subst (λ y. word_of s' m y 0 ≡ start (word_of s m i 0) (word_of s m y 0) a) (sym c.0)
      (w.0 ∙ hop (word_of s m i 0) (word_of s m j 0) j a (apart-left j a (i ∷ b) o.0)) in
      (c.0, c.1, subst (λ y. Chained s' m y (a ++ b)) (sym e) (out-walk j (word_of s m x 0) a c.2 o.1 w.1 (apart-right j a (i ∷ b) o.0).1))

  -- Word 1 of the one behind i is what was before i, all else is the same.
  out-links : (p x : ℕ) (a : List ℕ) → Chained s m x (a ++ i ∷ b) → Linked s m p (a ++ i ∷ b) → Once (a ++ i ∷ b)
      → All (λ j. word_of s' m j 1 ≡ cond (eqb j (word_of s m i 0)) (last p a) (word_of s m j 1)) (a ++ b) → Linked s' m p (a ++ b)
  out-links p x [] c k o w = linked-behind s s' m (word_of s m i 0) p i b (chained-behind s m x [] i b c) o.1 w k.1
  out-links p x (j ∷ a) c k o w =
      let n : j ≡ word_of s m i 0 → ⊥ =
      not_first s m (word_of s m i 0) j b (chained-behind s m x (j ∷ a) i b c) (apart-right j a (i ∷ b) o.0).1 (λ e. c.1 (c.0 ∙ e)) in
      (w.0 ∙ at_other j (word_of s m i 0) (last j a) (word_of s m j 1) n ∙ k.0, out-links j (word_of s m x 0) a c.2 k.1 o.1 w.1)

-- It is so if of the chain only its neighbours are other records, each by its one link alone.
module _ (s s' : List ℕ) (m d i : ℕ) (a b : List ℕ) (was : Chained s m (word_of s m d 6) (a ++ i ∷ b)) (linked : Linked s m 0 (a ++ i ∷ b)) (once : Once (a ++ i ∷ b)) where
  -- What was before it is not what was behind it.
  ends-apart : (word_of s m i 1 ≡ 0 → ⊥) → word_of s m i 1 ≡ word_of s m i 0 → ⊥
  ends-apart z = not_first s m (word_of s m i 0) (word_of s m i 1) b (chained-behind s m (word_of s m d 6) a i b was) (off a once (linked-last s m 0 a i b linked)) z
    where
      off : (a : List ℕ) → Once (a ++ i ∷ b) → word_of s m i 1 ≡ last 0 a → Apart (word_of s m i 1) b
      off [] o e = absurd (z e)
      off (j ∷ a) o e = subst (λ x. Apart x b) (sym e) (once-apart (j ∷ a) (i ∷ b) o (last j a) (last-in j a)).1

  pub out-from : SameWords s s' m (1 ∷ 2 ∷ 3 ∷ 4 ∷ 5 ∷ []) d → word_of s' m d 6 ≡ cond (eqb (word_of s m i 1) 0) (word_of s m i 0) (word_of s m d 6)
      → ((word_of s m i 1 ≡ 0 → ⊥) → (word_of s' m (word_of s m i 1) 0 ≡ word_of s m i 0) × SameWords s s' m (1 ∷ 2 ∷ []) (word_of s m i 1))
      → ((word_of s m i 0 ≡ 0 → ⊥) → (word_of s' m (word_of s m i 0) 1 ≡ word_of s m i 1) × SameWords s s' m (0 ∷ 2 ∷ []) (word_of s m i 0))
      → All (λ j. (j ≡ word_of s m i 1 → ⊥) → (j ≡ word_of s m i 0 → ⊥) → SameAt s s' m j) (a ++ b) → MemberOut s s' m d i a b
  out-from w f prev next rest =
      let N = chained-some s m (word_of s m d 6) (a ++ i ∷ b) was in
      let some = all_append (λ j. j ≡ 0 → ⊥) a b (all_left (λ j. j ≡ 0 → ⊥) a (i ∷ b) N) (all_right (λ j. j ≡ 0 → ⊥) a (i ∷ b) N).1 in
      let all = all_both (λ j z g. one j z g (ℕ_discrete j p) (ℕ_discrete j n)) (a ++ b) some rest in
      record { desc = w; first = f; nexts = all-as (λ j x. x.0) (a ++ b) all; befores = all-as (λ j x. x.1) (a ++ b) all; entries = all-as (λ j x. x.2) (a ++ b) all }
    where
      p : ℕ
      p = word_of s m i 1

      n : ℕ
      n = word_of s m i 0

      one : (j : ℕ) → (j ≡ 0 → ⊥) → ((j ≡ p → ⊥) → (j ≡ n → ⊥) → SameAt s s' m j) → Dec (j ≡ p) → Dec (j ≡ n)
          → (word_of s' m j 0 ≡ cond (eqb j p) n (word_of s m j 0)) × (word_of s' m j 1 ≡ cond (eqb j n) p (word_of s m j 1)) × (word_of s m j 2 ≡ word_of s' m j 2)
      one j z g (yes e) v =
          let y : p ≡ 0 → ⊥ = λ q. z (e ∙ q) in
          let r = prev y in
          let k : SameWords s s' m (1 ∷ 2 ∷ []) j = subst (SameWords s s' m (1 ∷ 2 ∷ [])) (sym e) r.1 in (
            ap (λ x. word_of s' m x 0) e ∙ r.0 ∙ sym (at_one j p n (word_of s m j 0) e),
            sym k.0 ∙ sym (at_other j n p (word_of s m j 1) (λ q. ends-apart y (sym e ∙ q))),
            k.1.0,
          )
      one j z g (no u) (yes e) =
          let r = next (λ q. z (e ∙ q)) in
          let k : SameWords s s' m (0 ∷ 2 ∷ []) j = subst (SameWords s s' m (0 ∷ 2 ∷ [])) (sym e) r.1 in
          (sym k.0 ∙ sym (at_other j p n (word_of s m j 0) u), ap (λ x. word_of s' m x 1) e ∙ r.0 ∙ sym (at_one j n p (word_of s m j 1) e), k.1.0)
      one j z g (no u) (no v) =
          let k = same-words s s' m (0 ∷ 1 ∷ 2 ∷ []) j (g u v) in
          (sym k.0 ∙ sym (at_other j p n (word_of s m j 0) u), sym k.1.0 ∙ sym (at_other j n p (word_of s m j 1) v), k.1.1.0)

module _ (s s' : List ℕ) (m d i : ℕ) (a b : List ℕ) (O : MemberOut s s' m d i a b) (was : Chained s m (word_of s m d 6) (a ++ i ∷ b)) (linked : Linked s m 0 (a ++ i ∷ b))
    (once : Once (a ++ i ∷ b)) where
  behind-some : Apart 0 b
  behind-some = apart_from 0 b (λ h. all_in (λ j. j ≡ 0 → ⊥) b (all_right (λ j. j ≡ 0 → ⊥) a (i ∷ b) (chained-some s m (word_of s m d 6) (a ++ i ∷ b) was)).1 0 h refl)

  pub out-chained : Chained s' m (word_of s' m d 6) (a ++ b)
  out-chained =
      let e = linked-last s m 0 a i b linked in
      let n = all_left (λ j. j ≡ 0 → ⊥) a (i ∷ b) (chained-some s m (word_of s m d 6) (a ++ i ∷ b) was) in
      let f : word_of s' m d 6 ≡ start (word_of s m i 0) (word_of s m d 6) a =
      O.first ∙ ap (λ z. cond (eqb z 0) (word_of s m i 0) (word_of s m d 6)) e ∙ begins (word_of s m i 0) (word_of s m d 6) a n in
      subst (λ y. Chained s' m y (a ++ b)) (sym f)
      (out-walk s s' m i b 0 (word_of s m d 6) a was once
      (subst (λ z. All (λ j. word_of s' m j 0 ≡ cond (eqb j z) (word_of s m i 0) (word_of s m j 0)) (a ++ b)) e O.nexts) behind-some)

  pub out-linked : Linked s' m 0 (a ++ b)
  out-linked =
      out-links s s' m i b 0 (word_of s m d 6) a was linked once
      (subst (λ z. All (λ j. word_of s' m j 1 ≡ cond (eqb j (word_of s m i 0)) z (word_of s m j 1)) (a ++ b)) (linked-last s m 0 a i b linked) O.befores)

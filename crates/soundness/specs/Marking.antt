-- Records marked as they are met: what a walk has met, and what is left to be met.
use Rattle.std.specs.Prelude.{◌≡◌, refl, Bool, true, false, cond, not, ◌&&◌, List, [], ◌∷◌, ◌++◌, ◌⊎◌, ℕ, ◌-◌, ◌≤◌, ◌<◌, eqb, leb, length, get_or, set}
use Rattle.std.proofs.Common.{sym, ap, subst, ◌∙◌, inl, inr, arith, length-set, get_or-set_same, get_or-set_other, eq-eqb, ne_eqb, le-leb, eqb-true, leb-true}
use Rattle.std.proofs.Math.Decide.{ℕ_discrete}
use Rattle.std.proofs.lemmas.Bool.{eqb-false, not-true}
use Rattle.machine.specs.Sound.{times}
use Rattle.meaning.specs.Sound.{All, Apart, Once}
pub use Rattle.meaning.specs.Numbers.{In, in?, not_in, apart_from, all_append, all_left, all_right, all-as, all_in, all_from, apart-append, apart-left, once-apart, times-append, times-apart, times-in, in-times, apart-times}
use Rattle.meaning.specs.Counts.{count-all, count_most, count-full, count_ones}
use Rattle.marks.specs.Marks.{Visit, is_new, meet, is_met}
use Rattle.marks.specs.Steps.{no as never, both, met-in}

-- The marks after the records of l were met as one of a kind.
abbrev pub mark_all : List ℕ → List ℕ → ℕ → List ℕ
mark_all seen [] kind = seen
mark_all seen (i ∷ l) kind = mark_all (set seen i kind) l kind

-- The records of l are among 1 to r, none is marked, and none stands in l twice.
pub record Fresh (seen : List ℕ) (r : ℕ) (l : List ℕ) : Type 0 where
  pub inside : All (λ i. (1 ≤ i) × (i ≤ r)) l
  pub unmarked : All (λ i. get_or seen i 0 ≡ 0) l
  pub once : Once l

abbrev pub Among : ℕ → ℕ → Type 0
Among r i = (1 ≤ i) × (i ≤ r)

abbrev pub Unmarked : List ℕ → ℕ → Type 0
Unmarked seen i = get_or seen i 0 ≡ 0

-- ---- membership

pub in_left : (j : ℕ) (a b : List ℕ) → In j a → In j (a ++ b)
in_left j [] b x' = elim x' [ ]
in_left j (i ∷ a) b (inl e) = inl e
in_left j (i ∷ a) b (inr h) = inr (in_left j a b h)

pub in_right : (j : ℕ) (a b : List ℕ) → In j b → In j (a ++ b)
in_right j [] b h = h
in_right j (i ∷ a) b h = inr (in_right j a b h)

pub in-append : (j : ℕ) (a b : List ℕ) → In j (a ++ b) → In j a ⊎ In j b
in-append j [] b h = inr h
in-append j (i ∷ a) b (inl e) = inl (inl e)
in-append j (i ∷ a) b (inr h) = go (in-append j a b h)
  where
    go : In j a ⊎ In j b → In j (i ∷ a) ⊎ In j b
    go (inl x) = inl (inr x)
    go (inr y) = inr y

-- ---- none twice

pub once-append : (a b : List ℕ) → Once a → Once b → ((j : ℕ) → In j a → Apart j b) → Once (a ++ b)
once-append [] b p q d = q
once-append (i ∷ a) b p q d = (apart-append i a b p.0 (d i (inl refl)), once-append a b p.1 q (λ j h. d j (inr h)))

pub once-left : (a b : List ℕ) → Once (a ++ b) → Once a
once-left [] b p = tt
once-left (i ∷ a) b p = (apart-left i a b p.0, once-left a b p.1)

pub once-right : (a b : List ℕ) → Once (a ++ b) → Once b
once-right [] b p = p
once-right (i ∷ a) b p = once-right a b p.1

-- The other way round: what is in b is not in a.
pub once-before : (a b : List ℕ) → Once (a ++ b) → (j : ℕ) → In j b → Apart j a
once-before a b p j h = apart_from j a (λ k. not_in j b (once-apart a b p j k) h)

-- ---- how often a number stands in a list

one-is : (x k : ℕ) → x ≡ k → ◌≡◌ {A = ℕ} (cond (eqb x k) 1 0) 1
one-is x k e = ap (λ (b : Bool). cond {A = ℕ} b 1 0) (eq-eqb x k e)

one-not : (x k : ℕ) → (x ≡ k → ⊥) → ◌≡◌ {A = ℕ} (cond (eqb x k) 1 0) 0
one-not x k n = ap (λ (b : Bool). cond {A = ℕ} b 1 0) (ne_eqb x k n)

pub once-times : (l : List ℕ) → Once l → (k : ℕ) → times k l ≤ 1
once-times [] o k = omega arith
once-times (i ∷ l) o k = go (ℕ_discrete i k) (once-times l o.1 k)
  where
    go : Dec (i ≡ k) → times k l ≤ 1 → times k (i ∷ l) ≤ 1
    go (yes e) ih = omega (arith, one-is i k e, times-apart k l (subst (λ x. Apart x l) e o.0))
    go (no n) ih = omega (arith, one-not i k n, ih)

pub times-once : (l : List ℕ) → ((k : ℕ) → times k l ≤ 1) → Once l
times-once [] h = tt
times-once (i ∷ l) h = (apart-times i l (omega (arith, h i, one-is i i refl)), times-once l (λ k. omega (arith, h k)))

-- ---- as many as there are places

module _ (r : ℕ) (l : List ℕ) (inside : All (Among r) l) where
  -- None twice: not more than r.
  pub once-most : Once l → length l ≤ r
  once-most o = omega (arith, count-all r l inside, count_most r l (once-times l o))

  -- None twice, and r of them: each exactly once.
  pub once-each : Once l → length l ≡ r → (k : ℕ) → 1 ≤ k → k ≤ r → times k l ≡ 1
  once-each o e = count-full r l (once-times l o) (count-all r l inside ∙ e)

  -- Each exactly once: none twice, and r of them.
  pub each-many : ((k : ℕ) → 1 ≤ k → k ≤ r → times k l ≡ 1) → length l ≡ r
  each-many h = sym (count-all r l inside) ∙ count_ones r l h

  pub each-once : ((k : ℕ) → 1 ≤ k → k ≤ r → times k l ≡ 1) → Once l
  each-once h = times-once l (λ k. go k (in? k l))
    where
      go : (k : ℕ) → In k l ⊎ Apart k l → times k l ≤ 1
      go k (inl i) = let b = all_in (Among r) l inside k i in omega (arith, h k b.0 b.1)
      go k (inr a) = omega (arith, times-apart k l a)

-- ---- marks

pub mark-length : (seen l : List ℕ) (kind : ℕ) → length (mark_all seen l kind) ≡ length seen
mark-length seen [] kind = refl
mark-length seen (i ∷ l) kind = mark-length (set seen i kind) l kind ∙ length-set seen i kind

pub mark-append : (seen a b : List ℕ) (kind : ℕ) → mark_all seen (a ++ b) kind ≡ mark_all (mark_all seen a kind) b kind
mark-append seen [] b kind = refl
mark-append seen (i ∷ a) b kind = mark-append (set seen i kind) a b kind

pub mark-other : (seen l : List ℕ) (kind j : ℕ) → Apart j l → get_or (mark_all seen l kind) j 0 ≡ get_or seen j 0
mark-other seen [] kind j a = refl
mark-other seen (i ∷ l) kind j a = mark-other (set seen i kind) l kind j a.1 ∙ get_or-set_other seen i j kind 0 a.0

pub mark-in : (seen l : List ℕ) (kind j : ℕ) → j < length seen → In j l → get_or (mark_all seen l kind) j 0 ≡ kind
mark-in seen [] kind j h m = elim m [ ]
mark-in seen (i ∷ l) kind j h m = go (in? j l) m (mark-in (set seen i kind) l kind j long)
  where
    long : j < length (set seen i kind)
    long = subst (λ n. j < n) (sym (length-set seen i kind)) h

    go : In j l ⊎ Apart j l → In j (i ∷ l) → (In j l → get_or (mark_all (set seen i kind) l kind) j 0 ≡ kind) → get_or (mark_all (set seen i kind) l kind) j 0 ≡ kind
    go (inl k) x ih = ih k
    go (inr a) (inl e) ih = mark-other (set seen i kind) l kind j a ∙ subst (λ x. get_or (set seen x kind) j 0 ≡ kind) e (get_or-set_same seen j kind 0 h)
    go (inr a) (inr k) ih = absurd (not_in j l a k)

-- A record that is marked otherwise, or not, after the records of l were marked is not in l, and was so before.
pub kind-after : (seen l : List ℕ) (kind j k : ℕ) → (kind ≡ k → ⊥) → j < length seen → get_or (mark_all seen l kind) j 0 ≡ k → Apart j l × (get_or seen j 0 ≡ k)
kind-after seen l kind j k nk h e = go (in? j l)
  where
    go : In j l ⊎ Apart j l → Apart j l × (get_or seen j 0 ≡ k)
    go (inl i) = absurd (nk (sym (mark-in seen l kind j h i) ∙ e))
    go (inr a) = (a, sym (mark-other seen l kind j a) ∙ e)

-- Exactly the records of l were marked, of whatever kinds.
pub record Marked (seen l after : List ℕ) : Type 0 where
  pub long : length after ≡ length seen
  pub new : (j : ℕ) → j < length seen → In j l → get_or after j 0 ≡ 0 → ⊥
  pub old : (j : ℕ) → Apart j l → get_or after j 0 ≡ get_or seen j 0

pub marked_all : (seen l : List ℕ) (kind : ℕ) → (kind ≡ 0 → ⊥) → Marked seen l (mark_all seen l kind)
marked_all seen l kind nz = record {
  long = mark-length seen l kind;
  new = λ j h i e. nz (sym (mark-in seen l kind j h i) ∙ e);
  old = λ j a. mark-other seen l kind j a;
}

-- ---- not yet met

pub fresh-none : (seen : List ℕ) (r : ℕ) → Fresh seen r []
fresh-none seen r = record { inside = tt; unmarked = tt; once = tt }

pub fresh-left : (seen : List ℕ) (r : ℕ) (a b : List ℕ) → Fresh seen r (a ++ b) → Fresh seen r a
fresh-left seen r a b f = record { inside = all_left (Among r) a b f.inside; unmarked = all_left (Unmarked seen) a b f.unmarked; once = once-left a b f.once }

-- What is behind a in such a list is not met either after a was.
fresh-behind : (seen : List ℕ) (r : ℕ) (a b after : List ℕ) → ((j : ℕ) → Apart j a → get_or after j 0 ≡ get_or seen j 0) → Fresh seen r (a ++ b) → Fresh after r b
fresh-behind seen r a b after old f = record {
  inside = all_right (Among r) a b f.inside;
  unmarked = all_from b (λ j h. old j (once-before a b f.once j h) ∙ all_in (Unmarked seen) b (all_right (Unmarked seen) a b f.unmarked) j h);
  once = once-right a b f.once;
}

pub fresh-right : (seen : List ℕ) (r : ℕ) (a b : List ℕ) (kind : ℕ) → Fresh seen r (a ++ b) → Fresh (mark_all seen a kind) r b
fresh-right seen r a b kind = fresh-behind seen r a b (mark_all seen a kind) (mark-other seen a kind)

pub fresh-rest : (seen : List ℕ) (r : ℕ) (a b : List ℕ) {after : List ℕ} → Marked seen a after → Fresh seen r (a ++ b) → Fresh after r b
fresh-rest seen r a b {after} k = fresh-behind seen r a b after k.old

-- Marked records are not in a list of records that are not yet met.
pub fresh-apart : (seen : List ℕ) (r : ℕ) (l : List ℕ) → Fresh seen r l → (j : ℕ) → (get_or seen j 0 ≡ 0 → ⊥) → Apart j l
fresh-apart seen r l f j n = apart_from j l (λ i. n (all_in (Unmarked seen) l f.unmarked j i))

pub fresh-then : (seen : List ℕ) (r : ℕ) (a b : List ℕ) {after : List ℕ} → r < length seen → Marked seen a after → Fresh seen r a → Fresh after r b → Fresh seen r (a ++ b)
fresh-then seen r a b {after} h k f g = record {
  inside = all_append (Among r) a b f.inside g.inside;
  unmarked = all_append (Unmarked seen) a b f.unmarked (all_from b (λ j i. sym (k.old j (apart j i)) ∙ all_in (Unmarked after) b g.unmarked j i));
  once = once-append a b f.once g.once (λ j i. apart_from j b (λ x. not_in j a (apart j x) i));
}
  where
    apart : (j : ℕ) → In j b → Apart j a
    apart j i = apart_from j a (λ x. k.new j (omega (arith, h, (all_in (Among r) b g.inside j i).1)) x (all_in (Unmarked after) b g.unmarked j i))

pub fresh-append : (seen : List ℕ) (r : ℕ) (a b : List ℕ) (kind : ℕ) → (kind ≡ 0 → ⊥) → r < length seen → Fresh seen r a → Fresh (mark_all seen a kind) r b → Fresh seen r (a ++ b)
fresh-append seen r a b kind nz h = fresh-then seen r a b h (marked_all seen a kind nz)

-- ---- meeting one record

pub fresh-one : (seen : List ℕ) (r i : ℕ) → 1 ≤ i → i ≤ r → get_or seen i 0 ≡ 0 → Fresh seen r (i ∷ [])
fresh-one seen r i a b e = record { inside = ((a, b), tt); unmarked = (e, tt); once = (tt, tt) }

-- What meeting a record leaves, where it is not refused.
abbrev pub met : ℕ → Visit → ℕ → Visit
met kind v i = record { ok = true; left = v.left - 1; seen = set v.seen i kind }

pub meet-new : (r kind : ℕ) (v : Visit) (i : ℕ) → (v.left ≡ 0 → ⊥) → Fresh v.seen r (i ∷ []) → meet r kind v i ≡ met kind v i
unfolding meet is_new
meet-new r kind v i nl f =
    let b = f.inside.0 in
    let ni : i ≡ 0 → ⊥ = λ e. omega (arith, e, b.0) in
    simp (ne_eqb v.left 0 nl, ne_eqb i 0 ni, le-leb i r b.1, eq-eqb (get_or v.seen i 0) 0 f.unmarked.0)

pub record Meets (r kind : ℕ) (v : Visit) (i : ℕ) : Type 0 where
  pub more : v.left ≡ 0 → ⊥
  pub fresh : Fresh v.seen r (i ∷ [])
  pub is : meet r kind v i ≡ met kind v i

new-of : (b : Bool) (v w : Visit) → w.ok ≡ false → (cond b v w).ok ≡ true → b ≡ true
new-of true v w n e = refl
new-of false v w n e = never (sym n ∙ e)

pub meet-found : (r kind : ℕ) (v : Visit) (i : ℕ) → (meet r kind v i).ok ≡ true → Meets r kind v i
unfolding meet is_new
meet-found r kind v i e =
    let t = new-of _ (met kind v i) (record { ok = false; left = v.left; seen = v.seen }) refl e in
    let p = both (not (eqb v.left 0) && not (eqb i 0) && leb i r) (eqb (get_or v.seen i 0) 0) t in
    let q = both (not (eqb v.left 0) && not (eqb i 0)) (leb i r) p.0 in
    let u = both (not (eqb v.left 0)) (not (eqb i 0)) q.0 in
    let ni : i ≡ 0 → ⊥ = eqb-false i 0 (not-true _ u.1) in
    let nl : v.left ≡ 0 → ⊥ = eqb-false v.left 0 (not-true _ u.0) in
    let f : Fresh v.seen r (i ∷ []) = fresh-one v.seen r i (omega (arith, ni)) (leb-true i r q.1) (eqb-true (get_or v.seen i 0) 0 p.1) in
    record { more = nl; fresh = f; is = meet-new r kind v i nl f }

-- ---- whether a record was met as one of a kind

pub is-met : (seen : List ℕ) (r j k : ℕ) → Among r j → get_or seen j 0 ≡ k → is_met seen r j k ≡ true
unfolding is_met
is-met seen r j k b e =
    let n : j ≡ 0 → ⊥ = λ z. omega (arith, z, b.0) in
    simp (ne_eqb j 0 n, le-leb j r b.1, eq-eqb (get_or seen j 0) k e)

pub met-is : (seen : List ℕ) (r j k : ℕ) → is_met seen r j k ≡ true → Among r j × (get_or seen j 0 ≡ k)
unfolding is_met
met-is seen r j k e = (met-in seen r j k e, eqb-true (get_or seen j 0) k (both (not (eqb j 0) && leb j r) (eqb (get_or seen j 0) k) e).1)

-- Records that are met later, as of another kind, change nothing.
pub is-met-after : (seen : List ℕ) (r : ℕ) (l : List ℕ) (kind j k : ℕ) → r < length seen → Fresh seen r l → (k ≡ 0 → ⊥) → (kind ≡ k → ⊥)
    → is_met (mark_all seen l kind) r j k ≡ is_met seen r j k
is-met-after seen r l kind j k h f nz nk = go (is_met (mark_all seen l kind) r j k) (is_met seen r j k) refl refl
  where
    back : is_met (mark_all seen l kind) r j k ≡ true → is_met seen r j k ≡ true
    back e = let p = met-is (mark_all seen l kind) r j k e in is-met seen r j k p.0 (kind-after seen l kind j k nk (omega (arith, h, p.0.1)) p.1).1

    on : is_met seen r j k ≡ true → is_met (mark_all seen l kind) r j k ≡ true
    on e =
        let p = met-is seen r j k e in
        is-met (mark_all seen l kind) r j k p.0 (mark-other seen l kind j (fresh-apart seen r l f j (λ z. nz (sym p.1 ∙ z))) ∙ p.1)

    go : (x y : Bool) → is_met (mark_all seen l kind) r j k ≡ x → is_met seen r j k ≡ y → x ≡ y
    go true y a b = sym (back a) ∙ b
    go false true a b = sym a ∙ on b
    go false false a b = refl

-- Latches (document 01's short locks) counted: as many latched nodes as parties at a node, each of which has its own, are one for each and no other.
use Rattle.std.specs.Prelude.{◌≡◌, cond, List, [], ◌∷◌, eqb}
use Rattle.std.proofs.Math.Path.{refl}
use Rattle.std.proofs.Common.{sym, subst, eq-eqb, ne_eqb}
use Rattle.std.proofs.Math.Logic.{inl, inr}
use Prim.Native.Nat.{ℕ, zero, suc, ◌+◌, ◌-◌, ◌≤◌, ◌<◌}
use Rattle.std.proofs.Math.Decide.{ℕ_discrete, dec_le}
use native.Mathlib.Omega.{arith}
use Rattle.machine.specs.Tree.{sum_e}
use Rattle.machine.specs.State.{Tree}
use Rattle.machine.specs.Descent.{sons_of}
use Rattle.machine.specs.Sound.{OnPath, Latched, latch_count}
use Rattle.machine.specs.Latched.{bit-yes, bit-no}
use Rattle.machine.specs.Paths.{path-map}
use Rattle.soundness.specs.TreeRecords.{latched_many}
use Rattle.soundness.specs.TreePaths.{NodeAt}
use Rattle.soundness.specs.PartyLatch.{node-as}

-- ---- sums

-- f of the numbers below n.
unfoldable pub sums : (ℕ → ℕ) → ℕ → ℕ
sums f zero = 0
sums f (suc n) = sums f n + f n

pub sums-zero : (f : ℕ → ℕ) → sums f 0 ≡ 0
unfolding sums
sums-zero f = refl

module _ (f g : ℕ → ℕ) where
  sums-plus : (n : ℕ) → sums (λ i. f i + g i) n ≡ sums f n + sums g n
  unfolding sums
  sums-plus zero = refl
  sums-plus (suc n) = omega (arith, sums-plus n)

  pub sums-le : (n : ℕ) → ((i : ℕ) → i < n → f i ≤ g i) → sums f n ≤ sums g n
  unfolding sums
  sums-le zero h = omega arith
  sums-le (suc n) h = omega (arith, sums-le n (λ i l. h i (omega (arith, l))), h n (omega arith))

  -- Nowhere more, and not less in all: the same everywhere.
  pub sums-tight : (n : ℕ) → ((i : ℕ) → i < n → f i ≤ g i) → sums g n ≤ sums f n → (i : ℕ) → i < n → f i ≡ g i
  unfolding sums
  sums-tight zero h e i l = absurd (omega (arith, l))
  sums-tight (suc n) h e i l = go (ℕ_discrete i n) (λ z. sums-tight n (λ j k. h j (omega (arith, k))) z i)
    where
      below : sums f n ≤ sums g n
      below = sums-le n (λ j k. h j (omega (arith, k)))

      go : Dec (i ≡ n) → (sums g n ≤ sums f n → i < n → f i ≡ g i) → f i ≡ g i
      go (yes q) ih = subst (λ (j : ℕ). f j ≡ g j) (sym q) (omega (arith, e, below, h n (omega arith)))
      go (no k) ih = ih (omega (arith, e, h n (omega arith))) (omega (arith, l, k))

pub sums_same : (f g : ℕ → ℕ) (n : ℕ) → ((i : ℕ) → i < n → f i ≡ g i) → sums f n ≡ sums g n
sums_same f g n h = omega (arith, sums-le f g n (λ i l. omega (arith, h i l)), sums-le g f n (λ i l. omega (arith, h i l)))

sums_none : (n : ℕ) → sums (λ i. 0) n ≡ 0
unfolding sums
sums_none zero = refl
sums_none (suc n) = omega (arith, sums_none n)

-- One of them, and those below n.
pub sums-past : (f : ℕ → ℕ) (n i : ℕ) → n ≤ i → sums f n + f i ≤ sums f (suc i)
unfolding sums
sums-past f n zero h = let e : n ≡ 0 = omega (arith, h) in subst (λ (k : ℕ). sums f k + f 0 ≤ sums f 0 + f 0) (sym e) (omega arith)
sums-past f n (suc i) h = go (ℕ_discrete n (suc i)) (sums-past f n i)
  where
    go : Dec (n ≡ suc i) → (n ≤ i → sums f n + f i ≤ sums f i + f i) → sums f n + f (suc i) ≤ sums f (suc i) + f (suc i)
    go (yes e) ih = subst (λ (k : ℕ). sums f k + f (suc i) ≤ sums f (suc i) + f (suc i)) (sym e) (omega arith)
    go (no k) ih = omega (arith, ih (omega (arith, h, k)))

-- ---- the words of latches

-- Whether a word is that of party i.
abbrev bit : ℕ → ℕ → ℕ
bit w i = cond (eqb w (suc i)) 1 0

bits_above : (w n : ℕ) → n < w → sums (bit w) n ≡ 0
unfolding sums
bits_above w zero h = refl
bits_above w (suc n) h = omega (arith, bits_above w n (omega (arith, h)), bit-no w (suc n) (λ e. omega (arith, e, h)))

bits_most : (w n : ℕ) → sums (bit w) n ≤ 1
unfolding sums
bits_most w zero = omega arith
bits_most w (suc n) = go (ℕ_discrete w (suc n)) (bits_most w n)
  where
    go : Dec (w ≡ suc n) → sums (bit w) n ≤ 1 → sums (bit w) n + bit w n ≤ 1
    go (yes e) ih = omega (arith, bits_above w n (omega (arith, e)), bit-yes w (suc n) e)
    go (no k) ih = omega (arith, ih, bit-no w (suc n) k)

bits-zero : (w n : ℕ) → w ≡ 0 → sums (bit w) n ≡ 0
unfolding sums
bits-zero w zero e = refl
bits-zero w (suc n) e = omega (arith, bits-zero w n e, bit-no w (suc n) (λ q. omega (arith, q, e)))

bits_in : (w n : ℕ) → 1 ≤ w → w ≤ n → 1 ≤ sums (bit w) n
unfolding sums
bits_in w zero a b = absurd (omega (arith, a, b))
bits_in w (suc n) a b = go (ℕ_discrete w (suc n)) (bits_in w n a)
  where
    go : Dec (w ≡ suc n) → (w ≤ n → 1 ≤ sums (bit w) n) → 1 ≤ sums (bit w) n + bit w n
    go (yes e) ih = omega (arith, bit-yes w (suc n) e)
    go (no k) ih = omega (arith, ih (omega (arith, b, k)))

-- A node with a latch, as a number.
some-no : (w : ℕ) → w ≡ 0 → cond {A = ℕ} (eqb w 0) 0 1 ≡ 0
some-no w e = simp (eq-eqb w 0 e)

some-yes : (w : ℕ) → (w ≡ 0 → ⊥) → cond {A = ℕ} (eqb w 0) 0 1 ≡ 1
some-yes w n = simp (ne_eqb w 0 n)

bits-count : (w n : ℕ) → sums (bit w) n ≤ cond {A = ℕ} (eqb w 0) 0 1
bits-count w n = go (ℕ_discrete w 0)
  where
    go : Dec (w ≡ 0) → sums (bit w) n ≤ cond {A = ℕ} (eqb w 0) 0 1
    go (yes e) = omega (arith, bits-zero w n e)
    go (no k) = omega (arith, bits_most w n, some-yes w k)

count_bits : (w n : ℕ) → w ≤ n → cond {A = ℕ} (eqb w 0) 0 1 ≤ sums (bit w) n
count_bits w n h = go (ℕ_discrete w 0)
  where
    go : Dec (w ≡ 0) → cond {A = ℕ} (eqb w 0) 0 1 ≤ sums (bit w) n
    go (yes e) = omega (arith, some-no w e)
    go (no k) = omega (arith, some-yes w k, bits_in w n (omega (arith, k)) h)

-- ---- the latches of a tree

sons-sums : {A : Type 0} (f : ℕ → A → ℕ) (g : A → ℕ) (n : ℕ) → ((a : A) → sums (λ i. f i a) n ≤ g a) → (es : List (A × ℕ)) → sums (λ i. sum_e (f i) es) n ≤ sum_e g es
sons-sums f g n h [] = omega (arith, sums_none n)
sons-sums f g n h (p ∷ es) = omega (arith, sums-plus (λ i. f i p.0) (λ i. sum_e (f i) es) n, h p.0, sons-sums f g n h es)

-- The latches of parties below n are not more than the latched nodes.
pub latches-few : (n h : ℕ) (t : Tree h) → sums (λ i. latch_count (suc i) h t) n ≤ latched_many h t
unfolding latch_count latched_many
latches-few n zero t = omega (arith, sums_none n)
latches-few n (suc h) t =
    omega (
      arith,
      sums-plus (bit t.latch) (λ i. sum_e (latch_count (suc i) h) t.sons) n,
      bits-count t.latch n,
      sons-sums (λ i. latch_count (suc i) h) (latched_many h) n (latches-few n h) t.sons,
    )

sums-sons : {A : Type 0} (f : ℕ → A → ℕ) (g : A → ℕ) (n : ℕ) → ((a : A) → ((i : ℕ) → n ≤ i → f i a ≡ 0) → g a ≤ sums (λ i. f i a) n)
    → (es : List (A × ℕ)) → ((i : ℕ) → n ≤ i → sum_e (f i) es ≡ 0) → sum_e g es ≤ sums (λ i. sum_e (f i) es) n
sums-sons f g n h [] z = omega arith
sums-sons f g n h (p ∷ es) z =
    omega (arith, sums-plus (λ i. f i p.0) (λ i. sum_e (f i) es) n, h p.0 (λ i l. omega (arith, z i l)), sums-sons f g n h es (λ i l. omega (arith, z i l)))

-- And not less, where no other party has one.
pub latches-many : (n h : ℕ) (t : Tree h) → ((i : ℕ) → n ≤ i → latch_count (suc i) h t ≡ 0) → latched_many h t ≤ sums (λ i. latch_count (suc i) h t) n
unfolding latch_count latched_many
latches-many n zero t z = omega arith
latches-many n (suc h) t z =
    omega (
      arith,
      sums-plus (bit t.latch) (λ i. sum_e (latch_count (suc i) h) t.sons) n,
      count_bits t.latch n (inside (dec_le t.latch n)),
      sums-sons (λ i. latch_count (suc i) h) (latched_many h) n (latches-many n h) t.sons (λ i l. omega (arith, z i l)),
    )
  where
    inside : Dec (t.latch ≤ n) → t.latch ≤ n
    inside (yes l) = l
    inside (no k) =
        let e : t.latch ≡ suc (t.latch - 1) = omega (arith, k) in
        absurd (omega (arith, z (t.latch - 1) (omega (arith, k)), bit-yes t.latch (suc (t.latch - 1)) e))

-- ---- one latch of a word

module _ {A : Type 0} (x : ℕ) (f : A → ℕ) where
  path-count : (P : A → Type 0) → ((a : A) → P a → 1 ≤ f a) → (es : List (A × ℕ)) → OnPath x P es → 1 ≤ sum_e f es
  path-count P h [] o = absurd o
  path-count P h (p ∷ es) (inl o) = omega (arith, h p.0 o.1)
  path-count P h (p ∷ es) (inr o) = omega (arith, path-count P h es o.1)

  -- Where f is at most b in all, it is on the path.
  path-under : (P Q : A → Type 0) (b : ℕ) → ((a : A) → f a ≤ b → P a → Q a) → (es : List (A × ℕ)) → sum_e f es ≤ b → OnPath x P es → OnPath x Q es
  path-under P Q b h [] c o = o
  path-under P Q b h (p ∷ es) c (inl o) = inl (o.0, h p.0 (omega (arith, c)) o.1)
  path-under P Q b h (p ∷ es) c (inr o) = inr (o.0, path-under P Q b h es (omega (arith, c)) o.1)

  path-meet : (P Q R : A → Type 0) (b : ℕ) → ((a : A) → f a ≤ b → P a → Q a → R a) → (es : List (A × ℕ)) → sum_e f es ≤ b → OnPath x P es → OnPath x Q es → OnPath x R es
  path-meet P Q R b h [] c o i = o
  path-meet P Q R b h (p ∷ es) c (inl o) (inl i) = inl (o.0, h p.0 (omega (arith, c)) o.1 i.1)
  path-meet P Q R b h (p ∷ es) c (inl o) (inr i) = absurd (omega (arith, o.0, i.0))
  path-meet P Q R b h (p ∷ es) c (inr o) (inl i) = absurd (omega (arith, o.0, i.0))
  path-meet P Q R b h (p ∷ es) c (inr o) (inr i) = inr (o.0, path-meet P Q R b h es (omega (arith, c)) o.1 i.1)

module _ (w k x : ℕ) where
  -- The node at level k on the path has the word.
  abbrev pub Has : (h : ℕ) → Tree (suc h) → Type 0
  Has h u = u.latch ≡ w

  pub node_counts : (h : ℕ) (t : Tree h) → NodeAt k x Has h t → 1 ≤ latch_count w h t
  unfolding NodeAt latch_count
  node_counts zero t o = absurd o
  node_counts (suc h) t (inl o) = omega (arith, bit-yes t.latch w o.1)
  node_counts (suc h) t (inr o) = omega (arith, path-count x (latch_count w h) (NodeAt k x Has h) (node_counts h) t.sons o.1)

  -- It is the only one: no node above it has the word.
  only_above : (h : ℕ) (t : Tree (suc h)) → latch_count w (suc h) t ≤ 1 → OnPath x (NodeAt k x Has h) t.sons → ¬ (t.latch ≡ w)
  unfolding latch_count
  only_above h t c o e = omega (arith, c, bit-yes t.latch w e, path-count x (latch_count w h) (NodeAt k x Has h) (node_counts h) t.sons o)

  count-below : (h : ℕ) (t : Tree (suc h)) → latch_count w (suc h) t ≤ 1 → sum_e (latch_count w h) t.sons ≤ 1
  unfolding latch_count
  count-below h t c = omega (arith, c)

  module _ (F : ℕ → ℕ → Type 0) where
    abbrev pub Fit : (h : ℕ) → Tree (suc h) → Type 0
    Fit h u = (u.latch ≡ w) × F h (sons_of u)

    fit_has : (h : ℕ) (t : Tree h) → NodeAt k x Fit h t → NodeAt k x Has h t
    fit_has = node-as k x Fit Has (λ h u e o. o.0)

    pub latched-at : (h : ℕ) (t : Tree h) → latch_count w h t ≤ 1 → NodeAt k x Fit h t → Latched w x F h t
    unfolding NodeAt Latched
    latched-at zero t c o = o
    latched-at (suc h) t c (inl o) = inl o.1
    latched-at (suc h) t c (inr o) =
        inr (
          only_above h t c (path-map x (NodeAt k x Fit h) (NodeAt k x Has h) (fit_has h) t.sons o.1),
          path-under x (latch_count w h) (NodeAt k x Fit h) (Latched w x F h) 1 (latched-at h) t.sons (count-below h t c) o.1,
        )

    pub at-latched : (h : ℕ) (t : Tree h) → latch_count w h t ≤ 1 → NodeAt k x Has h t → Latched w x F h t → NodeAt k x Fit h t
    unfolding NodeAt Latched
    at-latched zero t c o l = o
    at-latched (suc h) t c (inl o) (inl l) = inl (o.0, l)
    at-latched (suc h) t c (inl o) (inr l) = absurd (l.0 o.1)
    at-latched (suc h) t c (inr o) (inl l) = absurd (only_above h t c o.1 l.0)
    at-latched (suc h) t c (inr o) (inr l) =
        inr (o.0, path-meet x (latch_count w h) (NodeAt k x Has h) (Latched w x F h) (NodeAt k x Fit h) 1 (at-latched h) t.sons (count-below h t c) o.1 l.1)

  -- The root has the word exactly if it is the one.
  pub root-has : (h : ℕ) (t : Tree (suc h)) → suc h ≡ k → NodeAt k x Has (suc h) t → t.latch ≡ w
  unfolding NodeAt
  root-has h t e (inl o) = o.1
  root-has h t e (inr o) = absurd (o.0 e)

  pub root-only : (h : ℕ) (t : Tree (suc h)) → latch_count w (suc h) t ≤ 1 → NodeAt k x Has (suc h) t → t.latch ≡ w → suc h ≡ k
  unfolding NodeAt
  root-only h t c (inl o) e = o.0
  root-only h t c (inr o) e = absurd (only_above h t c o.1 e)

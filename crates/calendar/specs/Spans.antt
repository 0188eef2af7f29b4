-- Spans one after another, span k of length len k: what some of them take up together, and in which of them a number lies.
use Rattle.std.specs.Prelude.{◌≡◌, Bool, true, false, ltb}
use Rattle.std.proofs.Math.Path.{refl, sym}
use Rattle.std.proofs.Common.{ap, ◌∙◌, arith, add-zero, add-sub_of_le, ltb-true, ltb-false, lt-ltb, le-ltb}
use Prim.Native.Nat.{ℕ, zero, suc, ◌+◌, ◌-◌, ◌≤◌, ◌<◌}
use Rattle.std.proofs.Math.Nat.{zero-add}
use Rattle.calendar.specs.declared.Place.{Place}

-- spans k, k + 1, .. together, j of them
unfoldable pub total : (ℕ → ℕ) → ℕ → ℕ → ℕ
total len k zero = 0
total len k (suc j) = len k + total len (suc k) j

abbrev pub place : ℕ → ℕ → Place
place k n = record { at = k; rest = n }

-- the span in which n lies, counted from the start of span k, and how far into it; span k + j if in none of the j from k on
unfoldable pub find : (ℕ → ℕ) → ℕ → ℕ → ℕ → Place
find len zero k n = place k n
find len (suc j) k n = elim (ltb n (len k)) [ true ↦ place k n | false ↦ find len j (suc k) (n - len k) ]

-- lengths that are given, as a relation, are those of len up to e
abbrev pub Gives : (ℕ → ℕ → Type 0) → ℕ → (ℕ → ℕ) → Type 0
Gives given e len = (k x : ℕ) → k < e → given k x → x ≡ len k

-- ---- what a test of find leads to

pub find-here : (len : ℕ → ℕ) (j k n : ℕ) → n < len k → find len j k n ≡ place k n
unfolding find
find-here len zero k n h = refl
find-here len (suc j) k n h = rw (lt-ltb n (len k) h, find)

pub find-next : (len : ℕ → ℕ) (j k n : ℕ) → len k ≤ n → find len (suc j) k n ≡ find len j (suc k) (n - len k)
unfolding find
find-next len j k n h = rw (le-ltb n (len k) h, find)

-- ---- it is found where it lies

shift : (k i : ℕ) → k + suc i ≡ suc k + i
shift k i = omega arith

pub find_at : (len : ℕ → ℕ) (j k i r : ℕ) → i ≤ j → r < len (k + i) → find len j k (total len k i + r) ≡ place (k + i) r
unfolding total
find_at len j k zero r h l = rw (zero-add r, add-zero k) (find-here len j k r (rw (add-zero k) at l))
find_at len zero k (suc i) r h l = absurd (omega arith)
find_at len (suc j) k (suc i) r h l =
    rw (shift k i) (find-next len j k (len k + total len (suc k) i + r) (omega arith) ∙ ap (find len j (suc k)) down ∙ find_at len j (suc k) i r (omega arith) (rw (shift k i) at l))
  where
    down : len k + total len (suc k) i + r - len k ≡ total len (suc k) i + r
    down = omega arith

-- past the j spans from k on it is found at the span after them
pub find-beyond : (len : ℕ → ℕ) (j k n : ℕ) → total len k j ≤ n → (find len j k n).at ≡ k + j
unfolding find total
find-beyond len zero k n h = sym (add-zero k)
find-beyond len (suc j) k n h =
    ap (λ (p : Place). p.at) (find-next len j k n (omega arith)) ∙ find-beyond len j (suc k) (n - len k) (omega arith) ∙ omega arith

-- a number in a span lies below the end of any later one
pub total-lt : (len : ℕ → ℕ) (k i j r : ℕ) → i < j → r < len (k + i) → total len k i + r < total len k j
unfolding total
total-lt len k i zero r h l = absurd (omega arith)
total-lt len k zero (suc j) r h l = let a = rw (add-zero k) at l in omega arith
total-lt len k (suc i) (suc j) r h l = omega (arith, total-lt len (suc k) i j r (omega arith) (rw (shift k i) at l))

-- one span more, at the end
total-end : (len : ℕ → ℕ) (k j : ℕ) → total len k (suc j) ≡ total len k j + len (k + j)
unfolding total
total-end len k zero = rw (add-zero k) (omega arith)
total-end len k (suc j) = rw (shift k j) (omega (arith, total-end len (suc k) j))

-- the start of span k + 1 is that of span k and its length, the starts counted from span b on
pub total-next : (len : ℕ → ℕ) (b k : ℕ) → b ≤ k → total len b (k + 1 - b) ≡ total len b (k - b) + len k
total-next len b k h = rw one (rw (add-sub_of_le h) at (total-end len b (k - b)))
  where
    one : k + 1 - b ≡ suc (k - b)
    one = omega arith

-- ---- where it is found it lies

pub record Found (len : ℕ → ℕ) (j k n : ℕ) (p : Place) : Type 0 where
  pub passed : ℕ
  pub few : passed ≤ j
  pub at_is : p.at ≡ k + passed
  pub sums : total len k passed + p.rest ≡ n
  pub short : p.rest < len p.at

module _ (len : ℕ → ℕ) where
  here : (j k n : ℕ) → n < len k → Found len j k n (place k n)
  unfolding total
  here j k n h = record { passed = 0; few = omega arith; at_is = sym (add-zero k); sums = zero-add n; short = h }

  more : (j k n : ℕ) {p : Place} → len k ≤ n → Found len j (suc k) (n - len k) p → Found len (suc j) k n p
  unfolding total
  more j k n l f = record { passed = suc f.passed; few = omega arith; at_is = omega arith; sums = let s = f.sums in omega arith; short = f.short }

  test : (j k n : ℕ) (b : Bool) → ltb n (len k) ≡ b → (len k ≤ n → Found len j (suc k) (n - len k) (find len j (suc k) (n - len k)))
      → Found len (suc j) k n (elim b [ true ↦ place k n | false ↦ find len j (suc k) (n - len k) ])
  test j k n true e f = here (suc j) k n (ltb-true n (len k) e)
  test j k n false e f = more j k n (ltb-false n (len k) e) (f (ltb-false n (len k) e))

  pub found : (j k n : ℕ) → n < total len k (suc j) → Found len j k n (find len j k n)
  unfolding find total
  found zero k n h = here zero k n (omega arith)
  found (suc j) k n h = test j k n (ltb n (len k)) refl (λ l. found j (suc k) (n - len k) (omega arith))

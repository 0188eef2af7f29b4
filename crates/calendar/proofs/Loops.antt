-- Loops over spans: what is left to sum or to pass gives the whole.
use mathlib.Core.Path.{◌≡◌, sym, ap, ◌∙◌}
use Prim.Native.Nat.{ℕ, zero, suc, ◌+◌, ◌-◌, ◌≤◌, ◌<◌}
use native.Mathlib.Nat.{add-zero, zero-add, add-sub_of_le}
use native.Mathlib.Numerals.{add-one}
use native.Mathlib.Omega.{arith}
use Rattle.calendar.specs.declared.Place.{Place}
use Rattle.calendar.specs.Spans.{total, find, place, find-here, find-next}

-- a sum of the spans up to e, of which n is there at k
pub record Summing (len : ℕ → ℕ) (e whole k n : ℕ) : Type 0 where
  pub sums : n + total len k (e - k) ≡ whole

pub sum_more : {len : ℕ → ℕ} {e whole k n x : ℕ} → Summing len e whole k n → k < e → x ≡ len k → Summing len e whole (k + 1) (n + x)
unfolding total
sum_more {len} {e} {whole} {k} {n} {x} s h q = record { sums = rw (add-one k) (omega (arith, ap (total len k) one, s.sums)) }
  where
    one : e - k ≡ suc (e - suc k)
    one = omega arith

pub sum-all : {len : ℕ → ℕ} {e whole k n : ℕ} → Summing len e whole k n → e ≤ k → n ≡ whole
unfolding total
sum-all {len} {e} {whole} {k} {n} s h = omega (arith, ap (total len k) none, s.sums)
  where
    none : e - k ≡ 0
    none = omega arith

-- n is left at k, and the spans end at e
pub record Finding (len : ℕ → ℕ) (e : ℕ) (whole : Place) (k n : ℕ) : Type 0 where
  pub finds : find len (e - k) k n ≡ whole

-- i spans passed at once
later : (len : ℕ → ℕ) (i j k n : ℕ) → total len k i ≤ n → find len (i + j) k n ≡ find len j (k + i) (n - total len k i)
unfolding total
later len zero j k n h = rw (zero-add j, add-zero k) (ap (find len j k) (omega arith))
later len (suc i) j k n h = rw (up, shift, down) (find-next len (i + j) k n (omega arith) ∙ later len i j (suc k) (n - len k) (omega arith))
  where
    up : suc i + j ≡ suc (i + j)
    up = omega arith

    shift : k + suc i ≡ suc k + i
    shift = omega arith

    down : n - (len k + total len (suc k) i) ≡ n - len k - total len (suc k) i
    down = omega arith

-- the spans from b on, of which those before k are passed at once
pub find-from : {len : ℕ → ℕ} {b e k n x : ℕ} → b ≤ k → k ≤ e → x ≡ total len b (k - b) → x ≤ n → Finding len e (find len (e - b) b n) k (n - x)
find-from {len} {b} {e} {k} {n} {x} f g q l = record { finds = rw q (sym (rw (join, add-sub_of_le f) at (later len (k - b) (e - k) b n (rw q at l)))) }
  where
    join : (k - b) + (e - k) ≡ e - b
    join = omega arith

pub find-more : {len : ℕ → ℕ} {e k n x : ℕ} {whole : Place} → Finding len e whole k n → k < e → x ≡ len k → x ≤ n → Finding len e whole (k + 1) (n - x)
find-more {len} {e} {k} {n} {x} f h q l = record { finds = rw (add-one k, q) (sym (find-next len (e - suc k) k n (omega arith)) ∙ (rw one at f.finds)) }
  where
    one : e - k ≡ suc (e - suc k)
    one = omega arith

pub find-stop : {len : ℕ → ℕ} {e k n x : ℕ} {whole : Place} → Finding len e whole k n → x ≡ len k → n < x → place k n ≡ whole
find-stop {len} {e} {k} {n} f q l = sym (find-here len (e - k) k n (omega arith)) ∙ f.finds

pub find-end : {len : ℕ → ℕ} {e k n : ℕ} {whole : Place} → Finding len e whole k n → k ≡ e → place e n ≡ whole
unfolding find
find-end {len} {e} {k} {n} f h = ap (λ (j : ℕ). place j n) (sym h) ∙ ap (λ (j : ℕ). find len j k n) none ∙ f.finds
  where
    none : 0 ≡ e - k
    none = omega arith

-- Holders words, bit by bit: who comes to hold, who leaves, and nobody else.
use Rattle.std.specs.Prelude.{◌≡◌, refl, Bool, true, false, cond, not, ◌&&◌, ◌||◌, ℕ, zero, suc, ◌+◌, ◌*◌, ◌/◌, ◌%◌, ◌≤◌, ◌<◌, max, eqb}
use Rattle.std.proofs.Common.{sym, ap, ◌∙◌, mod-lt, add-zero, div-add-mod', arith, lit<}
use Rattle.std.proofs.Math.Bool.{and-true, and-false}
use Rattle.std.proofs.Math.Arith.{digits_div, digits_mod}
use Rattle.std.specs.Int.Bits.{bit_or, or_step}
use Rattle.locks.specs.Holders.{bit_of, without, including, holds, held_by, left_by}

two : (w : ℕ) → w % 2 < 2
two w = mod-lt w (lit< tt)

even-mod : (q : ℕ) → q * 2 % 2 ≡ 0
even-mod q = rw (← (add-zero (q * 2))) (digits_mod q {m = 2} {r = 0} (lit< tt))

even-div : (q : ℕ) → q * 2 / 2 ≡ q
even-div q = ap (λ (n : ℕ). n / 2) (sym (add-zero (q * 2))) ∙ digits_div q {m = 2} {r = 0} (lit< tt)

cleared-same : (w k : ℕ) → bit_of (without w k) k ≡ 0
unfolding bit_of without
cleared-same w zero = even-mod (w / 2)
cleared-same w (suc k) = rw (digits_div (without (w / 2) k) (two w)) (cleared-same (w / 2) k)

cleared-other : (w k j : ℕ) → (j ≡ k → ⊥) → bit_of (without w k) j ≡ bit_of w j
unfolding bit_of without
cleared-other w zero zero ne = absurd (ne refl)
cleared-other w zero (suc j) ne = rw (even-div (w / 2)) refl
cleared-other w (suc k) zero ne = digits_mod (without (w / 2) k) (two w)
cleared-other w (suc k) (suc j) ne = rw (digits_div (without (w / 2) k) (two w)) (cleared-other (w / 2) k j (λ e. ne (ap suc e)))

included-same : (w k : ℕ) → bit_of (including w k) k ≡ 1
unfolding bit_of including
included-same w zero = digits_mod (w / 2) (lit< tt)
included-same w (suc k) = rw (digits_div (including (w / 2) k) (two w)) (included-same (w / 2) k)

included-other : (w k j : ℕ) → (j ≡ k → ⊥) → bit_of (including w k) j ≡ bit_of w j
unfolding bit_of including
included-other w zero zero ne = absurd (ne refl)
included-other w zero (suc j) ne = rw (digits_div (w / 2) {m = 2} {r = 1} (lit< tt)) refl
included-other w (suc k) zero ne = digits_mod (including (w / 2) k) (two w)
included-other w (suc k) (suc j) ne = rw (digits_div (including (w / 2) k) (two w)) (included-other (w / 2) k j (λ e. ne (ap suc e)))

or-digit : (a b : ℕ) → max (a % 2) (b % 2) < 2
or-digit a b = let x = two a in let y = two b in omega arith

bit-or : (a b j : ℕ) → bit_of (bit_or a b) j ≡ max (bit_of a j) (bit_of b j)
unfolding bit_of
bit-or a b zero = ap (λ (n : ℕ). n % 2) (or_step a b) ∙ digits_mod (bit_or (a / 2) (b / 2)) (or-digit a b)
bit-or a b (suc j) =
    ap (λ (n : ℕ). bit_of (n / 2) j) (or_step a b)
    ∙ ap (λ (n : ℕ). bit_of n j) (digits_div (bit_or (a / 2) (b / 2)) (or-digit a b))
    ∙ bit-or (a / 2) (b / 2) j

bit-two : (w k : ℕ) → bit_of w k < 2
unfolding bit_of
bit-two w zero = two w
bit-two w (suc k) = bit-two (w / 2) k

bit-none : (k : ℕ) → bit_of 0 k ≡ 0
unfolding bit_of
bit-none zero = refl
bit-none (suc k) = bit-none k

without-le : (w k : ℕ) → without w k ≤ w
unfolding without
without-le w zero = let s : w / 2 * 2 + w % 2 ≡ w = div-add-mod' w 2 in omega arith
without-le w (suc k) = let s : w / 2 * 2 + w % 2 ≡ w = div-add-mod' w 2 in let i = without-le (w / 2) k in omega arith

-- ---- sessions

pub held_same : (k w : ℕ) → holds (held_by (suc k) w) (suc k) ≡ true
held_same k w = ap (λ (b : ℕ). eqb b 1) (included-same w k)

pub held-other : (s t w : ℕ) → (s ≡ t → ⊥) → holds (held_by s w) t ≡ holds w t
held-other zero t w n = refl
held-other (suc k) zero w n = refl
held-other (suc k) (suc j) w n = ap (λ (b : ℕ). eqb b 1) (included-other w k j (λ e. n (ap suc (sym e))))

pub left-same : (s w : ℕ) → holds (left_by s w) s ≡ false
left-same zero w = refl
left-same (suc k) w = ap (λ (b : ℕ). eqb b 1) (cleared-same w k)

pub left_other : (s t w : ℕ) → (s ≡ t → ⊥) → holds (left_by s w) t ≡ holds w t
left_other zero t w n = refl
left_other (suc k) zero w n = refl
left_other (suc k) (suc j) w n = ap (λ (b : ℕ). eqb b 1) (cleared-other w k j (λ e. n (ap suc (sym e))))

pub left_le : (s w : ℕ) → left_by s w ≤ w
left_le zero w = omega arith
left_le (suc k) w = without-le w k

pub holds-none : (t : ℕ) → holds 0 t ≡ false
holds-none zero = refl
holds-none (suc k) = ap (λ (b : ℕ). eqb b 1) (bit-none k)

pub holds-or : (a b t : ℕ) → holds (bit_or a b) t ≡ (holds a t || holds b t)
holds-or a b zero = refl
holds-or a b (suc k) = ap (λ (n : ℕ). eqb n 1) (bit-or a b k) ∙ one (bit_of a k) (bit_of b k) (bit-two a k) (bit-two b k)
  where
    one : (x y : ℕ) → x < 2 → y < 2 → eqb (max x y) 1 ≡ (eqb x 1 || eqb y 1)
    one zero zero h j = refl
    one zero (suc zero) h j = refl
    one (suc zero) zero h j = refl
    one (suc zero) (suc zero) h j = refl
    one (suc (suc x)) y h j = absurd (omega arith)
    one zero (suc (suc y)) h j = absurd (omega arith)
    one (suc zero) (suc (suc y)) h j = absurd (omega arith)

-- where the modes agree nobody is in the way
pub holds-unless : (agree : Bool) (w t : ℕ) → holds (cond agree 0 w) t ≡ (holds w t && not agree)
holds-unless true w t = holds-none t ∙ sym (and-false (holds w t))
holds-unless false w t = sym (and-true (holds w t))

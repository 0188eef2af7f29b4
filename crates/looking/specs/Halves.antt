-- Two words of holders in one: of each the half that has the sessions, the first in the lower half and the second in the upper one.
use Rattle.std.specs.Prelude.{◌≡◌, ℕ, zero, suc, ◌+◌, ◌*◌, ◌/◌, ◌%◌, ◌≤◌, ◌<◌, eqb}
use Rattle.std.proofs.Common.{sym, ap, ◌∙◌, mod-lt, mul_assoc, div-add-mod', add_comm, arith, lit<}
use Rattle.std.proofs.Math.Arith.{digits_div, digits_mod, digits_lt}
use Rattle.locks.specs.Holders.{width, bit_of, holds}

-- How many numbers half a word has room for.
abbrev pub half : ℕ
half = 65536

unfoldable pub halves : ℕ → ℕ → ℕ
halves low high = low % half + high % half * half

-- ---- digit by digit

-- The lowest n bits of a, and b above them.
unfoldable over : ℕ → ℕ → ℕ → ℕ
over zero a b = b
over (suc n) a b = over n (a / 2) b * 2 + a % 2

-- a without its lowest n bits, and what these count to.
unfoldable above : ℕ → ℕ → ℕ
above zero a = a
above (suc n) a = above n (a / 2)

unfoldable room : ℕ → ℕ
room zero = 1
room (suc n) = room n * 2

two : (w : ℕ) → w % 2 < 2
two w = mod-lt w (lit< tt)

bit-low : (n a b k : ℕ) → k < n → bit_of (over n a b) k ≡ bit_of a k
unfolding over bit_of
bit-low zero a b k h = absurd (omega (arith, h))
bit-low (suc n) a b zero h = digits_mod (over n (a / 2) b) (two a)
bit-low (suc n) a b (suc k) h = rw (digits_div (over n (a / 2) b) (two a)) (bit-low n (a / 2) b k (omega (arith, h)))

bit_high : (n a b k : ℕ) → bit_of (over n a b) (n + k) ≡ bit_of b k
unfolding over bit_of
bit_high zero a b k = let e : 0 + k ≡ k = omega arith in ap (bit_of b) e
bit_high (suc n) a b k =
    let e : suc n + k ≡ suc (n + k) = omega arith in
    ap (bit_of (over (suc n) a b)) e ∙ ap (λ (w : ℕ). bit_of w (n + k)) (digits_div (over n (a / 2) b) (two a)) ∙ bit_high n (a / 2) b k

-- Twice a sum and a digit more.
twice-more : (x z d q p : ℕ) → x ≡ q * p + z → x * 2 + d ≡ q * (p * 2) + (z * 2 + d)
twice-more x z d q p e = go (q * p) (q * (p * 2)) e (sym (mul_assoc q p 2))
  where
    go : (y w : ℕ) → x ≡ y + z → w ≡ y * 2 → x * 2 + d ≡ w + (z * 2 + d)
    go y w f g = omega (arith, f, g)

over-sum : (n a b : ℕ) → over n a b ≡ b * room n + over n a 0
unfolding over room
over-sum zero a b = omega arith
over-sum (suc n) a b = twice-more (over n (a / 2) b) (over n (a / 2) 0) (a % 2) b (room n) (over-sum n (a / 2) b)

above-sum : (n a : ℕ) → a ≡ above n a * room n + over n a 0
unfolding over above room
above-sum zero a = omega arith
above-sum (suc n) a = sym (div-add-mod' a 2) ∙ twice-more (a / 2) (over n (a / 2) 0) (a % 2) (above n (a / 2)) (room n) (above-sum n (a / 2))

over-lt : (n a : ℕ) → over n a 0 < room n
unfolding over room
over-lt zero a = omega arith
over-lt (suc n) a = digits_lt (over-lt n (a / 2)) (two a)

-- ---- the halves

lowest : (a : ℕ) → a % half ≡ over width a 0
unfolding room
lowest a = ap (λ (n : ℕ). n % half) (above-sum width a) ∙ digits_mod (above width a) (over-lt width a)

halves-over : (low high : ℕ) → halves low high ≡ over width low (over width high 0)
unfolding halves room
halves-over low high =
    ap (λ (n : ℕ). n + high % half * half) (lowest low)
    ∙ ap (λ (n : ℕ). over width low 0 + n * half) (lowest high)
    ∙ add_comm (over width low 0) (over width high 0 * half)
    ∙ sym (over-sum width low (over width high 0))

-- A session is in the lower half exactly if the first word has it, and in the upper half exactly if the second has.
pub half-low : (low high q : ℕ) → 1 ≤ q → q ≤ width → holds (halves low high) q ≡ holds low q
half-low low high zero h l = absurd (omega (arith, h))
half-low low high (suc k) h l = ap (λ (w : ℕ). eqb (bit_of w k) 1) (halves-over low high) ∙ ap (λ (b : ℕ). eqb b 1) (bit-low width low (over width high 0) k (omega (arith, l)))

pub half_high : (low high q : ℕ) → 1 ≤ q → q ≤ width → holds (halves low high) (width + q) ≡ holds high q
half_high low high zero h l = absurd (omega (arith, h))
half_high low high (suc k) h l =
    let e : width + suc k ≡ suc (width + k) = omega arith in
    ap (holds (halves low high)) e
    ∙ ap (λ (w : ℕ). eqb (bit_of w (width + k)) 1) (halves-over low high)
    ∙ ap (λ (b : ℕ). eqb b 1) (bit_high width low (over width high 0) k ∙ bit-low width high 0 k (omega (arith, l)))

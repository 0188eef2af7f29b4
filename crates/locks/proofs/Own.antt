-- The word that has one session only, beside a holders word: what `&`, `|` and `-` with it give.
use mathlib.Core.Path.{◌≡◌, refl, sym, ap, ◌∙◌}
use mathlib.Core.Bool.{not}
use Prim.Native.Nat.{ℕ, zero, suc, ◌+◌, ◌-◌, ◌*◌, ◌/◌, ◌%◌, ◌^◌, ◌≤◌, ◌<◌, min, max}
use native.Mathlib.Nat.{div-add-mod', mod-lt, mod-eq_of_lt, one-mul}
use native.Mathlib.Omega.{arith}
use lib.Dec.{eqb, lit<}
use lib.Pow.{pow-lt}
use lib.Bits.{bit_and, bit_or, and_step, and_le_l, and_zero_r, or_step, or_zero_r, shifted_half, shifted_even}
use borrow.Author.Tests.{ne_eqb}
use Rattle.locks.specs.Holders.{bit_of, without, including, holds, held_by, left_by}

-- what the code computes for session s
abbrev pub own : ℕ → ℕ
own s = (1 * 2 ^ (s - 1)) % 4294967296

pub own_is : (k : ℕ) → k < 32 → (1 * 2 ^ k) % 4294967296 ≡ 1 * 2 ^ k
own_is k h = mod-eq_of_lt (rw one-mul (pow-lt {j = 32} h))

and-own : (k w : ℕ) → bit_and w (1 * 2 ^ suc k) ≡ bit_and (w / 2) (1 * 2 ^ k) * 2
and-own k w =
    let e : bit_and w (1 * 2 ^ suc k) ≡ bit_and (w / 2) (1 * 2 ^ k) * 2 + min (w % 2) 0 =
    and_step w (1 * 2 ^ suc k)
    ∙ ap (λ (x : ℕ). bit_and (w / 2) x * 2 + min (w % 2) (1 * 2 ^ suc k % 2)) (shifted_half 1 k)
    ∙ ap (λ (x : ℕ). bit_and (w / 2) (1 * 2 ^ k) * 2 + min (w % 2) x) (shifted_even 1 k) in
    omega arith

and_first : (w : ℕ) → bit_and w (1 * 2 ^ 0) ≡ w % 2
and_first w =
    let e : bit_and w 1 ≡ bit_and (w / 2) 0 * 2 + min (w % 2) 1 = and_step w 1 in
    let z : bit_and (w / 2) 0 ≡ 0 = and_zero_r (w / 2) in
    let d : w % 2 < 2 = mod-lt w (lit< tt) in
    omega arith

cleared : (k w : ℕ) → w - bit_and w (1 * 2 ^ k) ≡ without w k
unfolding without
cleared zero w =
    let e = and_first w in
    let s : w / 2 * 2 + w % 2 ≡ w = div-add-mod' w 2 in
    omega arith
cleared (suc k) w =
    let e = and-own k w in
    let l : bit_and (w / 2) (1 * 2 ^ k) ≤ w / 2 = and_le_l (w / 2) (1 * 2 ^ k) in
    let i : w / 2 - bit_and (w / 2) (1 * 2 ^ k) ≡ without (w / 2) k = cleared k (w / 2) in
    let s : w / 2 * 2 + w % 2 ≡ w = div-add-mod' w 2 in
    omega arith

joined : (k w : ℕ) → bit_or w (1 * 2 ^ k) ≡ including w k
unfolding including
joined zero w =
    let e : bit_or w 1 ≡ bit_or (w / 2) 0 * 2 + max (w % 2) 1 = or_step w 1 in
    let z : bit_or (w / 2) 0 ≡ w / 2 = or_zero_r (w / 2) in
    let d : w % 2 < 2 = mod-lt w (lit< tt) in
    omega arith
joined (suc k) w =
    let e : bit_or w (1 * 2 ^ suc k) ≡ bit_or (w / 2) (1 * 2 ^ k) * 2 + max (w % 2) 0 =
    or_step w (1 * 2 ^ suc k)
    ∙ ap (λ (x : ℕ). bit_or (w / 2) x * 2 + max (w % 2) (1 * 2 ^ suc k % 2)) (shifted_half 1 k)
    ∙ ap (λ (x : ℕ). bit_or (w / 2) (1 * 2 ^ k) * 2 + max (w % 2) x) (shifted_even 1 k) in
    let i : bit_or (w / 2) (1 * 2 ^ k) ≡ including (w / 2) k = joined k (w / 2) in
    omega arith

tested : (k w : ℕ) → not (eqb (bit_and w (1 * 2 ^ k)) 0) ≡ eqb (bit_of w k) 1
unfolding bit_of
tested zero w = ap (λ (x : ℕ). not (eqb x 0)) (and_first w) ∙ one (w % 2) (mod-lt w (lit< tt))
  where
    one : (d : ℕ) → d < 2 → not (eqb d 0) ≡ eqb d 1
    one zero h = refl
    one (suc zero) h = refl
    one (suc (suc d)) h = absurd (omega arith)
tested (suc k) w = ap (λ (x : ℕ). not (eqb x 0)) (and-own k w) ∙ one (bit_and (w / 2) (1 * 2 ^ k)) ∙ tested k (w / 2)
  where
    one : (x : ℕ) → not (eqb (x * 2) 0) ≡ not (eqb x 0)
    one zero = refl
    one (suc x) = ap not (ne_eqb (suc x * 2) 0 (λ (e : suc x * 2 ≡ 0). omega arith) ∙ sym (ne_eqb (suc x) 0 (λ (e : suc x ≡ 0). omega arith)))

-- ---- for sessions

session : (k : ℕ) → suc k ≤ 32 → own (suc k) ≡ 1 * 2 ^ k
session k h = ap (λ (j : ℕ). (1 * 2 ^ j) % 4294967296) (let e : suc k - 1 ≡ k = omega arith in e) ∙ own_is k (omega arith)

pub left-own : (w s : ℕ) → 1 ≤ s → s ≤ 32 → w - bit_and w (own s) ≡ left_by s w
left-own w zero h l = absurd (omega arith)
left-own w (suc k) h l = ap (λ (x : ℕ). w - bit_and w x) (session k l) ∙ cleared k w

pub held-own : (w s : ℕ) → 1 ≤ s → s ≤ 32 → bit_or w (own s) ≡ held_by s w
held-own w zero h l = absurd (omega arith)
held-own w (suc k) h l = ap (bit_or w) (session k l) ∙ joined k w

pub holds-own : (w s : ℕ) → 1 ≤ s → s ≤ 32 → not (eqb (bit_and w (own s)) 0) ≡ holds w s
holds-own w zero h l = absurd (omega arith)
holds-own w (suc k) h l = ap (λ (x : ℕ). not (eqb (bit_and w x) 0)) (session k l) ∙ tested k w

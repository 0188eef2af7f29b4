-- The trailing zeros of a holders word say its lowest session, and the word without that one has the others.
use mathlib.Core.Path.{◌≡◌, refl, sym, ap, ◌∙◌}
use mathlib.Core.List.{List, [], ◌∷◌, map}
use Prim.Native.Nat.{ℕ, zero, suc, ◌+◌, ◌-◌, ◌*◌, ◌/◌, ◌%◌, ◌^◌, ◌≤◌, ◌<◌}
use native.Mathlib.Nat.{div-add-mod', mod-lt, pow-suc, one-mul}
use native.Mathlib.Numerals.{add-one}
use native.Mathlib.Omega.{arith}
use lib.Dec.{lit<}
use lib.ListN.{length, set, replicate}
use lib.Seq.{sets}
use lib.Pow.{pow_pos}
use lib.Count.{count_trailing_zeros, under}
use Rattle.locks.specs.Holders.{holders, first_of, padded}
use Rattle.locks.specs.Blockers.{even-holders, odd-holders, none-holds, length-holders}
use Rattle.locks.proofs.Own.{own_is}

pub record Lowest (n w t : ℕ) : Type 0 where
  pub within : t < n
  pub below : 2 ^ t ≤ w
  pub first : holders n w ≡ suc t ∷ holders n (w - 2 ^ t)

low_step : (n w d : ℕ) → 0 < w → w < 2 ^ suc n → w % 2 ≡ d → (0 < w / 2 → w / 2 < 2 ^ n → Lowest n (w / 2) (count_trailing_zeros n (w / 2)))
    → Lowest (suc n) w (under d (count_trailing_zeros n (w / 2)))
low_step n w zero pos lt e rec =
    let q : ℕ = w / 2 in
    let s : w / 2 * 2 + w % 2 ≡ w = div-add-mod' w 2 in
    let p : 2 ^ suc n ≡ 2 ^ n * 2 = pow-suc 2 n in
    let r : Lowest n (w / 2) (count_trailing_zeros n (w / 2)) = rec (omega arith) (omega arith) in
    let t : ℕ = count_trailing_zeros n (w / 2) in
    let p2 : 2 ^ suc t ≡ 2 ^ t * 2 = pow-suc 2 t in
    record {
      within = omega arith;
      below = omega arith;
      first =
          even-holders n w q (omega arith) ∙ ap (map suc) r.first
          ∙ ap (λ (l : List ℕ). suc (suc t) ∷ l) (sym (even-holders n (w - 2 ^ suc t) (q - 2 ^ t) (omega arith)));
    }
low_step n w (suc d) pos lt e rec =
    let s : w / 2 * 2 + w % 2 ≡ w = div-add-mod' w 2 in
    let m : w % 2 < 2 = mod-lt w (lit< tt) in
    record {
      within = omega arith;
      below = omega arith;
      first = odd-holders n w (w / 2) (omega arith) ∙ ap (λ (l : List ℕ). 1 ∷ l) (sym (even-holders n (w - 1) (w / 2) (omega arith)));
    }

pub lowest : (n w : ℕ) → 0 < w → w < 2 ^ n → Lowest n w (count_trailing_zeros n w)
unfolding count_trailing_zeros
lowest zero w pos lt = absurd (omega arith)
lowest (suc n) w pos lt = low_step n w (w % 2) pos lt refl (lowest n (w / 2))

-- ---- for the 32 bits of a word

-- what the code computes for the lowest session
abbrev low : ℕ → ℕ
low w = (1 * 2 ^ count_trailing_zeros 32 w) % 4294967296

pub record Turn (w : ℕ) : Type 0 where
  pub within : count_trailing_zeros 32 w < 32
  pub some : 0 < low w
  pub below : low w ≤ w
  pub first : holders 32 w ≡ suc (count_trailing_zeros 32 w) ∷ holders 32 (w - low w)

pub turn : (w : ℕ) → (w ≡ 0 → ⊥) → w < 4294967296 → Turn w
turn w nz lt =
    let l : Lowest 32 w (count_trailing_zeros 32 w) = lowest 32 w (omega arith) lt in
    let b = l.below in
    let p : 0 < 2 ^ count_trailing_zeros 32 w = pow_pos (count_trailing_zeros 32 w) in
    let e : low w ≡ 2 ^ count_trailing_zeros 32 w = own_is (count_trailing_zeros 32 w) l.within ∙ one-mul (2 ^ count_trailing_zeros 32 w) in
    record {
      within = l.within;
      some = omega arith;
      below = omega arith;
      first = l.first ∙ ap (λ (x : ℕ). suc (count_trailing_zeros 32 w) ∷ holders 32 (w - x)) (sym e);
    }

pub first-none : (w : ℕ) → w ≡ 0 → 0 ≡ first_of (holders 32 w)
first-none w e = sym (ap (λ (x : ℕ). first_of (holders 32 x)) e ∙ ap first_of (none-holds 32))

pub first_some : (w : ℕ) → (w ≡ 0 → ⊥) → w < 4294967296 → count_trailing_zeros 32 w + 1 ≡ first_of (holders 32 w)
first_some w nz lt = add-one (count_trailing_zeros 32 w) ∙ sym (ap first_of (turn w nz lt).first)

-- ---- the walk: writing what is left gives the whole
pub record Walking (whole list : List ℕ) (n rest : ℕ) : Type 0 where
  pub fits : rest < 4294967296
  pub room : n + length (holders 32 rest) ≤ 32
  pub is : sets list n (holders 32 rest) ≡ whole

sets-cons : (a : ℕ) (l : List ℕ) (i : ℕ) (vs : List ℕ) → sets (a ∷ l) (suc i) vs ≡ a ∷ sets l i vs
sets-cons a l i [] = refl
sets-cons a l i (v ∷ vs) = sets-cons a (set l i v) (suc i) vs

sets-nil : (i : ℕ) (vs : List ℕ) → sets [] i vs ≡ []
sets-nil i [] = refl
sets-nil i (v ∷ vs) = sets-nil (suc i) vs

padded-sets : (n : ℕ) (l : List ℕ) → sets (replicate n 0) 0 l ≡ padded n l
unfolding padded
padded-sets zero l = sets-nil 0 l
padded-sets (suc n) [] = ap (λ (r : List ℕ). 0 ∷ r) (padded-sets n [])
padded-sets (suc n) (x ∷ l) = sets-cons x (replicate n 0) 0 l ∙ ap (λ (r : List ℕ). x ∷ r) (padded-sets n l)

pub walk_start : (w : ℕ) → w < 4294967296 → Walking (padded 32 (holders 32 w)) (replicate 32 0) 0 w
walk_start w h = record { fits = h; room = let l = length-holders 32 w in omega arith; is = padded-sets 32 (holders 32 w) }

pub walk_more : {whole list : List ℕ} {n rest : ℕ} → Walking whole list n rest → (rest ≡ 0 → ⊥)
    → Walking whole (set list n (count_trailing_zeros 32 rest + 1)) (n + 1) (rest - low rest)
walk_more {whole} {list} {n} {rest} k nz =
    let t = turn rest nz k.fits in
    let f = k.fits in
    let l = k.room in
    let e = ap length t.first in
    record {
      fits = omega arith;
      room = omega arith;
      is = ap (λ (x : ℕ). sets (set list n x) (n + 1) (holders 32 (rest - low rest))) (add-one (count_trailing_zeros 32 rest))
          ∙ ap (λ (j : ℕ). sets (set list n (suc (count_trailing_zeros 32 rest))) j (holders 32 (rest - low rest))) (add-one n)
          ∙ ap (sets list n) (sym t.first) ∙ k.is;
    }

pub walk_end : {whole list : List ℕ} {n rest : ℕ} → Walking whole list n rest → rest ≡ 0 → list ≡ whole
walk_end {whole} {list} {n} {rest} k e =
    sym (ap (λ (x : ℕ). sets list n (holders 32 x)) e ∙ ap (sets list n) (none-holds 32)) ∙ k.is

empty : (l : List ℕ) → length l ≤ 0 → l ≡ []
empty [] h = refl
empty (x ∷ l) h = absurd (omega (arith, h))

-- with all places written nothing is left
pub walk_full : {whole list : List ℕ} {n rest : ℕ} → Walking whole list n rest → n ≡ 32 → list ≡ whole
walk_full {whole} {list} {n} {rest} k e =
    sym (ap (sets list n) (empty (holders 32 rest) (let l = k.room in omega (arith, l, e)))) ∙ k.is

-- What holders words say of the sessions from 1 to n: who holds, how many, who is in the way.
use Rattle.std.specs.Prelude.{◌≡◌, refl, Bool, true, false, cond, not, ◌&&◌, ◌||◌, List, [], ◌∷◌, map, ◌⊎◌, ℕ, zero, suc, ◌+◌, ◌*◌, ◌/◌, ◌%◌, ◌^◌, ◌≤◌, ◌<◌, eqb, length}
use Rattle.std.proofs.Common.{sym, ap, ◌∙◌, inl, inr, mod-lt, div-add-mod', pow-suc, arith, lit<, eqb-true}
use Rattle.std.proofs.lemmas.List.{length-map}
use Rattle.std.specs.Int.Bits.{bit_or}
use Rattle.std.proofs.Math.Arith.{lt-one, digits_div, digits_mod}
use Rattle.std.specs.Int.Count.{ones, ones_step}
use Rattle.std.proofs.lemmas.Bool.{eqb-false}
use Rattle.locks.specs.Rule.{agrees_of}
use Rattle.locks.specs.Holders.{bit_of, holds, left_by, holders, in_the_way, blockers, conflicts}
use Rattle.locks.specs.Bits.{left-same, left_other, holds-or, holds-unless}
use Rattle.locks.specs.Lists.{same-passing, shift-passing, length-passing}

-- ---- holders, one bit at a time

-- session 1 is the lowest bit d, and the others are those of half the word, q
abbrev stepped : ℕ → ℕ → ℕ → List ℕ
stepped n d q = cond (eqb d 1) (1 ∷ map suc (holders n q)) (map suc (holders n q))

holders-step : (n w : ℕ) → holders (suc n) w ≡ stepped n (w % 2) (w / 2)
unfolding holders bit_of
holders-step n w = ap (λ (l : List ℕ). cond (eqb (w % 2) 1) (1 ∷ l) l) (shift-passing (holds w) (holds (w / 2)) 1 n next)
  where
    next : (t : ℕ) → 1 ≤ t → holds w (suc t) ≡ holds (w / 2) t
    next zero h = absurd (omega arith)
    next (suc k) h = refl

digit-step : (n w d q : ℕ) → d < 2 → w ≡ q * 2 + d → holders (suc n) w ≡ stepped n d q
digit-step n w d q h e = rw e (rw (digits_div q h, digits_mod q h) at (holders-step n (q * 2 + d)))

pub even-holders : (n w q : ℕ) → w ≡ q * 2 → holders (suc n) w ≡ map suc (holders n q)
even-holders n w q e = digit-step n w 0 q (lit< tt) (omega arith)

pub odd-holders : (n w q : ℕ) → w ≡ q * 2 + 1 → holders (suc n) w ≡ 1 ∷ map suc (holders n q)
odd-holders n w q e = digit-step n w 1 q (lit< tt) e

-- by the lowest bit
pub halves : (w : ℕ) → (w ≡ w / 2 * 2) ⊎ (w ≡ w / 2 * 2 + 1)
halves w = by (w % 2) (mod-lt w (lit< tt)) (div-add-mod' w 2)
  where
    by : (d : ℕ) → d < 2 → w / 2 * 2 + d ≡ w → (w ≡ w / 2 * 2) ⊎ (w ≡ w / 2 * 2 + 1)
    by zero h e = inl (omega arith)
    by (suc zero) h e = inr (sym e)
    by (suc (suc d)) h e = absurd (omega arith)

pub none-holds : (n : ℕ) → holders n 0 ≡ []
unfolding holders
none-holds zero = refl
none-holds (suc n) = even-holders n 0 0 refl ∙ ap (map suc) (none-holds n)

half-less : (n w q : ℕ) → w < 2 ^ suc n → q * 2 ≤ w → q < 2 ^ n
half-less n w q h l = let p : 2 ^ suc n ≡ 2 ^ n * 2 = pow-suc 2 n in omega arith

-- the lock count is the number of set bits
pub count-holders : (n w : ℕ) → w < 2 ^ n → ones w ≡ length (holders n w)
unfolding ones holders
count-holders zero w h = ap ones (lt-one h)
count-holders (suc n) w h = by (count-holders n (w / 2)) (halves w)
  where
    by : (w / 2 < 2 ^ n → ones (w / 2) ≡ length (holders n (w / 2))) → (w ≡ w / 2 * 2) ⊎ (w ≡ w / 2 * 2 + 1)
        → ones w ≡ length (holders (suc n) w)
    by i (inl e) =
        let s : w / 2 * 2 + w % 2 ≡ w = div-add-mod' w 2 in
        let o : ones w ≡ w % 2 + ones (w / 2) = ones_step w in
        let r : ones (w / 2) ≡ length (holders n (w / 2)) = i (half-less n w (w / 2) h (omega arith)) in
        let l : length (holders (suc n) w) ≡ length (map suc (holders n (w / 2))) = ap length (even-holders n w (w / 2) e) in
        let m : length (map suc (holders n (w / 2))) ≡ length (holders n (w / 2)) = length-map (holders n (w / 2)) suc in
        omega arith
    by i (inr e) =
        let s : w / 2 * 2 + w % 2 ≡ w = div-add-mod' w 2 in
        let o : ones w ≡ w % 2 + ones (w / 2) = ones_step w in
        let r : ones (w / 2) ≡ length (holders n (w / 2)) = i (half-less n w (w / 2) h (omega arith)) in
        let l : length (holders (suc n) w) ≡ suc (length (map suc (holders n (w / 2)))) = ap length (odd-holders n w (w / 2) e) in
        let m : length (map suc (holders n (w / 2))) ≡ length (holders n (w / 2)) = length-map (holders n (w / 2)) suc in
        omega arith

pub length-holders : (n w : ℕ) → length (holders n w) ≤ n
unfolding holders
length-holders n w = length-passing (holds w) 1 n

-- ---- who is in the way

pub conflicts-bit : (kind asked s weak strong t : ℕ) → holds (conflicts kind asked s weak strong) t ≡ in_the_way kind asked s weak strong t
unfolding conflicts
conflicts-bit kind asked s weak strong t = by (eqb t s) refl
  where
    a : ℕ
    a = cond (agrees_of kind 0 asked) 0 weak

    b : ℕ
    b = cond (agrees_of kind 1 asked) 0 strong

    either : holds (bit_or a b) t ≡ ((holds weak t && not (agrees_of kind 0 asked)) || (holds strong t && not (agrees_of kind 1 asked)))
    either =
        holds-or a b t ∙ ap (λ (x : Bool). x || holds b t) (holds-unless (agrees_of kind 0 asked) weak t)
        ∙ ap (λ (x : Bool). (holds weak t && not (agrees_of kind 0 asked)) || x) (holds-unless (agrees_of kind 1 asked) strong t)

    by : (e : Bool) → eqb t s ≡ e → holds (left_by s (bit_or a b)) t ≡ in_the_way kind asked s weak strong t
    by true e =
        ap (λ (x : ℕ). holds (left_by s (bit_or a b)) x) (eqb-true t s e) ∙ left-same s (bit_or a b)
        ∙ ap (λ (x : Bool). not x && ((holds weak t && not (agrees_of kind 0 asked)) || (holds strong t && not (agrees_of kind 1 asked)))) (sym e)
    by false e =
        left_other s t (bit_or a b) (λ q. eqb-false t s e (sym q)) ∙ either
        ∙ ap (λ (x : Bool). not x && ((holds weak t && not (agrees_of kind 0 asked)) || (holds strong t && not (agrees_of kind 1 asked)))) (sym e)

-- the word of conflicts has exactly the sessions in the way
pub conflicts-holders : (n kind asked s weak strong : ℕ) → holders n (conflicts kind asked s weak strong) ≡ blockers n kind asked s weak strong
unfolding holders blockers
conflicts-holders n kind asked s weak strong =
    same-passing (holds (conflicts kind asked s weak strong)) (in_the_way kind asked s weak strong) 1 n
    (λ t h. conflicts-bit kind asked s weak strong t)

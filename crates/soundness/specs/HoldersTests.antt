-- What the computed tests of holders words say of the sessions that hold: who is among whom, that at most one holds, that no two conflict.
use Rattle.std.specs.Prelude.{◌≡◌, refl, Bool, true, false, ◌&&◌, ◌||◌, ◌⊎◌, ◌↔◌, ℕ, zero, suc, ◌+◌, ◌*◌, ◌/◌, ◌%◌, ◌^◌, ◌≤◌, ◌<◌, min, eqb, length}
use Rattle.std.proofs.Common.{sym, ap, subst, ◌∙◌, inl, inr, mod-lt, lt_of_le_of_lt, pow-suc, arith, lit<, eq-eqb, eqb-true, leb-true, le-leb}
use Rattle.std.proofs.lemmas.Bool.{false≢true}
use Rattle.std.proofs.Math.Arith.{bin_ind, digits_div, digits_mod}
use Rattle.std.specs.Int.Bits.{bit_and, bit_or, and_step}
use Rattle.std.proofs.lemmas.Nat.{and_le_r, or_lt}
use Rattle.std.specs.Int.Count.{ones, ones_step}
use Rattle.serial.specs.Locks.{Kind, Mode, weak, strong, Table}
use Rattle.serial.specs.Locks as L
use Rattle.locks.specs.Rule.{agrees_of}
use Rattle.locks.specs.Holders.{word_bits, bit_of, holds, holders}
use Rattle.locks.specs.Bits.{holds-none, holds-or}
use Rattle.locks.specs.Blockers.{count-holders}
use Rattle.machine.specs.Steps.{rule}
use Rattle.holders.specs.Holders.{within, lone, alone, agree, holders_ok}

-- ---- tests

-- Two tests that pass together are the same.
pub same_test : (a b : Bool) → (a ≡ true → b ≡ true) → (b ≡ true → a ≡ true) → a ≡ b
same_test true b f g = sym (f refl)
same_test false true f g = g refl
same_test false false f g = refl

pub and_both : (a b : Bool) → ((a && b) ≡ true) ↔ ((a ≡ true) × (b ≡ true))
and_both true b = (λ h. (refl, h), λ h. h.1)
and_both false b = (λ h. absurd (false≢true h), λ h. h.0)

pub or-either : (a b : Bool) → ((a || b) ≡ true) ↔ ((a ≡ true) ⊎ (b ≡ true))
or-either true b = (λ h. inl refl, λ h. refl)
or-either false b = (λ h. inr h, back)
  where
    back : (false ≡ true) ⊎ (b ≡ true) → b ≡ true
    back (inl h) = absurd (false≢true h)
    back (inr h) = h

-- ---- words bit by bit

min-digit : (a b : ℕ) → min (a % 2) (b % 2) < 2
min-digit a b = let x : a % 2 < 2 = mod-lt a (lit< tt) in omega arith

bit-and : (a b j : ℕ) → bit_of (bit_and a b) j ≡ min (bit_of a j) (bit_of b j)
unfolding bit_of
bit-and a b zero = ap (λ (n : ℕ). n % 2) (and_step a b) ∙ digits_mod (bit_and (a / 2) (b / 2)) (min-digit a b)
bit-and a b (suc j) =
    ap (λ (n : ℕ). bit_of (n / 2) j) (and_step a b)
    ∙ ap (λ (n : ℕ). bit_of n j) (digits_div (bit_and (a / 2) (b / 2)) (min-digit a b))
    ∙ bit-and (a / 2) (b / 2) j

-- A bit is 0 or 1.
bit-two : (w k : ℕ) → bit_of w k < 2
unfolding bit_of
bit-two w zero = mod-lt w (lit< tt)
bit-two w (suc k) = bit-two (w / 2) k

pub holds-and : (a b p : ℕ) → holds (bit_and a b) p ≡ (holds a p && holds b p)
holds-and a b zero = refl
holds-and a b (suc k) = ap (λ (n : ℕ). eqb n 1) (bit-and a b k) ∙ one (bit_of a k) (bit_of b k) (bit-two a k) (bit-two b k)
  where
    one : (x y : ℕ) → x < 2 → y < 2 → eqb (min x y) 1 ≡ (eqb x 1 && eqb y 1)
    one zero zero h j = refl
    one zero (suc zero) h j = refl
    one (suc zero) zero h j = refl
    one (suc zero) (suc zero) h j = refl
    one (suc (suc x)) y h j = absurd (omega arith)
    one zero (suc (suc y)) h j = absurd (omega arith)
    one (suc zero) (suc (suc y)) h j = absurd (omega arith)

no_bits : (b : ℕ) → ((k : ℕ) → bit_of b k ≡ 0) → b ≡ 0
unfolding bit_of
no_bits = bin_ind (λ (b : ℕ). ((k : ℕ) → bit_of b k ≡ 0) → b ≡ 0) (λ h. refl) (λ b ih h. omega (arith, ih (λ k. h (suc k)), h zero))

same_bits : (a b : ℕ) → ((k : ℕ) → bit_of a k ≡ bit_of b k) → a ≡ b
unfolding bit_of
same_bits =
    bin_ind (λ (a : ℕ). (b : ℕ) → ((k : ℕ) → bit_of a k ≡ bit_of b k) → a ≡ b)
    (λ b h. sym (no_bits b (λ k. sym (h k) ∙ none k)))
    (λ a ih b h. omega (arith, ih (b / 2) (λ k. h (suc k)), h zero))
  where
    none : (k : ℕ) → bit_of 0 k ≡ 0
    none zero = refl
    none (suc k) = none k

-- A word is who holds.
pub same_word : (a b : ℕ) → ((p : ℕ) → holds a p ≡ holds b p) → a ≡ b
same_word a b h = same_bits a b (λ k. one (bit_of a k) (bit_of b k) (bit-two a k) (bit-two b k) (h (suc k)))
  where
    one : (x y : ℕ) → x < 2 → y < 2 → eqb x 1 ≡ eqb y 1 → x ≡ y
    one zero zero h j e = refl
    one zero (suc zero) h j e = absurd (false≢true e)
    one (suc zero) zero h j e = absurd (false≢true (sym e))
    one (suc zero) (suc zero) h j e = refl
    one (suc (suc x)) y h j e = absurd (omega arith)
    one zero (suc (suc y)) h j e = absurd (omega arith)
    one (suc zero) (suc (suc y)) h j e = absurd (omega arith)

-- ---- whoever holds the one holds the other

abbrev pub Within : ℕ → ℕ → Type 0
Within a b = (p : ℕ) → holds a p ≡ true → holds b p ≡ true

pub within-is : (a b : ℕ) → (within a b ≡ true) ↔ Within a b
unfolding within
within-is a b = (there, back)
  where
    there : eqb (bit_and a b) a ≡ true → Within a b
    there e p h =
        let q : (holds a p && holds b p) ≡ true = sym (holds-and a b p) ∙ ap (λ (w : ℕ). holds w p) (eqb-true (bit_and a b) a e) ∙ h in
        ((and_both (holds a p) (holds b p)).0 q).1

    back : Within a b → eqb (bit_and a b) a ≡ true
    back h =
        eq-eqb (bit_and a b) a
        (same_word (bit_and a b) a (λ p.
        holds-and a b p
        ∙ same_test (holds a p && holds b p) (holds a p) (λ e. ((and_both (holds a p) (holds b p)).0 e).0) (λ e. (and_both (holds a p) (holds b p)).1 (e, h p e))))

-- Nobody holds.
pub none_is : (w : ℕ) → (eqb w 0 ≡ true) ↔ ((p : ℕ) → holds w p ≡ false)
none_is w = (λ e p. ap (λ (x : ℕ). holds x p) (eqb-true w 0 e) ∙ holds-none p, λ h. eq-eqb w 0 (same_word w 0 (λ p. h p ∙ sym (holds-none p))))

-- A word within another has no more bits.
within-less : (n a b : ℕ) → b < 2 ^ n → within a b ≡ true → a < 2 ^ n
unfolding within
within-less n a b h e = subst (λ (x : ℕ). x < 2 ^ n) (eqb-true (bit_and a b) a e) (lt_of_le_of_lt (and_le_r a b) h)

digit : (w : ℕ) → (w % 2 ≡ 0) ⊎ (w % 2 ≡ 1)
digit w = by (w % 2) (mod-lt w (lit< tt))
  where
    by : (d : ℕ) → d < 2 → (d ≡ 0) ⊎ (d ≡ 1)
    by zero h = inl refl
    by (suc zero) h = inr refl
    by (suc (suc d)) h = absurd (omega arith)

-- Session 1 is the lowest bit, and the others are those of half the word.
next-holder : (w k : ℕ) → holds w (suc (suc k)) ≡ holds (w / 2) (suc k)
unfolding bit_of
next-holder w k = refl

first-holder : (w : ℕ) → holds w 1 ≡ eqb (w % 2) 1
unfolding bit_of
first-holder w = refl

-- Somebody holds a word that is not 0.
some-holder : (w : ℕ) → (w ≡ 0) ⊎ ((p : ℕ) × (holds w p ≡ true))
some-holder = bin_ind (λ (w : ℕ). (w ≡ 0) ⊎ ((p : ℕ) × (holds w p ≡ true))) (inl refl) (λ w ih. by w ih (digit w))
  where
    by : (w : ℕ) → (w / 2 ≡ 0) ⊎ ((p : ℕ) × (holds (w / 2) p ≡ true)) → (w % 2 ≡ 0) ⊎ (w % 2 ≡ 1) → (w ≡ 0) ⊎ ((p : ℕ) × (holds w p ≡ true))
    by w ih (inr e) = inr (1, first-holder w ∙ ap (λ (d : ℕ). eqb d 1) e)
    by w (inl z) (inl e) = inl (omega arith)
    by w (inr (zero, h)) (inl e) = absurd (false≢true h)
    by w (inr (suc k, h)) (inl e) = inr (suc (suc k), next-holder w k ∙ h)

-- A word that has no session above n has n bits.
pub few-less : (n w : ℕ) → ((p : ℕ) → holds w p ≡ true → p ≤ n) → w < 2 ^ n
few-less zero w h = by (some-holder w)
  where
    by : (w ≡ 0) ⊎ ((p : ℕ) × (holds w p ≡ true)) → w < 1
    by (inl e) = omega arith
    by (inr (zero, e)) = absurd (false≢true e)
    by (inr (suc k, e)) = let l : suc k ≤ 0 = h (suc k) e in absurd (omega arith)
few-less (suc n) w h = let i : w / 2 < 2 ^ n = few-less n (w / 2) half in let e : 2 ^ suc n ≡ 2 ^ n * 2 = pow-suc 2 n in omega arith
  where
    half : (p : ℕ) → holds (w / 2) p ≡ true → p ≤ n
    half zero e = omega arith
    half (suc k) e = let l : suc (suc k) ≤ suc n = h (suc (suc k)) (next-holder w k ∙ e) in omega arith

-- ---- at most one session holds

-- No session holds the one while another holds the other.
abbrev pub OneSession : ℕ → ℕ → Type 0
OneSession a b = (p q : ℕ) → holds a p ≡ true → holds b q ≡ true → p ≡ q

abbrev pub Lone : ℕ → Type 0
Lone w = OneSession w w

lone-even : (w : ℕ) → w % 2 ≡ 0 → Lone w ↔ Lone (w / 2)
lone-even w e = (there, back)
  where
    there : Lone w → Lone (w / 2)
    there l zero q h i = absurd (false≢true h)
    there l (suc j) zero h i = absurd (false≢true i)
    there l (suc j) (suc k) h i = let z : suc (suc j) ≡ suc (suc k) = l (suc (suc j)) (suc (suc k)) (next-holder w j ∙ h) (next-holder w k ∙ i) in omega arith

    first : {A : Type 0} → holds w 1 ≡ true → A
    first h = absurd (false≢true (sym (first-holder w ∙ ap (λ (d : ℕ). eqb d 1) e) ∙ h))

    back : Lone (w / 2) → Lone w
    back l zero q h i = absurd (false≢true h)
    back l (suc zero) q h i = first h
    back l (suc (suc j)) zero h i = absurd (false≢true i)
    back l (suc (suc j)) (suc zero) h i = first i
    back l (suc (suc j)) (suc (suc k)) h i = ap suc (l (suc j) (suc k) (sym (next-holder w j) ∙ h) (sym (next-holder w k) ∙ i))

lone-odd : (w : ℕ) → w % 2 ≡ 1 → Lone w ↔ (w / 2 ≡ 0)
lone-odd w e = (there, back)
  where
    none : Lone w → (p : ℕ) (b : Bool) → holds (w / 2) p ≡ b → b ≡ false
    none l p false h = refl
    none l zero true h = sym h
    none l (suc k) true h = let z : 1 ≡ suc (suc k) = l 1 (suc (suc k)) (first-holder w ∙ ap (λ (d : ℕ). eqb d 1) e) (next-holder w k ∙ h) in absurd (omega arith)

    there : Lone w → w / 2 ≡ 0
    there l = eqb-true (w / 2) 0 ((none_is (w / 2)).1 (λ p. none l p (holds (w / 2) p) refl))

    only : w / 2 ≡ 0 → (p : ℕ) → holds w p ≡ true → p ≡ 1
    only z zero h = absurd (false≢true h)
    only z (suc zero) h = refl
    only z (suc (suc k)) h = absurd (false≢true (sym (next-holder w k ∙ ap (λ (x : ℕ). holds x (suc k)) z ∙ holds-none (suc k)) ∙ h))

    back : w / 2 ≡ 0 → Lone w
    back z p q h i = only z p h ∙ sym (only z q i)

-- What goes on from half an even word to the word, and is true of an odd one exactly if half of it is 0, says that at most one session holds.
pub lone-by : (F : ℕ → Type 0) → F 0 → ((w : ℕ) → w % 2 ≡ 0 → F w ↔ F (w / 2)) → ((w : ℕ) → w % 2 ≡ 1 → F w ↔ (w / 2 ≡ 0)) → (w : ℕ) → F w ↔ Lone w
lone-by F z even odd =
    bin_ind (λ (w : ℕ). F w ↔ Lone w) (λ f p q h i. absurd (false≢true (sym (holds-none p) ∙ h)), λ l. z)
    (λ w ih. by w ih (digit w))
  where
    by : (w : ℕ) → F (w / 2) ↔ Lone (w / 2) → (w % 2 ≡ 0) ⊎ (w % 2 ≡ 1) → F w ↔ Lone w
    by w ih (inl e) = (λ f. (lone-even w e).1 (ih.0 ((even w e).0 f)), λ l. (even w e).1 (ih.1 ((lone-even w e).0 l)))
    by w ih (inr e) = (λ f. (lone-odd w e).1 ((odd w e).0 f), λ l. (odd w e).1 ((lone-odd w e).0 l))

no_ones : (w : ℕ) → ones w ≡ 0 → w ≡ 0
no_ones = bin_ind (λ (w : ℕ). ones w ≡ 0 → w ≡ 0) (λ h. refl) (λ w ih h. let s : ones w ≡ w % 2 + ones (w / 2) = ones_step w in omega (arith, ih (omega arith)))

ones_none : ones 0 ≡ 0
unfolding ones
ones_none = refl

pub ones-lone : (w : ℕ) → (ones w ≤ 1) ↔ Lone w
ones-lone =
    lone-by (λ (w : ℕ). ones w ≤ 1) (omega (arith, ones_none))
    (λ w e. let s = ones_step w in (λ h. omega arith, λ h. omega arith))
    (λ w e. let s = ones_step w in (λ h. no_ones (w / 2) (omega arith), λ h. omega (arith, ap ones h, ones_none)))

pub lone_is : (w : ℕ) → w < 2 ^ word_bits → (lone w ≡ true) ↔ Lone w
unfolding lone
lone_is w h =
    let n : ℕ = length (holders word_bits w) in
    let c : ones w ≡ n = count-holders word_bits w h in
    (λ l. (ones-lone w).0 (omega (arith, c, leb-true n 1 l)), λ l. le-leb n 1 (omega (arith, c, (ones-lone w).1 l)))

pub alone-is : (a b : ℕ) → a < 2 ^ word_bits → b < 2 ^ word_bits → (alone a b ≡ true) ↔ OneSession a b
unfolding alone
alone-is a b ha hb = (λ e. by ((or-either (eqb a 0 || eqb b 0) (lone (bit_or a b))).0 e), λ h. (or-either (eqb a 0 || eqb b 0) (lone (bit_or a b))).1 (back h (some-holder a) (some-holder b)))
  where
    either : (lone (bit_or a b) ≡ true) ↔ Lone (bit_or a b)
    either = lone_is (bit_or a b) (or_lt word_bits a b ha hb)

    none : (w p : ℕ) {A : Type 0} → eqb w 0 ≡ true → holds w p ≡ true → A
    none w p z h = absurd (false≢true (sym ((none_is w).0 z p) ∙ h))

    apart : (eqb a 0 ≡ true) ⊎ (eqb b 0 ≡ true) → OneSession a b
    apart (inl z) p q h i = none a p z h
    apart (inr z) p q h i = none b q z i

    by : ((eqb a 0 || eqb b 0) ≡ true) ⊎ (lone (bit_or a b) ≡ true) → OneSession a b
    by (inl z) p q h i = apart ((or-either (eqb a 0) (eqb b 0)).0 z) p q h i
    by (inr l) p q h i =
        either.0 l p q (holds-or a b p ∙ (or-either (holds a p) (holds b p)).1 (inl h)) (holds-or a b q ∙ (or-either (holds a q) (holds b q)).1 (inr i))

    -- where p holds a and q holds b, each holder is p
    one : OneSession a b → (p q : ℕ) → holds a p ≡ true → holds b q ≡ true → (x : ℕ) → (holds a x ≡ true) ⊎ (holds b x ≡ true) → p ≡ x
    one h p q hp hq x (inl i) = h p q hp hq ∙ sym (h x q i hq)
    one h p q hp hq x (inr i) = h p x hp i

    back : OneSession a b → (a ≡ 0) ⊎ ((p : ℕ) × (holds a p ≡ true)) → (b ≡ 0) ⊎ ((q : ℕ) × (holds b q ≡ true))
        → ((eqb a 0 || eqb b 0) ≡ true) ⊎ (lone (bit_or a b) ≡ true)
    back h (inl z) y = inl ((or-either (eqb a 0) (eqb b 0)).1 (inl (eq-eqb a 0 z)))
    back h (inr x) (inl z) = inl ((or-either (eqb a 0) (eqb b 0)).1 (inr (eq-eqb b 0 z)))
    back h (inr x) (inr y) =
        let all : (u : ℕ) → holds (bit_or a b) u ≡ true → x.0 ≡ u = λ u e. one h x.0 y.0 x.1 y.1 u ((or-either (holds a u) (holds b u)).0 (sym (holds-or a b u) ∙ e)) in
        inr (either.1 (λ u v hu hv. sym (all u hu) ∙ all v hv))

-- ---- no two sessions conflict

-- The numbers of kinds and modes.
abbrev pub kind_number : Kind → ℕ
kind_number L.entry = 0
kind_number L.group = 1

abbrev pub mode_number : Mode → ℕ
mode_number weak = 0
mode_number strong = 1

-- The lock rule by numbers.
abbrev by_number : Table
by_number k held asked = agrees_of (kind_number k) (mode_number held) (mode_number asked)

pub rule-agrees : (k : Kind) (held asked : Mode) → agrees_of (kind_number k) (mode_number held) (mode_number asked) ≡ rule k held asked
unfolding agrees_of
rule-agrees L.entry weak weak = refl
rule-agrees L.entry weak strong = refl
rule-agrees L.entry strong weak = refl
rule-agrees L.entry strong strong = refl
rule-agrees L.group weak weak = refl
rule-agrees L.group weak strong = refl
rule-agrees L.group strong weak = refl
rule-agrees L.group strong strong = refl

-- The holders in a mode, of the weak ones and the strong ones.
abbrev pub in_mode : Mode → ℕ → ℕ → ℕ
in_mode weak w s = w
in_mode strong w s = s

-- `Agree` at one entry or key.
abbrev pub AgreeAt : Table → Kind → ℕ → ℕ → Type 0
AgreeAt T k w s = (m n : Mode) (p q : ℕ) → holds (in_mode m w s) p ≡ true → holds (in_mode n w s) q ≡ true → (p ≡ q) ⊎ (T k m n ≡ true)

-- One cell of the rule: whoever holds the one and whoever holds the other are the same, or the modes agree.
abbrev Cell : Bool → ℕ → ℕ → Type 0
Cell c a b = (p q : ℕ) → holds a p ≡ true → holds b q ≡ true → (p ≡ q) ⊎ (c ≡ true)

cell-is : (c t : Bool) (a b : ℕ) → (t ≡ true) ↔ OneSession a b → ((c || t) ≡ true) ↔ Cell c a b
cell-is true t a b i = (λ h p q x y. inr refl, λ h. refl)
cell-is false t a b i = (λ h p q x y. inl (i.0 h p q x y), λ h. i.1 (λ p q x y. one (h p q x y)))
  where
    one : {A : Type 0} → A ⊎ (false ≡ true) → A
    one (inl e) = e
    one (inr e) = absurd (false≢true e)

cells_is : (c d t : Bool) (a b : ℕ) → (t ≡ true) ↔ OneSession a b → (((c && d) || t) ≡ true) ↔ (Cell c a b × Cell d b a)
cells_is true true t a b i = (λ h. (λ p q x y. inr refl, λ p q x y. inr refl), λ h. refl)
cells_is true false t a b i = (λ h. (λ p q x y. inr refl, λ p q x y. inl (sym (i.0 h q p y x))), λ h. (cell-is false t a b i).1 (λ p q x y. back (h.1 q p y x)))
  where
    back : {p q : ℕ} {A : Type 0} → (p ≡ q) ⊎ A → (q ≡ p) ⊎ A
    back (inl e) = inl (sym e)
    back (inr e) = inr e
cells_is false d t a b i = (λ h. (λ p q x y. inl (i.0 h p q x y), λ p q x y. inl (sym (i.0 h q p y x))), λ h. (cell-is false t a b i).1 h.0)

pub agree-is : (k : Kind) (w s : ℕ) → w < 2 ^ word_bits → s < 2 ^ word_bits → (agree (kind_number k) w s ≡ true) ↔ AgreeAt rule k w s
unfolding agree
agree-is k w s hw hs = (λ e m n p q x y. as-rule m n (there e m n p q x y), λ h. back (λ m n p q x y. as_number m n (h m n p q x y)))
  where
    as-rule : (m n : Mode) {A : Type 0} → A ⊎ (by_number k m n ≡ true) → A ⊎ (rule k m n ≡ true)
    as-rule m n (inl a) = inl a
    as-rule m n (inr e) = inr (sym (rule-agrees k m n) ∙ e)

    as_number : (m n : Mode) {A : Type 0} → A ⊎ (rule k m n ≡ true) → A ⊎ (by_number k m n ≡ true)
    as_number m n (inl a) = inl a
    as_number m n (inr e) = inr (rule-agrees k m n ∙ e)

    ww : ((by_number k weak weak || lone w) ≡ true) ↔ Cell (by_number k weak weak) w w
    ww = cell-is (by_number k weak weak) (lone w) w w (lone_is w hw)

    ss : ((by_number k strong strong || lone s) ≡ true) ↔ Cell (by_number k strong strong) s s
    ss = cell-is (by_number k strong strong) (lone s) s s (lone_is s hs)

    ws : (((by_number k weak strong && by_number k strong weak) || alone w s) ≡ true) ↔ (Cell (by_number k weak strong) w s × Cell (by_number k strong weak) s w)
    ws = cells_is (by_number k weak strong) (by_number k strong weak) (alone w s) w s (alone-is w s hw hs)

    all : (agree (kind_number k) w s ≡ true)
        ↔ ((((by_number k weak weak || lone w) && (by_number k strong strong || lone s)) ≡ true) × (((by_number k weak strong && by_number k strong weak) || alone w s) ≡ true))
    all = and_both ((by_number k weak weak || lone w) && (by_number k strong strong || lone s)) ((by_number k weak strong && by_number k strong weak) || alone w s)

    own : (((by_number k weak weak || lone w) && (by_number k strong strong || lone s)) ≡ true)
        ↔ (((by_number k weak weak || lone w) ≡ true) × ((by_number k strong strong || lone s) ≡ true))
    own = and_both (by_number k weak weak || lone w) (by_number k strong strong || lone s)

    there : agree (kind_number k) w s ≡ true → AgreeAt by_number k w s
    there e weak weak = ww.0 (own.0 (all.0 e).0).0
    there e weak strong = (ws.0 (all.0 e).1).0
    there e strong weak = (ws.0 (all.0 e).1).1
    there e strong strong = ss.0 (own.0 (all.0 e).0).1

    back : AgreeAt by_number k w s → agree (kind_number k) w s ≡ true
    back h = all.1 (own.1 (ww.1 (h weak weak), ss.1 (h strong strong)), ws.1 (h weak strong, h strong weak))

-- Only begun sessions hold, and no two conflict.
pub record HoldersFit (begun : ℕ) (k : Kind) (w s : ℕ) : Type 0 where
  pub only_begun : (m : Mode) → Within (in_mode m w s) begun
  pub agrees : AgreeAt rule k w s

pub holders-is : (begun : ℕ) (k : Kind) (w s : ℕ) → begun < 2 ^ word_bits → (holders_ok (kind_number k) w s begun ≡ true) ↔ HoldersFit begun k w s
unfolding holders_ok
holders-is begun k w s hb = (there, back)
  where
    all : (holders_ok (kind_number k) w s begun ≡ true) ↔ (((within w begun && within s begun) ≡ true) × (agree (kind_number k) w s ≡ true))
    all = and_both (within w begun && within s begun) (agree (kind_number k) w s)

    both : ((within w begun && within s begun) ≡ true) ↔ ((within w begun ≡ true) × (within s begun ≡ true))
    both = and_both (within w begun) (within s begun)

    at : within w begun ≡ true → within s begun ≡ true → (agree (kind_number k) w s ≡ true) ↔ AgreeAt rule k w s
    at a b = agree-is k w s (within-less word_bits w begun hb a) (within-less word_bits s begun hb b)

    each : within w begun ≡ true → within s begun ≡ true → (m : Mode) → Within (in_mode m w s) begun
    each a b weak = (within-is w begun).0 a
    each a b strong = (within-is s begun).0 b

    there : holders_ok (kind_number k) w s begun ≡ true → HoldersFit begun k w s
    there e = let b = both.0 (all.0 e).0 in record { only_begun = each b.0 b.1; agrees = (at b.0 b.1).0 (all.0 e).1 }

    back : HoldersFit begun k w s → holders_ok (kind_number k) w s begun ≡ true
    back h =
        let a = (within-is w begun).1 (h.only_begun weak) in
        let b = (within-is s begun).1 (h.only_begun strong) in
        all.1 (both.1 (a, b), (at a b).1 h.agrees)

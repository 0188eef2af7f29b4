-- An answer in one number of 64 bits: `packed`. It loses nothing: `unpacked` gives the answer back. So do `unpacked_day` and the place of a day call.
use Rattle.std.specs.Prelude.{◌≡◌, refl, cond, List, [], ◌∷◌, ℕ, ◌+◌, ◌*◌, ◌/◌, ◌%◌, ◌≤◌, ◌<◌, eqb}
use Rattle.std.proofs.Common.{sym, ap, ◌∙◌, arith, mod-lt, mod-eq_of_lt, lit<}
use Rattle.std.proofs.Math.Arith.{digits_div, digits_mod}
use Rattle.serial.specs.Calls as C
use Rattle.outcomes.specs.declared.DayAnswer.{DayAnswer}
use Rattle.outcomes.specs.declared.DayAnswer.TheVariants as Day
use Rattle.outcomes.specs.Said.{day_said, day_place}

-- ---- into one number

-- From the low end: 32 bits of value, 8 of number, 8 of word, 8 for how many numbers the answer has.
abbrev pub box : ℕ → ℕ → ℕ → ℕ → ℕ
box count word number value = ((count * 256 + word) * 256 + number % 256) * 4294967296 + value

-- 0 ok, 1 more, 2 wait, 3 done, 4 refused. (No call answers done with no number, or with more than two.)
abbrev pub packed : C.Answer → ℕ
packed C.ok = box 0 0 0 0
packed C.more = box 0 1 0 0
packed (C.wait p) = box 1 2 0 p
packed (C.done []) = box 0 3 0 0
packed (C.done (n ∷ [])) = box 1 3 0 n
packed (C.done (k ∷ b ∷ ns)) = box 2 3 b k
packed (C.refused n k) = box 2 4 n k

-- The value of an answer is a word.
abbrev pub Worded : C.Answer → Type 0
Worded C.ok = Unit {0}
Worded C.more = Unit {0}
Worded (C.wait p) = p < 4294967296
Worded (C.done []) = Unit {0}
Worded (C.done (n ∷ ns)) = n < 4294967296
Worded (C.refused n k) = k < 4294967296

-- The number r is the packing of an answer.
pub record Packs (a : C.Answer) (r : ℕ) : Type 0 where
  pub is : r ≡ packed a
  pub words : Worded a

-- Above them 14 bits for how many steps were made. 1,125,899,906,842,624 is 2 to the 50.
pub record PacksMade (n : ℕ) (a : C.Answer) (r : ℕ) : Type 0 where
  pub is : r ≡ n * 1125899906842624 + packed a
  pub words : Worded a
  pub few : n ≤ 16383

-- A day call's answer: its 48 bits without the count, and above them 16 for the place. 281,474,976,710,656 is 2 to the 48.
pub record PacksDay (a : DayAnswer) (r : ℕ) : Type 0 where
  pub is : r ≡ day_place a * 281474976710656 + packed (day_said a) % 281474976710656
  pub words : Worded (day_said a)
  pub few : day_place a ≤ 65535

-- ---- and back

abbrev pub numbers : ℕ → ℕ → ℕ → List ℕ
numbers count number value = cond (eqb count 0) [] (cond (eqb count 1) (value ∷ []) (value ∷ number ∷ []))

abbrev pub from_parts : ℕ → ℕ → ℕ → ℕ → C.Answer
from_parts count word number value =
    cond (eqb word 0) C.ok (cond (eqb word 1) C.more (cond (eqb word 2) (C.wait value) (cond (eqb word 3) (C.done (numbers count number value)) (C.refused number value))))

-- The four parts of a number.
abbrev pub parted : {A : Type 0} → (ℕ → ℕ → ℕ → ℕ → A) → ℕ → A
parted f x = f (x / 4294967296 / 256 / 256) (x / 4294967296 / 256 % 256) (x / 4294967296 % 256) (x % 4294967296)

unfoldable pub unpacked : ℕ → C.Answer
unpacked x = parted from_parts x

-- Answers that fit: at most two numbers, the value below 2^32, the number beside it below 256.
abbrev pub Small : C.Answer → Type 0
Small C.ok = Unit {0}
Small C.more = Unit {0}
Small (C.wait p) = p < 4294967296
Small (C.done []) = Unit {0}
Small (C.done (n ∷ [])) = n < 4294967296
Small (C.done (k ∷ b ∷ [])) = (k < 4294967296) × (b < 256)
Small (C.done (k ∷ b ∷ n ∷ ns)) = ⊥
Small (C.refused n k) = (n < 256) × (k < 4294967296)

module _ (c w n v : ℕ) (hw : w < 256) (hn : n < 256) (hv : v < 4294967296) where
  high : box c w n v / 4294967296 ≡ (c * 256 + w) * 256 + n
  high = digits_div ((c * 256 + w) * 256 + n % 256) hv ∙ ap (λ (k : ℕ). (c * 256 + w) * 256 + k) (mod-eq_of_lt hn)

  low : box c w n v % 4294967296 ≡ v
  low = digits_mod ((c * 256 + w) * 256 + n % 256) hv

  over : box c w n v / 4294967296 / 256 ≡ c * 256 + w
  over = ap (λ (k : ℕ). k / 256) high ∙ digits_div (c * 256 + w) hn

  parts-back : {A : Type 0} (f : ℕ → ℕ → ℕ → ℕ → A) → parted f (box c w n v) ≡ f c w n v
  parts-back f =
      ap (λ (k : ℕ). f (k / 256) (k % 256) (box c w n v / 4294967296 % 256) (box c w n v % 4294967296)) over
      ∙ ap (λ (k : ℕ). f k ((c * 256 + w) % 256) (box c w n v / 4294967296 % 256) (box c w n v % 4294967296)) (digits_div c hw)
      ∙ ap (λ (k : ℕ). f c k (box c w n v / 4294967296 % 256) (box c w n v % 4294967296)) (digits_mod c hw)
      ∙ ap (λ (k : ℕ). f c w (k % 256) (box c w n v % 4294967296)) high
      ∙ ap (λ (k : ℕ). f c w k (box c w n v % 4294967296)) (digits_mod (c * 256 + w) hn)
      ∙ ap (f c w n) low

  opened : unpacked (box c w n v) ≡ from_parts c w n v
  unfolding unpacked
  opened = parts-back from_parts

-- A packed answer is read back as it was: no two answers that fit have one packing.
pub unpacked-packed : (a : C.Answer) → Small a → unpacked (packed a) ≡ a
unpacked-packed C.ok _ = opened 0 0 0 0 (lit< tt) (lit< tt) (lit< tt)
unpacked-packed C.more _ = opened 0 1 0 0 (lit< tt) (lit< tt) (lit< tt)
unpacked-packed (C.wait p) h = opened 1 2 0 p (lit< tt) (lit< tt) h
unpacked-packed (C.done []) _ = opened 0 3 0 0 (lit< tt) (lit< tt) (lit< tt)
unpacked-packed (C.done (n ∷ [])) h = opened 1 3 0 n (lit< tt) (lit< tt) h
unpacked-packed (C.done (k ∷ b ∷ [])) h = opened 2 3 b k (lit< tt) h.1 h.0
unpacked-packed (C.done (k ∷ b ∷ n ∷ ns)) h = absurd h
unpacked-packed (C.refused n k) h = opened 2 4 n k (lit< tt) h.0 h.1

pub packed-once : (a b : C.Answer) → Small a → Small b → packed a ≡ packed b → a ≡ b
packed-once a b ha hb e = sym (unpacked-packed a ha) ∙ ap unpacked e ∙ unpacked-packed b hb

-- ---- with the steps

-- A packed answer leaves the 14 bits above it.
boxed-below : (c w n v : ℕ) → c ≤ 2 → w ≤ 4 → v < 4294967296 → box c w n v < 1125899906842624
boxed-below c w n v hc hw hv = let h : n % 256 < 256 = mod-lt n (lit< tt) in omega (arith, hc, hw, hv, h)

pub packed-below : (a : C.Answer) → Worded a → packed a < 1125899906842624
packed-below C.ok h = lit< tt
packed-below C.more h = lit< tt
packed-below (C.wait p) h = boxed-below 1 2 0 p (omega arith) (omega arith) h
packed-below (C.done []) h = lit< tt
packed-below (C.done (n ∷ [])) h = boxed-below 1 3 0 n (omega arith) (omega arith) h
packed-below (C.done (k ∷ b ∷ ns)) h = boxed-below 2 3 b k (omega arith) (omega arith) h
packed-below (C.refused n k) h = boxed-below 2 4 n k (omega arith) (omega arith) h

-- So both together are a number of 64 bits.
pub made-fits : (n : ℕ) (a : C.Answer) {w low : ℕ} → n ≤ 16383 → w ≡ n → Packs a low → w * 1125899906842624 + low < 18446744073709551616
made-fits n a h e P = omega (arith, h, e, P.is, packed-below a P.words)

-- The steps and the answer are read back.
pub made-steps : (n : ℕ) (a : C.Answer) (r : ℕ) → PacksMade n a r → r / 1125899906842624 ≡ n
made-steps n a r h = ap (λ (k : ℕ). k / 1125899906842624) h.is ∙ digits_div n (packed-below a h.words)

pub made-answer : (n : ℕ) (a : C.Answer) (r : ℕ) → PacksMade n a r → Small a → unpacked (r % 1125899906842624) ≡ a
made-answer n a r h s = ap (λ (k : ℕ). unpacked (k % 1125899906842624)) h.is ∙ ap unpacked (digits_mod n (packed-below a h.words)) ∙ unpacked-packed a s

-- ---- with the place of a day call

-- The place stands where a packed answer has its count.
placed : (c j w n v : ℕ) → w < 256 → v < 4294967296 → box j w n v ≡ j * 281474976710656 + box c w n v % 281474976710656
placed c j w n v hw hv =
    let h : n % 256 < 256 = mod-lt n (lit< tt) in
    let b : box 0 w n v < 281474976710656 = omega (arith, hw, hv, h) in
    let e : box c w n v % 281474976710656 ≡ box 0 w n v = ap (λ (k : ℕ). k % 281474976710656) {x = box c w n v} {y = c * 281474976710656 + box 0 w n v} (omega arith) ∙ digits_mod c b in
    omega (arith, e)

module _ (a : DayAnswer) (c w n v r : ℕ) (e : packed (day_said a) ≡ box c w n v) (hw : w < 256) (hv : v < 4294967296) where
  pub packs-day : day_place a ≤ 65535 → Worded (day_said a) → r ≡ box (day_place a) w n v → PacksDay a r
  packs-day f h b = record {
    is = b ∙ placed c (day_place a) w n v hw hv ∙ ap (λ (k : ℕ). day_place a * 281474976710656 + k % 281474976710656) (sym e);
    words = h;
    few = f;
  }

  day-boxed : PacksDay a r → r ≡ box (day_place a) w n v
  day-boxed h = h.is ∙ ap (λ (k : ℕ). day_place a * 281474976710656 + k % 281474976710656) e ∙ sym (placed c (day_place a) w n v hw hv)

abbrev pub day_from_parts : ℕ → ℕ → ℕ → ℕ → DayAnswer
day_from_parts place word number value =
    cond (eqb word 0) (Day.Ok place)
    (cond (eqb word 1) (Day.More place) (cond (eqb word 2) (Day.Wait value place) (cond (eqb word 3) (Day.Done value place) (Day.Refused number value))))

unfoldable pub unpacked_day : ℕ → DayAnswer
unpacked_day x = parted day_from_parts x

day-opened : (a : DayAnswer) (c w n v r : ℕ) → packed (day_said a) ≡ box c w n v → w < 256 → n < 256 → v < 4294967296 → PacksDay a r
    → unpacked_day r ≡ day_from_parts (day_place a) w n v
unfolding unpacked_day
day-opened a c w n v r e hw hn hv h = ap (parted day_from_parts) (day-boxed a c w n v r e hw hv h) ∙ parts-back (day_place a) w n v hw hn hv day_from_parts

-- The answer is read back as it was, with its place: no two answers that fit have one packing.
pub day-unpacked : (a : DayAnswer) (r : ℕ) → PacksDay a r → Small (day_said a) → unpacked_day r ≡ a
day-unpacked (Day.Ok j) r h s = day-opened (Day.Ok j) 0 0 0 0 r refl (lit< tt) (lit< tt) (lit< tt) h
day-unpacked (Day.More j) r h s = day-opened (Day.More j) 0 1 0 0 r refl (lit< tt) (lit< tt) (lit< tt) h
day-unpacked (Day.Wait q j) r h s = day-opened (Day.Wait q j) 1 2 0 q r refl (lit< tt) (lit< tt) s h
day-unpacked (Day.Done n j) r h s = day-opened (Day.Done n j) 1 3 0 n r refl (lit< tt) (lit< tt) s h
day-unpacked (Day.Refused n k) r h s = day-opened (Day.Refused n k) 2 4 n k r refl (lit< tt) s.0 s.1 h

pub packed-day-once : (a b : DayAnswer) (r : ℕ) → PacksDay a r → PacksDay b r → Small (day_said a) → Small (day_said b) → a ≡ b
packed-day-once a b r h i s t = sym (day-unpacked a r h s) ∙ day-unpacked b r i t

-- The place alone.
pub day-place-read : (a : DayAnswer) (r : ℕ) → PacksDay a r → r / 281474976710656 ≡ day_place a
day-place-read a r h = ap (λ (k : ℕ). k / 281474976710656) h.is ∙ digits_div (day_place a) (mod-lt (packed (day_said a)) (lit< tt))

-- General lemmas: Booleans, tests of numbers, lists.
use Rattle.std.specs.Prelude.{◌≡◌, refl, Bool, true, false, not, ◌&&◌, ◌||◌, cond, List, [], ◌∷◌, ◌++◌, zero, suc, ◌≤◌, ◌<◌, ℕ, length, get_or, replicate}
use Rattle.std.proofs.Common.{subst, ap, arith}
use lib.Dec.{leb, eqb, leb→le, le→leb, nleb→lt, eqb→eq, eqb_refl}
use Rattle.serial.specs.Serial.{true≢false}

-- ---- Booleans

-- A fact of both branches.
pub either : {A : Type 0} (P : A → Type 0) (b : Bool) (x y : A) → P x → P y → P (cond b x y)
either P true x y p q = p
either P false x y p q = q

pub neither : (a b : Bool) → (a || b) ≡ false → (a ≡ false) × (b ≡ false)
neither true b e = absurd (true≢false refl e)
neither false b e = (refl, e)

pub both : (a b : Bool) → (a && b) ≡ true → (a ≡ true) × (b ≡ true)
both true b e = (refl, e)
both false b e = absurd (true≢false e refl)

pub not-both : (a b : Bool) → a ≡ true → (a && b) ≡ false → b ≡ false
not-both true b p e = e
not-both false b p e = absurd (true≢false p refl)

pub not-false : (a : Bool) → not a ≡ false → a ≡ true
not-false true e = refl
not-false false e = absurd (true≢false refl e)

-- ---- tests of numbers

so : (b : Bool) → lib.Dec.T b → b ≡ true
so true t = refl
so false t = absurd t

pub leb_yes : (x b : ℕ) → x ≤ b → leb x b ≡ true
leb_yes x b h = so (leb x b) (le→leb x b h)

pub leb_no : (x b : ℕ) → b < x → leb x b ≡ false
leb_no x b h = go (leb x b) refl
  where
    go : (c : Bool) → leb x b ≡ c → c ≡ false
    go true e = absurd (omega (arith, h, leb→le x b (rw e tt)))
    go false e = refl

pub eqb_yes : (m n : ℕ) → m ≡ n → eqb m n ≡ true
eqb_yes m n e = subst (λ k. eqb m k ≡ true) e (so (eqb m m) (eqb_refl m))

pub eqb_no : (m n : ℕ) → ¬ (m ≡ n) → eqb m n ≡ false
eqb_no m n h = go (eqb m n) refl
  where
    go : (c : Bool) → eqb m n ≡ c → c ≡ false
    go true e = absurd (h (eqb→eq m n (rw e tt)))
    go false e = refl

-- What a test tells.

pub leb-is : (m n : ℕ) → leb m n ≡ true → m ≤ n
leb-is m n e = leb→le m n (rw e tt)

pub leb-not : (m n : ℕ) → leb m n ≡ false → n < m
leb-not m n e = nleb→lt m n (rw e tt)

pub eqb_is : (m n : ℕ) → eqb m n ≡ true → m ≡ n
eqb_is m n e = eqb→eq m n (rw e tt)

pub eqb-not : (m n : ℕ) → eqb m n ≡ false → ¬ (m ≡ n)
eqb-not m n e q = true≢false (eqb_yes m n q) e

-- ---- lists

pub length-put : {X : Type 0} (d c : X) (A B : List X) → length (A ++ c ∷ B) ≡ length (A ++ d ∷ B)
length-put d c [] B = refl
length-put d c (a ∷ A) B = ap suc (length-put d c A B)

pub get-same : {A : Type 0} (n i : ℕ) (a : A) → get_or (replicate n a) i a ≡ a
get-same zero i a = refl
get-same (suc n) zero a = refl
get-same (suc n) (suc i) a = get-same n i a

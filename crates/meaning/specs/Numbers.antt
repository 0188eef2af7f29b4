-- Lists of record numbers: what all of one have, what is not in one, what stands in one only once, and how often.
use Rattle.std.specs.Prelude.{◌≡◌, refl, Bool, cond, List, [], ◌∷◌, ◌++◌, map, ◌⊎◌, ℕ, ◌+◌, ◌≤◌, eqb}
use Rattle.std.proofs.Common.{sym, ap, subst, inl, inr, arith, eq-eqb, ne_eqb}
use Rattle.std.proofs.Math.Decide.{ℕ_discrete}
pub use Rattle.serial.specs.Lists.{all_append, all-as}
use Rattle.machine.specs.Sound.{times}
use Rattle.meaning.specs.Sound.{All, Apart, Once}

-- ---- all of a list

module _ {A : Type 0} where
  pub all_left : (P : A → Type 0) (a b : List A) → All P (a ++ b) → All P a
  all_left P [] b p = tt
  all_left P (x ∷ a) b p = (p.0, all_left P a b p.1)

  pub all_right : (P : A → Type 0) (a b : List A) → All P (a ++ b) → All P b
  all_right P [] b p = p
  all_right P (x ∷ a) b p = all_right P a b p.1

  pub all_both : {P Q R : A → Type 0} → ((x : A) → P x → Q x → R x) → (l : List A) → All P l → All Q l → All R l
  all_both f [] p q = tt
  all_both f (x ∷ l) p q = (f x p.0 q.0, all_both f l p.1 q.1)

  pub all_of : {P : A → Type 0} → ((x : A) → P x) → (l : List A) → All P l
  all_of f [] = tt
  all_of f (x ∷ l) = (f x, all_of f l)

  pub all_map : {B : Type 0} (f : A → B) (P : B → Type 0) (l : List A) → All P (map f l) → All (λ x. P (f x)) l
  all_map f P [] p = tt
  all_map f P (x ∷ l) p = (p.0, all_map f P l p.1)

  pub map-all : {B : Type 0} (f : A → B) (P : B → Type 0) (l : List A) → All (λ x. P (f x)) l → All P (map f l)
  map-all f P [] p = tt
  map-all f P (x ∷ l) p = (p.0, map-all f P l p.1)

-- ---- membership

abbrev pub In : ℕ → List ℕ → Type 0
In j [] = ⊥
In j (i ∷ l) = (j ≡ i) ⊎ In j l

pub in? : (j : ℕ) (l : List ℕ) → In j l ⊎ Apart j l
in? j [] = inr tt
in? j (i ∷ l) = go (ℕ_discrete j i) (in? j l)
  where
    go : Dec (j ≡ i) → In j l ⊎ Apart j l → In j (i ∷ l) ⊎ Apart j (i ∷ l)
    go (yes e) o = inl (inl e)
    go (no n) (inl h) = inl (inr h)
    go (no n) (inr h) = inr (n, h)

pub not_in : (j : ℕ) (l : List ℕ) → Apart j l → In j l → ⊥
not_in j [] a x'' = elim x'' [ ]
not_in j (i ∷ l) a (inl e) = a.0 e
not_in j (i ∷ l) a (inr h) = not_in j l a.1 h

pub apart_from : (j : ℕ) (l : List ℕ) → (In j l → ⊥) → Apart j l
apart_from j [] n = tt
apart_from j (i ∷ l) n = (λ e. n (inl e), apart_from j l (λ h. n (inr h)))

pub all_in : (P : ℕ → Type 0) (l : List ℕ) → All P l → (j : ℕ) → In j l → P j
all_in P [] p j x'' = elim x'' [ ]
all_in P (i ∷ l) p j (inl e) = subst P (sym e) p.0
all_in P (i ∷ l) p j (inr h) = all_in P l p.1 j h

pub all_from : {P : ℕ → Type 0} (l : List ℕ) → ((j : ℕ) → In j l → P j) → All P l
all_from [] f = tt
all_from (i ∷ l) f = (f i (inl refl), all_from l (λ j h. f j (inr h)))

-- ---- not in a list

pub apart-all : (j : ℕ) (l : List ℕ) → Apart j l → All (λ i. j ≡ i → ⊥) l
apart-all j [] a = tt
apart-all j (i ∷ l) a = (a.0, apart-all j l a.1)

pub apart-append : (j : ℕ) (a b : List ℕ) → Apart j a → Apart j b → Apart j (a ++ b)
apart-append j [] b p q = q
apart-append j (i ∷ a) b p q = (p.0, apart-append j a b p.1 q)

pub apart-left : (j : ℕ) (a b : List ℕ) → Apart j (a ++ b) → Apart j a
apart-left j [] b p = tt
apart-left j (i ∷ a) b p = (p.0, apart-left j a b p.1)

pub apart-right : (j : ℕ) (a b : List ℕ) → Apart j (a ++ b) → Apart j b
apart-right j [] b p = p
apart-right j (i ∷ a) b p = apart-right j a b p.1

-- What stands in two parts of a list in which none stands twice.
pub once-apart : (a b : List ℕ) → Once (a ++ b) → (j : ℕ) → In j a → Apart j b
once-apart [] b p j x'' = elim x'' [ ]
once-apart (i ∷ a) b p j (inl e) = subst (λ x. Apart x b) (sym e) (apart-right i a b p.0)
once-apart (i ∷ a) b p j (inr h) = once-apart a b p.1 j h

-- What stands in a list only once, in the middle, is in neither part; without it none stands twice.
pub once-mid : (a : List ℕ) (e : ℕ) (b : List ℕ) → Once (a ++ e ∷ b) → Apart e (a ++ b)
once-mid [] e b o = o.0
once-mid (x ∷ a) e b o = (λ q. (apart-right x a (e ∷ b) o.0).0 (sym q), once-mid a e b o.1)

pub once-out : (a : List ℕ) (e : ℕ) (b : List ℕ) → Once (a ++ e ∷ b) → Once (a ++ b)
once-out [] e b o = o.1
once-out (x ∷ a) e b o = (apart-append x a b (apart-left x a (e ∷ b) o.0) (apart-right x a (e ∷ b) o.0).1, once-out a e b o.1)

-- ---- how often a number stands in a list

pub times-append : (k : ℕ) (a b : List ℕ) → times k (a ++ b) ≡ times k a + times k b
times-append k [] b = omega arith
times-append k (i ∷ a) b = omega (arith, times-append k a b)

pub one-is : (x k : ℕ) → x ≡ k → ◌≡◌ {A = ℕ} (cond (eqb x k) 1 0) 1
one-is x k e = ap (λ (b : Bool). cond {A = ℕ} b 1 0) (eq-eqb x k e)

pub one-not : (x k : ℕ) → (x ≡ k → ⊥) → ◌≡◌ {A = ℕ} (cond (eqb x k) 1 0) 0
one-not x k n = ap (λ (b : Bool). cond {A = ℕ} b 1 0) (ne_eqb x k n)

pub times-apart : (k : ℕ) (l : List ℕ) → Apart k l → times k l ≡ 0
times-apart k [] a = refl
times-apart k (i ∷ l) a = omega (arith, one-not i k (λ e. a.0 (sym e)), times-apart k l a.1)

pub times-in : (k : ℕ) (l : List ℕ) → In k l → 1 ≤ times k l
times-in k [] x' = elim x' [ ]
times-in k (i ∷ l) (inl e) = omega (arith, one-is i k (sym e))
times-in k (i ∷ l) (inr h) = omega (arith, times-in k l h)

pub apart-times : (k : ℕ) (l : List ℕ) → times k l ≡ 0 → Apart k l
apart-times k l e = apart_from k l (λ i. omega (arith, e, times-in k l i))

pub in-times : (k : ℕ) (l : List ℕ) → 1 ≤ times k l → In k l
in-times k l h = go (in? k l)
  where
    go : In k l ⊎ Apart k l → In k l
    go (inl i) = i
    go (inr a) = absurd (omega (arith, h, times-apart k l a))

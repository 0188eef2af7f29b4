-- The place of a member in a rising list: how many members stand before it. Put in or taken out there, the list is the set with or without it.
use Rattle.std.specs.Prelude.{◌≡◌, get_or}
use Rattle.std.proofs.Math.Path.{refl, sym, ap}
use Rattle.std.proofs.Common.{subst, ◌∙◌}
use mathlib.Core.List.{List, [], ◌∷◌}
use Prim.Native.Nat.{ℕ, zero, suc, ◌≤◌, ◌<◌}
use native.Mathlib.Omega.{arith}
use Rattle.std.proofs.Math.ListN.{length}
use Rattle.serial.specs.Serial.{pick, pick_yes, pick_no}
use Rattle.serial.specs.Rising.{Order, Tri, less, equal, greater, tri_dec, same?, has, ins, del, Above, Rising, has-ins, has-ins-other, has-del, has-del-other, rising-ins, rising-del, rising-ext}
use Rattle.serial.specs.Rising as rising
use Rattle.reshaping.specs.Live.{insert_at, remove_at}

module _ (𝓞 : Order) where
  open 𝓞 use {A, Lt, tri, irrefl, trans}

  abbrev rank_at : {x y : A} → Tri Lt x y → ℕ → ℕ
  rank_at (less h) n = 0
  rank_at (equal e) n = 0
  rank_at (greater h) n = suc n

  -- How many of the first members stand before x.
  unfoldable pub rank : A → List A → ℕ
  rank x [] = 0
  rank x (y ∷ l) = rank_at (tri x y) (rank x l)

  pub rank-past : (x y : A) (l : List A) → Lt y x → rank x (y ∷ l) ≡ suc (rank x l)
  unfolding rank
  rank-past x y l h = go (tri x y)
    where
      go : (t : Tri Lt x y) → rank_at t (rank x l) ≡ suc (rank x l)
      go (less q) = absurd (irrefl x (trans x y x q h))
      go (equal q) = absurd (irrefl y (subst (Lt y) q h))
      go (greater q) = refl

  pub rank-here : (x y : A) (l : List A) → ¬ (Lt y x) → rank x (y ∷ l) ≡ 0
  unfolding rank
  rank-here x y l n = go (tri x y)
    where
      go : (t : Tri Lt x y) → rank_at t (rank x l) ≡ 0
      go (less q) = refl
      go (equal q) = refl
      go (greater q) = absurd (n q)

  pub rank-none : (x : A) → rank x [] ≡ 0
  unfolding rank
  rank-none x = refl

  pub rank-le : (x : A) (l : List A) → rank x l ≤ length l
  unfolding rank
  rank-le x [] = omega arith
  rank-le x (y ∷ l) = go (tri x y) (rank-le x l)
    where
      go : (t : Tri Lt x y) → rank x l ≤ length l → rank_at t (rank x l) ≤ suc (length l)
      go (less q) ih = omega arith
      go (equal q) ih = omega arith
      go (greater q) ih = omega arith

  has_above : (x y : A) (l : List A) → Lt x y → Above 𝓞 y l → has 𝓞 x l ≡ 0
  has_above x y [] h a = refl
  has_above x y (z ∷ l) h a =
      let q : Lt x z = trans x y z h a.0 in
      pick_no (same? 𝓞 x z) 1 (has 𝓞 x l) (λ e. irrefl z (subst (λ w. Lt w z) e q)) ∙ has_above x y l h a.1

  has-below : (x : A) (l : List A) → Above 𝓞 x l → has 𝓞 x l ≡ 0
  has-below x [] a = refl
  has-below x (y ∷ l) a = pick_no (same? 𝓞 x y) 1 (has 𝓞 x l) (λ e. irrefl y (subst (λ w. Lt w y) e a.0)) ∙ has-below x l a.1

  -- ---- what stands there tells whether x is a member

  pub has-at : (x d : A) (l : List A) (i : ℕ) → i < length l → get_or l i d ≡ x → has 𝓞 x l ≡ 1
  has-at x d [] i h e = absurd (omega arith)
  has-at x d (y ∷ l) zero h e = pick_yes (same? 𝓞 x y) 1 (has 𝓞 x l) (sym e)
  has-at x d (y ∷ l) (suc i) h e = go (same? 𝓞 x y) (has-at x d l i (omega arith) e)
    where
      go : (t : Dec (x ≡ y)) → has 𝓞 x l ≡ 1 → pick t 1 (has 𝓞 x l) ≡ 1
      go (yes q) ih = refl
      go (no q) ih = ih

  pub rank-has : (x d : A) (l : List A) → Rising 𝓞 l → has 𝓞 x l ≡ 1 → (rank x l < length l) × (get_or l (rank x l) d ≡ x)
  unfolding rank
  rank-has x d [] r h = absurd (omega arith)
  rank-has x d (y ∷ l) r h = go (tri x y) (rank-has x d l r.1) h
    where
      go : (t : Tri Lt x y) → (has 𝓞 x l ≡ 1 → (rank x l < length l) × (get_or l (rank x l) d ≡ x)) → pick (tri_dec 𝓞 t) 1 (has 𝓞 x l) ≡ 1
          → (rank_at t (rank x l) < suc (length l)) × (get_or (y ∷ l) (rank_at t (rank x l)) d ≡ x)
      go (less q) ih g = absurd (omega (arith, g, has_above x y l q r.0))
      go (equal q) ih g = (omega arith, sym q)
      go (greater q) ih g = (omega (arith, (ih g).0), (ih g).1)

  -- ---- put in

  pub ins-new : (x : A) (l : List A) → has 𝓞 x l ≡ 0 → ins 𝓞 x l ≡ insert_at l (rank x l) x
  unfolding rank
  ins-new x [] h = refl
  ins-new x (y ∷ l) h = go (tri x y) (ins-new x l) h
    where
      go : (t : Tri Lt x y) → (has 𝓞 x l ≡ 0 → ins 𝓞 x l ≡ insert_at l (rank x l) x) → pick (tri_dec 𝓞 t) 1 (has 𝓞 x l) ≡ 0
          → rising.place 𝓞 t l (ins 𝓞 x l) ≡ insert_at (y ∷ l) (rank_at t (rank x l)) x
      go (less q) ih g = refl
      go (equal q) ih g = absurd (omega arith)
      go (greater q) ih g = ap (λ m. y ∷ m) (ih g)

  pub ins-old : (x : A) (l : List A) → Rising 𝓞 l → has 𝓞 x l ≡ 1 → ins 𝓞 x l ≡ l
  ins-old x l r h = rising-ext 𝓞 (ins 𝓞 x l) l (rising-ins 𝓞 x l r) r (λ z. at z (same? 𝓞 z x))
    where
      at : (z : A) → Dec (z ≡ x) → has 𝓞 z (ins 𝓞 x l) ≡ has 𝓞 z l
      at z (yes e) = subst (λ w. has 𝓞 w (ins 𝓞 x l) ≡ has 𝓞 w l) (sym e) (has-ins 𝓞 x l ∙ sym h)
      at z (no n) = has-ins-other 𝓞 x z l n

  -- ---- taken out

  pub del-none : (x : A) (l : List A) → Rising 𝓞 l → has 𝓞 x l ≡ 0 → del 𝓞 x l ≡ l
  del-none x l r h = rising-ext 𝓞 (del 𝓞 x l) l (rising-del 𝓞 x l r) r (λ z. at z (same? 𝓞 z x))
    where
      at : (z : A) → Dec (z ≡ x) → has 𝓞 z (del 𝓞 x l) ≡ has 𝓞 z l
      at z (yes e) = subst (λ w. has 𝓞 w (del 𝓞 x l) ≡ has 𝓞 w l) (sym e) (has-del 𝓞 x l ∙ sym h)
      at z (no n) = has-del-other 𝓞 x z l n

  pub del-one : (x : A) (l : List A) → Rising 𝓞 l → has 𝓞 x l ≡ 1 → del 𝓞 x l ≡ remove_at l (rank x l)
  unfolding rank
  del-one x [] r h = refl
  del-one x (y ∷ l) r h = go (tri x y) (del-one x l r.1) h
    where
      go : (t : Tri Lt x y) → (has 𝓞 x l ≡ 1 → del 𝓞 x l ≡ remove_at l (rank x l)) → pick (tri_dec 𝓞 t) 1 (has 𝓞 x l) ≡ 1
          → pick (tri_dec 𝓞 t) (del 𝓞 x l) (y ∷ del 𝓞 x l) ≡ remove_at (y ∷ l) (rank_at t (rank x l))
      go (less q) ih g = absurd (omega (arith, g, has_above x y l q r.0))
      go (equal q) ih g = del-none x l r.1 (has-below x l (subst (λ w. Above 𝓞 w l) (sym q) r.0))
      go (greater q) ih g = ap (λ m. y ∷ m) (ih g)

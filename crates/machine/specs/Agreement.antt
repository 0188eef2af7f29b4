-- A lock granted when nobody is in the way keeps the holders in agreement.
use Rattle.std.specs.Prelude.{◌≡◌, refl, true, ◌⊎◌, ℕ}
use Rattle.std.proofs.Common.{sym, ◌∙◌, subst, inl, inr}
use Rattle.std.proofs.Math.Decide.{ℕ_discrete}
use Rattle.serial.specs.Locks.{Kind, Mode, weak, strong, Holds, Agree}
use Rattle.serial.specs.Locks as L
use Rattle.machine.specs.Steps.{rule}

pub rule-symmetric : (k : Kind) (m n : Mode) → rule k m n ≡ rule k n m
rule-symmetric L.entry weak weak = refl
rule-symmetric L.entry weak strong = refl
rule-symmetric L.entry strong weak = refl
rule-symmetric L.entry strong strong = refl
rule-symmetric L.group weak weak = refl
rule-symmetric L.group weak strong = refl
rule-symmetric L.group strong weak = refl
rule-symmetric L.group strong strong = refl

-- Holders grow by session p in mode m, at the places Z of kind k, where no other session holds in conflict.
pub record Grown (H G : Holds) (p : ℕ) (k : Kind) (m : Mode) (Z : ℕ → Type 0) : Type 0 where
  pub old : (l : Kind) (n : Mode) (q z : ℕ) → H l n q z ≡ true → G l n q z ≡ true
  pub new : (l : Kind) (n : Mode) (q z : ℕ) → G l n q z ≡ true → (H l n q z ≡ true) ⊎ ((p ≡ q) × (k ≡ l) × (m ≡ n) × Z z)
  pub clear : (n : Mode) (q z : ℕ) → Z z → ¬ (p ≡ q) → H k n q z ≡ true → rule k n m ≡ true

pub grown-agree : (H G : Holds) (p : ℕ) (k : Kind) (m : Mode) (Z : ℕ → Type 0) → Grown H G p k m Z → Agree rule H → Agree rule G
grown-agree H G p k m Z g a l n o s t x hs ht = go (g.new l n s x hs) (g.new l o t x ht)
  where
    at : (i : Kind) (j : Mode) → k ≡ i → m ≡ j → (u : Mode) (q : ℕ) → H i u q x ≡ true → Z x → ¬ (p ≡ q) → rule i u j ≡ true
    at i j e f u q h z ne = subst (λ y. rule y u j ≡ true) e (subst (λ y. rule k u y ≡ true) f (g.clear u q x z ne (subst (λ y. H y u q x ≡ true) (sym e) h)))

    apart : (i : Kind) (j : Mode) → k ≡ i → m ≡ j → (u : Mode) (q : ℕ) → H i u q x ≡ true → Z x → Dec (p ≡ q) → (p ≡ q) ⊎ (rule i u j ≡ true)
    apart i j e f u q h z (yes w) = inl w
    apart i j e f u q h z (no w) = inr (at i j e f u q h z w)

    left : {A B : Type 0} {C D : Type 0} → (A → C) → (B → D) → A ⊎ B → C ⊎ D
    left f h (inl y) = inl (f y)
    left f h (inr y) = inr (h y)

    go : (H l n s x ≡ true) ⊎ ((p ≡ s) × (k ≡ l) × (m ≡ n) × Z x) → (H l o t x ≡ true) ⊎ ((p ≡ t) × (k ≡ l) × (m ≡ o) × Z x) → (s ≡ t) ⊎ (rule l n o ≡ true)
    go (inl h) (inl i) = a l n o s t x h i
    go (inl h) (inr w) = left (λ e. sym e ∙ w.0) (λ e. e) (apart l o w.1 w.2 n s h w.3 (ℕ_discrete p s))
    go (inr w) (inl i) = left (λ e. sym w.0 ∙ e) (λ e. rule-symmetric l n o ∙ e) (apart l n w.1 w.2 o t i w.3 (ℕ_discrete p t))
    go (inr w) (inr v) = inl (sym w.0 ∙ v.0)

-- The long locks of groups as descriptors and gaps hold them: what each key's holders are, and that making and tidying descriptors change nothing.
use Rattle.std.specs.Prelude.{◌≡◌, refl, List, [], ◌∷◌, ◌⊎◌, ◌≤◌, ◌<◌, ℕ}
use Rattle.std.proofs.Common.{sym, ◌∙◌, ap, inl, inr, arith}
use Rattle.serial.specs.Rising.{Tri, less, equal, greater}
use Rattle.serial.specs.Model.{ℕ-tri}

-- Holders are words.
pub record Desc : Type 0 where
  pub key : ℕ
  pub locate : ℕ
  pub update : ℕ
  pub gap : ℕ

abbrev pub by_tri : {A : Type 0} {m n : ℕ} → Tri ◌<◌ m n → A → A → A → A
by_tri (less h) a b c = a
by_tri (equal h) a b c = b
by_tri (greater h) a b c = c

pub at_less : {A : Type 0} {m n : ℕ} (t : Tri ◌<◌ m n) (a b c : A) → m < n → by_tri t a b c ≡ a
at_less (less h) a b c q = refl
at_less (equal h) a b c q = absurd (omega arith)
at_less (greater h) a b c q = absurd (omega arith)

pub at-equal : {A : Type 0} {m n : ℕ} (t : Tri ◌<◌ m n) (a b c : A) → m ≡ n → by_tri t a b c ≡ b
at-equal (less h) a b c q = absurd (omega arith)
at-equal (equal h) a b c q = refl
at-equal (greater h) a b c q = absurd (omega arith)

pub at_greater : {A : Type 0} {m n : ℕ} (t : Tri ◌<◌ m n) (a b c : A) → n < m → by_tri t a b c ≡ c
at_greater (less h) a b c q = absurd (omega arith)
at_greater (equal h) a b c q = absurd (omega arith)
at_greater (greater h) a b c q = refl

pub by-tri-const : {A : Type 0} {m n : ℕ} (t : Tri ◌<◌ m n) (a : A) → by_tri t a a a ≡ a
by-tri-const (less h) a = refl
by-tri-const (equal h) a = refl
by-tri-const (greater h) a = refl

-- The word that holds key k in locate mode: its descriptor's, or the gap's that it lies in. g is the gap before the list.
abbrev pub locators : ℕ → List Desc → ℕ → ℕ
locators g [] k = g
locators g (x ∷ l) k = by_tri (ℕ-tri k x.key) g x.locate (locators x.gap l k)

abbrev pub updaters : List Desc → ℕ → ℕ
updaters [] k = 0
updaters (x ∷ l) k = by_tri (ℕ-tri k x.key) 0 x.update (updaters l k)

-- The word of the gap that begins at or before key k and reaches beyond it.
abbrev pub gaps : ℕ → List Desc → ℕ → ℕ
gaps g [] k = g
gaps g (x ∷ l) k = by_tri (ℕ-tri k x.key) g x.gap (gaps x.gap l k)

-- These three are one reading: α of the key's own descriptor, or γ of the gap that the key lies in.
abbrev pub reads : (Desc → ℕ) → (ℕ → ℕ) → ℕ → List Desc → ℕ → ℕ
reads α γ g [] k = γ g
reads α γ g (x ∷ l) k = by_tri (ℕ-tri k x.key) (γ g) (α x) (reads α γ x.gap l k)

pub reads-locate : (g : ℕ) (l : List Desc) (k : ℕ) → locators g l k ≡ reads (λ x. x.locate) (λ w. w) g l k
reads-locate g [] k = refl
reads-locate g (x ∷ l) k = ap (λ w. by_tri (ℕ-tri k x.key) g x.locate w) (reads-locate x.gap l k)

pub reads-update : (g : ℕ) (l : List Desc) (k : ℕ) → updaters l k ≡ reads (λ x. x.update) (λ w. 0) g l k
reads-update g [] k = refl
reads-update g (x ∷ l) k = ap (λ w. by_tri (ℕ-tri k x.key) 0 x.update w) (reads-update x.gap l k)

pub reads-gap : (g : ℕ) (l : List Desc) (k : ℕ) → gaps g l k ≡ reads (λ x. x.gap) (λ w. w) g l k
reads-gap g [] k = refl
reads-gap g (x ∷ l) k = ap (λ w. by_tri (ℕ-tri k x.key) g x.gap w) (reads-gap x.gap l k)

-- A descriptor newly made in a gap takes the gap's holders, as both.
abbrev pub new : ℕ → ℕ → Desc
new g k = record { key = k; locate = g; update = 0; gap = g }

abbrev pub made : ℕ → ℕ → List Desc → List Desc
made g k [] = new g k ∷ []
made g k (x ∷ l) = by_tri (ℕ-tri k x.key) (new g k ∷ (x ∷ l)) (x ∷ l) (x ∷ made x.gap k l)

module _ (α : Desc → ℕ) (γ : ℕ → ℕ) where
  made_reads : ((g k : ℕ) → α (new g k) ≡ γ g) → (g k : ℕ) (l : List Desc) (j : ℕ) → reads α γ g (made g k l) j ≡ reads α γ g l j
  made_reads n g k [] j = ap (λ w. by_tri (ℕ-tri j k) (γ g) w (γ g)) (n g k) ∙ by-tri-const (ℕ-tri j k) (γ g)
  made_reads n g k (x ∷ l) j = go (ℕ-tri k x.key) (made_reads n x.gap k l j)
    where
      inner : (t : Tri ◌<◌ j k) → k < x.key → by_tri t (γ g) (α (new g k)) (reads α γ g (x ∷ l) j) ≡ reads α γ g (x ∷ l) j
      inner (less h) q = sym (at_less (ℕ-tri j x.key) (γ g) (α x) (reads α γ x.gap l j) (omega arith))
      inner (equal h) q = n g k ∙ sym (at_less (ℕ-tri j x.key) (γ g) (α x) (reads α γ x.gap l j) (omega arith))
      inner (greater h) q = refl

      go : (t : Tri ◌<◌ k x.key) → reads α γ x.gap (made x.gap k l) j ≡ reads α γ x.gap l j
          → reads α γ g (by_tri t (new g k ∷ (x ∷ l)) (x ∷ l) (x ∷ made x.gap k l)) j ≡ reads α γ g (x ∷ l) j
      go (less h) ih = inner (ℕ-tri j k) h
      go (equal h) ih = refl
      go (greater h) ih = ap (λ w. by_tri (ℕ-tri j x.key) (γ g) (α x) w) ih

pub made-locators : (g k : ℕ) (l : List Desc) (j : ℕ) → locators g (made g k l) j ≡ locators g l j
made-locators g k l j = reads-locate g (made g k l) j ∙ made_reads (λ x. x.locate) (λ w. w) (λ h i. refl) g k l j ∙ sym (reads-locate g l j)

pub made-updaters : (g k : ℕ) (l : List Desc) (j : ℕ) → updaters (made g k l) j ≡ updaters l j
made-updaters g k l j = reads-update g (made g k l) j ∙ made_reads (λ x. x.update) (λ w. 0) (λ h i. refl) g k l j ∙ sym (reads-update g l j)

pub made-gaps : (g k : ℕ) (l : List Desc) (j : ℕ) → gaps g (made g k l) j ≡ gaps g l j
made-gaps g k l j = reads-gap g (made g k l) j ∙ made_reads (λ x. x.gap) (λ w. w) (λ h i. refl) g k l j ∙ sym (reads-gap g l j)

-- Tidy: the descriptor of k is removed if nobody updates it, and its locate and gap holders both equal the gap's before it.
abbrev pub dropped : ℕ → List Desc → List Desc
dropped k [] = []
dropped k (x ∷ l) = by_tri (ℕ-tri k x.key) (x ∷ l) l (x ∷ dropped k l)

pub record Removable (g : ℕ) (x : Desc) : Type 0 where
  pub no_update : x.update ≡ 0
  pub same_locate : x.locate ≡ g
  pub same_gap : x.gap ≡ g

abbrev pub TidyAt : {m n : ℕ} → Tri ◌<◌ m n → Type 0 → Type 0 → Type 0
TidyAt (less h) A B = Unit {0}
TidyAt (equal h) A B = A
TidyAt (greater h) A B = B

abbrev pub Tidy : ℕ → ℕ → List Desc → Type 0
Tidy g k [] = Unit {0}
Tidy g k (x ∷ l) = TidyAt (ℕ-tri k x.key) (Removable g x) (Tidy x.gap k l)

abbrev pub AboveKey : ℕ → List Desc → Type 0
AboveKey m [] = Unit {0}
AboveKey m (x ∷ l) = (m < x.key) × AboveKey m l

abbrev pub RisingKeys : List Desc → Type 0
RisingKeys [] = Unit {0}
RisingKeys (x ∷ l) = AboveKey x.key l × RisingKeys l

module _ (α : Desc → ℕ) (γ : ℕ → ℕ) where
  reads_before : (g m : ℕ) (l : List Desc) → AboveKey m l → (j : ℕ) → j ≤ m → reads α γ g l j ≡ γ g
  reads_before g m [] a j q = refl
  reads_before g m (x ∷ l) a j q = let h = a.0 in at_less (ℕ-tri j x.key) (γ g) (α x) (reads α γ x.gap l j) (omega arith)

  dropped-reads : ((g : ℕ) (x : Desc) → Removable g x → α x ≡ γ g) → (g k : ℕ) (l : List Desc) → RisingKeys l → Tidy g k l → (j : ℕ) → reads α γ g (dropped k l) j ≡ reads α γ g l j
  dropped-reads n g k [] r t j = refl
  dropped-reads n g k (x ∷ l) r t j = go (ℕ-tri k x.key) t (λ u. dropped-reads n x.gap k l r.1 u j)
    where
      inner : Removable g x → (u : Tri ◌<◌ j x.key) → reads α γ g l j ≡ by_tri u (γ g) (α x) (reads α γ x.gap l j)
      inner q (less h) = reads_before g x.key l r.0 j (omega arith)
      inner q (equal h) = reads_before g x.key l r.0 j (omega arith) ∙ sym (n g x q)
      inner q (greater h) = ap (λ w. reads α γ w l j) (sym q.same_gap)

      go : (u : Tri ◌<◌ k x.key) → TidyAt u (Removable g x) (Tidy x.gap k l) → (Tidy x.gap k l → reads α γ x.gap (dropped k l) j ≡ reads α γ x.gap l j)
          → reads α γ g (by_tri u (x ∷ l) l (x ∷ dropped k l)) j ≡ reads α γ g (x ∷ l) j
      go (less h) q ih = refl
      go (equal h) q ih = inner q (ℕ-tri j x.key)
      go (greater h) q ih = ap (λ w. by_tri (ℕ-tri j x.key) (γ g) (α x) w) (ih q)

pub dropped-locators : (g k : ℕ) (l : List Desc) → RisingKeys l → Tidy g k l → (j : ℕ) → locators g (dropped k l) j ≡ locators g l j
dropped-locators g k l r t j = reads-locate g (dropped k l) j ∙ dropped-reads (λ x. x.locate) (λ w. w) (λ h x q. q.same_locate) g k l r t j ∙ sym (reads-locate g l j)

pub dropped-updaters : (g k : ℕ) (l : List Desc) → RisingKeys l → Tidy g k l → (j : ℕ) → updaters (dropped k l) j ≡ updaters l j
dropped-updaters g k l r t j = reads-update g (dropped k l) j ∙ dropped-reads (λ x. x.update) (λ w. 0) (λ h x q. q.no_update) g k l r t j ∙ sym (reads-update g l j)

pub dropped-gaps : (g k : ℕ) (l : List Desc) → RisingKeys l → Tidy g k l → (j : ℕ) → gaps g (dropped k l) j ≡ gaps g l j
dropped-gaps g k l r t j = reads-gap g (dropped k l) j ∙ dropped-reads (λ x. x.gap) (λ w. w) (λ h x q. q.same_gap) g k l r t j ∙ sym (reads-gap g l j)

abbrev pub Stored : ℕ → List Desc → Type 0
Stored k [] = ⊥
Stored k (x ∷ l) = (k ≡ x.key) ⊎ Stored k l

-- A key with nothing stored from m up to it is held by the gap at m.
pub locators-gap : (g m : ℕ) (l : List Desc) → RisingKeys l → (j : ℕ) → m < j → ((y : ℕ) → Stored y l → m < y → y ≤ j → ⊥) → locators g l j ≡ gaps g l m
locators-gap g m [] r j q n = refl
locators-gap g m (x ∷ l) r j q n = go (ℕ-tri m x.key) (ℕ-tri j x.key) (locators-gap x.gap m l r.1 j q (λ y s. n y (inr s)))
  where
    go : (t : Tri ◌<◌ m x.key) (u : Tri ◌<◌ j x.key) → locators x.gap l j ≡ gaps x.gap l m
        → by_tri u g x.locate (locators x.gap l j) ≡ by_tri t g x.gap (gaps x.gap l m)
    go (less h) (less k) ih = refl
    go (less h) (equal k) ih = absurd (n x.key (inl refl) h (omega arith))
    go (less h) (greater k) ih = absurd (n x.key (inl refl) h (omega arith))
    go (equal h) (less k) ih = absurd (omega arith)
    go (equal h) (equal k) ih = absurd (omega arith)
    go (equal h) (greater k) ih = ih ∙ reads-gap x.gap l m ∙ reads_before (λ y. y.gap) (λ w. w) x.gap x.key l r.0 m (omega arith)
    go (greater h) (less k) ih = absurd (omega arith)
    go (greater h) (equal k) ih = absurd (omega arith)
    go (greater h) (greater k) ih = ih

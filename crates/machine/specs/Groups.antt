-- A descriptor made in its gap, or removed by tidy's rule, changes no key's holders and no group.
use Rattle.std.specs.Prelude.{◌≡◌, refl, Bool, true, false, cond, List, [], ◌∷◌, ◌++◌, map, zero, suc, ◌≤◌, ◌<◌, ℕ, eqb}
use Rattle.std.proofs.Common.{ap₂, sym, ◌∙◌, ap, arith}
use Rattle.std.proofs.lemmas.List.{map-append}
use Rattle.serial.specs.Rising.{Tri, less, equal, greater}
use Rattle.serial.specs.Model.{ℕ-tri}
use Rattle.machine.specs.Logic.{leb_yes, leb_no, eqb_no, eqb_is}
use Rattle.machine.specs.Tree.{flat, Seg, leaves}
use Rattle.machine.specs.State.{Tree, gap_below, Desc}
use Rattle.machine.specs.Steps.{made}
use Rattle.machine.specs.Gaps.{at_less, at-equal, at_greater, dropped, Tidy, Removable, RisingKeys, AboveKey}
use Rattle.machine.specs.Gaps as G
use Rattle.machine.specs.View.{plain, plains, holder_words, group_in}
use Rattle.machine.specs.Keeps.{under, flat-same}
use Rattle.machine.specs.Order.{Ord, in-wide, ord-le, seg-le, In, lv}

abbrev pub words : List Desc → List G.Desc
words l = map holder_words l

-- ---- making

pub made-words : (g x from upto : ℕ) (C D : List Desc) → In from x C → In (suc x) upto D
    → G.made g x (words (C ++ D)) ≡ words (C ++ made x (gap_below x g (C ++ D)) ∷ D)
unfolding gap_below
made-words g x from upto [] [] p q = refl
made-words g x from upto [] (e ∷ D) p q = rw (leb_no (suc e.key) x (omega (arith, q.0.0)))
    (at_less (ℕ-tri x e.key) (G.new g x ∷ words (e ∷ D)) (words (e ∷ D)) (holder_words e ∷ G.made e.gap x (words D)) (omega (arith, q.0.0)))
made-words g x from upto (c ∷ C) D p q = rw (leb_yes (suc c.key) x p.0.1)
    (at_greater (ℕ-tri x c.key) (G.new g x ∷ words (c ∷ C ++ D)) (words (c ∷ C ++ D)) (holder_words c ∷ G.made c.gap x (words (C ++ D))) p.0.1
    ∙ ap (λ l. holder_words c ∷ l) (made-words c.gap x from upto C D p.1 q))

pub group-none : (x upto : ℕ) (D : List Desc) → In (suc x) upto D → group_in x D ≡ []
unfolding group_in
group-none x upto [] q = refl
group-none x upto (d ∷ D) q = rw (eqb_no d.key x (λ e. omega (arith, e, q.0.0))) (group-none x upto D q.1)

-- An empty group may be listed or not.
pub group_empty : (x from upto : ℕ) (n : Desc) → n.key ≡ x → n.members ≡ [] → (C D : List Desc) → In from x C → In (suc x) upto D
    → (j : ℕ) → group_in j (C ++ n ∷ D) ≡ group_in j (C ++ D)
unfolding group_in
group_empty x from upto n k m [] D p q j = go (eqb n.key j) refl
  where
    go : (c : Bool) → eqb n.key j ≡ c → cond c n.members (group_in j D) ≡ group_in j D
    go true e = m ∙ sym (ap (λ z. group_in z D) (sym (eqb_is n.key j e) ∙ k) ∙ group-none x upto D q)
    go false e = refl
group_empty x from upto n k m (c ∷ C) D p q j = ap (λ l. cond (eqb c.key j) c.members l) (group_empty x from upto n k m C D p.1 q j)

-- ---- removing

pub dropped-words : (x from upto : ℕ) (d : Desc) → d.key ≡ x → (C D : List Desc) → In from x C → dropped x (words (C ++ d ∷ D)) ≡ words (C ++ D)
dropped-words x from upto d k [] D p = at-equal (ℕ-tri x d.key) (words (d ∷ D)) (words D) (holder_words d ∷ dropped x (words D)) (sym k)
dropped-words x from upto d k (c ∷ C) D p =
    at_greater (ℕ-tri x c.key) (words (c ∷ C ++ d ∷ D)) (words (C ++ d ∷ D)) (holder_words c ∷ dropped x (words (C ++ d ∷ D))) p.0.1
    ∙ ap (λ l. holder_words c ∷ l) (dropped-words x from upto d k C D p.1)

tidy-equal : {m n : ℕ} (t : Tri ◌<◌ m n) (A B : Type 0) → m ≡ n → A → G.TidyAt t A B
tidy-equal (less h) A B e a = tt
tidy-equal (equal h) A B e a = a
tidy-equal (greater h) A B e a = absurd (omega (arith, h, e))

tidy-greater : {m n : ℕ} (t : Tri ◌<◌ m n) (A B : Type 0) → n < m → B → G.TidyAt t A B
tidy-greater (less h) A B e b = tt
tidy-greater (equal h) A B e b = absurd (omega (arith, h, e))
tidy-greater (greater h) A B e b = b

pub tidy-words : (g x from upto : ℕ) (d : Desc) → d.key ≡ x → (C D : List Desc) → In from x C
    → d.update ≡ 0 → d.locate ≡ gap_below x g (C ++ d ∷ D) → d.gap ≡ gap_below x g (C ++ d ∷ D) → Tidy g x (words (C ++ d ∷ D))
unfolding gap_below
tidy-words g x from upto d k [] D p u l w =
    let z : gap_below x g (d ∷ D) ≡ g = rw (leb_no (suc d.key) x (omega (arith, k))) refl in
    tidy-equal (ℕ-tri x d.key) (Removable g (holder_words d)) (Tidy d.gap x (words D)) (sym k)
    (record { no_update = u; same_locate = l ∙ z; same_gap = w ∙ z })
tidy-words g x from upto d k (c ∷ C) D p u l w =
    let z : gap_below x g (c ∷ C ++ d ∷ D) ≡ gap_below x c.gap (C ++ d ∷ D) = rw (leb_yes (suc c.key) x p.0.1) refl in
    tidy-greater (ℕ-tri x c.key) (Removable g (holder_words c)) (Tidy c.gap x (words (C ++ d ∷ D))) p.0.1
    (tidy-words c.gap x from upto d k C D p.1 u (l ∙ z) (w ∙ z))

-- ---- keys rise

above-words : (k e : ℕ) (l : List Desc) → In (suc k) e l → AboveKey k (words l)
above-words k e [] p = tt
above-words k e (d ∷ l) p = (omega (arith, p.0.0), above-words k e l p.1)

abbrev pub Rises : ℕ → ℕ → List Desc → Type 0
Rises lo e [] = Unit {0}
Rises lo e (d ∷ l) = ((lo ≤ d.key) × (d.key < e)) × Rises (suc d.key) e l

pub rises-in : (lo e : ℕ) (l : List Desc) → Rises lo e l → In lo e l
rises-in lo e [] r = tt
rises-in lo e (d ∷ l) r = (r.0, in-wide (suc d.key) e lo e l (rises-in (suc d.key) e l r.1) (omega (arith, r.0.0)) (omega arith))

pub rises-wide : (lo e lo' e' : ℕ) (l : List Desc) → Rises lo e l → lo' ≤ lo → e ≤ e' → Rises lo' e' l
rises-wide lo e lo' e' [] r a b = tt
rises-wide lo e lo' e' (d ∷ l) r a b = ((omega (arith, r.0.0), omega (arith, r.0.1)), rises-wide (suc d.key) e (suc d.key) e' l r.1 (omega arith) b)

pub rises-append : (lo m e : ℕ) (a b : List Desc) → Rises lo m a → Rises m e b → m ≤ e → lo ≤ m → Rises lo e (a ++ b)
rises-append lo m e [] b r q w v = rises-wide m e lo e b q v (omega arith)
rises-append lo m e (d ∷ a) b r q w v = ((r.0.0, omega (arith, r.0.1)), rises-append (suc d.key) m e a b r.1 q w (omega (arith, r.0.1)))

seg-rises : {A : Type 0} (Q : ℕ → ℕ → A → Type 0) (g : A → List Desc) → ((lo u : ℕ) (a : A) → Q lo u a → lo ≤ suc u) → ((lo u : ℕ) (a : A) → Q lo u a → Rises lo (suc u) (g a))
    → (lo e : ℕ) (es : List (A × ℕ)) → Seg Q lo e es → Rises lo e (flat g es)
seg-rises Q g f k lo e [] s = tt
seg-rises Q g f k lo e (p ∷ es) s =
    rises-append lo (suc p.1) e (g p.0) (flat g es) (k lo p.1 p.0 s.0) (seg-rises Q g f k (suc p.1) e es s.1) (seg-le Q f (suc p.1) e es s.1) (f lo p.1 p.0 s.0)

pub ord-rises : (h lo hi : ℕ) (t : Tree h) → Ord h lo hi t → Rises lo (suc hi) (lv h t)
unfolding Ord leaves
ord-rises zero lo hi t o = ((o.0, omega (arith, o.1)), tt)
ord-rises (suc h) lo hi t o = seg-rises (Ord h) (leaves Desc ℕ h) (ord-le h) (ord-rises h) lo (suc hi) t.sons o

pub rising-words : (lo e : ℕ) (l : List Desc) → Rises lo e l → RisingKeys (words l)
rising-words lo e [] r = tt
rising-words lo e (d ∷ l) r = (above-words d.key e l (rises-in (suc d.key) e l r.1), rising-words (suc d.key) e l r.1)

-- ---- what is seen of stored descriptors

pub words-plain : (l : List Desc) → words (map plain l) ≡ words l
words-plain [] = refl
words-plain (d ∷ l) = ap (λ m. holder_words d ∷ m) (words-plain l)

pub group-map : (f : Desc → Desc) → ((d : Desc) → (f d).key ≡ d.key) → ((d : Desc) → (f d).members ≡ d.members) → (j : ℕ) (l : List Desc) → group_in j (map f l) ≡ group_in j l
unfolding group_in
group-map f k m j [] = refl
group-map f k m j (d ∷ l) = ap₂ (λ x y. cond (eqb x j) y (group_in j (map f l))) (k d) (m d) ∙ ap (λ y. cond (eqb d.key j) d.members y) (group-map f k m j l)

pub map-flat : {A B C : Type 0} (f : B → C) (g : A → List B) (es : List (A × ℕ)) → flat (λ a. map f (g a)) es ≡ map f (flat g es)
map-flat f g [] = refl
map-flat f g (p ∷ es) = ap (λ l. map f (g p.0) ++ l) (map-flat f g es) ∙ sym (map-append f (g p.0) (flat g es))

pub under-plain : (h : ℕ) (t : Tree h) → under plains h t ≡ map plain (lv h t)
unfolding under leaves
under-plain zero t = refl
under-plain (suc h) t = flat-same (under plains h) (λ a. map plain (lv h a)) (under-plain h) t.sons ∙ map-flat plain (lv h) t.sons

-- The logical database that a state holds: values of entries, and memberships rising by key then entry.
use Rattle.std.specs.Prelude.{◌≡◌, refl, Bool, true, false, cond, ◌&&◌, ◌||◌, List, [], ◌∷◌, ◌⊎◌, suc, ◌≤◌, ◌<◌, ℕ, leb, eqb}
use Rattle.std.proofs.Common.{sym, ◌∙◌, ap₂, subst, ap, inl, inr, arith}
use Rattle.std.proofs.Math.Decide.{ℕ_discrete}
use Rattle.serial.specs.Serial.{pick, pick_yes, pick_no}
use Rattle.serial.specs.Rising.{has, only, Above, Rising, same?}
use Rattle.serial.specs.Model.{Item, Pair, by_key, get, in_range, Db}
use Rattle.serial.specs.Model as R
use Rattle.serial.specs.Footprints.{Good}
use Rattle.machine.specs.Logic.{eqb_yes, eqb_no, leb-is, leb-not}
use Rattle.machine.specs.Holders.{elem}
use Rattle.machine.specs.State.{Desc, State, entry_of}
use Rattle.machine.specs.Steps.{pairs_of, memberships}
use Rattle.machine.specs.View.{group_in, items, seen}
use Rattle.machine.specs.Order.{In}
use Rattle.machine.specs.Groups.{Rises, rises-in}
use Rattle.machine.specs.Housekeeping.{lvs, seen-group}

-- Every membership.
unfoldable pub pairs : List Desc → List Pair
pairs [] = []
pairs (d ∷ l) = pairs_of d.key d.members (pairs l)

-- Members rise.
abbrev pub Up : ℕ → List ℕ → Type 0
Up lo [] = Unit {0}
Up lo (e ∷ es) = (lo ≤ e) × Up (suc e) es

abbrev pub Listed : List Desc → Type 0
Listed [] = Unit {0}
Listed (d ∷ l) = Up 1 d.members × Listed l

-- ---- which memberships there are

has_here : (k e j : ℕ) (es : List ℕ) (l : List Pair) → j ≡ k → has by_key (k, e) (pairs_of j es l) ≡ cond (elem e es) 1 (has by_key (k, e) l)
unfolding pairs_of
has_here k e j [] l q = refl
has_here k e j (x ∷ es) l q = go (ℕ_discrete e x) (has_here k e j es l q)
  where
    go : Dec (e ≡ x) → has by_key (k, e) (pairs_of j es l) ≡ cond (elem e es) 1 (has by_key (k, e) l)
        → pick (same? by_key (k, e) (j, x)) 1 (has by_key (k, e) (pairs_of j es l)) ≡ cond (eqb e x || elem e es) 1 (has by_key (k, e) l)
    go (yes p) ih = rw (eqb_yes e x p) (pick_yes (same? by_key (k, e) (j, x)) 1 (has by_key (k, e) (pairs_of j es l)) (λ i. (sym q i, p i)))
    go (no n) ih = rw (eqb_no e x n) (pick_no (same? by_key (k, e) (j, x)) 1 (has by_key (k, e) (pairs_of j es l)) (λ z. n (ap (λ y. y.1) z)) ∙ ih)

has_there : (k e j : ℕ) (es : List ℕ) (l : List Pair) → ¬ (j ≡ k) → has by_key (k, e) (pairs_of j es l) ≡ has by_key (k, e) l
unfolding pairs_of
has_there k e j [] l q = refl
has_there k e j (x ∷ es) l q = pick_no (same? by_key (k, e) (j, x)) 1 (has by_key (k, e) (pairs_of j es l)) (λ z. q (sym (ap (λ y. y.0) z))) ∙ has_there k e j es l q

has-none : (k e lo hi : ℕ) (l : List Desc) → In lo hi l → k < lo → has by_key (k, e) (pairs l) ≡ 0
unfolding pairs
has-none k e lo hi [] i c = refl
has-none k e lo hi (d ∷ l) i c = has_there k e d.key d.members (pairs l) (λ q. omega (arith, q, i.0.0, c)) ∙ has-none k e lo hi l i.1 c

pub has-pairs : (k e lo hi : ℕ) (l : List Desc) → Rises lo hi l → has by_key (k, e) (pairs l) ≡ cond (elem e (group_in k l)) 1 0
unfolding pairs group_in
has-pairs k e lo hi [] r = refl
has-pairs k e lo hi (d ∷ l) r = go (ℕ_discrete d.key k) (has-pairs k e (suc d.key) hi l r.1)
  where
    go : Dec (d.key ≡ k) → has by_key (k, e) (pairs l) ≡ cond (elem e (group_in k l)) 1 0
        → has by_key (k, e) (pairs_of d.key d.members (pairs l)) ≡ cond (elem e (cond (eqb d.key k) d.members (group_in k l))) 1 0
    go (yes q) ih = rw (eqb_yes d.key k q) (has_here k e d.key d.members (pairs l) q
        ∙ ap (λ n. cond (elem e d.members) 1 n) (has-none k e (suc d.key) hi l (rises-in (suc d.key) hi l r.1) (omega (arith, q))))
    go (no n) ih = rw (eqb_no d.key k n) (has_there k e d.key d.members (pairs l) n ∙ ih)

-- ---- they rise

above_of : (k e j lo : ℕ) (es : List ℕ) (l : List Pair) → (k < j) ⊎ ((k ≡ j) × (e < lo)) → Up lo es → Above by_key (k, e) l → Above by_key (k, e) (pairs_of j es l)
unfolding pairs_of
above_of k e j lo [] l c u a = a
above_of k e j lo (x ∷ es) l (inl c) u a = (inl c, above_of k e j (suc x) es l (inl c) u.1 a)
above_of k e j lo (x ∷ es) l (inr c) u a = (inr (c.0, omega (arith, c.1, u.0)), above_of k e j (suc x) es l (inr (c.0, omega (arith, c.1, u.0))) u.1 a)

above-pairs : (k e lo hi : ℕ) (l : List Desc) → In lo hi l → Listed l → k < lo → Above by_key (k, e) (pairs l)
unfolding pairs
above-pairs k e lo hi [] i u c = tt
above-pairs k e lo hi (d ∷ l) i u c = above_of k e d.key 1 d.members (pairs l) (inl (omega (arith, c, i.0.0))) u.0 (above-pairs k e lo hi l i.1 u.1 c)

rising-of : (j lo : ℕ) (es : List ℕ) (l : List Pair) → Up lo es → ((e : ℕ) → Above by_key (j, e) l) → Rising by_key l → Rising by_key (pairs_of j es l)
unfolding pairs_of
rising-of j lo [] l u a r = r
rising-of j lo (x ∷ es) l u a r = (above_of j x j (suc x) es l (inr (refl, omega arith)) u.1 (a x), rising-of j (suc x) es l u.1 a r)

pub rising-pairs : (lo hi : ℕ) (l : List Desc) → Rises lo hi l → Listed l → Rising by_key (pairs l)
unfolding pairs
rising-pairs lo hi [] r u = tt
rising-pairs lo hi (d ∷ l) r u = rising-of d.key 1 d.members (pairs l) u.0
    (λ e. above-pairs d.key e (suc d.key) hi l (rises-in (suc d.key) hi l r.1) u.1 (omega arith))
    (rising-pairs (suc d.key) hi l r.1 u.1)

-- ---- those of a range

only-in : (lo hi j : ℕ) (es : List ℕ) (l : List Pair) → lo ≤ j → j ≤ hi → only by_key (in_range lo hi) (pairs_of j es l) ≡ pairs_of j es (only by_key (in_range lo hi) l)
unfolding pairs_of
only-in lo hi j [] l a b = refl
only-in lo hi j (x ∷ es) l a b =
    pick_yes (in_range lo hi (j, x)) ((j, x) ∷ only by_key (in_range lo hi) (pairs_of j es l)) (only by_key (in_range lo hi) (pairs_of j es l)) (a, b)
    ∙ ap (λ m. (j, x) ∷ m) (only-in lo hi j es l a b)

only_out : (lo hi j : ℕ) (es : List ℕ) (l : List Pair) → ¬ ((lo ≤ j) × (j ≤ hi)) → only by_key (in_range lo hi) (pairs_of j es l) ≡ only by_key (in_range lo hi) l
unfolding pairs_of
only_out lo hi j [] l n = refl
only_out lo hi j (x ∷ es) l n =
    pick_no (in_range lo hi (j, x)) ((j, x) ∷ only by_key (in_range lo hi) (pairs_of j es l)) (only by_key (in_range lo hi) (pairs_of j es l)) n
    ∙ only_out lo hi j es l n

pub memberships-are : (lo hi : ℕ) (l : List Desc) → memberships lo hi l ≡ only by_key (in_range lo hi) (pairs l)
unfolding memberships pairs
memberships-are lo hi [] = refl
memberships-are lo hi (d ∷ l) = go (leb lo d.key) refl (leb d.key hi) refl (memberships-are lo hi l)
  where
    go : (a : Bool) → leb lo d.key ≡ a → (b : Bool) → leb d.key hi ≡ b → memberships lo hi l ≡ only by_key (in_range lo hi) (pairs l)
        → cond (a && b) (pairs_of d.key d.members (memberships lo hi l)) (memberships lo hi l) ≡ only by_key (in_range lo hi) (pairs_of d.key d.members (pairs l))
    go true p true q ih = ap (pairs_of d.key d.members) ih
        ∙ sym (only-in lo hi d.key d.members (pairs l) (leb-is lo d.key p) (leb-is d.key hi q))
    go true p false q ih = ih ∙ sym (only_out lo hi d.key d.members (pairs l) (λ z. omega (arith, z.1, leb-not d.key hi q)))
    go false p b q ih = ih ∙ sym (only_out lo hi d.key d.members (pairs l) (λ z. omega (arith, z.0, leb-not lo d.key p)))

-- ---- the database

abbrev pub model : State → Db
model s = record { values = λ e. (entry_of e s).value; members = pairs (lvs s) }

pub model_good : (lo hi : ℕ) (s : State) → Rises lo hi (lvs s) → Listed (lvs s) → Good (model s)
model_good lo hi s r u = rising-pairs lo hi (lvs s) r u

pub model_is : (lo hi : ℕ) (s : State) → Rises lo hi (lvs s) → (i : Item) → get (model s) i ≡ items s i
model_is lo hi s r (R.value e) = refl
model_is lo hi s r (R.cell k e) = has-pairs k e lo hi (lvs s) r ∙ ap (λ g. cond (elem e g) 1 0) (sym (seen-group k s))

-- One membership set to b: every other item stays.
pub items-set : (k e : ℕ) (b : Bool) (t u : State) → ((z : ℕ) → (entry_of z u).value ≡ (entry_of z t).value) → elem e (group_in k (seen u)) ≡ b
    → ((x : ℕ) → ¬ (x ≡ e) → elem x (group_in k (seen u)) ≡ elem x (group_in k (seen t))) → ((j : ℕ) → ¬ (k ≡ j) → group_in j (seen u) ≡ group_in j (seen t))
    → (i : Item) (d : Dec (R.cell k e ≡ i)) → items u i ≡ pick d (cond b 1 0) (items t i)
items-set k e b t u v here there other i (yes q) = subst (λ z. items u z ≡ cond b 1 0) q (ap (λ c. cond c 1 0) here)
items-set k e b t u v here there other (R.value z) (no n) = v z
items-set k e b t u v here there other (R.cell j x) (no n) = at (ℕ_discrete k j)
  where
    at : Dec (k ≡ j) → items u (R.cell j x) ≡ items t (R.cell j x)
    at (yes q) = subst (λ z. items u (R.cell z x) ≡ items t (R.cell z x)) q (ap (λ c. cond c 1 0) (there x (λ w. n (ap₂ (λ a c. R.cell a c) q (sym w)))))
    at (no m) = ap (λ g. cond (elem x g) 1 0) (other j m)

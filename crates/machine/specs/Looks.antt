-- What is read of the stored descriptors, of a state after one of them is changed, and of a sound state.
use Rattle.std.specs.Prelude.{◌≡◌, Bool, false, ◌||◌, ◌⊎◌, zero, suc, ◌+◌, ◌≤◌, ◌<◌, ℕ, leb, ltb, eqb, length}
use Rattle.std.proofs.Math.Path.{refl, subst, ap}
use Rattle.std.proofs.Common.{sym, ◌∙◌, ap₂, inl, inr, arith}
use Rattle.std.proofs.Math.Bool.{true, cond}
use mathlib.Core.List.{List, [], ◌∷◌, ◌++◌, map}
use Rattle.std.proofs.Math.Option.{some, none, none-ne-some}
use Rattle.std.proofs.Math.Decide.{ℕ_discrete}
use Rattle.serial.specs.Serial.{true≢false}
use Rattle.serial.specs.Locks.{strong}
use Rattle.serial.specs.Locks as L
use Rattle.machine.specs.Logic.{eqb_yes, eqb_no, eqb_is, leb-is, leb-not, eqb-not}
use Rattle.machine.specs.Holders.{width, elem}
use Rattle.machine.specs.Tree.{onp, Seg}
use Rattle.machine.specs.State.{Desc, Tree, change, take, State, top, idle, or_none, session_of, desc_of, on_tree, on_leaf, on_desc, with_member, without_member, Request}
use Rattle.machine.specs.Steps.{pinned, rule}
use Rattle.machine.specs.Gaps.{gaps, reads, reads-gap}
use Rattle.machine.specs.View.{seen, holders}
use Rattle.machine.specs.Model.{Listed, Up}
use Rattle.machine.specs.Sound.{gap_word, stored_in, pins_in, members_many, Shaped, UpTo, ListedTo, of_hand, times, pins_by, Sound, Cells, cells, set_cell}
use Rattle.machine.specs.Table.{hand-seat, begun-seat}
use Rattle.machine.specs.Order.{Ord, ord-in, Cut, cut, ord-le, In}
use Rattle.machine.specs.Groups.{words, Rises, ord-rises}
use Rattle.machine.specs.Housekeeping.{Ordered, lvs}
use Rattle.machine.specs.Keys.{Kept, kept, put_reads, shown-reads, put_shown, put-group, put-group-other, was-group}
use Rattle.machine.specs.Totals.{total-put, total-least}
use Rattle.machine.specs.Entries.{Fit}

-- ---- lists of descriptors

-- Every descriptor changed, its key or its members kept.
pub stored-map : (f : Desc → Desc) → ((d : Desc) → (f d).key ≡ d.key) → (k : ℕ) (l : List Desc) → stored_in k (map f l) ≡ stored_in k l
unfolding stored_in
stored-map f e k [] = refl
stored-map f e k (d ∷ l) = ap₂ (λ x y. cond (eqb x k) true y) (e d) (stored-map f e k l)

pub listed-map : (f : Desc → Desc) → ((d : Desc) → (f d).members ≡ d.members) → (m : ℕ) (l : List Desc) → ListedTo m l → ListedTo m (map f l)
listed-map f e m [] u = tt
listed-map f e m (d ∷ l) u = (subst (UpTo 1 m) (sym (e d)) u.0, listed-map f e m l u.1)

-- Where a stored key of a list can lie.
pub stored-range : (k lo e : ℕ) (l : List Desc) → In lo e l → stored_in k l ≡ true → (lo ≤ k) × (k < e)
unfolding stored_in
stored-range k lo e [] i h = absurd (true≢false h refl)
stored-range k lo e (d ∷ l) i h = go (eqb d.key k) refl h (stored-range k lo e l i.1)
  where
    go : (o : Bool) → eqb d.key k ≡ o → cond o true (stored_in k l) ≡ true → (stored_in k l ≡ true → (lo ≤ k) × (k < e)) → (lo ≤ k) × (k < e)
    go true q h ih = let z = eqb_is d.key k q in (omega (arith, z, i.0.0), omega (arith, z, i.0.1))
    go false q h ih = ih h

-- A key of two lists with a descriptor between.
pub stored-parts : (k : ℕ) (A : List Desc) (d : Desc) (B : List Desc) → stored_in k (A ++ d ∷ B) ≡ true → (stored_in k A ≡ true) ⊎ ((d.key ≡ k) ⊎ (stored_in k B ≡ true))
unfolding stored_in
stored-parts k [] d B h = go (eqb d.key k) refl h
  where
    go : (o : Bool) → eqb d.key k ≡ o → cond o true (stored_in k B) ≡ true → (false ≡ true) ⊎ ((d.key ≡ k) ⊎ (stored_in k B ≡ true))
    go true q h = inr (inl (eqb_is d.key k q))
    go false q h = inr (inr h)
stored-parts k (a ∷ A) d B h = go (eqb a.key k) h (stored-parts k A d B)
  where
    go : (o : Bool) → cond o true (stored_in k (A ++ d ∷ B)) ≡ true → (stored_in k (A ++ d ∷ B) ≡ true → (stored_in k A ≡ true) ⊎ ((d.key ≡ k) ⊎ (stored_in k B ≡ true)))
        → (cond o true (stored_in k A) ≡ true) ⊎ ((d.key ≡ k) ⊎ (stored_in k B ≡ true))
    go true h ih = inl refl
    go false h ih = ih h

pub stored-behind : (k : ℕ) (a : Desc) (l : List Desc) → stored_in k l ≡ true → stored_in k (a ∷ l) ≡ true
unfolding stored_in
stored-behind k a l h = go (eqb a.key k)
  where
    go : (o : Bool) → cond o true (stored_in k l) ≡ true
    go true = refl
    go false = h

pub stored_here : (k : ℕ) (d : Desc) → d.key ≡ k → (A B : List Desc) → stored_in k (A ++ d ∷ B) ≡ true
unfolding stored_in
stored_here k d e [] B = rw (eqb_yes d.key k e) refl
stored_here k d e (a ∷ A) B = stored-behind k a (A ++ d ∷ B) (stored_here k d e A B)

pub pinned-stored : (k : ℕ) (l : List Desc) → 0 < pins_in k l → stored_in k l ≡ true
unfolding pins_in stored_in
pinned-stored k [] h = absurd (omega (arith, h))
pinned-stored k (d ∷ l) h = go (eqb d.key k) h (pinned-stored k l)
  where
    go : (o : Bool) → 0 < cond o d.pins (pins_in k l) → (0 < pins_in k l → stored_in k l ≡ true) → cond o true (stored_in k l) ≡ true
    go true h ih = refl
    go false h ih = ih h

pub pins-at : (k from : ℕ) (d : Desc) → d.key ≡ k → (A B : List Desc) → In from k A → pins_in k (A ++ d ∷ B) ≡ d.pins
unfolding pins_in
pins-at k from d e [] B i = rw (eqb_yes d.key k e) refl
pins-at k from d e (a ∷ A) B i = rw (eqb_no a.key k (λ q. omega (arith, q, i.0.1))) (pins-at k from d e A B i.1)

-- The descriptor d becomes c, with the same key.
module _ (d c : Desc) (e : c.key ≡ d.key) where
  pub stored-kept : (A B : List Desc) (j : ℕ) → stored_in j (A ++ c ∷ B) ≡ stored_in j (A ++ d ∷ B)
  unfolding stored_in
  stored-kept [] B j = rw e refl
  stored-kept (a ∷ A) B j = ap (λ w. cond (eqb a.key j) true w) (stored-kept A B j)

  pub pins-other : (A B : List Desc) (j : ℕ) → ¬ (d.key ≡ j) → pins_in j (A ++ c ∷ B) ≡ pins_in j (A ++ d ∷ B)
  unfolding pins_in
  pins-other [] B j n = rw (e, eqb_no d.key j n) refl
  pins-other (a ∷ A) B j n = ap (λ w. cond (eqb a.key j) a.pins w) (pins-other A B j n)

pub listed-put : (m : ℕ) (d c : Desc) → UpTo 1 m c.members → (A B : List Desc) → ListedTo m (A ++ d ∷ B) → ListedTo m (A ++ c ∷ B)
listed-put m d c u [] B l = (u, l.1)
listed-put m d c u (a ∷ A) B l = (l.0, listed-put m d c u A B l.1)

pub listed_here : (m : ℕ) (d : Desc) (A B : List Desc) → ListedTo m (A ++ d ∷ B) → UpTo 1 m d.members
listed_here m d [] B l = l.0
listed_here m d (a ∷ A) B l = listed_here m d A B l.1

-- ---- order

seg-map : {A : Type 0} (Q R : ℕ → ℕ → A → Type 0) → ((lo u : ℕ) (a : A) → Q lo u a → R lo u a) → (lo e : ℕ) (es : List (A × ℕ)) → Seg Q lo e es → Seg R lo e es
seg-map Q R f lo e [] s = s
seg-map Q R f lo e (p ∷ es) s = (f lo p.1 p.0 s.0, seg-map Q R f (suc p.1) e es s.1)

pub shaped-ordered : (h least lo hi : ℕ) (t : Tree h) → Shaped h least lo hi t → Ord h lo hi t
unfolding Shaped Ord
shaped-ordered zero least lo hi t S = S
shaped-ordered (suc h) least lo hi t S = seg-map (Shaped h 3) (Ord h) (shaped-ordered h 3) lo (suc hi) t.sons S.3

pub shaped-le : (h least lo hi : ℕ) (t : Tree h) → Shaped h least lo hi t → lo ≤ suc hi
shaped-le h least lo hi t S = ord-le h lo hi t (shaped-ordered h least lo hi t S)

pub sound-ordered : {s : State} → Sound s → Ordered s
unfolding Ordered
sound-ordered {s} S = shaped-ordered (suc s.root.height) 1 0 top s.root.node S.shaped

pub ordered-rises : (s : State) → Ordered s → Rises 0 4294967296 (lvs s)
unfolding Ordered
ordered-rises s o = ord-rises (suc s.root.height) 0 top s.root.node o

seg-onp : {A : Type 0} (Q : ℕ → ℕ → A → Type 0) (f : A → A) → ((lo u : ℕ) (a : A) → Q lo u a → Q lo u (f a)) → (k lo e : ℕ) (es : List (A × ℕ)) → Seg Q lo e es → Seg Q lo e (onp k (λ a b. (f a, b) ∷ []) es)
seg-onp Q f g k lo e [] s = s
seg-onp Q f g k lo e (p ∷ es) s = go (leb k p.1) (seg-onp Q f g k (suc p.1) e es s.1)
  where
    go : (o : Bool) → Seg Q (suc p.1) e (onp k (λ a b. (f a, b) ∷ []) es) → Seg Q lo e (cond o ((f p.0, p.1) ∷ es) (p ∷ onp k (λ a b. (f a, b) ∷ []) es))
    go true r = (g lo p.1 p.0 s.0, s.1)
    go false r = (s.0, r)

pub ord-on-leaf : (k : ℕ) (f : Desc → Desc) → ((d : Desc) → (f d).key ≡ d.key) → (h lo hi : ℕ) (t : Tree h) → Ord h lo hi t → Ord h lo hi (on_leaf k f h t)
unfolding Ord on_leaf
ord-on-leaf k f e zero lo hi t o = (omega (arith, e t, o.0), omega (arith, e t, o.1))
ord-on-leaf k f e (suc h) lo hi t o = seg-onp (Ord h) (on_leaf k f h) (ord-on-leaf k f e h) k lo (suc hi) t.sons o

pub ordered-put : (k : ℕ) (f : Desc → Desc) → ((d : Desc) → (f d).key ≡ d.key) → (s : State) → Ordered s → Ordered (on_desc k f s)
unfolding Ordered on_tree
ordered-put k f e s o = ord-on-leaf k f e (suc s.root.height) 0 top s.root.node o

-- ---- stored keys

pub stored-most : (s : State) → Ordered s → (x : ℕ) → stored_in x (lvs s) ≡ true → x ≤ top
unfolding Ordered
stored-most s o x h = let w = (stored-range x 0 (suc top) (lvs s) (ord-in (suc s.root.height) 0 top s.root.node o) h).1 in omega (arith, w)

pub kept_at : (k : ℕ) (s : State) → Ordered s → stored_in k (lvs s) ≡ true → Kept k s
unfolding Ordered desc_of
kept_at k s o h =
    let hi = stored-most s o k h in
    kept k s o hi (key (cut k (suc s.root.height) s.root.node 0 top o (omega arith) hi))
  where
    key : Cut k (suc s.root.height) s.root.node 0 (suc top) → (desc_of k s).key ≡ k
    key C = ap (λ o. (or_none o).key) C.leaf ∙ go (stored-parts k C.A C.d C.B (subst (λ l. stored_in k l ≡ true) C.was h))
      where
        go : (stored_in k C.A ≡ true) ⊎ ((C.d.key ≡ k) ⊎ (stored_in k C.B ≡ true)) → C.d.key ≡ k
        go (inl q) = absurd (omega (arith, (stored-range k 0 C.lo C.A C.low q).1, C.at_least))
        go (inr (inl q)) = q
        go (inr (inr q)) = absurd (omega (arith, (stored-range k (suc C.hi) (suc top) C.B C.high q).0, C.at_most))

pub kept_of : (k : ℕ) (s : State) → Sound s → stored_in k (lvs s) ≡ true → Kept k s
kept_of k s S h = kept_at k s (sound-ordered S) h

module _ (k : ℕ) (s : State) (K : Kept k s) where
  pub kept-stored : stored_in k (lvs s) ≡ true
  kept-stored = ap (stored_in k) K.was ∙ stored_here k K.d K.key K.A K.B

  pub kept_pins : pins_in k (lvs s) ≡ K.d.pins
  kept_pins = ap (pins_in k) K.was ∙ pins-at k 0 K.d K.key K.A K.B K.low

  pub kept-listed : (m : ℕ) → ListedTo m (lvs s) → UpTo 1 m K.d.members
  kept-listed m l = listed_here m K.d K.A K.B (subst (ListedTo m) K.was l)

-- ---- groups as cells, one cell changed

module _ (k e : ℕ) (b : Bool) (c : Cells) where
  pub set_here : set_cell k e b c k e ≡ b
  set_here = ap₂ (λ x y. cond x (cond y b (c k e)) (c k e)) (eqb_yes k k refl) (eqb_yes e e refl)

  set_key : (j f : ℕ) → ¬ (k ≡ j) → set_cell k e b c j f ≡ c j f
  set_key j f n = ap (λ x. cond x (cond (eqb f e) b (c j f)) (c j f)) (eqb_no j k (λ z. n (sym z)))

  pub set-entry : (j f : ℕ) → ¬ (e ≡ f) → set_cell k e b c j f ≡ c j f
  set-entry j f n = go (eqb j k) (eqb f e) (eqb_no f e (λ z. n (sym z)))
    where
      go : (x y : Bool) → y ≡ false → cond x (cond y b (c j f)) (c j f) ≡ c j f
      go true true q = absurd (true≢false refl q)
      go true false q = refl
      go false y q = refl

-- Set, and set as it was.
pub set_back : (k e : ℕ) (b o : Bool) (c d : Cells) → ((j f : ℕ) → d j f ≡ set_cell k e b c j f) → c k e ≡ o → (j f : ℕ) → set_cell k e o d j f ≡ c j f
set_back k e b o c d h q j f = go (ℕ_discrete k j) (ℕ_discrete e f)
  where
    go : Dec (k ≡ j) → Dec (e ≡ f) → set_cell k e o d j f ≡ c j f
    go (no n) y = set_key k e o d j f n ∙ h j f ∙ set_key k e b c j f n
    go (yes x) (no n) = set-entry k e o d j f n ∙ h j f ∙ set-entry k e b c j f n
    go (yes x) (yes y) = subst (λ i. set_cell k e o d i f ≡ c i f) x (subst (λ i. set_cell k e o d k i ≡ c k i) y (set_here k e o d ∙ sym q))

-- ---- a descriptor changed in place; its update word, locate word and group are in Keys

module _ (k : ℕ) (s : State) (K : Kept k s) (f : Desc → Desc) where
  abbrev v : State
  v = on_desc k f s

  pub put-members : members_many (lvs v) + length K.d.members ≡ members_many (lvs s) + length (f K.d).members
  put-members =
      ap (λ l. members_many l + length K.d.members) (K.put f) ∙ total-put (λ d. length d.members) K.d (f K.d) K.A K.B
      ∙ sym (ap (λ l. members_many l + length (f K.d).members) K.was)

  pub put-listed : (m : ℕ) → UpTo 1 m (f K.d).members → ListedTo m (lvs s) → ListedTo m (lvs v)
  put-listed m u l = subst (ListedTo m) (sym (K.put f)) (listed-put m K.d (f K.d) u K.A K.B (subst (ListedTo m) K.was l))

  module _ (fk : (f K.d).key ≡ K.d.key) where
    pub put-stored : (j : ℕ) → stored_in j (lvs v) ≡ stored_in j (lvs s)
    put-stored j = ap (stored_in j) (K.put f) ∙ stored-kept K.d (f K.d) fk K.A K.B j ∙ sym (ap (stored_in j) K.was)

    pub put-pins : pins_in k (lvs v) ≡ (f K.d).pins
    put-pins = ap (pins_in k) (K.put f) ∙ pins-at k 0 (f K.d) (fk ∙ K.key) K.A K.B K.low

    pub put-pins-other : (j : ℕ) → ¬ (k ≡ j) → pins_in j (lvs v) ≡ pins_in j (lvs s)
    put-pins-other j n = ap (pins_in j) (K.put f) ∙ pins-other K.d (f K.d) fk K.A K.B j (λ q. n (sym K.key ∙ q)) ∙ sym (ap (pins_in j) K.was)

    pub put-pins-kept : (f K.d).pins ≡ K.d.pins → (j : ℕ) → pins_in j (lvs v) ≡ pins_in j (lvs s)
    put-pins-kept e j = at (ℕ_discrete k j)
      where
        at : Dec (k ≡ j) → pins_in j (lvs v) ≡ pins_in j (lvs s)
        at (yes q) = subst (λ i. pins_in i (lvs v) ≡ pins_in i (lvs s)) q (put-pins ∙ e ∙ sym (kept_pins k s K))
        at (no n) = put-pins-other j n

    -- What R relates at the gap it relates at every key: more of a word, or (next) the same of it.
    pub put-gaps-by : (R : ℕ → ℕ → Type 0) → ((w : ℕ) → R w w) → R (f K.d).gap K.d.gap → (j : ℕ) → R (gap_word j (seen v)) (gap_word j (seen s))
    unfolding gap_word
    put-gaps-by R i g j =
        subst (λ n. R (gaps 0 (words (seen v)) j) n) (sym (reads-gap 0 (words (seen s)) j))
        (subst (λ n. R n (reads (λ x. x.gap) (λ w. w) 0 (words (seen s)) j)) (sym (reads-gap 0 (words (seen v)) j))
        (put_reads k s K f fk (λ x. x.gap) (λ w. w) R i j (λ e. g) (λ h. g)))

    -- With φ = same the whole words; with φ w = holds w q what one party sees of them.
    pub put-gaps : {X : Type 0} (φ : ℕ → X) → φ (f K.d).gap ≡ φ K.d.gap → (j : ℕ) → φ (gap_word j (seen v)) ≡ φ (gap_word j (seen s))
    put-gaps φ g j = put-gaps-by (λ a b. φ a ≡ φ b) (λ w. refl) g j

    pub put-gap : gap_word k (seen v) ≡ (f K.d).gap
    unfolding gap_word
    put-gap = reads-gap 0 (words (seen v)) k ∙ shown-reads (put_shown k s K f fk) (λ x. x.gap) (λ w. w)

    -- The entry e is a member or not, by b, and the other members stay.
    pub put-cells : (e : ℕ) (b : Bool) → elem e (f K.d).members ≡ b → ((x : ℕ) → ¬ (x ≡ e) → elem x (f K.d).members ≡ elem x K.d.members)
        → (j x : ℕ) → cells v j x ≡ set_cell k e b (cells s) j x
    put-cells e b here there j x = at (ℕ_discrete k j) (ℕ_discrete x e)
      where
        now : (y : ℕ) → cells v k y ≡ elem y (f K.d).members
        now y = ap (elem y) (put-group k s K f fk)

        at : Dec (k ≡ j) → Dec (x ≡ e) → cells v j x ≡ set_cell k e b (cells s) j x
        at (yes q) (yes w) = subst (λ j. cells v j x ≡ set_cell k e b (cells s) j x) q
            (rw (eqb_yes k k refl, eqb_yes x e w) (now x ∙ ap (λ y. elem y (f K.d).members) w ∙ here))
        at (yes q) (no n) = subst (λ j. cells v j x ≡ set_cell k e b (cells s) j x) q
            (rw (eqb_yes k k refl, eqb_no x e n) (now x ∙ there x n ∙ sym (ap (elem x) (was-group k s K))))
        at (no n) w = rw (eqb_no j k (λ q. n (sym q))) (ap (elem x) (put-group-other k s K f fk j n))

-- ---- members

pub with-many : (e : ℕ) (l : List ℕ) → elem e l ≡ false → length (with_member e l) ≡ suc (length l)
unfolding with_member
with-many e [] h = refl
with-many e (x ∷ l) h = go (ltb e x) (eqb e x) h (with-many e l)
  where
    go : (a b : Bool) → (b || elem e l) ≡ false → (elem e l ≡ false → length (with_member e l) ≡ suc (length l))
        → length (cond a (e ∷ x ∷ l) (cond b (x ∷ l) (x ∷ with_member e l))) ≡ suc (suc (length l))
    go true b q ih = refl
    go false true q ih = absurd (true≢false refl q)
    go false false q ih = ap suc (ih q)

pub without-many : (e : ℕ) (l : List ℕ) → elem e l ≡ true → suc (length (without_member e l)) ≡ length l
unfolding without_member
without-many e [] h = absurd (true≢false h refl)
without-many e (x ∷ l) h = go (eqb e x) h (without-many e l)
  where
    go : (b : Bool) → (b || elem e l) ≡ true → (elem e l ≡ true → suc (length (without_member e l)) ≡ length l) → suc (length (cond b l (x ∷ without_member e l))) ≡ suc (length l)
    go true q ih = refl
    go false q ih = ap suc (ih q)

pub with-upto : (e lo hi : ℕ) (l : List ℕ) → lo ≤ e → e ≤ hi → UpTo lo hi l → UpTo lo hi (with_member e l)
unfolding with_member
with-upto e lo hi [] a b u = (a, b, tt)
with-upto e lo hi (x ∷ l) a b u = go (ltb e x) refl (eqb e x) refl (λ q. with-upto e (suc x) hi l q b u.2)
  where
    go : (o : Bool) → ltb e x ≡ o → (c : Bool) → eqb e x ≡ c → (suc x ≤ e → UpTo (suc x) hi (with_member e l))
        → UpTo lo hi (cond o (e ∷ x ∷ l) (cond c (x ∷ l) (x ∷ with_member e l)))
    go true q c r ih = (a, b, (leb-is (suc e) x q, u.1, u.2))
    go false q true r ih = u
    go false q false r ih =
        let ge = leb-not (suc e) x q in
        let ne = eqb-not e x r in
        (u.0, u.1, ih (omega (arith, ge, ne)))

upto_from : (lo m hi : ℕ) (l : List ℕ) → m ≤ lo → UpTo lo hi l → UpTo m hi l
upto_from lo m hi [] q u = tt
upto_from lo m hi (x ∷ l) q u = (omega (arith, q, u.0), u.1, u.2)

pub without-upto : (e lo hi : ℕ) (l : List ℕ) → UpTo lo hi l → UpTo lo hi (without_member e l)
unfolding without_member
without-upto e lo hi [] u = tt
without-upto e lo hi (x ∷ l) u = go (eqb e x) (without-upto e (suc x) hi l u.2)
  where
    go : (b : Bool) → UpTo (suc x) hi (without_member e l) → UpTo lo hi (cond b l (x ∷ without_member e l))
    go true ih = upto_from (suc x) lo hi l (omega (arith, u.0)) u.2
    go false ih = (u.0, u.1, ih)

pub upto-up : (lo hi : ℕ) (l : List ℕ) → UpTo lo hi l → Up lo l
upto-up lo hi [] u = tt
upto-up lo hi (x ∷ l) u = (u.0, upto-up (suc x) hi l u.2)

pub listed-up : (m : ℕ) (l : List Desc) → ListedTo m l → Listed l
listed-up m [] u = tt
listed-up m (d ∷ l) u = (upto-up 1 m d.members u.0, listed-up m l u.1)

-- ---- a sound state is fit for the events

-- Who is begun is a session.
pub begun-party : {s : State} → Sound s → (p : ℕ) → (session_of p s).begun ≡ true → (1 ≤ p) × (p ≤ width)
begun-party {s} S p b = (first p b, (let q = begun-seat p s b in let n = S.seats in omega arith))
  where
    first : (q : ℕ) → (session_of q s).begun ≡ true → 1 ≤ q
    first zero e = absurd (true≢false e S.zero_unmarked)
    first (suc q) e = omega arith

-- Who has a request in hand is begun, or the housekeeper.
pub begun-of : (s : State) → ((m : ℕ) → (session_of (suc m) s).begun ≡ false → (session_of (suc m) s).hand ≡ none) → (p : ℕ) (r : Request) → (session_of p s).hand ≡ some r → ¬ (p ≡ 0)
    → (session_of p s).begun ≡ true
begun-of s f p r e n = go p n e (session_of p s).begun refl
  where
    go : (q : ℕ) → ¬ (q ≡ 0) → (session_of q s).hand ≡ some r → (b : Bool) → (session_of q s).begun ≡ b → b ≡ true
    go q n e true b = refl
    go zero n e false b = absurd (n refl)
    go (suc m) n e false b = absurd (none-ne-some r (sym (f m b) ∙ e))

pub hand_begun : {s : State} → Sound s → (m : ℕ) (r : Request) → (session_of (suc m) s).hand ≡ some r → (session_of (suc m) s).begun ≡ true
hand_begun {s} S m r e = begun-of s S.unbegun_hand (suc m) r e (λ q. omega (arith, q))

pub unbegun_hand : {s : State} → Sound s → (p : ℕ) → ¬ (p ≡ 0) → (session_of p s).begun ≡ false → (session_of p s).hand ≡ none
unbegun_hand S zero n b = absurd (n refl)
unbegun_hand S (suc m) n b = S.unbegun_hand m b

pub fit_of : {s : State} → Sound s → Fit s
fit_of {s} S = record {
  ordered = sound-ordered S;
  rises = ordered-rises s (sound-ordered S);
  listed = listed-up (length s.entries) (lvs s) S.listed;
  agree = S.agree;
  few = λ k m p z h. begun-party S p (S.only_begun k m p z h);
  seats = S.seats;
}

-- Nobody else excludes an entry.
pub excludes-alone : {s : State} → Sound s → (p q e : ℕ) → holders s L.entry strong p e ≡ true → holders s L.entry strong q e ≡ true → p ≡ q
excludes-alone S p q e h i = go (S.agree L.entry strong strong p q e h i)
  where
    go : (p ≡ q) ⊎ (rule L.entry strong strong ≡ true) → p ≡ q
    go (inl w) = w
    go (inr w) = absurd (true≢false w refl)

-- ---- keys that requests pin

pub hand-pinned : {s : State} → Sound s → (p : ℕ) (r : Request) (k : ℕ) → (session_of p s).hand ≡ some r → 0 < times k (pinned r r.stage) → stored_in k (lvs s) ≡ true
unfolding session_of
hand-pinned {s} S p r k e h = pinned-stored k (lvs s)
    (let a = S.pins_match k in
    let b = total-least (pins_by k) s.table p idle (hand-seat p r s e) in
    let c = ap (of_hand 0 (λ (q : Request). times k (pinned q q.stage))) e in
    omega arith)

pub change-stored : {s : State} → Sound s → (p : ℕ) (r : Request) → (session_of p s).hand ≡ some r → r.stage ≡ change → stored_in r.first (lvs s) ≡ true
unfolding pinned
change-stored {s} S p r e g = hand-pinned S p r r.first e
    (subst (λ x. 0 < times r.first (pinned r x)) (sym g) (omega (arith, ap (λ b. cond b 1 0 + 0) (eqb_yes r.first r.first refl))))

pub take-stored : {s : State} → Sound s → (p : ℕ) (r : Request) (x : ℕ) → (session_of p s).hand ≡ some r → r.stage ≡ take x
    → (stored_in r.first (lvs s) ≡ true) × (stored_in r.second (lvs s) ≡ true)
unfolding pinned
take-stored {s} S p r x e g = (stored r.first (at_first (eqb r.first r.second)), stored r.second (at_second (eqb r.first r.second) refl))
  where
    stored : (k : ℕ) → 0 < times k (cond (eqb r.first r.second) (r.first ∷ []) (r.first ∷ r.second ∷ [])) → stored_in k (lvs s) ≡ true
    stored k h = hand-pinned S p r k e (subst (λ y. 0 < times k (pinned r y)) (sym g) h)

    here : (k l : ℕ) → k ≡ l → cond {A = ℕ} (eqb k l) 1 0 ≡ 1
    here k l q = ap (λ b. cond b 1 0) (eqb_yes k l q)

    at_first : (b : Bool) → 0 < times r.first (cond b (r.first ∷ []) (r.first ∷ r.second ∷ []))
    at_first true = omega (arith, here r.first r.first refl)
    at_first false = omega (arith, here r.first r.first refl)

    at_second : (b : Bool) → eqb r.first r.second ≡ b → 0 < times r.second (cond b (r.first ∷ []) (r.first ∷ r.second ∷ []))
    at_second true q = omega (arith, here r.first r.second (eqb_is r.first r.second q))
    at_second false q = omega (arith, here r.second r.second refl)

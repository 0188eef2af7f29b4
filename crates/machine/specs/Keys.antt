-- Members of a group; a stored key in view; a descriptor changed in place: what each key's words and group become.
use Rattle.std.specs.Prelude.{◌≡◌, refl, Bool, true, false, cond, ◌||◌, List, [], ◌∷◌, ◌++◌, suc, ◌≤◌, ◌<◌, ℕ, ltb, eqb}
use Rattle.std.proofs.Math.Path.{sym, ap}
use Rattle.std.proofs.Common.{◌∙◌, subst, arith}
use Rattle.std.proofs.Math.Decide.{ℕ_discrete}
use Rattle.serial.specs.Rising.{Tri, less, equal, greater}
use Rattle.serial.specs.Model.{ℕ-tri}
use Rattle.machine.specs.Logic.{eqb_yes, eqb_no, eqb_is}
use Rattle.machine.specs.Holders.{elem}
use Rattle.machine.specs.State.{State, top, or_none, desc_of, on_tree, on_desc, with_member, without_member, Desc}
use Rattle.machine.specs.Gaps.{by_tri, at-equal, at_greater, locators, updaters, reads, reads-locate, reads-update}
use Rattle.machine.specs.Gaps as G
use Rattle.machine.specs.View.{group_in, holder_words, seen, locate_word, update_word}
use Rattle.machine.specs.Model.{Listed, Up}
use Rattle.machine.specs.Order.{in-wide, cut, In}
use Rattle.machine.specs.Groups.{words, Rises}
use Rattle.machine.specs.Housekeeping.{Ordered, lvs, seen-words, seen-group}

-- ---- lists: a descriptor between A and B

-- The words of a key, whichever they are (Gaps.reads).
module _ (α : G.Desc → ℕ) (γ : ℕ → ℕ) where
  pub reads_at : (k from : ℕ) (d : Desc) → d.key ≡ k → (g : ℕ) (A B : List Desc) → In from k A → reads α γ g (words (A ++ d ∷ B)) k ≡ α (holder_words d)
  reads_at k from d e g [] B i = at-equal (ℕ-tri k d.key) (γ g) (α (holder_words d)) (reads α γ d.gap (words B) k) (sym e)
  reads_at k from d e g (a ∷ A) B i =
      at_greater (ℕ-tri k a.key) (γ g) (α (holder_words a)) (reads α γ a.gap (words (A ++ d ∷ B)) k) i.0.1 ∙ reads_at k from d e a.gap A B i.1

  -- A key above d lies in its gap, or behind.
  pub reads-behind : (k from z : ℕ) (d : Desc) → d.key ≡ k → k < z → (g : ℕ) (A B : List Desc) → In from k A → reads α γ g (words (A ++ d ∷ B)) z ≡ reads α γ d.gap (words B) z
  reads-behind k from z d e h g [] B i = at_greater (ℕ-tri z d.key) (γ g) (α (holder_words d)) (reads α γ d.gap (words B) z) (omega (arith, e, h))
  reads-behind k from z d e h g (a ∷ A) B i =
      at_greater (ℕ-tri z a.key) (γ g) (α (holder_words a)) (reads α γ a.gap (words (A ++ d ∷ B)) z) (omega (arith, i.0.1, h)) ∙ reads-behind k from z d e h a.gap A B i.1

  -- Words that R relates are related wherever they are read.
  module _ (R : ℕ → ℕ → Type 0) (same_word : (w : ℕ) → R w w) (j : ℕ) where
    reads-like : (v w : ℕ) (l : List G.Desc) → R (γ v) (γ w) → R (reads α γ v l j) (reads α γ w l j)
    reads-like v w [] r = r
    reads-like v w (x ∷ l) r = go (ℕ-tri j x.key)
      where
        go : (t : Tri ◌<◌ j x.key) → R (by_tri t (γ v) (α x) (reads α γ x.gap l j)) (by_tri t (γ w) (α x) (reads α γ x.gap l j))
        go (less q) = r
        go (equal q) = same_word (α x)
        go (greater q) = same_word (reads α γ x.gap l j)

    -- The descriptor d becomes c, with the same key: its own words count at its key, its gap's above.
    pub reads_kept : (d c : Desc) → c.key ≡ d.key → (d.key ≡ j → R (α (holder_words c)) (α (holder_words d))) → (d.key < j → R (γ c.gap) (γ d.gap))
        → (g : ℕ) (A B : List Desc) → R (reads α γ g (words (A ++ c ∷ B)) j) (reads α γ g (words (A ++ d ∷ B)) j)
    reads_kept d c e here above g [] B =
        subst (λ k. R (by_tri (ℕ-tri j k) (γ g) (α (holder_words c)) (reads α γ c.gap (words B) j)) (reads α γ g (words (d ∷ B)) j)) (sym e) (go (ℕ-tri j d.key))
      where
        go : (t : Tri ◌<◌ j d.key) → R (by_tri t (γ g) (α (holder_words c)) (reads α γ c.gap (words B) j)) (by_tri t (γ g) (α (holder_words d)) (reads α γ d.gap (words B) j))
        go (less q) = same_word (γ g)
        go (equal q) = here (sym q)
        go (greater q) = reads-like c.gap d.gap (words B) (above q)
    reads_kept d c e here above g (a ∷ A) B = go (ℕ-tri j a.key) (reads_kept d c e here above a.gap A B)
      where
        go : (t : Tri ◌<◌ j a.key) → R (reads α γ a.gap (words (A ++ c ∷ B)) j) (reads α γ a.gap (words (A ++ d ∷ B)) j)
            → R (by_tri t (γ g) (α (holder_words a)) (reads α γ a.gap (words (A ++ c ∷ B)) j)) (by_tri t (γ g) (α (holder_words a)) (reads α γ a.gap (words (A ++ d ∷ B)) j))
        go (less q) ih = same_word (γ g)
        go (equal q) ih = same_word (α (holder_words a))
        go (greater q) ih = ih

pub update-at : (k from : ℕ) (d : Desc) → d.key ≡ k → (A B : List Desc) → In from k A → updaters (words (A ++ d ∷ B)) k ≡ d.update
update-at k from d e A B i = reads-update 0 (words (A ++ d ∷ B)) k ∙ reads_at (λ x. x.update) (λ w. 0) k from d e 0 A B i

pub group_at : (k from : ℕ) (d : Desc) → d.key ≡ k → (A B : List Desc) → In from k A → group_in k (A ++ d ∷ B) ≡ d.members
unfolding group_in
group_at k from d e [] B i = rw (eqb_yes d.key k e) refl
group_at k from d e (a ∷ A) B i = rw (eqb_no a.key k (λ q. omega (arith, q, i.0.1))) (group_at k from d e A B i.1)

pub group-other : (d c : Desc) → c.key ≡ d.key → (A B : List Desc) (j : ℕ) → ¬ (d.key ≡ j) → group_in j (A ++ c ∷ B) ≡ group_in j (A ++ d ∷ B)
unfolding group_in
group-other d c e [] B j n = rw (e, eqb_no d.key j n) refl
group-other d c e (a ∷ A) B j n = ap (λ w. cond (eqb a.key j) a.members w) (group-other d c e A B j n)

-- The same words, in another descriptor.
pub words-mid : (d c : Desc) → holder_words c ≡ holder_words d → (A B : List Desc) → words (A ++ c ∷ B) ≡ words (A ++ d ∷ B)
words-mid d c e [] B = ap (λ x. x ∷ words B) e
words-mid d c e (a ∷ A) B = ap (λ l. holder_words a ∷ l) (words-mid d c e A B)

pub rises-kept : (d c : Desc) → c.key ≡ d.key → (lo e : ℕ) (A B : List Desc) → Rises lo e (A ++ d ∷ B) → Rises lo e (A ++ c ∷ B)
rises-kept d c q lo e [] B r = subst (λ k. ((lo ≤ k) × (k < e)) × Rises (suc k) e B) (sym q) r
rises-kept d c q lo e (a ∷ A) B r = (r.0, rises-kept d c q (suc a.key) e A B r.1)

pub listed_kept : (d c : Desc) → c.members ≡ d.members → (A B : List Desc) → Listed (A ++ d ∷ B) → Listed (A ++ c ∷ B)
listed_kept d c q [] B r = (subst (Up 1) (sym q) r.0, r.1)
listed_kept d c q (a ∷ A) B r = (r.0, listed_kept d c q A B r.1)

pub listed_at : (d : Desc) (A B : List Desc) → Listed (A ++ d ∷ B) → Up 1 d.members
listed_at d [] B r = r.0
listed_at d (a ∷ A) B r = listed_at d A B r.1

-- ---- members

pub elem-with : (x e : ℕ) (l : List ℕ) → elem x (with_member e l) ≡ (eqb x e || elem x l)
unfolding with_member
elem-with x e [] = refl
elem-with x e (y ∷ l) = go (ltb e y) (eqb e y) refl (elem-with x e l)
  where
    swap : (a b c : Bool) → (a || (b || c)) ≡ (b || (a || c))
    swap true true c = refl
    swap true false c = refl
    swap false b c = refl

    twice : (a c : Bool) → (a || c) ≡ (a || (a || c))
    twice true c = refl
    twice false c = refl

    go : (a b : Bool) → eqb e y ≡ b → elem x (with_member e l) ≡ (eqb x e || elem x l)
        → elem x (cond a (e ∷ y ∷ l) (cond b (y ∷ l) (y ∷ with_member e l))) ≡ (eqb x e || (eqb x y || elem x l))
    go true b q ih = refl
    go false true q ih = twice (eqb x y) (elem x l) ∙ ap (λ n. eqb x n || (eqb x y || elem x l)) (sym (eqb_is e y q))
    go false false q ih = ap (λ w. eqb x y || w) ih ∙ swap (eqb x y) (eqb x e) (elem x l)

pub elem-with-same : (e : ℕ) (l : List ℕ) → elem e (with_member e l) ≡ true
elem-with-same e l = elem-with e e l ∙ ap (λ b. b || elem e l) (eqb_yes e e refl)

pub elem-with-other : (x e : ℕ) (l : List ℕ) → ¬ (x ≡ e) → elem x (with_member e l) ≡ elem x l
elem-with-other x e l n = elem-with x e l ∙ ap (λ b. b || elem x l) (eqb_no x e n)

pub elem-without-other : (x e : ℕ) (l : List ℕ) → ¬ (x ≡ e) → elem x (without_member e l) ≡ elem x l
unfolding without_member
elem-without-other x e [] n = refl
elem-without-other x e (y ∷ l) n = go (eqb e y) refl (elem-without-other x e l n)
  where
    go : (b : Bool) → eqb e y ≡ b → elem x (without_member e l) ≡ elem x l → elem x (cond b l (y ∷ without_member e l)) ≡ (eqb x y || elem x l)
    go true q ih = sym (ap (λ c. c || elem x l) (eqb_no x y (λ z. n (z ∙ sym (eqb_is e y q)))))
    go false q ih = ap (λ w. eqb x y || w) ih

elem_below : (x lo : ℕ) (l : List ℕ) → Up lo l → x < lo → elem x l ≡ false
elem_below x lo [] u h = refl
elem_below x lo (y ∷ l) u h = rw (eqb_no x y (λ q. omega (arith, q, u.0, h))) (elem_below x (suc y) l u.1 (omega (arith, u.0, h)))

pub elem-without-same : (e lo : ℕ) (l : List ℕ) → Up lo l → elem e (without_member e l) ≡ false
unfolding without_member
elem-without-same e lo [] u = refl
elem-without-same e lo (y ∷ l) u = go (eqb e y) refl (elem-without-same e (suc y) l u.1)
  where
    go : (b : Bool) → eqb e y ≡ b → elem e (without_member e l) ≡ false → elem e (cond b l (y ∷ without_member e l)) ≡ false
    go true q ih = elem_below e (suc y) l u.1 (omega (arith, eqb_is e y q))
    go false q ih = rw q ih

-- ---- the state

-- A stored key, in view.
pub record Kept (k : ℕ) (s : State) : Type 0 where
  pub A : List Desc
  pub d : Desc
  pub B : List Desc
  pub key : d.key ≡ k
  pub low : In 0 k A
  pub high : In (suc k) (suc top) B
  pub was : lvs s ≡ A ++ d ∷ B
  pub desc : desc_of k s ≡ d
  pub put : (f : Desc → Desc) → lvs (on_desc k f s) ≡ A ++ f d ∷ B

pub kept : (k : ℕ) (s : State) → Ordered s → k ≤ top → (desc_of k s).key ≡ k → Kept k s
unfolding desc_of on_tree Ordered
kept k s o le e =
    let C = cut k (suc s.root.height) s.root.node 0 top o (omega arith) le in
    let q : desc_of k s ≡ C.d = ap or_none C.leaf in
    record {
      A = C.A;
      d = C.d;
      B = C.B;
      key = sym (ap (λ d. d.key) q) ∙ e;
      low = in-wide 0 C.lo 0 k C.A C.low (omega arith) C.at_least;
      high = in-wide (suc C.hi) (suc top) (suc k) (suc top) C.B C.high (let z = C.at_most in omega arith) (omega arith);
      was = C.was;
      desc = q;
      put = C.put;
    }

-- ---- a key that is shown: its descriptor is d, between A and B

pub record Shown (k : ℕ) (t : State) : Type 0 where
  pub A : List Desc
  pub d : Desc
  pub B : List Desc
  pub key : d.key ≡ k
  pub low : In 0 k A
  pub leaves : lvs t ≡ A ++ d ∷ B

module _ {k : ℕ} {t : State} (D : Shown k t) where
  pub shown-words : words (seen t) ≡ words (D.A ++ D.d ∷ D.B)
  shown-words = seen-words t ∙ ap words D.leaves

  pub shown-reads : (α : G.Desc → ℕ) (γ : ℕ → ℕ) → reads α γ 0 (words (seen t)) k ≡ α (holder_words D.d)
  shown-reads α γ = ap (λ w. reads α γ 0 w k) shown-words ∙ reads_at α γ k 0 D.d D.key 0 D.A D.B D.low

  pub shown-locate : locate_word k (seen t) ≡ D.d.locate
  unfolding locate_word
  shown-locate = reads-locate 0 (words (seen t)) k ∙ shown-reads (λ x. x.locate) (λ w. w)

  pub shown-update : update_word k (seen t) ≡ D.d.update
  unfolding update_word
  shown-update = ap (λ w. updaters w k) shown-words ∙ update-at k 0 D.d D.key D.A D.B D.low

  pub shown-group : group_in k (seen t) ≡ D.d.members
  shown-group = seen-group k t ∙ ap (group_in k) D.leaves ∙ group_at k 0 D.d D.key D.A D.B D.low

  above-reads : (α : G.Desc → ℕ) (γ : ℕ → ℕ) (z : ℕ) → k < z → reads α γ 0 (words (seen t)) z ≡ reads α γ D.d.gap (words D.B) z
  above-reads α γ z h = ap (λ w. reads α γ 0 w z) shown-words ∙ reads-behind α γ k 0 z D.d D.key h 0 D.A D.B D.low

  pub above-locate : (z : ℕ) → k < z → locate_word z (seen t) ≡ locators D.d.gap (words D.B) z
  unfolding locate_word
  above-locate z h = reads-locate 0 (words (seen t)) z ∙ above-reads (λ x. x.locate) (λ w. w) z h ∙ sym (reads-locate D.d.gap (words D.B) z)

  pub above-update : (z : ℕ) → k < z → update_word z (seen t) ≡ updaters (words D.B) z
  unfolding update_word
  above-update z h = reads-update 0 (words (seen t)) z ∙ above-reads (λ x. x.update) (λ w. 0) z h ∙ sym (reads-update D.d.gap (words D.B) z)

module _ (k : ℕ) (s : State) (K : Kept k s) where
  abbrev pub was_shown : Shown k s
  was_shown = record { A = K.A; d = K.d; B = K.B; key = K.key; low = K.low; leaves = K.was }

  pub was-locate : locate_word k (seen s) ≡ K.d.locate
  was-locate = shown-locate was_shown

  pub was-update : update_word k (seen s) ≡ K.d.update
  was-update = shown-update was_shown

  pub was-group : group_in k (seen s) ≡ K.d.members
  was-group = shown-group was_shown

-- ---- a stored descriptor changed in place, its key kept

module _ (k : ℕ) (s : State) (K : Kept k s) (f : Desc → Desc) (fk : (f K.d).key ≡ K.d.key) where
  abbrev v : State
  v = on_desc k f s

  abbrev pub put_shown : Shown k v
  put_shown = record { A = K.A; d = f K.d; B = K.B; key = fk ∙ K.key; low = K.low; leaves = K.put f }

  pub put-locate-here : locate_word k (seen v) ≡ (f K.d).locate
  put-locate-here = shown-locate put_shown

  pub put-update : update_word k (seen v) ≡ (f K.d).update
  put-update = shown-update put_shown

  pub put-group : group_in k (seen v) ≡ (f K.d).members
  put-group = shown-group put_shown

  -- What R relates at the descriptor and its gap, it relates at every key.
  pub put_reads : (α : G.Desc → ℕ) (γ : ℕ → ℕ) (R : ℕ → ℕ → Type 0) → ((w : ℕ) → R w w) → (j : ℕ) → (k ≡ j → R (α (holder_words (f K.d))) (α (holder_words K.d)))
      → (k < j → R (γ (f K.d).gap) (γ K.d.gap)) → R (reads α γ 0 (words (seen v)) j) (reads α γ 0 (words (seen s)) j)
  put_reads α γ R i j here above =
      subst (λ l. R (reads α γ 0 (words (seen v)) j) (reads α γ 0 l j)) (sym (shown-words (was_shown k s K)))
      (subst (λ l. R (reads α γ 0 l j) (reads α γ 0 (words (K.A ++ K.d ∷ K.B)) j)) (sym (shown-words put_shown))
      (reads_kept α γ R i j K.d (f K.d) fk (λ e. here (sym K.key ∙ e)) (λ h. above (omega (arith, K.key, h))) 0 K.A K.B))

  locates : (j : ℕ) → (k ≡ j → (f K.d).locate ≡ K.d.locate) → (k < j → (f K.d).gap ≡ K.d.gap) → locate_word j (seen v) ≡ locate_word j (seen s)
  unfolding locate_word
  locates j here above = reads-locate 0 (words (seen v)) j ∙ put_reads (λ x. x.locate) (λ w. w) (λ a b. a ≡ b) (λ w. refl) j here above ∙ sym (reads-locate 0 (words (seen s)) j)

  updates : (j : ℕ) → (k ≡ j → (f K.d).update ≡ K.d.update) → update_word j (seen v) ≡ update_word j (seen s)
  unfolding update_word
  updates j here = reads-update 0 (words (seen v)) j ∙ put_reads (λ x. x.update) (λ w. 0) (λ a b. a ≡ b) (λ w. refl) j here (λ h. refl) ∙ sym (reads-update 0 (words (seen s)) j)

  pub put-locate : (f K.d).locate ≡ K.d.locate → (f K.d).gap ≡ K.d.gap → (j : ℕ) → locate_word j (seen v) ≡ locate_word j (seen s)
  put-locate l g j = locates j (λ e. l) (λ h. g)

  pub put-locate-below : (j : ℕ) → j < k → locate_word j (seen v) ≡ locate_word j (seen s)
  put-locate-below j h = locates j (λ e. absurd (omega (arith, e, h))) (λ i. absurd (omega (arith, i, h)))

  pub put-update-kept : (f K.d).update ≡ K.d.update → (j : ℕ) → update_word j (seen v) ≡ update_word j (seen s)
  put-update-kept u j = updates j (λ e. u)

  pub put-update-other : (j : ℕ) → ¬ (k ≡ j) → update_word j (seen v) ≡ update_word j (seen s)
  put-update-other j n = updates j (λ e. absurd (n e))

  pub put-group-other : (j : ℕ) → ¬ (k ≡ j) → group_in j (seen v) ≡ group_in j (seen s)
  put-group-other j n = seen-group j v ∙ ap (group_in j) (K.put f) ∙ group-other K.d (f K.d) fk K.A K.B j (λ q. n (sym K.key ∙ q)) ∙ sym (seen-group j s ∙ ap (group_in j) K.was)

  pub put-group-kept : (f K.d).members ≡ K.d.members → (j : ℕ) → group_in j (seen v) ≡ group_in j (seen s)
  put-group-kept m j = at (ℕ_discrete k j)
    where
      at : Dec (k ≡ j) → group_in j (seen v) ≡ group_in j (seen s)
      at (yes e) = subst (λ i. group_in i (seen v) ≡ group_in i (seen s)) e (put-group ∙ m ∙ sym (was-group k s K))
      at (no n) = put-group-other j n

  pub put-rises : Rises 0 4294967296 (lvs s) → Rises 0 4294967296 (lvs v)
  put-rises r = subst (Rises 0 4294967296) (sym (K.put f)) (rises-kept K.d (f K.d) fk 0 4294967296 K.A K.B (subst (Rises 0 4294967296) K.was r))

  pub put-listed-kept : (f K.d).members ≡ K.d.members → Listed (lvs s) → Listed (lvs v)
  put-listed-kept m l = subst Listed (sym (K.put f)) (listed_kept K.d (f K.d) m K.A K.B (subst Listed K.was l))

-- Two changes with the same words; a change that keeps them.
pub put-words : (k : ℕ) (s : State) (K : Kept k s) (f g : Desc → Desc) → holder_words (f K.d) ≡ holder_words (g K.d) → words (seen (on_desc k f s)) ≡ words (seen (on_desc k g s))
put-words k s K f g e = seen-words (on_desc k f s) ∙ ap words (K.put f) ∙ words-mid (g K.d) (f K.d) e K.A K.B ∙ sym (seen-words (on_desc k g s) ∙ ap words (K.put g))

pub put-words-kept : (k : ℕ) (s : State) (K : Kept k s) (f : Desc → Desc) → holder_words (f K.d) ≡ holder_words K.d → words (seen (on_desc k f s)) ≡ words (seen s)
put-words-kept k s K f e = seen-words (on_desc k f s) ∙ ap words (K.put f) ∙ words-mid K.d (f K.d) e K.A K.B ∙ sym (shown-words (was_shown k s K))

-- One group of the test: its members and its undo records. The stamps of the test say, for each entry, by which record the group lists it.
use Rattle.std.specs.Prelude.{◌≡◌, Bool, cond, not, eqb, leb, length, get_or}
use Rattle.std.proofs.Math.Path.{refl, subst}
use Rattle.std.proofs.Common.{sym, ap, ◌∙◌, arith, length-set, get_or-set_same, get_or-set_other}
use Rattle.std.proofs.Math.Bool.{true, false}
use mathlib.Core.List.{List, [], ◌∷◌}
use Prim.Native.Nat.{ℕ, zero, suc, ◌+◌, ◌≤◌}
use Rattle.std.proofs.Math.Decide.{ℕ_discrete}
use Rattle.std.proofs.Math.ListN.{set}
use borrow.Author.Tests.{eq-eqb, ne_eqb, le-leb, eqb-true, eqb-false, leb-true, not-true}
use Rattle.groups.specs.Membership.{membership_at}
use Rattle.undos.specs.Undo.{undo_at}
use Rattle.meaning.specs.Sound.{All}
use Rattle.marks.specs.Marks.{entry_ok, membership_mark}
use Rattle.marks.specs.Steps.{no as never, both}
use Rattle.marks.specs.Trail.{Turn, turn, then_turn}
use Rattle.lists.specs.Lists.{list_entry, unlist_entry, member_one, Held, holding, member_turn, undo_one, undo_from}
use Rattle.soundness.specs.Chains.{Along, Turns}

-- ---- stamps

-- By which record each entry is listed, 0 for none; and that changed for one entry.
abbrev pub By : Type 0
By = ℕ → ℕ

abbrev pub set_by : ℕ → ℕ → By → By
set_by e i g f = cond (eqb f e) i (g f)

abbrev pub nobody : By
nobody e = 0

-- The stamps l say of group d that it lists entries as g says.
pub record Stamps (d : ℕ) (l : List ℕ) (g : By) : Type 0 where
  pub size : length l ≡ 2050
  pub none : (e : ℕ) → 1 ≤ e → e ≤ 1024 → g e ≡ 0 → ¬ (get_or l e 0 ≡ d)
  pub some : (e : ℕ) → 1 ≤ e → e ≤ 1024 → ¬ (g e ≡ 0) → (get_or l e 0 ≡ d) × (get_or l (1025 + e) 0 ≡ g e)

set_same : (e i : ℕ) (g : By) → set_by e i g e ≡ i
set_same e i g = rw (eq-eqb e e refl) refl

set_other : (e f i : ℕ) (g : By) → ¬ (f ≡ e) → set_by e i g f ≡ g f
set_other e f i g n = rw (ne_eqb f e n) refl

module _ (d : ℕ) (l : List ℕ) (g : By) (S : Stamps d l g) (e i : ℕ) (lo : 1 ≤ e) (hi : e ≤ 1024) where
  -- An entry that is not listed comes in.
  pub stamp-in : ¬ (i ≡ 0) → Stamps d (set (set l e d) (1025 + e) i) (set_by e i g)
  stamp-in nz = record {
    size = length-set (set l e d) (1025 + e) i ∙ length-set l e d ∙ S.size;
    none = λ f a b z. go-none f a b z (ℕ_discrete f e);
    some = λ f a b z. go-some f a b z (ℕ_discrete f e);
  }
    where
      long : length (set l e d) ≡ 2050
      long = length-set l e d ∙ S.size

      low : (f : ℕ) → f ≤ 1024 → get_or (set (set l e d) (1025 + e) i) f 0 ≡ get_or (set l e d) f 0
      low f b = get_or-set_other (set l e d) (1025 + e) f i 0 (λ q. omega (arith, q))

      go-none : (f : ℕ) → 1 ≤ f → f ≤ 1024 → set_by e i g f ≡ 0 → Dec (f ≡ e) → ¬ (get_or (set (set l e d) (1025 + e) i) f 0 ≡ d)
      go-none f a b z (yes q) h = nz (sym (set_same e i g) ∙ ap (set_by e i g) (sym q) ∙ z)
      go-none f a b z (no n) h =
          S.none f a b (sym (set_other e f i g n) ∙ z) (sym (low f b ∙ get_or-set_other l e f d 0 n) ∙ h)

      go-some : (f : ℕ) → 1 ≤ f → f ≤ 1024 → ¬ (set_by e i g f ≡ 0) → Dec (f ≡ e)
          → (get_or (set (set l e d) (1025 + e) i) f 0 ≡ d) × (get_or (set (set l e d) (1025 + e) i) (1025 + f) 0 ≡ set_by e i g f)
      go-some f a b z (yes q) = (
        low f b ∙ ap (λ x. get_or (set l e d) x 0) q ∙ get_or-set_same l e d 0 (omega (arith, S.size)),
        ap (λ x. get_or (set (set l e d) (1025 + e) i) (1025 + x) 0) q ∙ get_or-set_same (set l e d) (1025 + e) i 0 (omega (arith, long)) ∙ sym (set_same e i g)
            ∙ ap (set_by e i g) (sym q),
      )
      go-some f a b z (no n) =
          let w = S.some f a b (λ x. z (set_other e f i g n ∙ x)) in (
            low f b ∙ get_or-set_other l e f d 0 n ∙ w.0,
            get_or-set_other (set l e d) (1025 + e) (1025 + f) i 0 (λ q. n (omega (arith, q))) ∙ get_or-set_other l e (1025 + f) d 0 (λ q. omega (arith, q)) ∙ w.1 ∙ sym (set_other e f i g n),
          )

  -- An entry that is listed goes out.
  pub stamp-out : ¬ (d ≡ 0) → Stamps d (set l e 0) (set_by e 0 g)
  stamp-out nd = record {
    size = length-set l e 0 ∙ S.size;
    none = λ f a b z. go-none f a b z (ℕ_discrete f e);
    some = λ f a b z. go-some f a b z (ℕ_discrete f e);
  }
    where
      go-none : (f : ℕ) → 1 ≤ f → f ≤ 1024 → set_by e 0 g f ≡ 0 → Dec (f ≡ e) → ¬ (get_or (set l e 0) f 0 ≡ d)
      go-none f a b z (yes q) h = nd (sym h ∙ ap (λ x. get_or (set l e 0) x 0) q ∙ get_or-set_same l e 0 0 (omega (arith, S.size)))
      go-none f a b z (no n) h = S.none f a b (sym (set_other e f 0 g n) ∙ z) (sym (get_or-set_other l e f 0 0 n) ∙ h)

      go-some : (f : ℕ) → 1 ≤ f → f ≤ 1024 → ¬ (set_by e 0 g f ≡ 0) → Dec (f ≡ e) → (get_or (set l e 0) f 0 ≡ d) × (get_or (set l e 0) (1025 + f) 0 ≡ set_by e 0 g f)
      go-some f a b z (yes q) = absurd (z (ap (set_by e 0 g) q ∙ set_same e 0 g))
      go-some f a b z (no n) =
          let w = S.some f a b (λ x. z (set_other e f 0 g n ∙ x)) in
          (get_or-set_other l e f 0 0 n ∙ w.0, get_or-set_other l e (1025 + f) 0 0 (λ q. omega (arith, q)) ∙ w.1 ∙ sym (set_other e f 0 g n))

  -- The two tests on stamps.
  pub list-ok : g e ≡ 0 → list_entry l d e i ≡ turn true (set (set l e d) (1025 + e) i)
  unfolding list_entry
  list-ok z = simp (ne_eqb (get_or l e 0) d (S.none e lo hi z))

  pub list-free : (list_entry l d e i).ok ≡ true → g e ≡ 0
  unfolding list_entry
  list-free o = go (ℕ_discrete (g e) 0)
    where
      go : Dec (g e ≡ 0) → g e ≡ 0
      go (yes z) = z
      go (no n) = never (subst (λ b. (cond b (turn false l) (turn true (set (set l e d) (1025 + e) i))).ok ≡ true) (eq-eqb (get_or l e 0) d (S.some e lo hi n).0) o)

  pub unlist-ok : ¬ (i ≡ 0) → g e ≡ i → unlist_entry l d e i ≡ turn true (set l e 0)
  unfolding unlist_entry
  unlist-ok nz q =
      let w = S.some e lo hi (λ z. nz (sym q ∙ z)) in
      simp (eq-eqb (get_or l e 0) d w.0, eq-eqb (get_or l (1025 + e) 0) i (w.1 ∙ q))

  pub unlist-by : (unlist_entry l d e i).ok ≡ true → (g e ≡ i) × ¬ (g e ≡ 0)
  unfolding unlist_entry
  unlist-by o = go (ℕ_discrete (g e) 0)
    where
      passed : (b : Bool) → (cond b (turn true (set l e 0)) (turn false l)).ok ≡ true → b ≡ true
      passed true z = refl
      passed false z = never z

      go : Dec (g e ≡ 0) → (g e ≡ i) × ¬ (g e ≡ 0)
      go (yes z) = absurd (S.none e lo hi z (eqb-true (get_or l e 0) d (both (eqb (get_or l e 0) d) (eqb (get_or l (1025 + e) 0) i) (passed _ o)).0))
      go (no n) =
          let p = both (eqb (get_or l e 0) d) (eqb (get_or l (1025 + e) 0) i) (passed _ o) in
          (sym (S.some e lo hi n).1 ∙ eqb-true (get_or l (1025 + e) 0) i p.1, n)

-- ---- members

entry-range : (e m : ℕ) → entry_ok e m ≡ true → (1 ≤ e) × (e ≤ m)
unfolding entry_ok
entry-range e m o =
    let p = both (not (eqb e 0)) (leb e m) o in
    let n : ¬ (e ≡ 0) = eqb-false e 0 (not-true (eqb e 0) p.0) in
    (omega arith, leb-true e m p.1)

range-entry : (e m : ℕ) → 1 ≤ e → e ≤ m → entry_ok e m ≡ true
unfolding entry_ok
range-entry e m a b = simp (ne_eqb e 0 (λ q. omega (arith, q)), le-leb e m b)

module _ (s : List ℕ) (m d : ℕ) (small : m ≤ 1024) (nd : ¬ (d ≡ 0)) where
  -- Each member names the one before it, and an entry in 1 to M that is not listed yet.
  abbrev pub Comes : ℕ → List ℕ → By → Type 0
  Comes before [] g = Unit {0}
  Comes before (i ∷ l) g =
      ((membership_at s m i).before ≡ before) × ((1 ≤ (membership_at s m i).entry) × ((membership_at s m i).entry ≤ m))
      × (g (membership_at s m i).entry ≡ 0) × Comes i l (set_by (membership_at s m i).entry i g)

  -- Who is listed then.
  abbrev pub come : List ℕ → By → By
  come [] g = g
  come (i ∷ l) g = come l (set_by (membership_at s m i).entry i g)

  one_passes : (l : List ℕ) (g : By) → Stamps d l g → (i before : ℕ) → (member_one s l m d i before).ok ≡ true
      → ((membership_at s m i).before ≡ before) × ((1 ≤ (membership_at s m i).entry) × ((membership_at s m i).entry ≤ m)) × (g (membership_at s m i).entry ≡ 0)
  unfolding member_one
  one_passes l g S i before o =
      let t = past _ _ o in
      let p = both (eqb (membership_at s m i).before before) (entry_ok (membership_at s m i).entry m) t.0 in
      let r = entry-range (membership_at s m i).entry m p.1 in
      (eqb-true (membership_at s m i).before before p.0, r, list-free d l g S (membership_at s m i).entry i r.0 (omega (arith, r.1)) t.1)
    where
      past : (b : Bool) (x : Turn (List ℕ)) → (cond b x (turn false l)).ok ≡ true → (b ≡ true) × (x.ok ≡ true)
      past true x z = (refl, z)
      past false x z = never z

  one-is : (l : List ℕ) (g : By) → Stamps d l g → (i before : ℕ) → (membership_at s m i).before ≡ before → 1 ≤ (membership_at s m i).entry → (membership_at s m i).entry ≤ m
      → g (membership_at s m i).entry ≡ 0 → member_one s l m d i before ≡ turn true (set (set l (membership_at s m i).entry d) (1025 + (membership_at s m i).entry) i)
  unfolding member_one
  one-is l g S i before e a b z =
      simp (eq-eqb (membership_at s m i).before before e, range-entry (membership_at s m i).entry m a b)
      (list-ok d l g S (membership_at s m i).entry i a (omega arith) z)

  -- The turns of the members pass exactly if each comes in so.
  pub members-come : (seen l : List ℕ) (before : ℕ) (g : By) (ms : List ℕ) (h : Held) → All (λ i. ¬ (i ≡ 0)) ms → Stamps d l g
      → Turns (member_turn s m d) membership_mark seen (holding l before) ms h → Comes before ms g × Stamps d h.list (come ms g)
  unfolding member_turn
  members-come seen l before g [] h nz S t = (tt, subst (λ x. Stamps d x.list g) t S)
  members-come seen l before g (i ∷ ms) h nz S t =
      let p = one_passes l g S i before t.0 in
      let q = one-is l g S i before p.0 p.1.0 p.1.1 p.2 in
      let e = (membership_at s m i).entry in
      let w = members-come (set seen i membership_mark) (set (set l e d) (1025 + e) i) i (set_by e i g) ms h nz.1
      (stamp-in d l g S e i p.1.0 (omega (arith, p.1.1)) nz.0)
      (subst (λ x. Turns (member_turn s m d) membership_mark (set seen i membership_mark) (holding x.held i) ms h) q t.1) in
      ((p.0, p.1, p.2, w.0), w.1)

  pub come-members : (seen l : List ℕ) (before : ℕ) (g : By) (ms : List ℕ) → All (λ i. ¬ (i ≡ 0)) ms → Stamps d l g → Comes before ms g
      → (h : Held) × Turns (member_turn s m d) membership_mark seen (holding l before) ms h × Stamps d h.list (come ms g)
  unfolding member_turn
  come-members seen l before g [] nz S c = (holding l before, refl, S)
  come-members seen l before g (i ∷ ms) nz S c =
      let q = one-is l g S i before c.0 c.1.0 c.1.1 c.2 in
      let e = (membership_at s m i).entry in
      let w = come-members (set seen i membership_mark) (set (set l e d) (1025 + e) i) i (set_by e i g) ms nz.1
      (stamp-in d l g S e i c.1.0 (omega (arith, c.1.1)) nz.0) c.3 in
      (w.0, (ap (λ x. x.ok) q, subst (λ x. Turns (member_turn s m d) membership_mark (set seen i membership_mark) (holding x.held i) ms w.0) (sym q) w.1), w.2)

  -- ---- undo records

  -- Undone in this order, each added one goes out by the record that it names, and each taken one, not listed then, comes back by its own record.
  abbrev pub Undoes : List ℕ → By → Type 0
  Undoes [] g = Unit {0}
  Undoes (i ∷ us) g =
      ((1 ≤ (undo_at s m i).entry) × ((undo_at s m i).entry ≤ m))
      × ((undo_at s m i).kind ≡ 2 → (g (undo_at s m i).entry ≡ (undo_at s m i).saved) × ¬ ((undo_at s m i).saved ≡ 0))
      × (¬ ((undo_at s m i).kind ≡ 2) → g (undo_at s m i).entry ≡ 0)
      × Undoes us (set_by (undo_at s m i).entry (cond (eqb (undo_at s m i).kind 2) 0 i) g)

  -- Who is listed then.
  abbrev pub undone : List ℕ → By → By
  undone [] g = g
  undone (i ∷ us) g = undone us (set_by (undo_at s m i).entry (cond (eqb (undo_at s m i).kind 2) 0 i) g)

  -- One undo record.
  pub record Undone (l : List ℕ) (g : By) (i : ℕ) : Type 0 where
    pub inside : (1 ≤ (undo_at s m i).entry) × ((undo_at s m i).entry ≤ m)
    pub out : (undo_at s m i).kind ≡ 2 → (g (undo_at s m i).entry ≡ (undo_at s m i).saved) × ¬ ((undo_at s m i).saved ≡ 0)
    pub back : ¬ ((undo_at s m i).kind ≡ 2) → g (undo_at s m i).entry ≡ 0
    pub list : List ℕ
    pub is : undo_one s l m d i ≡ turn true list
    pub stamps : Stamps d list (set_by (undo_at s m i).entry (cond (eqb (undo_at s m i).kind 2) 0 i) g)

  one-undone : (l : List ℕ) (g : By) → Stamps d l g → (i : ℕ) → ¬ (i ≡ 0) → (inside : (1 ≤ (undo_at s m i).entry) × ((undo_at s m i).entry ≤ m))
      → (out : (undo_at s m i).kind ≡ 2 → (g (undo_at s m i).entry ≡ (undo_at s m i).saved) × ¬ ((undo_at s m i).saved ≡ 0))
      → (back : ¬ ((undo_at s m i).kind ≡ 2) → g (undo_at s m i).entry ≡ 0) → Undone l g i
  unfolding undo_one
  one-undone l g S i nz inside out back = go (ℕ_discrete (undo_at s m i).kind 2)
    where
      go : Dec ((undo_at s m i).kind ≡ 2) → Undone l g i
      go (yes q) = record {
        inside = inside;
        out = out;
        back = back;
        list = set l (undo_at s m i).entry 0;
        is = simp (range-entry (undo_at s m i).entry m inside.0 inside.1, eq-eqb (undo_at s m i).kind 2 q)
            (unlist-ok d l g S (undo_at s m i).entry (undo_at s m i).saved inside.0 (omega (arith, inside.1)) (out q).1 (out q).0);
        stamps = subst (λ b. Stamps d (set l (undo_at s m i).entry 0) (set_by (undo_at s m i).entry (cond b 0 i) g)) (sym (eq-eqb (undo_at s m i).kind 2 q))
            (stamp-out d l g S (undo_at s m i).entry i inside.0 (omega (arith, inside.1)) nd);
      }
      go (no q) = record {
        inside = inside;
        out = out;
        back = back;
        list = set (set l (undo_at s m i).entry d) (1025 + (undo_at s m i).entry) i;
        is = simp (range-entry (undo_at s m i).entry m inside.0 inside.1, ne_eqb (undo_at s m i).kind 2 q)
            (list-ok d l g S (undo_at s m i).entry i inside.0 (omega (arith, inside.1)) (back q));
        stamps = subst (λ b. Stamps d (set (set l (undo_at s m i).entry d) (1025 + (undo_at s m i).entry) i) (set_by (undo_at s m i).entry (cond b 0 i) g))
            (sym (ne_eqb (undo_at s m i).kind 2 q)) (stamp-in d l g S (undo_at s m i).entry i inside.0 (omega (arith, inside.1)) nz);
      }

  one-passed : (l : List ℕ) (g : By) → Stamps d l g → (i : ℕ) → ¬ (i ≡ 0) → (undo_one s l m d i).ok ≡ true → Undone l g i
  unfolding undo_one
  one-passed l g S i nz o = go (ℕ_discrete (undo_at s m i).kind 2)
    where
      past : (b : Bool) (x : Turn (List ℕ)) → (cond b x (turn false l)).ok ≡ true → (b ≡ true) × (x.ok ≡ true)
      past true x z = (refl, z)
      past false x z = never z

      t : (entry_ok (undo_at s m i).entry m ≡ true)
          × ((cond (eqb (undo_at s m i).kind 2) (unlist_entry l d (undo_at s m i).entry (undo_at s m i).saved) (list_entry l d (undo_at s m i).entry i)).ok ≡ true)
      t = past _ _ o

      r : (1 ≤ (undo_at s m i).entry) × ((undo_at s m i).entry ≤ m)
      r = entry-range (undo_at s m i).entry m t.0

      go : Dec ((undo_at s m i).kind ≡ 2) → Undone l g i
      go (yes q) =
          let u = unlist-by d l g S (undo_at s m i).entry (undo_at s m i).saved r.0 (omega (arith, r.1))
          (subst (λ b. (cond b (unlist_entry l d (undo_at s m i).entry (undo_at s m i).saved) (list_entry l d (undo_at s m i).entry i)).ok ≡ true) (eq-eqb (undo_at s m i).kind 2 q) t.1) in
          one-undone l g S i nz r (λ z. (u.0, λ y. u.1 (u.0 ∙ y))) (λ n. absurd (n q))
      go (no q) =
          let u = list-free d l g S (undo_at s m i).entry i r.0 (omega (arith, r.1))
          (subst (λ b. (cond b (unlist_entry l d (undo_at s m i).entry (undo_at s m i).saved) (list_entry l d (undo_at s m i).entry i)).ok ≡ true) (ne_eqb (undo_at s m i).kind 2 q) t.1) in
          one-undone l g S i nz r (λ z. absurd (q z)) (λ n. u)

  -- The undo records as they are filed: f names after record j the one at place 8194 + j.
  module _ (f : List ℕ) (r : ℕ) where
    abbrev pub filed : ℕ → ℕ
    filed j = get_or f (8194 + j) 0

    pub record Undid (l : List ℕ) (g : By) (i n : ℕ) : Type 0 where
      pub us : List ℕ
      pub along : Along filed i us
      pub inside : All (λ j. j ≤ r) us
      pub most : length us ≤ n
      pub undoes : Undoes us g
      pub list : List ℕ
      pub is : undo_from s f m r d l i n ≡ turn true list
      pub stamps : Stamps d list (undone us g)

    undid-end : (l : List ℕ) (g : By) → Stamps d l g → (i n : ℕ) → i ≡ 0 → Undid l g i n
    unfolding undo_from
    undid-end l g S i n z = record { us = []; along = z; inside = tt; most = omega arith; undoes = tt; list = l; is = at n; stamps = S }
      where
        at : (k : ℕ) → undo_from s f m r d l i k ≡ turn true l
        at zero = simp (eq-eqb i 0 z)
        at (suc k) = simp (eq-eqb i 0 z)

    undid-more : (l : List ℕ) (g : By) (i n : ℕ) → ¬ (i ≡ 0) → i ≤ r → (u : Undone l g i)
        → Undid u.list (set_by (undo_at s m i).entry (cond (eqb (undo_at s m i).kind 2) 0 i) g) (filed i) n → Undid l g i (suc n)
    unfolding undo_from
    undid-more l g i n nz le u k = record {
      us = i ∷ k.us;
      along = (refl, nz, k.along);
      inside = (le, k.inside);
      most = omega (arith, k.most);
      undoes = (u.inside, u.out, u.back, k.undoes);
      list = k.list;
      is = simp (ne_eqb i 0 nz, le-leb i r le, u.is) k.is;
      stamps = k.stamps;
    }

    -- Undoing passes exactly if the filed records end, are the store's, and undo in turn.
    pub undo-found : (n : ℕ) (l : List ℕ) (g : By) (i : ℕ) → Stamps d l g → (undo_from s f m r d l i n).ok ≡ true → Undid l g i n
    unfolding undo_from
    undo-found zero l g i S o = undid-end l g S i zero (eqb-true i 0 o)
    undo-found (suc n) l g i S o = go (ℕ_discrete i 0) (λ k h q. undo-found n k h (filed i) q)
      where
        past : (b : Bool) (x : Turn (List ℕ)) → (cond b x (turn false l)).ok ≡ true → (b ≡ true) × (x.ok ≡ true)
        past true x z = (refl, z)
        past false x z = never z

        then_ok : (x : Turn (List ℕ)) (k : List ℕ → Turn (List ℕ)) → (then_turn x k).ok ≡ true → (x.ok ≡ true) × ((k x.held).ok ≡ true)
        then_ok x k z = at x.ok refl z
          where
            at : (b : Bool) → x.ok ≡ b → (cond b (k x.held) x).ok ≡ true → (x.ok ≡ true) × ((k x.held).ok ≡ true)
            at true q y = (q, y)
            at false q y = never (sym q ∙ y)

        go : Dec (i ≡ 0) → ((k : List ℕ) (h : By) → Stamps d k h → (undo_from s f m r d k (filed i) n).ok ≡ true → Undid k h (filed i) n) → Undid l g i (suc n)
        go (yes z) rec = undid-end l g S i (suc n) z
        go (no nz) rec =
            let t = past (leb i r) (then_turn (undo_one s l m d i) (λ k. undo_from s f m r d k (get_or f (8194 + i) 0) n))
            (subst (λ b. (cond b (turn true l) (cond (leb i r) (then_turn (undo_one s l m d i) (λ k. undo_from s f m r d k (get_or f (8194 + i) 0) n)) (turn false l))).ok ≡ true) (ne_eqb i 0 nz) o) in
            let v = then_ok (undo_one s l m d i) (λ k. undo_from s f m r d k (get_or f (8194 + i) 0) n) t.1 in
            let u = one-passed l g S i nz v.0 in
            undid-more l g i n nz (leb-true i r t.0) u
            (rec u.list (set_by (undo_at s m i).entry (cond (eqb (undo_at s m i).kind 2) 0 i) g) u.stamps (subst (λ x. (undo_from s f m r d x.held (filed i) n).ok ≡ true) u.is v.1))

    pub undo-walks : (n : ℕ) (l : List ℕ) (g : By) (i : ℕ) (us : List ℕ) → Stamps d l g → Along filed i us → All (λ j. j ≤ r) us → length us ≤ n → Undoes us g → Undid l g i n
    undo-walks n l g i [] S a b h u = undid-end l g S i n a
    undo-walks zero l g i (j ∷ us) S a b h u = absurd (omega (arith, h))
    undo-walks (suc n) l g i (j ∷ us) S a b h u =
        let at : Undoes (i ∷ us) g = subst (λ x. Undoes (x ∷ us) g) (sym a.0) u in
        let k = one-undone l g S i a.1 at.0 at.1 at.2 in
        undid-more l g i n a.1 (subst (λ x. x ≤ r) (sym a.0) b.0) k
        (undo-walks n k.list (set_by (undo_at s m i).entry (cond (eqb (undo_at s m i).kind 2) 0 i) g) (filed i) us k.stamps a.2 b.1 (omega (arith, h)) at.3)

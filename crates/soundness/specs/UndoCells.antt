-- Undo records by cell: a cell is a descriptor's record and an entry, and has the record by which the group lists the entry, 0 for none. A list of undo
-- records can be undone exactly if the records of each cell can: an added one finds the record that it names, and a taken one finds none.
use Rattle.std.specs.Prelude.{◌≡◌, refl, Bool, cond, not, ◌&&◌, ◌⊎◌, ℕ, ◌≤◌}
use Rattle.std.proofs.Common.{sym, ap, ◌∙◌, inl, inr, eq-eqb, ne_eqb, eqb-true}
use Rattle.std.proofs.Math.Path.{subst}
use Rattle.std.proofs.Math.Bool.{true, false}
use mathlib.Core.List.{List, [], ◌∷◌, ◌++◌}
use Rattle.std.proofs.Math.Dec.{eqb}
use Rattle.words.specs.Store.{word_of}
use Rattle.undos.specs.Undo.{decode_undo}
use Rattle.locks.specs.Holders.{filter}
use Rattle.meaning.specs.Sound.{All}
use Rattle.marks.specs.Steps.{no as never, both}
use Rattle.soundness.specs.ListsPass.{By, set_by, Undoes}
use Rattle.soundness.specs.UndosPass.{concerns, of_group}

module _ (s : List ℕ) (m : ℕ) where
  -- The words of undo record i: its kind, its entry, the record by which an added entry came in, and its group's descriptor.
  abbrev pub kind_of : ℕ → ℕ
  kind_of i = word_of s m i 1

  abbrev pub entry-of : ℕ → ℕ
  entry-of i = word_of s m i 2

  abbrev pub saved_of : ℕ → ℕ
  saved_of i = word_of s m i 3

  abbrev pub group_of : ℕ → ℕ
  group_of i = word_of s m i 4

  -- Record i undoes a change of entry e in the group of record d.
  abbrev pub changes : ℕ → ℕ → ℕ → Bool
  changes d e i = not (eqb (kind_of i) 1) && eqb (group_of i) d && eqb e (entry-of i)

  -- The records of a cell, in their order.
  abbrev pub cell : ℕ → ℕ → List ℕ → List ℕ
  cell d e l = filter (changes d e) l

  -- What record i has to find at its cell to be undone: an added one the record that it names, a taken one none. And what it puts there.
  abbrev pub Finds : ℕ → ℕ → Type 0
  Finds i w = (kind_of i ≡ 2 → (w ≡ saved_of i) × ¬ (saved_of i ≡ 0)) × (¬ (kind_of i ≡ 2) → w ≡ 0)

  abbrev pub puts : ℕ → ℕ
  puts i = cond (eqb (kind_of i) 2) 0 i

  -- The records of a cell, which has w, can be undone in this order.
  abbrev pub Fits : List ℕ → ℕ → Type 0
  Fits [] w = Unit {0}
  Fits (i ∷ l) w = Finds i w × Fits l (puts i)

  -- A record that may be one of the cell's.
  pub fit-one : (i : ℕ) (l : List ℕ) (w : ℕ) (b : Bool) → (b ≡ true → Finds i w) → Fits l (cond b (puts i) w) → Fits (cond b (i ∷ l) l) w
  fit-one i l w true t f = (t refl, f)
  fit-one i l w false t f = f

  pub one-fits : (i : ℕ) (l : List ℕ) (w : ℕ) (b : Bool) → Fits (cond b (i ∷ l) l) w → (b ≡ true → Finds i w) × Fits l (cond b (puts i) w)
  one-fits i l w true f = (λ e. f.0, f.1)
  one-fits i l w false f = (λ e. never e, f)

  -- Two lists of which one is empty.
  pub fits-append : (a b : List ℕ) (w : ℕ) → (a ≡ []) ⊎ (b ≡ []) → Fits (a ++ b) w → Fits a w × Fits b w
  fits-append a b w (inl e) f = (subst (λ x. Fits x w) (sym e) tt, subst (λ x. Fits (x ++ b) w) e f)
  fits-append a b w (inr e) f = (without a w (subst (λ x. Fits (a ++ x) w) e f), subst (λ x. Fits x w) (sym e) tt)
    where
      without : (l : List ℕ) (v : ℕ) → Fits (l ++ []) v → Fits l v
      without [] v g = tt
      without (i ∷ l) v g = (g.0, without l (puts i) g.1)

  pub append-fits : (a b : List ℕ) (w : ℕ) → (a ≡ []) ⊎ (b ≡ []) → Fits a w → Fits b w → Fits (a ++ b) w
  append-fits a b w (inl e) f g = subst (λ x. Fits (x ++ b) w) (sym e) g
  append-fits a b w (inr e) f g = subst (λ x. Fits (a ++ x) w) (sym e) (more a w f)
    where
      more : (l : List ℕ) (v : ℕ) → Fits l v → Fits (l ++ []) v
      more [] v h = tt
      more (i ∷ l) v h = (h.0, more l (puts i) h.1)

  -- ---- where a record's cell is

  pub cell-of : (d e i : ℕ) → changes d e i ≡ true → ¬ (kind_of i ≡ 1) × (group_of i ≡ d) × (e ≡ entry-of i)
  cell-of d e i h =
      let p = both (not (eqb (kind_of i) 1) && eqb (group_of i) d) (eqb e (entry-of i)) h in
      let q = both (not (eqb (kind_of i) 1)) (eqb (group_of i) d) p.0 in
      (λ z. never (sym (ap not (eq-eqb (kind_of i) 1 z)) ∙ q.0), eqb-true (group_of i) d q.1, eqb-true e (entry-of i) p.1)

  pub own-cell : (i : ℕ) → ¬ (kind_of i ≡ 1) → changes (group_of i) (entry-of i) i ≡ true
  own-cell i n = simp (ne_eqb (kind_of i) 1 n, eq-eqb (group_of i) (group_of i) refl, eq-eqb (entry-of i) (entry-of i) refl)

  -- ---- the undo records of one group, on stamps

  module _ (d : ℕ) (small : m ≤ 1024) (nd : ¬ (d ≡ 0)) where
    pub undoes-fits : (l : List ℕ) (g : By) → Undoes s m d small nd (of_group s m d l) g → (e : ℕ) → Fits (cell d e l) (g e)
    unfolding decode_undo
    undoes-fits [] g u e = tt
    undoes-fits (i ∷ l) g u e = go (concerns s m d i) u (undoes-fits l)
      where
        go : (b : Bool) → Undoes s m d small nd (cond b (i ∷ of_group s m d l) (of_group s m d l)) g
            → ((h : By) → Undoes s m d small nd (of_group s m d l) h → (f : ℕ) → Fits (cell d f l) (h f))
            → Fits (cond (b && eqb e (entry-of i)) (i ∷ cell d e l) (cell d e l)) (g e)
        go true v ih =
            fit-one i (cell d e l) (g e) (eqb e (entry-of i)) (λ z. subst (λ x. Finds i (g x)) (sym (eqb-true e (entry-of i) z)) (v.1, v.2))
            (ih (set_by (entry-of i) (puts i) g) v.3 e)
        go false v ih = ih g v e

    pub fits-undoes : (l : List ℕ) (g : By) → All (λ i. (1 ≤ entry-of i) × (entry-of i ≤ m)) l → ((e : ℕ) → Fits (cell d e l) (g e)) → Undoes s m d small nd (of_group s m d l) g
    unfolding decode_undo
    fits-undoes [] g a f = tt
    fits-undoes (i ∷ l) g a f = go (concerns s m d i) f (λ h. fits-undoes l h a.1)
      where
        go : (b : Bool) → ((e : ℕ) → Fits (cond (b && eqb e (entry-of i)) (i ∷ cell d e l) (cell d e l)) (g e))
            → ((h : By) → ((e : ℕ) → Fits (cell d e l) (h e)) → Undoes s m d small nd (of_group s m d l) h)
            → Undoes s m d small nd (cond b (i ∷ of_group s m d l) (of_group s m d l)) g
        go true v ih =
            let t = (one-fits i (cell d (entry-of i) l) (g (entry-of i)) (eqb (entry-of i) (entry-of i)) (v (entry-of i))).0 (eq-eqb (entry-of i) (entry-of i) refl) in
            (a.0, t.0, t.1, ih (set_by (entry-of i) (puts i) g) (λ e. (one-fits i (cell d e l) (g e) (eqb e (entry-of i)) (v e)).1))
        go false v ih = ih g v

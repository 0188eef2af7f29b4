-- Theorems that rest on theorems of specs/: the rest of specs/Insert.antt.
use Rattle.std.specs.Prelude.{◌≡◌, Bool, true, false, cond, suc, ◌-◌, ◌≤◌, ℕ}
use Rattle.std.proofs.Math.Path.{refl, sym, ap}
use Rattle.std.proofs.Common.{◌∙◌}
use mathlib.Core.List.{List, [], ◌∷◌}
use Rattle.serial.specs.Model.{Item, get, ans, just}
use Rattle.serial.specs.Model as R
use Rattle.serial.specs.Footprints.{frame, cell-inserted, cell-removed, Good}
use Rattle.serial.specs.Locks.{strong}
use Rattle.serial.specs.Locks as L
use Rattle.machine.specs.Holders.{width, held_by, elem}
use Rattle.machine.specs.State.{Stage, Request, Undo, added, taken, State, done, session_of, desc_of, with_free, on_tree, on_desc, hold_desc, group_desc, same, with_member, without_member, add_undo}
use Rattle.machine.specs.Steps.{group_blockers, ended, finished, guarded, insert-step, remove-step}
use Rattle.machine.specs.View.{seen, group_in, items, holders, ended_same}
use Rattle.machine.specs.Model.{model}
use Rattle.machine.specs.Keys.{elem-without-other, elem-without-same, Kept, elem-with-same, elem-with-other}
use Rattle.machine.specs.Entries.{Fit}
use Rattle.machine.specs.Events.{Does, finishes, guard-does, asked}
use Rattle.machine.specs.Changes.{held_state, follows-finished}
use Rattle.machine.proofs.Changes.{update-locked}
use Rattle.machine.specs.Insert.{changed, held_up, set-none, by-member, none-follows, one_follows, ht-frame, ht-one}
use Rattle.machine.specs.Insert as Specs

-- ---- the step

module _ (n k e : ℕ) (s : State) (F : Fit s) (K : Kept k s) (b : (session_of (suc n) s).begun ≡ true) (le : suc n ≤ width) (x : holders s L.entry strong (suc n) e ≡ true) where
  abbrev p : ℕ
  p = suc n

  abbrev ht : State
  ht = held_state p k s K

  abbrev ht-needs : (holders ht L.group strong p k ≡ true) × (holders ht L.entry strong p e ≡ true)
  ht-needs = Specs.ht-needs n k e s F K b le x

  abbrev ht-begun : (session_of p ht).begun ≡ true
  ht-begun = Specs.ht-begun n k e s F K b le x

  abbrev ht-elem : elem e (group_in k (seen ht)) ≡ elem e (desc_of k s).members
  ht-elem = Specs.ht-elem n k e s F K b le x

  abbrev ht-good : Good (model ht)
  ht-good = Specs.ht-good n k e s F K b le x

  abbrev ht-is : (y : Item) → get (model ht) y ≡ items ht y
  ht-is = Specs.ht-is n k e s F K b le x

  -- The group changed, and an undo record.
  abbrev cu : (List ℕ → List ℕ) → Undo → ℕ → State
  cu M w f = add_undo p w (with_free f (changed p k s K F M))

  abbrev ht-count : (o : Bool) → elem e (desc_of k s).members ≡ o → get (model ht) (R.cell k e) ≡ cond o 1 0
  ht-count = Specs.ht-count n k e s F K b le x

  module _ (c g : ℕ) (st : Stage) where
    abbrev r : Request
    r = asked c e k g st

    pub insert-does : Does p (R.insert e k) s (insert-step p r (desc_of k s) s)
    unfolding insert-step finished
    insert-does = go (elem e (desc_of k s).members) refl
      where
        hold : State
        hold = on_desc k (hold_desc same (held_by p) same) s

        add : State
        add = on_desc k (λ d. group_desc (with_member e) (hold_desc same (held_by p) same d)) s

        go : (o : Bool) → elem e (desc_of k s).members ≡ o → Does p (R.insert e k) s
            (cond o (guarded (group_blockers strong p (desc_of k s)) 0 p r s (finished p r (0 ∷ []) hold))
            (guarded (group_blockers strong p (desc_of k s)) 2 p r s (finished p r (1 ∷ []) (add_undo p (added e k) (with_free (s.free - 2) add)))))
        go true h = guard-does p (R.insert e k) (group_blockers strong p (desc_of k s)) 0 r s (finished p r (0 ∷ []) hold) λ free.
            finishes ht (ans (R.insert e k) (model ht)) (ap (λ a. done a.numbers) (sym (ap (λ v. just (1 - v)) (ht-count true h)))) refl (update-locked p k s K F free b)
            (follows-finished p k s K F (R.insert e k) (ended p r ht)
            (none-follows n k e s F K b le x (R.insert e k) (ended p r ht) (ended_same p r ht) ht-needs (set-none k e ht (R.insert e k) true (cell-inserted e k (model ht)) (ht-frame n k e s F K b le x (R.insert e k) (frame (R.insert e k) (model ht) ht-good)) (ht-elem ∙ h))
            (by-member k e ht ht-is true (ht-elem ∙ h) ((R.cell k e, 0) ∷ []) [])) ht-begun)
        go false h = guard-does p (R.insert e k) (group_blockers strong p (desc_of k s)) 2 r s (finished p r (1 ∷ []) (add_undo p (added e k) (with_free (s.free - 2) add))) λ free.
            finishes ht (ans (R.insert e k) (model ht)) (ap (λ a. done a.numbers) (sym (ap (λ v. just (1 - v)) (ht-count false h)))) refl (update-locked p k s K F free b)
            (follows-finished p k s K F (R.insert e k) (ended p r (cu (with_member e) (added e k) (s.free - 2)))
            (one_follows n k e s F K b le x (R.insert e k) (with_member e) (added e k) (s.free - 2) (ended p r (cu (with_member e) (added e k) (s.free - 2))) (ended_same p r (cu (with_member e) (added e k) (s.free - 2))) ht-needs
            (ht-one n k e s F K b le x (R.insert e k) (with_member e) true (cell-inserted e k (model ht)) (frame (R.insert e k) (model ht) ht-good) (elem-with-same e (group_in k (seen ht)))
            (λ y ne. elem-with-other y e (group_in k (seen ht)) ne)) (by-member k e ht ht-is false (ht-elem ∙ h) ((R.cell k e, 0) ∷ []) [])) ht-begun)

    pub remove-does : Does p (R.remove e k) s (remove-step p r (desc_of k s) s)
    unfolding remove-step finished on_tree
    remove-does = guard-does p (R.remove e k) (group_blockers strong p (desc_of k s)) 0 r s
        (cond (elem e (desc_of k s).members) (finished p r (1 ∷ []) (add_undo p (taken e k) out)) (finished p r (0 ∷ []) hold)) λ free. go free (elem e (desc_of k s).members) refl
      where
        hold : State
        hold = on_desc k (hold_desc same (held_by p) same) s

        out : State
        out = on_desc k (λ d. group_desc (without_member e) (hold_desc same (held_by p) same d)) s

        go : group_blockers strong p (desc_of k s) ≡ [] → (o : Bool) → elem e (desc_of k s).members ≡ o → Does p (R.remove e k) s
            (cond o (finished p r (1 ∷ []) (add_undo p (taken e k) out)) (finished p r (0 ∷ []) hold))
        go free false h =
            finishes ht (ans (R.remove e k) (model ht)) (ap (λ a. done a.numbers) (sym (ap just (ht-count false h)))) refl (update-locked p k s K F free b)
            (follows-finished p k s K F (R.remove e k) (ended p r ht)
            (none-follows n k e s F K b le x (R.remove e k) (ended p r ht) (ended_same p r ht) ht-needs (set-none k e ht (R.remove e k) false (cell-removed e k (model ht)) (ht-frame n k e s F K b le x (R.remove e k) (frame (R.remove e k) (model ht) ht-good)) (ht-elem ∙ h))
            (by-member k e ht ht-is false (ht-elem ∙ h) [] ((R.cell k e, 1) ∷ []))) ht-begun)
        go free true h =
            finishes ht (ans (R.remove e k) (model ht)) (ap (λ a. done a.numbers) (sym (ap just (ht-count true h)))) refl (update-locked p k s K F free b)
            (follows-finished p k s K F (R.remove e k) (ended p r (cu (without_member e) (taken e k) s.free))
            (one_follows n k e s F K b le x (R.remove e k) (without_member e) (taken e k) s.free (ended p r (cu (without_member e) (taken e k) s.free)) (ended_same p r (cu (without_member e) (taken e k) s.free)) ht-needs
            (ht-one n k e s F K b le x (R.remove e k) (without_member e) false (cell-removed e k (model ht)) (frame (R.remove e k) (model ht) ht-good) (elem-without-same e 1 (group_in k (seen ht)) (held_up p k s K F (without_member e)))
            (λ y ne. elem-without-other y e (group_in k (seen ht)) ne)) (by-member k e ht ht-is true (ht-elem ∙ h) [] ((R.cell k e, 1) ∷ []))) ht-begun)

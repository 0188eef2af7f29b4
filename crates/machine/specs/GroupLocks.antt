-- The states that the change step of an insert or a remove, and the take steps of a locate leave, the request still in hand: what is read at keys, entries
-- and the session table is sound, and so are shape and count.
use Rattle.std.specs.Prelude.{◌≡◌, Bool, suc, ◌+◌, ◌-◌, ◌≤◌, ℕ, length}
use Rattle.std.proofs.Math.Path.{refl, sym, subst, ap}
use Rattle.std.proofs.Common.{◌∙◌, arith}
use Rattle.std.proofs.Math.Bool.{true, false}
use mathlib.Core.List.{List, []}
use Rattle.std.proofs.Math.Option.{some}
use Rattle.serial.specs.Locks.{strong}
use Rattle.serial.specs.Locks as L
use Rattle.machine.specs.Holders.{held_by, elem}
use Rattle.machine.specs.State.{Desc, change, take, Request, Undo, added, taken, State, or_none, session_of, stored, lowest_from, desc_of, with_free, on_tree, on_desc, hold_desc, group_desc, with_member, without_member, add_undo, same}
use Rattle.machine.specs.Steps.{group_blockers, updating_state, inserted_state, removed_state, passed_state, located_state}
use Rattle.machine.specs.View.{holders, group_in}
use Rattle.machine.specs.Sound.{records_used, UpTo, Changing, Stands, cells, set_cell, Sound, Formed, formed-of}
use Rattle.machine.specs.Table.{hand-seat}
use Rattle.machine.specs.Housekeeping.{lvs, seen-group}
use Rattle.machine.specs.Keys.{Kept, put-group-other}
use Rattle.machine.specs.Checks.{checked-entry, checked-first}
use Rattle.machine.specs.Looks.{kept_of, kept-listed, change-stored, with-many, without-many, put-cells, set-entry, excludes-alone, set_here}
use Rattle.machine.specs.Alike.{on-desc-formed, on-desc-shaped, on-desc-used}
use Rattle.machine.specs.Locking.{undo-formed}
use Rattle.machine.specs.Changes.{hold_update}

-- ---- the change step

module _ (m : ℕ) (r : Request) (s : State) (S : Sound s) (hand : (session_of (suc m) s).hand ≡ some r) (g : r.stage ≡ change)
    (free : group_blockers strong (suc m) (desc_of r.first s) ≡ []) where
  abbrev pub p : ℕ
  p = suc m

  abbrev pub k : ℕ
  k = r.first

  abbrev pub e : ℕ
  e = r.entry

  pub C : Changing p s r
  C = subst (Stands p s r) g (S.standing p r hand)

  pub K : Kept k s
  K = kept_of k s S (change-stored S p r hand g)

  pub in_store : (1 ≤ e) × (e ≤ length s.entries)
  in_store = checked-entry p r.code e k r.second s (S.checked p r hand) C.code_3_4.1

  pub proper : 1 ≤ k
  proper = let c = C.code_3_4 in (checked-first p r.code e k r.second s (S.checked p r hand) c.0 (omega (arith, c.1))).0

  pub members_in : UpTo 1 (length s.entries) K.d.members
  members_in = kept-listed k s K (length s.entries) S.listed

  -- A descriptor changed at a key other than 0 leaves key 0 without members.
  pub zero-kept : (f : Desc → Desc) → (f K.d).key ≡ K.d.key → group_in 0 (lvs (on_desc k f s)) ≡ []
  zero-kept f q =
      let n : ¬ (k ≡ 0) = let z = proper in λ x. omega arith in
      sym (seen-group 0 (on_desc k f s)) ∙ put-group-other k s K f q 0 n ∙ seen-group 0 s ∙ S.zero_empty

  pub updating-formed : Formed (updating_state p r s)
  updating-formed = on-desc-formed (hold_update p) (λ d. refl) (λ d. refl) k s (formed-of S)

  -- The lock, and entry e in or out of the group: then it is a member or not, by b.
  module _ (M : List ℕ → List ℕ) (b o : Bool) (here : elem e (M K.d.members) ≡ b) (there : (x : ℕ) → ¬ (x ≡ e) → elem x (M K.d.members) ≡ elem x K.d.members)
      (was : elem e K.d.members ≡ o) (up : UpTo 1 (length s.entries) (M K.d.members)) where
    abbrev f : Desc → Desc
    f d = group_desc M (hold_update p d)

    abbrev pub t : State
    t = on_desc k f s

    pub cells-now : (j x : ℕ) → cells t j x ≡ set_cell k e b (cells s) j x
    cells-now = put-cells k s K f refl e b here there

    -- Nobody else excludes e.
    pub cells_others : (q j x : ℕ) → ¬ (p ≡ q) → holders s L.entry strong q x ≡ true → cells t j x ≡ cells s j x
    cells_others q j x n h = cells-now j x ∙ set-entry k e b (cells s) j x (λ y. n (excludes-alone S p q x (subst (λ i. holders s L.entry strong p i ≡ true) y C.excludes) h))

    module _ (n : ℕ) (u : Undo) where
      pub now : cells t k e ≡ b
      now = cells-now k e ∙ set_here k e b (cells s)

  -- ---- shape and count

  changed-formed : (M : List ℕ → List ℕ) (n : ℕ) (u : Undo) → n + suc (records_used s + length (M K.d.members)) ≡ s.records + length K.d.members
      → Formed (add_undo p u (with_free n (on_desc k (λ d. group_desc M (hold_update p d)) s)))
  unfolding on_tree
  changed-formed M n u h =
      let f : Desc → Desc = λ d. group_desc M (hold_update p d) in
      undo-formed p n u (on_desc k f s) (hand-seat p r s hand) (on-desc-shaped f (λ d. refl) k s (formed-of S)) (omega (arith, h, on-desc-used f (λ d. refl) k s K))

  pub inserted-formed : elem e (desc_of k s).members ≡ false → 2 ≤ s.free → Formed (inserted_state p r s)
  inserted-formed h le = changed-formed (with_member e) (s.free - 2) (added e k)
      (omega (arith, le, S.counted, with-many e K.d.members (sym (ap (λ d. elem e d.members) K.desc) ∙ h)))

  pub removed-formed : elem e (desc_of k s).members ≡ true → Formed (removed_state p r s)
  unfolding on_tree
  removed-formed h = changed-formed (without_member e) s.free (taken e k)
      (omega (arith, S.counted, without-many e K.d.members (sym (ap (λ d. elem e d.members) K.desc) ∙ h)))

-- ---- the take steps: d is the next descriptor

module _ (m : ℕ) (r : Request) (s : State) (S : Sound s) (hand : (session_of (suc m) s).hand ≡ some r) (x : ℕ) (g : r.stage ≡ take x) where
  abbrev w : ℕ
  w = suc m

  abbrev d : Desc
  d = or_none (lowest_from x (stored s))

  pub located-formed : Formed (located_state w d s)
  located-formed = on-desc-formed (hold_desc (held_by w) same same) (λ c. refl) (λ c. refl) d.key s (formed-of S)

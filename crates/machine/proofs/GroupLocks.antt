-- Theorems that rest on theorems of specs/: the rest of specs/GroupLocks.antt.
use Rattle.std.specs.Prelude.{◌≡◌, Bool, suc, ◌-◌, ◌≤◌, ◌<◌, ℕ, length}
use Rattle.std.proofs.Math.Path.{refl, sym, subst, ap}
use Rattle.std.proofs.Common.{◌∙◌, arith}
use Rattle.std.proofs.Math.Bool.{true, false}
use mathlib.Core.List.{List, [], ◌∷◌}
use Rattle.std.proofs.Math.Option.{some}
use Rattle.std.proofs.Math.Decide.{ℕ_discrete}
use Rattle.serial.specs.Locks.{weak, strong}
use Rattle.serial.specs.Locks as L
use Rattle.machine.specs.Holders.{holds, held_by, elem}
use Rattle.machine.specs.State.{Desc, change, take, Request, Undo, added, taken, State, or_none, session_of, stored, lowest_from, desc_of, with_free, on_session, on_tree, on_desc, hold_desc, group_desc, with_member, without_member, add_undo, in_stage, same}
use Rattle.machine.specs.Steps.{group_blockers, updating_state, inserted_state, removed_state, passed_state, located_state}
use Rattle.machine.specs.View.{holders, group_in, locate_word, seen}
use Rattle.machine.specs.Sound.{gap_word, UpTo, Passing, cells, set_cell, Holding, Undoable, Sound, Keyed, Formed, formed-of}
use Rattle.machine.specs.Bits.{held_same}
use Rattle.machine.specs.Housekeeping.{lvs, seen-group}
use Rattle.machine.specs.Keys.{elem-without-other, elem-without-same, Kept, put-update, was-group, put-group-kept, elem-with-same, elem-with-other}
use Rattle.machine.specs.Looks.{hand_begun, fit_of, kept-stored, kept-listed, with-upto, without-upto, upto-up, set_back}
use Rattle.machine.specs.Nearest.{Takes}
use Rattle.machine.proofs.Nearest.{takes_of}
use Rattle.machine.specs.Alike.{on-desc-formed}
use Rattle.machine.specs.Locking.{Grants, locked-grants, grants-like, Locks, undoable-more, only-keyed, undo-locks, undo-keyed, desc-locks}
use Rattle.machine.specs.Changes.{hold_update, held_state, up-group}
use Rattle.machine.proofs.Changes.{update-locked}
use Rattle.machine.specs.Insert.{changed-holders}
use Rattle.machine.specs.Locate.{Adds, adds-held, adds_same, here-word, loc-old, gap-taken}
use Rattle.machine.proofs.Locate.{locate-locked}
use Rattle.machine.specs.GroupLocks.{C, proper, zero-kept, cells-now, cells_others, now}
use Rattle.machine.specs.GroupLocks as Specs

-- ---- the change step

module _ (m : ℕ) (r : Request) (s : State) (S : Sound s) (hand : (session_of (suc m) s).hand ≡ some r) (g : r.stage ≡ change)
    (free : group_blockers strong (suc m) (desc_of r.first s) ≡ []) where
  abbrev p : ℕ
  p = suc m

  abbrev k : ℕ
  k = r.first

  abbrev e : ℕ
  e = r.entry

  abbrev K : Kept k s
  K = Specs.K m r s S hand g free

  abbrev in_store : (1 ≤ e) × (e ≤ length s.entries)
  in_store = Specs.in_store m r s S hand g free

  abbrev members_in : UpTo 1 (length s.entries) K.d.members
  members_in = Specs.members_in m r s S hand g free

  update-grants : Grants p s (held_state p k s K)
  update-grants = locked-grants p s (held_state p k s K) (update-locked p k s K (fit_of S) free (hand_begun S m r hand))

  -- The lock alone.
  pub updating-keyed : Keyed (updating_state p r s)
  unfolding on_tree
  updating-keyed =
      let c : (j x : ℕ) → cells (updating_state p r s) j x ≡ cells s j x = λ j x. ap (elem x) (up-group p k s K j) in
      only-keyed m r s (updating_state p r s) S hand
      (desc-locks p k (hold_update p) s S K refl refl (λ h. h) (λ q n. refl) (zero-kept m r s S hand g free (hold_update p) refl) members_in (λ q j x n h. c j x) update-grants) refl c

  -- The lock, and entry e in or out of the group: then it is a member or not, by b.
  module _ (M : List ℕ → List ℕ) (b o : Bool) (here : elem e (M K.d.members) ≡ b) (there : (x : ℕ) → ¬ (x ≡ e) → elem x (M K.d.members) ≡ elem x K.d.members)
      (was : elem e K.d.members ≡ o) (up : UpTo 1 (length s.entries) (M K.d.members)) where
    abbrev f : Desc → Desc
    f d = group_desc M (hold_update p d)

    abbrev t : State
    t = on_desc k f s

    group-locks : Locks p s t
    group-locks = desc-locks p k f s S K refl refl (λ h. h) (λ q n. refl) (zero-kept m r s S hand g free f refl) up (cells_others m r s S hand g free M b o here there was up)
        (grants-like p s (held_state p k s K) t (changed-holders p k s K (fit_of S) M) update-grants)

    module _ (n : ℕ) (u : Undo) where
      abbrev v : State
      v = add_undo p u (with_free n t)

      W : Locks p s v
      W = undo-locks p n u s t group-locks

      holding : Holding p v e k
      unfolding add_undo on_session
      holding = record {
        entry_held = W.grants.more L.entry strong e (C m r s S hand g free).excludes;
        in_store = (in_store.0, subst (λ x. e ≤ x) (sym W.many) in_store.1);
        proper_key = proper m r s S hand g free;
        key_stored = W.stored_same k ∙ kept-stored k s K;
        group-held = ap (λ w. holds w p) (put-update k s K f refl) ∙ held_same m K.d.update;
      }

      tail : Undoable p v (session_of p s).undos (set_cell k e o (cells t))
      tail = undoable-more p s v W (session_of p s).undos (cells s) (set_cell k e o (cells t)) (set_back k e b o (cells s) (cells t) (cells-now m r s S hand g free M b o here there was up) (ap (elem e) (was-group k s K) ∙ was)) (S.undoable p)

      group-keyed : (Holding p v e k → cells t k e ≡ b → Undoable p v (session_of p s).undos (set_cell k e o (cells t)) → Undoable p v (u ∷ (session_of p s).undos) (cells t)) → Keyed v
      unfolding on_tree
      group-keyed h = undo-keyed m n u r s t S hand group-locks refl (h holding (now m r s S hand g free M b o here there was up n u) tail)

  pub inserted-keyed : elem e (desc_of k s).members ≡ false → Keyed (inserted_state p r s)
  inserted-keyed h =
      let l = K.d.members in
      group-keyed (with_member e) true false (elem-with-same e l) (λ x n. elem-with-other x e l n)
      (sym (ap (λ d. elem e d.members) K.desc) ∙ h) (with-upto e 1 (length s.entries) l in_store.0 in_store.1 members_in)
      (s.free - 2) (added e k) (λ a b c. (a, b, c))

  pub removed-keyed : elem e (desc_of k s).members ≡ true → Keyed (removed_state p r s)
  unfolding on_tree
  removed-keyed h =
      let l = K.d.members in
      group-keyed (without_member e) false true (elem-without-same e 1 l (upto-up 1 (length s.entries) l members_in)) (λ x n. elem-without-other x e l n)
      (sym (ap (λ d. elem e d.members) K.desc) ∙ h) (without-upto e 1 (length s.entries) l members_in)
      s.free (taken e k) (λ a b c. (a, b, c))

-- ---- the take steps: d is the next descriptor

module _ (m : ℕ) (r : Request) (s : State) (S : Sound s) (hand : (session_of (suc m) s).hand ≡ some r) (x : ℕ) (g : r.stage ≡ take x) where
  abbrev w : ℕ
  w = suc m

  abbrev d : Desc
  d = or_none (lowest_from x (stored s))

  T : Takes w s r x d
  T = takes_of S w r x hand g

  abbrev N : Kept d.key s
  N = T.next.K

  module _ (free : group_blockers weak w d ≡ []) where
    module _ (γ : ℕ → ℕ) (Γ : Adds w γ) where
      abbrev fd : Desc → Desc
      fd c = hold_desc (held_by w) same γ c

      abbrev u : State
      u = on_desc d.key fd s

      take-keyed : Keyed u
      unfolding on_tree
      take-keyed =
          let c : (j y : ℕ) → cells u j y ≡ cells s j y = λ j y. ap (elem y) (put-group-kept d.key s N fd refl refl j) in
          let z : group_in 0 (lvs u) ≡ [] = sym (seen-group 0 u) ∙ put-group-kept d.key s N fd refl refl 0 ∙ seen-group 0 s ∙ S.zero_empty in
          let G = locate-locked w d.key s N γ Γ (fit_of S) (ap (group_blockers weak w) T.next.same ∙ free) (hand_begun S m r hand) in
          only-keyed m r s u S hand
          (desc-locks w d.key fd s S N refl refl (Γ.more w N.d.gap) (λ q n. Γ.other q N.d.gap n) z (kept-listed d.key s N (length s.entries) S.listed) (λ q j y n h. c j y)
          (locked-grants w s u G)) refl c

    pub passed-keyed : Keyed (passed_state w d s)
    passed-keyed = take-keyed (held_by w) (adds-held w)

    pub located-keyed : Keyed (located_state w d s)
    located-keyed = take-keyed same (adds_same w)

  -- Every key up to d, and the gap behind it, is held then.
  pub passed-passing : d.key < r.second → Passing w (passed_state w d s) (in_stage (take (suc d.key)) r) (suc d.key)
  passed-passing lt = record {
    code_5 = T.passing.code_5;
    from_first = (let a = T.passing.from_first in let b = T.next.from in omega arith);
    to-second = lt;
    held = λ z a b. held z a b (ℕ_discrete d.key z);
    ahead = λ h. subst (λ j. holds (gap_word j (seen (passed_state w d s))) w ≡ true) back (gap-taken m s d N);
  }
    where
      back : d.key ≡ suc d.key - 1
      back = omega arith

      held : (z : ℕ) → r.first ≤ z → z < suc d.key → Dec (d.key ≡ z) → holders (passed_state w d s) L.group weak w z ≡ true
      held z a b (yes q) = subst (λ i. holds (locate_word i (seen (passed_state w d s))) w ≡ true) q
          (ap (λ v. holds v w) (here-word w d.key s N (held_by w) (adds-held w)) ∙ held_same m (locate_word d.key (seen s)))
      held z a b (no q) = loc-old w d.key s N (held_by w) (adds-held w) L.group weak w z (T.below z a (omega (arith, b, q)))

  pub passed-formed : Formed (passed_state w d s)
  passed-formed = on-desc-formed (hold_desc (held_by w) same (held_by w)) (λ c. refl) (λ c. refl) d.key s (formed-of S)

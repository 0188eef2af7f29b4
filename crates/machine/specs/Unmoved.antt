-- The lock steps move no latch and no request in hand.
use Rattle.std.specs.Prelude.{◌≡◌, refl, List, zero, suc, ◌-◌, ℕ}
use Rattle.machine.specs.Holders.{held_by}
use Rattle.machine.specs.State.{Entry, Desc, Request, Undo, added, taken, State, entry_of, with_free, on_entry, on_session, on_tree, on_desc, hold_desc, group_desc, same, with_member, without_member, add_undo}
use Rattle.machine.specs.State as State
use Rattle.machine.specs.Steps.{exclude_by, written, inserted_state, removed_state}
use Rattle.machine.specs.Sound.{Latches}
use Rattle.machine.specs.Hands.{Kin, kin-table, kin-trans, kin-undo}
use Rattle.machine.specs.Latch.{kept-latches, desc-latches}

pub record Unmoved (s t : State) : Type 0 where
  pub kin : Kin s t
  pub latches : Latches s → Latches t

unmoved-trans : {s t u : State} → Unmoved s t → Unmoved t u → Unmoved s u
unmoved-trans a b = record { kin = kin-trans a.kin b.kin; latches = λ W. b.latches (a.latches W) }

-- The tree is the same.
unmoved-tree : (s t : State) → t.root ≡ s.root → Kin s t → Unmoved s t
unmoved-tree s t e k = record { kin = k; latches = kept-latches s t e k.hands }

pub unmoved-entry : (e : ℕ) (f : Entry → Entry) (s : State) → Unmoved s (on_entry e f s)
unfolding on_entry
unmoved-entry zero f s = unmoved-tree s s refl (kin-table s s refl)
unmoved-entry (suc i) f s = unmoved-tree s (on_entry (suc i) f s) refl (kin-table s (on_entry (suc i) f s) refl)

unmoved-free : (n : ℕ) (s : State) → Unmoved s (with_free n s)
unmoved-free n s = unmoved-tree s (with_free n s) refl (kin-table s (with_free n s) refl)

unmoved-undo : (p : ℕ) (b : Undo) (s : State) → Unmoved s (add_undo p b s)
unfolding add_undo on_session
unmoved-undo p b s = unmoved-tree s (add_undo p b s) refl (kin-undo p b s)

pub unmoved-written : (p : ℕ) (r : Request) (s : State) → Unmoved s (written p r s)
unfolding written
unmoved-written p r s =
    let t = on_entry r.entry (exclude_by p r.first) s in
    unmoved-trans (unmoved-entry r.entry (exclude_by p r.first) s)
    (unmoved-trans (unmoved-free (s.free - 1) t) (unmoved-undo p (State.value r.entry (entry_of r.entry s).value) (with_free (s.free - 1) t)))

-- One descriptor changes.
pub unmoved-desc : (k : ℕ) (f : Desc → Desc) (s : State) → Unmoved s (on_desc k f s)
unfolding on_tree
unmoved-desc k f s = record { kin = kin-table s (on_desc k f s) refl; latches = desc-latches k f s }

-- A held group, changed by M.
abbrev regroup : ℕ → (List ℕ → List ℕ) → Desc → Desc
regroup p M e = group_desc M (hold_desc same (held_by p) same e)

pub unmoved-inserted : (p : ℕ) (r : Request) (s : State) → Unmoved s (inserted_state p r s)
unmoved-inserted p r s =
    let t = on_desc r.first (regroup p (with_member r.entry)) s in
    unmoved-trans (unmoved-desc r.first (regroup p (with_member r.entry)) s)
    (unmoved-trans (unmoved-free (s.free - 2) t) (unmoved-undo p (added r.entry r.first) (with_free (s.free - 2) t)))

pub unmoved-removed : (p : ℕ) (r : Request) (s : State) → Unmoved s (removed_state p r s)
unmoved-removed p r s =
    let t = on_desc r.first (regroup p (without_member r.entry)) s in
    unmoved-trans (unmoved-desc r.first (regroup p (without_member r.entry)) s) (unmoved-undo p (taken r.entry r.first) t)

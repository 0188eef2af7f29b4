-- Theorems that rest on theorems of specs/: the rest of specs/EntryLocks.antt.
use Rattle.std.specs.Prelude.{◌≡◌, []}
use Rattle.std.proofs.Math.Path.{refl, subst}
use Rattle.std.proofs.Common.{sym, ◌∙◌}
use Rattle.std.proofs.Math.Option.{some}
use Prim.Native.Nat.{suc, ◌-◌, ◌≤◌, ◌<◌, ℕ}
use native.Mathlib.Omega.{arith}
use Rattle.std.proofs.Math.ListN.{length}
use Rattle.serial.specs.Locks.{Mode, weak, strong}
use Rattle.serial.specs.Locks as L
use Rattle.machine.specs.Holders.{blockers}
use Rattle.machine.specs.State.{Request, State, entry_of, session_of, with_free, on_entry, on_session, add_undo, value}
use Rattle.machine.specs.Steps.{rule, share_by, exclude_by, entry_blockers, shared_state, written, excluded_state}
use Rattle.machine.specs.View.{frame-holders}
use Rattle.machine.specs.Sound.{cells, Sound, Keyed}
use Rattle.machine.specs.Looks.{hand_begun, fit_of}
use Rattle.machine.specs.Locking.{Grants, locked-grants, grants-like, Locks, undoable-more, only-keyed, undo-locks, undo-keyed, entry-locks}
use Rattle.machine.specs.Entries.{grant}
use Rattle.machine.proofs.Entries.{entry-locked}
use Rattle.machine.specs.EntryLocks.{excluded-here, same-words}
use Rattle.machine.specs.EntryLocks as Specs

module _ (m : ℕ) (r : Request) (s : State) (S : Sound s) (hand : (session_of (suc m) s).hand ≡ some r) where
  abbrev p : ℕ
  p = suc m

  -- An entry of the store.
  module _ (i : ℕ) (h : i < length s.entries) (n : Mode) (free : blockers rule L.entry n p (entry_of (suc i) s).share (entry_of (suc i) s).exclusive ≡ []) where
    lock-grants : Grants p s (on_entry (suc i) (grant n p) s)
    lock-grants = locked-grants p s (on_entry (suc i) (grant n p) s) (entry-locked n p i s h (fit_of S) free (hand_begun S m r hand))

    lock-keyed : Keyed (on_entry (suc i) (grant n p) s)
    unfolding on_entry
    lock-keyed = only-keyed m r s (on_entry (suc i) (grant n p) s) S hand (entry-locks p i (grant n p) s S lock-grants) refl (λ k e. refl)

  module _ (i v : ℕ) (h : i < length s.entries) (free : blockers rule L.entry strong p (entry_of (suc i) s).share (entry_of (suc i) s).exclusive ≡ []) where
    abbrev put : State
    put = on_entry (suc i) (exclude_by p v) s

    put-locks : Locks p s put
    put-locks = entry-locks p i (exclude_by p v) s S (grants-like p s (on_entry (suc i) (grant strong p) s) put (same-words m r s S hand i v h free) (lock-grants i h strong free))

    put-keyed : (n w : ℕ) → Keyed (add_undo p (value (suc i) w) (with_free n put))
    unfolding on_entry add_undo on_session
    put-keyed n w =
        let t = add_undo p (value (suc i) w) (with_free n put) in
        let W = undo-locks p n (value (suc i) w) s put put-locks in
        undo-keyed m n (value (suc i) w) r s put S hand put-locks refl (
          frame-holders put t refl refl L.entry strong p (suc i) ∙ same-words m r s S hand i v h free L.entry strong p (suc i) ∙ excluded-here m r s S hand i h,
          (omega arith, subst (λ x. suc i ≤ x) (sym W.many) (omega (arith, h))),
          undoable-more p s t W (session_of p s).undos (cells s) (cells put) (λ k e. refl) (S.undoable p),
        )

  abbrev own-entry : r.code ≤ 4 → (i : ℕ) × (i < length s.entries) × (r.entry ≡ suc i)
  own-entry = Specs.own-entry m r s S hand

  abbrev free-at : (n : Mode) (i : ℕ) → r.entry ≡ suc i → entry_blockers n p r s ≡ [] → blockers rule L.entry n p (entry_of (suc i) s).share (entry_of (suc i) s).exclusive ≡ []
  free-at = Specs.free-at m r s S hand

  -- ---- read, write

  pub shared-keyed : r.code ≡ 1 → entry_blockers weak p r s ≡ [] → Keyed (shared_state p r s)
  shared-keyed c free = let o = own-entry (omega (arith, c)) in
      subst (λ e. Keyed (on_entry e (share_by p) s)) (sym o.2) (lock-keyed o.0 o.1 weak (free-at weak o.0 o.2 free))

  pub written-keyed : r.code ≡ 2 → entry_blockers strong p r s ≡ [] → Keyed (written p r s)
  unfolding written
  written-keyed c free = let o = own-entry (omega (arith, c)) in
      subst (λ e. Keyed (add_undo p (value e (entry_of r.entry s).value) (with_free (s.free - 1) (on_entry e (exclude_by p r.first) s)))) (sym o.2)
      (put-keyed o.0 r.first o.1 (free-at strong o.0 o.2 free) (s.free - 1) (entry_of r.entry s).value)

  -- ---- the entry's lock of an insert or a remove

  pub excluded-keyed : 3 ≤ r.code → r.code ≤ 4 → entry_blockers strong p r s ≡ [] → Keyed (excluded_state p r s)
  excluded-keyed lo hi free = let o = own-entry hi in
      subst (λ e. Keyed (on_entry e (grant strong p) s)) (sym o.2) (lock-keyed o.0 o.1 strong (free-at strong o.0 o.2 free))

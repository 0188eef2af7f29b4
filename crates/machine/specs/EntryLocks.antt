-- The states that a read, a write and the entry's lock of an insert or a remove leave, the request still in hand: what is read at keys, entries and the
-- session table is sound, and so are shape and count.
use Rattle.std.specs.Prelude.{◌≡◌, true, []}
use Rattle.std.proofs.Math.Path.{refl, subst}
use Rattle.std.proofs.Common.{sym, ◌∙◌, ap}
use Rattle.std.proofs.Math.Option.{some}
use Prim.Native.Nat.{zero, suc, ◌+◌, ◌-◌, ◌≤◌, ◌<◌, ℕ}
use native.Mathlib.Omega.{arith}
use Rattle.std.proofs.Math.ListN.{length}
use Rattle.serial.specs.Locks.{Kind, Mode, strong}
use Rattle.serial.specs.Locks as L
use Rattle.machine.specs.Holders.{holds, blockers}
use Rattle.machine.specs.State.{Request, State, entry_of, session_of, on_entry, value}
use Rattle.machine.specs.Steps.{rule, share_by, exclude_by, entry_blockers, shared_state, written, excluded_state}
use Rattle.machine.specs.View.{holders}
use Rattle.machine.specs.Sound.{records_used, Sound, Formed, formed-of}
use Rattle.machine.specs.Table.{hand-seat}
use Rattle.machine.specs.Checks.{checked-entry}
use Rattle.machine.specs.Alike.{on-entry-formed}
use Rattle.machine.specs.Locking.{undo-formed}
use Rattle.machine.specs.Entries.{entry-put, grant, granted, entry_words, exclude-words}

module _ (m : ℕ) (r : Request) (s : State) (S : Sound s) (hand : (session_of (suc m) s).hand ≡ some r) where
  abbrev pub p : ℕ
  p = suc m

  pub excluded-here : (i : ℕ) → i < length s.entries → holders (on_entry (suc i) (grant strong p) s) L.entry strong p (suc i) ≡ true
  excluded-here i h = ap (λ x. holds x.exclusive p) (entry-put i (grant strong p) s h) ∙ granted strong m (entry_of (suc i) s)

  module _ (i v : ℕ) (h : i < length s.entries) (free : blockers rule L.entry strong p (entry_of (suc i) s).share (entry_of (suc i) s).exclusive ≡ []) where
    abbrev pub put : State
    put = on_entry (suc i) (exclude_by p v) s

    pub same-words : (l : Kind) (n : Mode) (q z : ℕ) → holders put l n q z ≡ holders (on_entry (suc i) (grant strong p) s) l n q z
    same-words = entry_words i (exclude_by p v) (grant strong p) s h (exclude-words p v)

  -- The request's own entry is entry i + 1.
  pub own-entry : r.code ≤ 4 → (i : ℕ) × (i < length s.entries) × (r.entry ≡ suc i)
  own-entry le = go r.entry (checked-entry p r.code r.entry r.first r.second s (S.checked p r hand) le)
    where
      go : (e : ℕ) → (1 ≤ e) × (e ≤ length s.entries) → (i : ℕ) × (i < length s.entries) × (e ≡ suc i)
      go zero b = absurd (omega (arith, b.0))
      go (suc i) b = (i, omega (arith, b.1), refl)

  pub free-at : (n : Mode) (i : ℕ) → r.entry ≡ suc i → entry_blockers n p r s ≡ [] → blockers rule L.entry n p (entry_of (suc i) s).share (entry_of (suc i) s).exclusive ≡ []
  unfolding entry_blockers
  free-at n i e free = subst (λ x. blockers rule L.entry n p (entry_of x s).share (entry_of x s).exclusive ≡ []) e free

  -- ---- read, write

  pub shared-formed : Formed (shared_state p r s)
  shared-formed = on-entry-formed r.entry (share_by p) s (formed-of S)

  pub written-formed : 1 ≤ s.free → Formed (written p r s)
  unfolding written
  written-formed h =
      let F = on-entry-formed r.entry (exclude_by p r.first) s (formed-of S) in
      undo-formed p (s.free - 1) (value r.entry (entry_of r.entry s).value) (on_entry r.entry (exclude_by p r.first) s) (seat r.entry) F.shaped (count r.entry F.counted)
    where
      seat : (e : ℕ) → p < length (on_entry e (exclude_by p r.first) s).table
      seat zero = unfold on_entry in (hand-seat p r s hand)
      seat (suc i) = unfold on_entry in (hand-seat p r s hand)

      count : (e : ℕ) → (on_entry e (exclude_by p r.first) s).free + records_used (on_entry e (exclude_by p r.first) s) ≡ (on_entry e (exclude_by p r.first) s).records
          → s.free - 1 + suc (records_used (on_entry e (exclude_by p r.first) s)) ≡ (on_entry e (exclude_by p r.first) s).records
      count zero q = unfold on_entry in (omega (arith, q, h))
      count (suc i) q = unfold on_entry in (omega (arith, q, h))

  -- ---- the entry's lock of an insert or a remove

  pub excluded-holds : r.code ≤ 4 → holders (excluded_state p r s) L.entry strong p r.entry ≡ true
  excluded-holds hi = let o = own-entry hi in
      subst (λ e. holders (on_entry e (grant strong p) s) L.entry strong p e ≡ true) (sym o.2) (excluded-here o.0 o.1)

  pub excluded-formed : Formed (excluded_state p r s)
  excluded-formed = on-entry-formed r.entry (λ e. exclude_by p e.value e) s (formed-of S)

-- Theorems that rest on theorems of specs/: the rest of specs/Entries.antt.
use Rattle.std.specs.Prelude.{◌≡◌, [], length}
use Rattle.std.proofs.Math.Path.{refl, sym}
use Rattle.std.proofs.Common.{subst}
use Rattle.std.proofs.Math.Bool.{true}
use Prim.Native.Nat.{suc, ◌<◌, ℕ}
use Rattle.serial.specs.Locks.{Mode, weak, strong}
use Rattle.serial.specs.Locks as L
use Rattle.serial.specs.LockMachine.{Locked}
use Rattle.machine.specs.Holders.{holds, blockers}
use Rattle.machine.specs.State.{State, entry_of, session_of, on_entry}
use Rattle.machine.specs.Steps.{rule}
use Rattle.machine.specs.View.{holders, view}
use Rattle.machine.proofs.Blocking.{unblocked}
use Rattle.machine.specs.Agreement.{grown-agree}
use Rattle.machine.specs.Entries.{Fit, lock-old, lock-others, lock_new, lock-items}
use Rattle.machine.specs.Entries as Specs

-- ---- the lock of entry i + 1 in mode m for session p

module _ (m : Mode) (p i : ℕ) (s : State) (r : i < length s.entries) where
  abbrev locked_state : State
  locked_state = Specs.locked_state m p i s r

  module _ (F : Fit s) (free : blockers rule L.entry m p (entry_of (suc i) s).share (entry_of (suc i) s).exclusive ≡ []) where
    lock-clear : (n : Mode) (q z : ℕ) → suc i ≡ z → ¬ (p ≡ q) → holders s L.entry n q z ≡ true → rule L.entry n m ≡ true
    lock-clear n q z e ne h = at n h
      where
        at : (o : Mode) → holders s L.entry o q z ≡ true → rule L.entry o m ≡ true
        at weak y = let b = F.few L.entry weak q z y in
            (unblocked L.entry m p (entry_of (suc i) s).share (entry_of (suc i) s).exclusive free q b.0 b.1 ne).0 (subst (λ w. holds (entry_of w s).share q ≡ true) (sym e) y)
        at strong y = let b = F.few L.entry strong q z y in
            (unblocked L.entry m p (entry_of (suc i) s).share (entry_of (suc i) s).exclusive free q b.0 b.1 ne).1 (subst (λ w. holds (entry_of w s).exclusive q ≡ true) (sym e) y)

    -- It is a lock of the lock machine.
    pub entry-locked : (session_of p s).begun ≡ true → Locked rule p (view s) (view locked_state)
    unfolding on_entry session_of
    entry-locked b = record {
      was = b;
      more = λ k n z. lock-old m p i s r k n p z;
      log_same = refl;
      others = λ t n. record { holds_kept = λ k o z. lock-others m p i s r k o t z n; log_kept = refl };
      begun_same = λ t. refl;
      db_kept = lock-items m p i s r;
      agree = grown-agree (holders s) (holders locked_state) p L.entry m (λ z. suc i ≡ z)
          (record { old = lock-old m p i s r; new = lock_new m p i s r; clear = lock-clear }) F.agree;
    }

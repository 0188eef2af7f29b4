-- Theorems that rest on theorems of specs/: the rest of specs/Changes.antt.
use Rattle.std.specs.Prelude.{◌≡◌, [], ℕ}
use Rattle.std.proofs.Math.Path.{refl, sym, subst}
use Rattle.std.proofs.Math.Bool.{true}
use Rattle.serial.specs.Locks.{Mode, weak, strong}
use Rattle.serial.specs.Locks as L
use Rattle.serial.specs.LockMachine.{Locked}
use Rattle.machine.specs.Holders.{holds}
use Rattle.machine.specs.State.{State, session_of, desc_of, on_tree}
use Rattle.machine.specs.Steps.{rule, group_blockers}
use Rattle.machine.specs.View.{seen, locate_word, update_word, holders, view}
use Rattle.machine.specs.Keys.{Kept}
use Rattle.machine.proofs.Blocking.{unblocked}
use Rattle.machine.specs.Agreement.{grown-agree}
use Rattle.machine.specs.Entries.{Fit}
use Rattle.machine.specs.Changes.{up-items, up-others, up-old, up-new, free-here}
use Rattle.machine.specs.Changes as Specs

-- ---- the update lock of key k for session p

module _ (p k : ℕ) (s : State) (K : Kept k s) where
  abbrev held_state : State
  held_state = Specs.held_state p k s K

  module _ (F : Fit s) (free : group_blockers strong p (desc_of k s) ≡ []) where
    up-clear : (n : Mode) (q z : ℕ) → k ≡ z → ¬ (p ≡ q) → holders s L.group n q z ≡ true → rule L.group n strong ≡ true
    up-clear n q z e ne h = at n h
      where
        at : (o : Mode) → holders s L.group o q z ≡ true → rule L.group o strong ≡ true
        at weak y = let b = F.few L.group weak q z y in
            (unblocked L.group strong p (locate_word k (seen s)) (update_word k (seen s)) (free-here p k s K F free) q b.0 b.1 ne).0 (subst (λ w. holds (locate_word w (seen s)) q ≡ true) (sym e) y)
        at strong y = let b = F.few L.group strong q z y in
            (unblocked L.group strong p (locate_word k (seen s)) (update_word k (seen s)) (free-here p k s K F free) q b.0 b.1 ne).1 (subst (λ w. holds (update_word w (seen s)) q ≡ true) (sym e) y)

    pub update-locked : (session_of p s).begun ≡ true → Locked rule p (view s) (view held_state)
    unfolding on_tree session_of
    update-locked b = record {
      was = b;
      more = λ l n z. up-old p k s K l n p z;
      log_same = refl;
      others = λ t n. record { holds_kept = λ l o z. up-others p k s K l o t z n; log_kept = refl };
      begun_same = λ t. refl;
      db_kept = up-items p k s K;
      agree = grown-agree (holders s) (holders held_state) p L.group strong (λ z. k ≡ z) (record { old = up-old p k s K; new = up-new p k s K; clear = up-clear }) F.agree;
    }

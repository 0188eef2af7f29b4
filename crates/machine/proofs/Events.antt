-- Theorems that rest on theorems of specs/: the rest of specs/Events.antt.
use Rattle.std.specs.Prelude.{◌≡◌, suc, ◌≤◌, ◌<◌, ℕ, length}
use Rattle.std.proofs.Math.Path.{refl, sym, ap}
use Rattle.std.proofs.Common.{◌∙◌, arith}
use Rattle.std.proofs.Math.Bool.{true}
use mathlib.Core.List.{[], ◌∷◌}
use Rattle.std.proofs.Math.Decide.{ℕ_discrete}
use Rattle.serial.specs.Model.{Req, just}
use Rattle.serial.specs.Model as R
use Rattle.serial.specs.Locks.{Kind, Mode, weak, strong}
use Rattle.serial.specs.Locks as L
use Rattle.machine.specs.Holders.{width, holds, blockers}
use Rattle.machine.specs.State.{Stage, enter, Request, State, done, entry_of, session_of, on_entry}
use Rattle.machine.specs.Steps.{rule, share_by, entry_blockers, ended, goes_on, finished, read-step, write_step, entry-step, written}
use Rattle.machine.specs.View.{holders, same_refl, ended_same}
use Rattle.machine.specs.Descents.{goes_same}
use Rattle.machine.specs.Housekeeping.{Ordered}
use Rattle.machine.specs.Entries.{Fit, entry-put, grant, granted, locked_state, lock-items, lock-others}
use Rattle.machine.proofs.Entries.{entry-locked}
use Rattle.machine.specs.Events.{Does, locks, finishes, guard-does, finished-quiet, locked-then, asked, or-true, write-finished}

-- ---- read, write, and the entry's lock of an insert or a remove

-- The state after an entry's lock is fit again, but for its table.
module _ (m : Mode) (k i : ℕ) (s : State) (F : Fit s) (r : i < length s.entries) (b : (session_of (suc k) s).begun ≡ true) (le : suc k ≤ width)
    (free : blockers rule L.entry m (suc k) (entry_of (suc i) s).share (entry_of (suc i) s).exclusive ≡ []) where
  abbrev t : State
  t = locked_state m (suc k) i s r

  pub locked-fit : Fit t
  unfolding on_entry Ordered
  locked-fit = record {
    ordered = F.ordered;
    rises = F.rises;
    listed = F.listed;
    agree = (entry-locked m (suc k) i s r F free b).agree;
    few = λ l n q z h. go l n q z h (ℕ_discrete (suc k) q);
    seats = F.seats;
  }
    where
      go : (l : Kind) (n : Mode) (q z : ℕ) → holders t l n q z ≡ true → Dec (suc k ≡ q) → (1 ≤ q) × (q ≤ width)
      go l n q z h (yes e) = (omega (arith, e), omega (arith, e, le))
      go l n q z h (no e) = F.few l n q z (sym (lock-others m (suc k) i s r l n q z e) ∙ h)

pub read-does : (k i c f g : ℕ) (st : Stage) (s : State) → Fit s → i < length s.entries → (session_of (suc k) s).begun ≡ true → suc k ≤ width
    → Does (suc k) (R.read (suc i)) s (read-step (suc k) (asked c (suc i) f g st) s)
unfolding read-step entry_blockers finished
read-does k i c f g st s F h b le = guard-does (suc k) (R.read (suc i)) (blockers rule L.entry weak (suc k) (entry_of (suc i) s).share (entry_of (suc i) s).exclusive) 0 (asked c (suc i) f g st) s
    (finished (suc k) (asked c (suc i) f g st) ((entry_of (suc i) s).value ∷ []) (on_entry (suc i) (share_by (suc k)) s)) go
  where
    t : State
    t = on_entry (suc i) (share_by (suc k)) s

    r : Request
    r = asked c (suc i) f g st

    go : blockers rule L.entry weak (suc k) (entry_of (suc i) s).share (entry_of (suc i) s).exclusive ≡ []
        → Does (suc k) (R.read (suc i)) s (finished (suc k) r ((entry_of (suc i) s).value ∷ []) t)
    go free = finishes t (just (entry_of (suc i) t).value)
        (ap (λ v. done (v ∷ [])) (sym (lock-items weak (suc k) i s h (R.value (suc i))))) refl
        (entry-locked weak (suc k) i s h F free b)
        (finished-quiet (suc k) (R.read (suc i)) t (ended (suc k) r t) (λ d. refl) (λ d. refl) (locked-fit weak k i s F h b le free).rises (locked-fit weak k i s F h b le free).listed (ended_same (suc k) r t)
        ((entry-locked weak (suc k) i s h F free b).begun_same (suc k) ∙ b)
        (or-true (holds (entry_of (suc i) t).share (suc k)) (holds (entry_of (suc i) t).exclusive (suc k))
        (ap (λ x. holds x.share (suc k)) (entry-put i (share_by (suc k)) s h) ∙ granted weak k (entry_of (suc i) s))))

pub entry-step-does : (k i c f g : ℕ) (st : Stage) (q : Req) (s : State) → Fit s → i < length s.entries → (session_of (suc k) s).begun ≡ true
    → Does (suc k) q s (entry-step (suc k) (asked c (suc i) f g st) s)
unfolding entry-step entry_blockers goes_on
entry-step-does k i c f g st q s F h b = guard-does (suc k) q (blockers rule L.entry strong (suc k) (entry_of (suc i) s).share (entry_of (suc i) s).exclusive) 0 (asked c (suc i) f g st) s
    (goes_on (suc k) (asked c (suc i) f g st) (enter f) t) go
  where
    t : State
    t = on_entry (suc i) (grant strong (suc k)) s

    r : Request
    r = asked c (suc i) f g st

    go : blockers rule L.entry strong (suc k) (entry_of (suc i) s).share (entry_of (suc i) s).exclusive ≡ [] → Does (suc k) q s (goes_on (suc k) r (enter r.first) t)
    go free =
        locks refl (locked-then (suc k) s t (goes_on (suc k) r (enter r.first) t).next (entry-locked strong (suc k) i s h F free b)
        (goes_same (suc k) r (enter r.first) t t (same_refl t)))

-- ---- write

pub write-does : (k i c f g : ℕ) (st : Stage) (s : State) → Fit s → i < length s.entries → (session_of (suc k) s).begun ≡ true → suc k ≤ width
    → Does (suc k) (R.write (suc i) f) s (write_step (suc k) (asked c (suc i) f g st) s)
unfolding write_step entry_blockers finished written
write-does k i c f g st s F h b le = guard-does (suc k) (R.write (suc i) f) (blockers rule L.entry strong (suc k) (entry_of (suc i) s).share (entry_of (suc i) s).exclusive) 1 r s
    (finished (suc k) r (0 ∷ []) (written (suc k) r s)) go
  where
    r : Request
    r = asked c (suc i) f g st

    t : State
    t = on_entry (suc i) (grant strong (suc k)) s

    go : blockers rule L.entry strong (suc k) (entry_of (suc i) s).share (entry_of (suc i) s).exclusive ≡ [] → Does (suc k) (R.write (suc i) f) s (finished (suc k) r (0 ∷ []) (written (suc k) r s))
    go free = finishes t (just 0) refl refl (entry-locked strong (suc k) i s h F free b)
        (write-finished k i f s F h le (ended (suc k) r (written (suc k) r s)) (ended_same (suc k) r (written (suc k) r s)) (locked-fit strong k i s F h b le free)
        ((entry-locked strong (suc k) i s h F free b).begun_same (suc k) ∙ b))

-- Theorems that rest on theorems of specs/: the rest of specs/Session.antt.
use Rattle.std.specs.Prelude.{◌≡◌, true, suc, ◌≤◌, ℕ}
use Rattle.std.proofs.Common.{arith}
use Rattle.serial.specs.Model as R
use Rattle.machine.specs.Holders.{width}
use Rattle.machine.specs.State.{start, enter, change, take, Request, State, or_none, session_of, stored, lowest_from, at}
use Rattle.machine.specs.Steps.{enter_step, at_step, first_step, change-step, take_step, next_step}
use Rattle.machine.specs.Housekeeping.{like-unseen, enter-step-like}
use Rattle.machine.proofs.Housekeeping.{at-step-like}
use Rattle.machine.specs.Entries.{Fit}
use Rattle.machine.specs.Events.{Does, unseen, asked}
use Rattle.machine.proofs.Events.{read-does, write-does, entry-step-does}
use Rattle.machine.proofs.Insert.{insert-does, remove-does}
use Rattle.machine.proofs.Locate.{take-does}
use Rattle.machine.specs.Session.{open-enter, open_at, Ready, reads, writes, to_insert, to_remove, enters, descends, inserts, removes, takes, req_of}

-- ---- where a request in hand stands

-- Every step of a session: n words of list are lent.
pub session-step : (n m : ℕ) (s : State) → Fit s → (session_of (suc m) s).begun ≡ true → suc m ≤ width → (r : Request) → Ready (suc m) s r
    → Does (suc m) (req_of r) s (next_step n (suc m) r s r.stage)
unfolding next_step first_step change-step take_step req_of
session-step n m s F b le r (reads i f g h) = read-does m i 1 f g start s F h b le
session-step n m s F b le r (writes i f g h) = write-does m i 2 f g start s F h b le
session-step n m s F b le r (to_insert i f g h) = entry-step-does m i 3 f g start (R.insert (suc i) f) s F h b
session-step n m s F b le r (to_remove i f g h) = entry-step-does m i 4 f g start (R.remove (suc i) f) s F h b
session-step n m s F b le r (enters c e f g x) = unseen (open-enter (suc m) (asked c e f g (enter x)) x s)
    (like-unseen s (enter_step (suc m) (asked c e f g (enter x)) x s).next (enter-step-like (suc m) (asked c e f g (enter x)) x s))
session-step n m s F b le r (descends c e f g x h) = unseen (open_at m (asked c e f g (at x)) x s)
    (like-unseen s (at_step (suc m) (asked c e f g (at x)) x s).next (at-step-like (suc m) (asked c e f g (at x)) x s F.ordered h (λ z. absurd (omega (arith, z)))))
session-step n m s F b le r (inserts e f g K h) = insert-does m f e s F K b le h 3 g change
session-step n m s F b le r (removes e f g K h) = remove-does m f e s F K b le h 4 g change
session-step n m s F b le r (takes e f g x K q u needs) = take-does m s F b le (or_none (lowest_from x (stored s))) K q n 5 e f g (take x) u needs

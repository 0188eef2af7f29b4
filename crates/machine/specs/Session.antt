-- Every step of a session's request, together: what it does is an event of the lock machine, with the answer that the model gives.
use Rattle.std.specs.Prelude.{◌≡◌, refl, true, cond, List, [], zero, suc, ◌≤◌, ◌<◌, ℕ, eqb, length}
use Rattle.std.proofs.Math.Dec.{eqb-suc-zero}
use Rattle.serial.specs.Model.{Req}
use Rattle.serial.specs.Model as R
use Rattle.serial.specs.Locks.{strong, weak}
use Rattle.serial.specs.Locks as L
use Rattle.machine.specs.Logic.{either}
use Rattle.machine.specs.Holders.{latch_word}
use Rattle.machine.specs.Tree.{pick}
use Rattle.machine.specs.State.{Tree, start, enter, change, take, Request, State, more, Outcome, top, no_desc, same, or_none, stored, lowest_from, at}
use Rattle.machine.specs.Steps.{goes_on, guarded, enter_step, level-step, pin-step, make-step, lowest_step, stand_step, at_step, answer}
use Rattle.machine.specs.View.{holders}
use Rattle.machine.specs.Descents.{guard-cases, latch-cases}
use Rattle.machine.specs.Keys.{Kept}
use Rattle.machine.specs.Events.{unfinished, asked}

-- ---- no step of a session's descent finishes a request

open-guard : (bs : List ℕ) (need p : ℕ) (r : Request) (s : State) (o : Outcome) → unfinished o.answer ≡ true → unfinished (guarded bs need p r s o).answer ≡ true
open-guard bs need p r s o h = guard-cases (λ x. unfinished x.answer ≡ true) bs need p r s o (λ b l. refl) refl h

pub open-enter : (p : ℕ) (r : Request) (x : ℕ) (s : State) → unfinished (enter_step p r x s).answer ≡ true
unfolding enter_step goes_on
open-enter p r x s = open-guard _ _ p r s _ refl

open-stand : (m : ℕ) (r : Request) (x : ℕ) (s : State) (h : ℕ) (t : Tree (suc h)) → unfinished (stand_step (suc m) r x s h t).answer ≡ true
unfolding stand_step lowest_step level-step pin-step make-step goes_on
open-stand m r x s zero t = rw (eqb-suc-zero m)
    (either (λ o. unfinished o.answer ≡ true) (eqb (pick x no_desc same t.sons).key x) (pin-step (suc m) r x s) (make-step (suc m) r x s) refl (open-guard [] 1 (suc m) r s _ refl))
open-stand m r x s (suc h) t = open-guard _ _ (suc m) r s _ refl

pub open_at : (m : ℕ) (r : Request) (x : ℕ) (s : State) → unfinished (at_step (suc m) r x s).answer ≡ true
unfolding at_step
open_at m r x s = latch-cases (λ o. unfinished o.answer ≡ true) (latch_word (suc m)) x (answer more s) (stand_step (suc m) r x s) (suc s.root.height) s.root.node refl (open-stand m r x s)

-- ---- where a request in hand stands

pub data Ready (p : ℕ) (s : State) : Request → Type 0 where
  reads : (i f g : ℕ) → i < length s.entries → Ready p s (asked 1 (suc i) f g start)
  writes : (i f g : ℕ) → i < length s.entries → Ready p s (asked 2 (suc i) f g start)
  to_insert : (i f g : ℕ) → i < length s.entries → Ready p s (asked 3 (suc i) f g start)
  to_remove : (i f g : ℕ) → i < length s.entries → Ready p s (asked 4 (suc i) f g start)
  enters : (c e f g x : ℕ) → Ready p s (asked c e f g (enter x))
  descends : (c e f g x : ℕ) → x ≤ top → Ready p s (asked c e f g (at x))
  -- The key is stored, and the entry's lock is held.
  inserts : (e f g : ℕ) → Kept f s → holders s L.entry strong p e ≡ true → Ready p s (asked 3 e f g change)
  removes : (e f g : ℕ) → Kept f s → holders s L.entry strong p e ≡ true → Ready p s (asked 4 e f g change)
  -- The next descriptor is stored, no higher than second, and every key of the range below it is held.
  takes : (e f g x : ℕ) (K : Kept (or_none (lowest_from x (stored s))).key s) → K.d ≡ or_none (lowest_from x (stored s)) → (or_none (lowest_from x (stored s))).key ≤ g
      → ((z : ℕ) → f ≤ z → z < (or_none (lowest_from x (stored s))).key → holders s L.group weak p z ≡ true) → Ready p s (asked 5 e f g (take x))

-- What the model is asked.
unfoldable pub req_of : Request → Req
req_of r = cond (eqb r.code 1) (R.read r.entry) (cond (eqb r.code 2) (R.write r.entry r.first) (cond (eqb r.code 3) (R.insert r.entry r.first)
    (cond (eqb r.code 4) (R.remove r.entry r.first) (R.locate r.first r.second))))

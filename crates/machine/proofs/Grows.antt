-- Theorems that rest on theorems of specs/: the rest of specs/Grows.antt.
use Rattle.std.specs.Prelude.{◌≡◌, Bool, true, false, cond}
use Rattle.std.proofs.Math.Path.{refl, sym, subst, ap}
use Rattle.std.proofs.Common.{◌∙◌, arith}
use mathlib.Core.List.{List, ◌∷◌, map}
use Rattle.std.proofs.Math.Option.{some}
use Prim.Native.Nat.{suc, ◌≤◌, ◌<◌, ℕ}
use Rattle.std.proofs.Math.Dec.{ltb}
use Rattle.serial.specs.Locks.{weak}
use Rattle.serial.specs.Locks as L
use Rattle.machine.specs.Logic.{leb-is, leb-not}
use Rattle.machine.specs.State.{Desc, start, enter, take, Request, State, top, or_none, session_of, stored, lowest_from, Outcome, at}
use Rattle.machine.specs.Steps.{goes_on, finished, change-step, memberships, passed_state, last_take, take_desc, take_step, first_step, next_step}
use Rattle.machine.specs.View.{same-holders, ended_same}
use Rattle.machine.specs.Sound.{stored_in, Sound}
use Rattle.machine.specs.Order.{In}
use Rattle.machine.specs.Housekeeping.{enter-step-like, lvs}
use Rattle.machine.proofs.Housekeeping.{at-step-like}
use Rattle.machine.specs.Keys.{Kept}
use Rattle.machine.specs.Looks.{sound-ordered, take-stored}
use Rattle.machine.specs.Events.{asked}
use Rattle.machine.specs.Session.{Ready, reads, writes, to_insert, to_remove, enters, descends, inserts, removes, takes}
use Rattle.machine.specs.Moves.{Tidying, nothing_above, entering, descending}
use Rattle.machine.specs.Ledger.{Ledger, lock, lock_one, keys, key_from, upon, step_grants}
use Rattle.machine.specs.Grows.{GrowsBy, alike-grows, first_key, f, passed-grows, key-from-is, next_key, behind, guard-grows, goes-grows, StepGrows, read-grows, write-grows, exclude-grows, insert-grows, remove-grows, last-grows, like-grows}

-- ---- the steps of a session

-- A locate at its next descriptor d, the lowest stored from x on, where second, g, is stored.
module _ (n m e f g x : ℕ) (s : State) (d : Desc) (q : or_none (lowest_from x (stored s)) ≡ d) (K : Kept d.key s) (upto : d.key ≤ g) (stays : stored_in g (lvs s) ≡ true) where
  abbrev r : Request
  r = asked 5 e f g (take x)

  abbrev from_key : ℕ → Ledger
  from_key k = lock L.group weak (suc m) k (key_from (suc k) (keys s))

  abbrev second_lock : Ledger
  second_lock = lock_one L.group weak (suc m) g

  pass-grows : d.key < g → GrowsBy s (goes_on (suc m) r (take (suc d.key)) (passed_state (suc m) d s)).next (from_key (key_from x (keys s)))
  unfolding keys stored
  pass-grows lt = goes-grows (suc m) r (take (suc d.key)) s (passed_state (suc m) d s) (from_key (key_from x (keys s)))
      (subst (GrowsBy s (passed_state (suc m) d s)) (ap (lock L.group weak (suc m) d.key) next-is ∙ ap from_key here-is)
      (passed-grows m d.key s K N.0 N.1 N.2 (subst (In (suc d.key) (suc top)) N.2 K.high).0.0))
    where
      N : (b : Desc) × (B : List Desc) × (K.B ≡ b ∷ B)
      N = behind d.key g s K stays lt

      here-is : d.key ≡ key_from x (keys s)
      here-is = sym (key-from-is x (lvs s) ∙ ap (λ y. y.key) q)

      next-is : N.0.key ≡ key_from (suc d.key) (keys s)
      next-is = sym (ap (λ l. key_from (suc d.key) (map (λ y. y.key) l)) K.was ∙ next_key d.key K.d K.key K.A K.B K.low K.high ∙ ap first_key N.2)

  take-grows : StepGrows (suc m) r s (take_desc n (suc m) r d s)
  unfolding step_grants take_desc goes_on
  take-grows = guard-grows second_lock (from_key (key_from x (keys s))) _ 0 (suc m) r s _ (go (ltb d.key g) refl)
    where
      l : List (ℕ × ℕ)
      l = memberships f g (stored s)

      o : Bool → Outcome
      o b = cond b (goes_on (suc m) r (take (suc d.key)) (passed_state (suc m) d s)) (last_take n (suc m) r l d s)

      go : (b : Bool) → ltb d.key g ≡ b → GrowsBy s (o b).next (upon (o b).answer second_lock (from_key (key_from x (keys s))))
      go true w = pass-grows (leb-is (suc d.key) g w)
      go false w = last-grows n m e f g x s d q K upto stays (let u = leb-not (suc d.key) g w in omega (arith, u, upto)) l

-- Every step of a session grows by what it grants.
pub ready-grows : (n m : ℕ) (s : State) → Sound s → (r : Request) → (session_of (suc m) s).hand ≡ some r → Ready (suc m) s r → StepGrows (suc m) r s (next_step n (suc m) r s r.stage)
unfolding next_step first_step change-step take_step step_grants
ready-grows n m s S r h (reads i f g w) = read-grows m i f g s w
ready-grows n m s S r h (writes i f g w) = write-grows m i f g s w
ready-grows n m s S r h (to_insert i f g w) = exclude-grows m 3 i f g s w refl
ready-grows n m s S r h (to_remove i f g w) = exclude-grows m 4 i f g s w refl
ready-grows n m s S r h (enters c e f g x) = like-grows s _ (enter-step-like (suc m) (asked c e f g (enter x)) x s)
ready-grows n m s S r h (descends c e f g x w) = like-grows s _ (at-step-like (suc m) (asked c e f g (at x)) x s (sound-ordered S) w (λ z. absurd (omega (arith, z))))
ready-grows n m s S r h (inserts e f g K w) = insert-grows m e f g s K
ready-grows n m s S r h (removes e f g K w) = remove-grows m e f g s K
ready-grows n m s S r h (takes e f g x K q u needs) = take-grows n m e f g x s (or_none (lowest_from x (stored s))) refl K u (take-stored S (suc m) (asked 5 e f g (take x)) x h refl).1

-- No step of the housekeeper grants anything.
pub tidy-grows : (n : ℕ) (s : State) → Sound s → (r : Request) → Tidying s r → StepGrows 0 r s (next_step n 0 r s r.stage)
unfolding next_step first_step step_grants finished
tidy-grows n s S r (nothing_above e f g) = alike-grows s _ (same-holders s _ (ended_same 0 (asked 6 e f g start) s))
tidy-grows n s S r (entering e f g x) = like-grows s _ (enter-step-like 0 (asked 6 e f g (enter x)) x s)
tidy-grows n s S r (descending e f g x w q) = like-grows s _ (at-step-like 0 (asked 6 e f g (at x)) x s (sound-ordered S) w (λ z. q))

-- Every call from a sound state leaves a sound state.
use Rattle.std.specs.Prelude.{◌≡◌, Bool, ◌&&◌}
use Rattle.std.proofs.Math.Path.{refl, sym, ap}
use Rattle.std.proofs.Common.{◌∙◌, subst, arith}
use Rattle.std.proofs.Math.Bool.{true, false, cond, not}
use mathlib.Core.List.{List, [], ◌∷◌}
use Rattle.std.proofs.Math.Option.{some}
use Prim.Native.Nat.{suc, ◌≤◌, ℕ}
use Rattle.std.proofs.Math.Dec.{leb, eqb}
use Rattle.machine.specs.Logic.{eqb_no, leb-is, either}
use Rattle.machine.specs.Holders.{latch_word}
use Rattle.machine.specs.Tree.{pick}
use Rattle.machine.specs.State.{Tree, Stage, start, enter, change, take, Request, State, refused, Outcome, top, no_desc, same, or_none, session_of, desc_of, in_stage, at}
use Rattle.machine.specs.Steps.{pinned, ended, goes_on, finished, guarded, arrived, pin-step, answer}
use Rattle.machine.specs.Sound.{times, stands, Stands, Sound, Formed, Keyed, latches-of, sound-from}
use Rattle.machine.specs.Context.{Focus}
use Rattle.machine.specs.Table.{hand-seat}
use Rattle.machine.specs.Lowest.{same-leaf}
use Rattle.machine.specs.Keys.{kept}
use Rattle.machine.specs.Looks.{sound-ordered, kept-stored}
use Rattle.machine.specs.Shape.{pin-formed}
use Rattle.machine.specs.LatchSteps.{pin-latches}
use Rattle.machine.specs.Unmoved.{Unmoved}
use Rattle.machine.specs.Descending.{stood, pin-keyed}
use Rattle.machine.specs.Ending.{ended-sound, restage-sound}

-- ---- the descriptor where a descent ends

pub focus-desc : (p x : ℕ) (s : State) → Sound s → x ≤ top → (u : Tree 1) → Focus p x s 0 u → desc_of x s ≡ pick x no_desc same u.sons
unfolding desc_of
focus-desc p x s S le u F = ap or_none (same-leaf (latch_word p) x (suc s.root.height) s.root.node u 0 (suc top) (stood p x s 0 u (sound-ordered S) le F))

-- ---- a guarded step

-- It waits, or ends the request for want of records, or is done whole.
pub guard-sound : (bs : List ℕ) (need p : ℕ) (r : Request) (s : State) (o : Outcome) → Sound s → (session_of p s).hand ≡ some r
    → (bs ≡ [] → need ≤ s.free → Sound o.next) → Sound (guarded bs need p r s o).next
unfolding guarded
guard-sound [] need p r s o S e k = go (leb need s.free) refl
  where
    go : (b : Bool) → leb need s.free ≡ b → Sound (cond b o (answer (refused 11 0) (ended p r s))).next
    go true q = k refl (leb-is need s.free q)
    go false q = ended-sound p r s S e
guard-sound (b ∷ bs) need p r s o S e k = S

pub finish-sound : (p : ℕ) (r : Request) (ns : List ℕ) (s : State) → Sound s → (session_of p s).hand ≡ some r → Sound (finished p r ns s).next
unfolding finished
finish-sound p r ns s S e = ended-sound p r s S e

-- ---- descents

pub stands_at : (p : ℕ) (r : Request) (g : Stage) (s : State) → Sound s → (session_of p s).hand ≡ some r → r.stage ≡ g → Stands p s r g
stands_at p r g s S e q = subst (Stands p s r) q (S.standing p r e)

pub arrived-stands : (r : Request) (x : ℕ) → stands (arrived r x) ≡ 0
unfolding arrived
arrived-stands r x = either (λ g. stands g ≡ 0) (eqb r.code 5) (cond (eqb x r.second) (take r.first) (enter r.second)) change
    (either (λ g. stands g ≡ 0) (eqb x r.second) (take r.first) (enter r.second) refl refl) refl

-- At the lowest node: a session's descent pins the descriptor, or makes it.
module _ (m : ℕ) (r : Request) (x : ℕ) (s : State) (S : Sound s) (e : (session_of (suc m) s).hand ≡ some r) (q : r.stage ≡ at x) (le : x ≤ top)
    (u : Tree 1) (F : Focus (suc m) x s 0 u) where
  pub pin-sound : (pick x no_desc same u.sons).key ≡ x → Sound (pin-step (suc m) r x s).next
  unfolding pin-step
  pin-sound k =
      let there = kept-stored x s (kept x s (sound-ordered S) le (ap (λ d. d.key) (focus-desc (suc m) x s S le u F) ∙ k)) in
      sound-from (pin-formed (suc m) r (arrived r x) x s S) (pin-latches (suc m) r (arrived r x) x s S e q le (hand-seat (suc m) r s e) (arrived-stands r x)) (pin-keyed m r x s S e q there)

-- ---- locks

-- A lock step, and then the request ends or goes on.
module _ (p : ℕ) (r : Request) (s t : State) (S : Sound s) (e : (session_of p s).hand ≡ some r) (U : Unmoved s t) (F : Formed t) (K : Keyed t) where
  locked : Sound t
  locked = sound-from F (U.latches (latches-of S)) K

  pub locked-ends : Sound (ended p r t)
  locked-ends = ended-sound p r t locked (U.kin.hands p ∙ e)

  pub locked-goes : (g : Stage) → stands r.stage ≡ 0 → stands g ≡ 0 → ((k : ℕ) → times k (pinned (in_stage g r) g) ≡ times k (pinned r r.stage)) → Stands p t (in_stage g r) g
      → Sound (goes_on p r g t).next
  unfolding goes_on
  locked-goes g a b c d = restage-sound p r g t locked (U.kin.hands p ∙ e) a b c d

module _ (m : ℕ) (r : Request) (s : State) (S : Sound s) (e : (session_of (suc m) s).hand ≡ some r) where
  pub enter-pins : r.stage ≡ start → r.code ≤ 4 → pinned (in_stage (enter r.first) r) (enter r.first) ≡ pinned r r.stage
  unfolding pinned
  enter-pins q hi = ap (λ b. cond (b && not (eqb r.first r.first)) (r.first ∷ []) []) (eqb_no r.code 5 (λ z. omega (arith, z, hi))) ∙ sym (ap (pinned r) q)

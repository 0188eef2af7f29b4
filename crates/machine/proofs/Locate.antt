-- Theorems that rest on theorems of specs/: the rest of specs/Locate.antt.
use Rattle.std.specs.Prelude.{◌≡◌, Bool, true, false, List, [], ◌∷◌, ◌⊎◌, suc, ◌*◌, ◌≤◌, ◌<◌, ℕ, leb, ltb, length}
use Rattle.std.proofs.Math.Path.{refl, ap}
use Rattle.std.proofs.Common.{sym, ◌∙◌, subst, arith}
use Rattle.std.proofs.Math.Bool.{cond}
use Rattle.std.proofs.Math.Logic.{inl, inr}
use Rattle.std.proofs.Math.Decide.{ℕ_discrete}
use Rattle.serial.specs.Serial.{true≢false}
use Rattle.serial.specs.Rising.{only}
use Rattle.serial.specs.Model.{ans, located}
use Rattle.serial.specs.Model as R
use Rattle.serial.specs.Locks.{Mode, weak, strong}
use Rattle.serial.specs.Locks as L
use Rattle.serial.specs.LockMachine.{Locked}
use Rattle.machine.specs.Logic.{leb-not}
use Rattle.machine.specs.Holders.{width, holds, held_by}
use Rattle.machine.specs.State.{Desc, Stage, take, Request, State, done, refused, Outcome, session_of, stored, on_tree, on_desc, hold_desc, same}
use Rattle.machine.specs.Steps.{rule, group_blockers, ended, goes_on, memberships, last_take, take_desc, answer}
use Rattle.machine.specs.View.{seen, locate_word, update_word, holders, view, same_refl, same-unseen, ended_same}
use Rattle.machine.specs.Model.{model, memberships-are}
use Rattle.machine.specs.Bits.{held_same, holds-none}
use Rattle.machine.specs.Descents.{goes_same}
use Rattle.machine.specs.Housekeeping.{lvs}
use Rattle.machine.proofs.Blocking.{group-free}
use Rattle.machine.specs.Keys.{Kept, was-update}
use Rattle.machine.specs.Agreement.{grown-agree}
use Rattle.machine.specs.Entries.{Fit}
use Rattle.machine.specs.Events.{Does, unseen, locks, finishes, guard-does, asked, locked-then, finished-quiet}
use Rattle.machine.specs.Locate.{Adds, adds-held, adds_same, InGap, here-word, t-items, loc-others, loc-old, loc-new, gap-update, lt-pairs, lt-rises, lt-listed}
use Rattle.machine.specs.Locate as Specs

-- ---- the locate lock of key k, and its gap's, for session p

module _ (p k : ℕ) (s : State) (K : Kept k s) (γ : ℕ → ℕ) (Γ : Adds p γ) where
  abbrev located_state : State
  located_state = Specs.located_state p k s K γ Γ

  abbrev Z : ℕ → Type 0
  Z z = (k ≡ z) ⊎ ((k < z) × InGap K.B z)

  module _ (F : Fit s) (free : group_blockers weak p K.d ≡ []) where
    loc-clear : (n : Mode) (q z : ℕ) → Z z → ¬ (p ≡ q) → holders s L.group n q z ≡ true → rule L.group n weak ≡ true
    loc-clear weak q z y ne h = refl
    loc-clear strong q z (inl e) ne h = let b = F.few L.group strong q z h in
        (group-free weak p K.d free q b.0 b.1 ne).1 (ap (λ w. holds w q) (sym (was-update k s K)) ∙ subst (λ w. holds (update_word w (seen s)) q ≡ true) (sym e) h)
    loc-clear strong q z (inr y) ne h = absurd (true≢false h (ap (λ w. holds w q) (gap-update p k s K γ Γ F free z y.0 y.1) ∙ holds-none q))

    -- It is a lock of the lock machine.
    pub locate-locked : (session_of p s).begun ≡ true → Locked rule p (view s) (view located_state)
    unfolding on_tree session_of
    locate-locked b = record {
      was = b;
      more = λ l n z. loc-old p k s K γ Γ l n p z;
      log_same = refl;
      others = λ t n. record { holds_kept = λ l o z. loc-others p k s K γ Γ l o t z n; log_kept = refl };
      begun_same = λ t. refl;
      db_kept = t-items p k s K γ Γ;
      agree = grown-agree (holders s) (holders located_state) p L.group weak Z (record { old = loc-old p k s K γ Γ; new = loc-new p k s K γ Γ; clear = loc-clear }) F.agree;
    }

-- ---- the step

module _ (m : ℕ) (s : State) (F : Fit s) (b : (session_of (suc m) s).begun ≡ true) (le : suc m ≤ width) (d : Desc) (K : Kept d.key s) (q : K.d ≡ d) where
  abbrev p : ℕ
  p = suc m

  abbrev lt : State
  lt = located_state p d.key s K same (adds_same p)

  abbrev free-at : group_blockers weak p d ≡ [] → group_blockers weak p K.d ≡ []
  free-at = Specs.free-at m s F b le d K q

  module _ (n c e f g : ℕ) (st : Stage) (upto : d.key ≤ g) (needs : (z : ℕ) → f ≤ z → z < d.key → holders s L.group weak p z ≡ true) where
    abbrev r : Request
    r = asked c e f g st

    pub take-does : Does p (R.locate f g) s (take_desc n p r d s)
    unfolding take_desc last_take goes_on stored
    take-does = guard-does p (R.locate f g) (group_blockers weak p d) 0 r s (cond (ltb d.key g) pass last) λ free. go free (ltb d.key g) refl
      where
        passed : State
        passed = on_desc d.key (hold_desc (held_by p) same (held_by p)) s

        l : List (ℕ × ℕ)
        l = memberships f g (lvs s)

        pass : Outcome
        pass = goes_on p r (take (suc d.key)) passed

        last : Outcome
        last = cond (leb (2 * length l) n) (record { answer = done (length l ∷ []); next = ended p r lt; written = l }) (answer (refused 12 (length l)) (ended p r s))

        found : l ≡ located f g (model lt)
        found = memberships-are f g (lvs s) ∙ ap (only R.by_key (R.in_range f g)) (sym (lt-pairs m s F b le d K q))

        all_held : d.key ≡ g → (z : ℕ) → f ≤ z → z ≤ g → holders lt L.group weak p z ≡ true
        all_held w z lo hi = at (ℕ_discrete d.key z)
          where
            at : Dec (d.key ≡ z) → holders lt L.group weak p z ≡ true
            at (yes y) = subst (λ i. holds (locate_word i (seen lt)) p ≡ true) y (ap (λ v. holds v p) (here-word p d.key s K same (adds_same p)) ∙ held_same m (locate_word d.key (seen s)))
            at (no y) = loc-old p d.key s K same (adds_same p) L.group weak p z (needs z lo (omega (arith, y, w, hi)))

        ends : group_blockers weak p d ≡ [] → d.key ≡ g → (o : Bool) → leb (2 * length l) n ≡ o
            → Does p (R.locate f g) s (cond o (record { answer = done (length l ∷ []); next = ended p r lt; written = l }) (answer (refused 12 (length l)) (ended p r s)))
        ends free w false y = unseen refl (same-unseen s (ended p r s) (ended_same p r s))
        ends free w true y = finishes lt (ans (R.locate f g) (model lt)) (ap (λ v. done (length v ∷ [])) found) (ap R.two_words found)
            (locate-locked p d.key s K same (adds_same p) F (free-at free) b)
            (finished-quiet p (R.locate f g) lt (ended p r lt) (λ v. refl) (λ v. refl) (lt-rises m s F b le d K q) (lt-listed m s F b le d K q) (ended_same p r lt)
            ((locate-locked p d.key s K same (adds_same p) F (free-at free) b).begun_same p ∙ b) (all_held w))

        go : group_blockers weak p d ≡ [] → (o : Bool) → ltb d.key g ≡ o → Does p (R.locate f g) s (cond o pass last)
        go free true y = locks refl (locked-then p s passed pass.next (locate-locked p d.key s K (held_by p) (adds-held p) F (free-at free) b)
            (goes_same p r (take (suc d.key)) passed passed (same_refl passed)))
        go free false y = let w = leb-not (suc d.key) g y in ends free (omega arith) (leb (2 * length l) n) refl

-- The update lock of a key is an event of the lock machine; and what an insert or a remove owes that follows it in the same step.
use Rattle.std.specs.Prelude.{◌≡◌, [], ◌++◌, map, ◌⊎◌, ℕ}
use Rattle.std.proofs.Math.Path.{refl, sym, ap₂, subst, ap}
use Rattle.std.proofs.Common.{◌∙◌}
use Rattle.std.proofs.Math.Bool.{true, cond}
use Rattle.std.proofs.Math.Logic.{inl, inr}
use Rattle.std.proofs.Math.Decide.{ℕ_discrete}
use Rattle.serial.specs.Model.{Item, Req, get, eff, ans}
use Rattle.serial.specs.Model as R
use Rattle.serial.specs.Locks.{Kind, Mode, weak, strong, Needs, undo_of}
use Rattle.serial.specs.Locks as L
use Rattle.serial.specs.LockMachine.{Finished}
use Rattle.machine.specs.Holders.{holds, held_by, blockers, elem}
use Rattle.machine.specs.State.{Desc, State, session_of, desc_of, on_tree, on_desc, hold_desc, same}
use Rattle.machine.specs.Steps.{rule, group_blockers}
use Rattle.machine.specs.View.{seen, group_in, locate_word, update_word, log_entry, items, holders, view, entry-same, entry-holders}
use Rattle.machine.specs.Model.{Listed, model_is, model, model_good}
use Rattle.machine.specs.Bits.{held-other, held_more}
use Rattle.machine.specs.Groups.{Rises}
use Rattle.machine.specs.Housekeeping.{lvs}
use Rattle.machine.specs.Keys.{Kept, put-locate, put-update, was-update, was-locate, put-update-other, put-group-kept, put-rises, put-listed-kept}
use Rattle.machine.specs.Entries.{Fit}

-- ---- the update lock of key k for session p

abbrev pub hold_update : ℕ → Desc → Desc
hold_update p d = hold_desc same (held_by p) same d

module _ (p k : ℕ) (s : State) (K : Kept k s) where
  abbrev pub held_state : State
  held_state = on_desc k (hold_update p) s

  up_word : update_word k (seen held_state) ≡ held_by p (update_word k (seen s))
  up_word = put-update k s K (hold_update p) refl ∙ ap (held_by p) (sym (was-update k s K))

  pub up-group : (j : ℕ) → group_in j (seen held_state) ≡ group_in j (seen s)
  up-group = put-group-kept k s K (hold_update p) refl refl

  pub up-items : (x : Item) → items held_state x ≡ items s x
  unfolding on_tree
  up-items (R.value z) = ap (λ x. x.value) (entry-same s held_state refl z)
  up-items (R.cell j e) = ap (λ g. cond (elem e g) 1 0) (up-group j)

  pub up-others : (l : Kind) (n : Mode) (q z : ℕ) → ¬ (p ≡ q) → holders held_state l n q z ≡ holders s l n q z
  unfolding on_tree
  up-others L.entry n q z ne = entry-holders s held_state refl n q z
  up-others L.group weak q z ne = ap (λ w. holds w q) (put-locate k s K (hold_update p) refl refl refl z)
  up-others L.group strong q z ne = at (ℕ_discrete k z)
    where
      at : Dec (k ≡ z) → holds (update_word z (seen held_state)) q ≡ holds (update_word z (seen s)) q
      at (yes e) = subst (λ i. holds (update_word i (seen held_state)) q ≡ holds (update_word i (seen s)) q) e (ap (λ w. holds w q) up_word ∙ held-other p q (update_word k (seen s)) ne)
      at (no n) = ap (λ w. holds w q) (put-update-other k s K (hold_update p) refl z n)

  pub up-old : (l : Kind) (n : Mode) (q z : ℕ) → holders s l n q z ≡ true → holders held_state l n q z ≡ true
  unfolding on_tree
  up-old L.entry n q z h = entry-holders s held_state refl n q z ∙ h
  up-old L.group weak q z h = ap (λ w. holds w q) (put-locate k s K (hold_update p) refl refl refl z) ∙ h
  up-old L.group strong q z h = at (ℕ_discrete k z)
    where
      at : Dec (k ≡ z) → holds (update_word z (seen held_state)) q ≡ true
      at (yes e) = subst (λ i. holds (update_word i (seen held_state)) q ≡ true) e (ap (λ w. holds w q) up_word ∙ held_more p q (update_word k (seen s)) (ℕ_discrete p q) (subst (λ i. holds (update_word i (seen s)) q ≡ true) (sym e) h))
      at (no n) = ap (λ w. holds w q) (put-update-other k s K (hold_update p) refl z n) ∙ h

  pub up-new : (l : Kind) (n : Mode) (q z : ℕ) → holders held_state l n q z ≡ true → (holders s l n q z ≡ true) ⊎ ((p ≡ q) × (L.group ≡ l) × (strong ≡ n) × (k ≡ z))
  unfolding on_tree
  up-new L.entry n q z h = inl (sym (entry-holders s held_state refl n q z) ∙ h)
  up-new L.group weak q z h = inl (sym (ap (λ w. holds w q) (put-locate k s K (hold_update p) refl refl refl z)) ∙ h)
  up-new L.group strong q z h = at (ℕ_discrete k z) (ℕ_discrete p q)
    where
      at : Dec (k ≡ z) → Dec (p ≡ q) → (holds (update_word z (seen s)) q ≡ true) ⊎ ((p ≡ q) × (L.group ≡ L.group) × (strong ≡ strong) × (k ≡ z))
      at (yes e) (yes f) = inr (f, refl, refl, e)
      at (yes e) (no f) = inl (sym (up-others L.group strong q z f) ∙ h)
      at (no e) f = inl (sym (ap (λ w. holds w q) (put-update-other k s K (hold_update p) refl z e)) ∙ h)

  module _ (F : Fit s) (free : group_blockers strong p (desc_of k s) ≡ []) where
    pub free-here : blockers rule L.group strong p (locate_word k (seen s)) (update_word k (seen s)) ≡ []
    unfolding group_blockers
    free-here =
        ap₂ (λ a b. blockers rule L.group strong p a b) (was-locate k s K) (was-update k s K)
        ∙ sym (ap (λ d. blockers rule L.group strong p d.locate d.update) K.desc) ∙ free

  pub held-rises : Fit s → Rises 0 4294967296 (lvs held_state)
  held-rises F = put-rises k s K (hold_update p) refl F.rises

  pub held-listed : Fit s → Listed (lvs held_state)
  held-listed F = put-listed-kept k s K (hold_update p) refl refl F.listed

  -- ---- what follows in the same step

  module _ (F : Fit s) (q : Req) (u : State) where
    -- The request's locks, its change and its undo record, from the state with the lock.
    pub record Follows : Type 0 where
      pub needs : Needs (holders held_state) p q
      pub change : (x : Item) → items u x ≡ get (eff q (model held_state)) x
      pub log_now : map log_entry (session_of p u).undos ≡ undo_of q (model held_state) ++ map log_entry (session_of p held_state).undos
      pub log_others : (t : ℕ) → ¬ (p ≡ t) → (session_of t u).undos ≡ (session_of t held_state).undos
      pub holders_same : (l : Kind) (n : Mode) (t z : ℕ) → holders u l n t z ≡ holders held_state l n t z
      pub begun_same : (t : ℕ) → (session_of t u).begun ≡ (session_of t held_state).begun

    pub follows-finished : Follows → (session_of p held_state).begun ≡ true → Finished p q (ans q (model held_state)) (view held_state) (view u)
    follows-finished G b = record {
      was = b;
      needs = G.needs;
      model = model held_state;
      model_good = model_good 0 4294967296 held_state (held-rises F) (held-listed F);
      is_model = model_is 0 4294967296 held_state (held-rises F);
      answer = refl;
      change = G.change;
      log_now = G.log_now;
      log_others = λ t n. ap (map log_entry) (G.log_others t n);
      holds_same = G.holders_same;
      begun_same = G.begun_same;
    }

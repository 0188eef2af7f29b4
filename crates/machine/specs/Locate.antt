-- The steps of a locate that take a descriptor, with or without its gap, are events of the lock machine.
use Rattle.std.specs.Prelude.{◌≡◌, true, List, [], ◌∷◌, ◌++◌, ◌⊎◌, suc, ◌≤◌, ◌<◌, ℕ}
use Rattle.std.proofs.Math.Path.{refl, ap}
use Rattle.std.proofs.Common.{sym, ap₂, ◌∙◌, subst}
use Rattle.std.proofs.Math.Bool.{cond}
use Rattle.std.proofs.Math.Logic.{inl, inr}
use Rattle.std.proofs.Math.Decide.{ℕ_discrete}
use Rattle.serial.specs.Rising.{Tri, less, equal, greater}
use Rattle.serial.specs.Model.{Item, ℕ-tri}
use Rattle.serial.specs.Model as R
use Rattle.serial.specs.Locks.{Kind, Mode, weak, strong}
use Rattle.serial.specs.Locks as L
use Rattle.machine.specs.Holders.{width, holds, held_by, elem}
use Rattle.machine.specs.State.{Desc, State, session_of, on_tree, on_desc, hold_desc, same}
use Rattle.machine.specs.Steps.{group_blockers, passed_state, pairs_of}
use Rattle.machine.specs.Gaps.{by_tri, locators, updaters}
use Rattle.machine.specs.View.{seen, locate_word, update_word, items, holders, entry-same, entry-holders}
use Rattle.machine.specs.Sound.{gap_word}
use Rattle.machine.specs.Model.{Listed, pairs}
use Rattle.machine.specs.Bits.{held_same, held-other, held_more}
use Rattle.machine.specs.Groups.{words, Rises}
use Rattle.machine.specs.Housekeeping.{lvs}
use Rattle.machine.specs.Keys.{Kept, was_shown, was-locate, put_shown, put-locate-here, put-locate-below, put-update-kept, put-group-kept, put-rises, put-listed-kept, above-locate, above-update}
use Rattle.machine.specs.Looks.{put-gap}
use Rattle.machine.specs.Entries.{Fit}

-- A word changed for session p alone, and never against it.
pub record Adds (p : ℕ) (f : ℕ → ℕ) : Type 0 where
  pub other : (q w : ℕ) → ¬ (p ≡ q) → holds (f w) q ≡ holds w q
  pub more : (q w : ℕ) → holds w q ≡ true → holds (f w) q ≡ true

pub adds-held : (p : ℕ) → Adds p (held_by p)
adds-held p = record { other = λ q w n. held-other p q w n; more = λ q w h. held_more p q w (ℕ_discrete p q) h }

pub adds_same : (p : ℕ) → Adds p same
adds_same p = record { other = λ q w n. refl; more = λ q w h. h }

-- ---- the gap behind a descriptor

-- A key above lies in the gap, or beyond it.
abbrev pub InGap : List Desc → ℕ → Type 0
InGap B z = ((w : ℕ) → locators w (words B) z ≡ w) × (updaters (words B) z ≡ 0)

far : (B : List Desc) (z : ℕ) → InGap B z ⊎ ((v w : ℕ) → locators v (words B) z ≡ locators w (words B) z)
far [] z = inl ((λ w. refl), refl)
far (b ∷ B) z = go (ℕ-tri z b.key)
  where
    go : (t : Tri ◌<◌ z b.key) → (((w : ℕ) → by_tri t w b.locate (locators b.gap (words B) z) ≡ w) × (by_tri t 0 b.update (updaters (words B) z) ≡ 0))
        ⊎ ((v w : ℕ) → by_tri t v b.locate (locators b.gap (words B) z) ≡ by_tri t w b.locate (locators b.gap (words B) z))
    go (less h) = inl ((λ w. refl), refl)
    go (equal h) = inr (λ v w. refl)
    go (greater h) = inr (λ v w. refl)

-- ---- the locate lock of key k, and its gap's, for session p

module _ (p k : ℕ) (s : State) (K : Kept k s) (γ : ℕ → ℕ) (Γ : Adds p γ) where
  abbrev f : Desc → Desc
  f d = hold_desc (held_by p) same γ d

  abbrev pub located_state : State
  located_state = on_desc k f s

  abbrev pub Z : ℕ → Type 0
  Z z = (k ≡ z) ⊎ ((k < z) × InGap K.B z)

  record Word (z : ℕ) : Type 0 where
    pub ω : ℕ → ℕ
    pub adds : Adds p ω
    pub is : locate_word z (seen located_state) ≡ ω (locate_word z (seen s))
    pub zone : Z z ⊎ ((w : ℕ) → ω w ≡ w)

  pub here-word : locate_word k (seen located_state) ≡ held_by p (locate_word k (seen s))
  here-word = put-locate-here k s K f refl ∙ ap (held_by p) (sym (was-locate k s K))

  word_at : (z : ℕ) → Word z
  word_at z = go (ℕ-tri z k)
    where
      above : k < z → InGap K.B z ⊎ ((v w : ℕ) → locators v (words K.B) z ≡ locators w (words K.B) z) → Word z
      above h (inl G) = record {
        ω = γ;
        adds = Γ;
        zone = inl (inr (h, G));
        is = above-locate (put_shown k s K f refl) z h ∙ G.0 (γ K.d.gap) ∙ sym (ap γ (above-locate (was_shown k s K) z h ∙ G.0 K.d.gap));
      }
      above h (inr G) = record {
        ω = same;
        adds = adds_same p;
        zone = inr (λ w. refl);
        is = above-locate (put_shown k s K f refl) z h ∙ G (γ K.d.gap) K.d.gap ∙ sym (above-locate (was_shown k s K) z h);
      }

      go : Tri ◌<◌ z k → Word z
      go (less h) = record { ω = same; adds = adds_same p; zone = inr (λ w. refl); is = put-locate-below k s K f refl z h }
      go (equal h) = subst Word (sym h) (record { ω = held_by p; adds = adds-held p; is = here-word; zone = inl (inl refl) })
      go (greater h) = above h (far K.B z)

  t-update : (z : ℕ) → update_word z (seen located_state) ≡ update_word z (seen s)
  t-update = put-update-kept k s K f refl refl

  pub t-items : (x : Item) → items located_state x ≡ items s x
  unfolding on_tree
  t-items (R.value z) = ap (λ x. x.value) (entry-same s located_state refl z)
  t-items (R.cell j e) = ap (λ g. cond (elem e g) 1 0) (put-group-kept k s K f refl refl j)

  pub loc-others : (l : Kind) (n : Mode) (q z : ℕ) → ¬ (p ≡ q) → holders located_state l n q z ≡ holders s l n q z
  unfolding on_tree
  loc-others L.entry n q z ne = entry-holders s located_state refl n q z
  loc-others L.group weak q z ne = let W = word_at z in ap (λ w. holds w q) W.is ∙ W.adds.other q (locate_word z (seen s)) ne
  loc-others L.group strong q z ne = ap (λ w. holds w q) (t-update z)

  pub loc-old : (l : Kind) (n : Mode) (q z : ℕ) → holders s l n q z ≡ true → holders located_state l n q z ≡ true
  unfolding on_tree
  loc-old L.entry n q z h = entry-holders s located_state refl n q z ∙ h
  loc-old L.group weak q z h = let W = word_at z in ap (λ w. holds w q) W.is ∙ W.adds.more q (locate_word z (seen s)) h
  loc-old L.group strong q z h = ap (λ w. holds w q) (t-update z) ∙ h

  pub loc-new : (l : Kind) (n : Mode) (q z : ℕ) → holders located_state l n q z ≡ true → (holders s l n q z ≡ true) ⊎ ((p ≡ q) × (L.group ≡ l) × (weak ≡ n) × Z z)
  unfolding on_tree
  loc-new L.entry n q z h = inl (sym (entry-holders s located_state refl n q z) ∙ h)
  loc-new L.group strong q z h = inl (sym (ap (λ w. holds w q) (t-update z)) ∙ h)
  loc-new L.group weak q z h = at (word_at z) (ℕ_discrete p q)
    where
      sort : (W : Word z) → p ≡ q → Z z ⊎ ((w : ℕ) → W.ω w ≡ w) → (holds (locate_word z (seen s)) q ≡ true) ⊎ ((p ≡ q) × (L.group ≡ L.group) × (weak ≡ weak) × Z z)
      sort W e (inl y) = inr (e, refl, refl, y)
      sort W e (inr y) = inl (sym (ap (λ w. holds w q) (W.is ∙ y (locate_word z (seen s)))) ∙ h)

      at : Word z → Dec (p ≡ q) → (holds (locate_word z (seen s)) q ≡ true) ⊎ ((p ≡ q) × (L.group ≡ L.group) × (weak ≡ weak) × Z z)
      at W (yes e) = sort W e W.zone
      at W (no e) = inl (sym (loc-others L.group weak q z e) ∙ h)

  module _ (F : Fit s) (free : group_blockers weak p K.d ≡ []) where
    pub gap-update : (z : ℕ) → k < z → InGap K.B z → update_word z (seen s) ≡ 0
    gap-update z h G = above-update (was_shown k s K) z h ∙ G.1

-- ---- the step

pub pairs-kept : (d c : Desc) → c.key ≡ d.key → c.members ≡ d.members → (A B : List Desc) → pairs (A ++ c ∷ B) ≡ pairs (A ++ d ∷ B)
unfolding pairs
pairs-kept d c e m [] B = ap₂ (λ k l. pairs_of k l (pairs B)) e m
pairs-kept d c e m (a ∷ A) B = ap (pairs_of a.key a.members) (pairs-kept d c e m A B)

-- Below second the gap behind the descriptor is taken.
pub gap-taken : (m : ℕ) (s : State) (d : Desc) → Kept d.key s → holds (gap_word d.key (seen (passed_state (suc m) d s))) (suc m) ≡ true
gap-taken m s d K = ap (λ w. holds w (suc m)) (put-gap d.key s K (hold_desc (held_by (suc m)) same (held_by (suc m))) refl) ∙ held_same m K.d.gap

module _ (m : ℕ) (s : State) (F : Fit s) (b : (session_of (suc m) s).begun ≡ true) (le : suc m ≤ width) (d : Desc) (K : Kept d.key s) (q : K.d ≡ d) where
  abbrev pub p : ℕ
  p = suc m

  abbrev pub lt : State
  lt = located_state p d.key s K same (adds_same p)

  pub lt-pairs : pairs (lvs lt) ≡ pairs (lvs s)
  lt-pairs = ap pairs (K.put (hold_desc (held_by p) same same)) ∙ pairs-kept K.d (hold_desc (held_by p) same same K.d) refl refl K.A K.B ∙ sym (ap pairs K.was)

  pub lt-rises : Rises 0 4294967296 (lvs lt)
  lt-rises = put-rises d.key s K (hold_desc (held_by p) same same) refl F.rises

  pub lt-listed : Listed (lvs lt)
  lt-listed = put-listed-kept d.key s K (hold_desc (held_by p) same same) refl refl F.listed

  pub free-at : group_blockers weak p d ≡ [] → group_blockers weak p K.d ≡ []
  free-at e = ap (group_blockers weak p) q ∙ e

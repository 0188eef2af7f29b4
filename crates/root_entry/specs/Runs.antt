-- The runs of the code, as equations.
use Rattle.std.specs.Prelude.{◌≡◌, refl, Bool, true, false, not, List, ℕ, zero, suc, ◌+◌, ◌-◌, ◌≤◌, ◌<◌, eqb, leb}
use Rattle.std.proofs.Common.{sym, ap₂, subst, ◌∙◌, arith, eq-eqb, ne_eqb}
use Rattle.std.proofs.Math.Path.{ap}
use Rattle.std.proofs.Math.Bool.{cond}
use Rattle.words.specs.Store.{HasRecord}
use Rattle.words.specs.Header.{header_word, root_place, height_place, free_place}
use Rattle.nodes.specs.Node.{node_at}
use Rattle.reshaping.specs.Ops.{split_node}
use Rattle.sessions.specs.declared.Session.{Session}
use Rattle.serial.specs.Serial.{true≢false}
use Rattle.outcomes.specs.declared.Answer.TheVariants.{More, Wait, Refused}
use Rattle.outcomes.specs.declared.Moved.{Moved}
use Rattle.outcomes.specs.Said.{Stepped, moved}
use Rattle.machine.specs.Logic.{leb_yes, leb_no}
use Rattle.nodes.specs.Paths.{son_at}
use Rattle.nodes.specs.Ops.{latch_at}
use Rattle.descents.specs.Descents.{has_free, first_in_way}
use Rattle.splits.specs.Splits.{CanSplitRoot, CanDropRoot, drop_root, split_root, split_root_half}
use Rattle.endings.specs.Table.{idled}
use Rattle.finishing.specs.Finishing.{end_request}
use Rattle.walking.specs.Hands.{standing_at}
use Rattle.root_entry.specs.RootEntry.{drops_root, entered_node, dropped_words, splits_root, has_two, whole_at, enter_whole, halves_at, enter_halves, root_waits, root_refused, enter_full, enter_free, enter_step_of, root_in_way, FreeReady}

-- The words t and the session record and answer r are those of z.
abbrev pub Leaves : List ℕ → Moved → Stepped → Type 0
Leaves t r z = (t ≡ z.words) × (r ≡ moved z)

leaves-as : (t : List ℕ) (r : Moved) (y z : Stepped) → z ≡ y → Leaves t r y → Leaves t r z
leaves-as t r y z e l = (l.0 ∙ ap (λ w. w.words) (sym e), l.1 ∙ ap moved (sym e))

not-true : (b : Bool) → not b ≡ true → b ≡ false
not-true true e = sym e
not-true false e = refl

not-false : (b : Bool) → not b ≡ false → b ≡ true
not-false true e = refl
not-false false e = sym e

-- ---- what is entered

pub low_run : (s : List ℕ) (m : ℕ) {h : ℕ} → h ≡ header_word s height_place → h < 2 → false ≡ drops_root s m
unfolding drops_root
low_run s m e l = sym (ap (λ b. cond b (eqb (node_at s m (header_word s root_place)).count 1) false) (leb_no 2 (header_word s height_place) (omega (arith, e, l))))

pub high-run : (s : List ℕ) (m : ℕ) {i h c : ℕ} → i ≡ header_word s root_place → h ≡ header_word s height_place → 2 ≤ h → c ≡ (node_at s m i).count → eqb c 1 ≡ drops_root s m
unfolding drops_root
high-run s m a e l q =
    sym
    (ap₂ (λ b n. cond b (eqb n 1) false) (leb_yes 2 (header_word s height_place) (omega (arith, e, l))) (ap (λ j. (node_at s m j).count) (sym a) ∙ sym q))

drops-high : (s : List ℕ) (m : ℕ) → drops_root s m ≡ true → 1 ≤ header_word s height_place
unfolding drops_root
drops-high s m e = go (header_word s height_place) e
  where
    go : (h : ℕ) → cond (leb 2 h) (eqb (node_at s m (header_word s root_place)).count 1) false ≡ true → 1 ≤ h
    go zero q = absurd (true≢false q refl)
    go (suc h) q = omega arith

pub can-drop : {s : List ℕ} {m : ℕ} {b : Bool} → HasRecord s m (header_word s root_place) → b ≡ drops_root s m → not b ≡ false → CanDropRoot s m
can-drop {s} {m} {b} h e n = record { root = h; height = drops-high s m (sym e ∙ not-false b n) }

pub son-run : (s : List ℕ) (m : ℕ) {i j : ℕ} {b : Bool} → i ≡ header_word s root_place → b ≡ drops_root s m → b ≡ true → j ≡ son_at s m i 0 → j ≡ entered_node s m
unfolding entered_node
son-run s m a e n q =
    q ∙ ap (λ k. son_at s m k 0) a ∙ sym (ap (λ c. cond c (son_at s m (header_word s root_place) 0) (header_word s root_place)) (sym e ∙ n))

pub root-run : (s : List ℕ) (m : ℕ) {i : ℕ} {b : Bool} → i ≡ header_word s root_place → b ≡ drops_root s m → b ≡ false → i ≡ entered_node s m
unfolding entered_node
root-run s m a e n = a ∙ sym (ap (λ c. cond c (son_at s m (header_word s root_place) 0) (header_word s root_place)) (sym e ∙ n))

pub stay-run : (s : List ℕ) (m : ℕ) {b : Bool} → b ≡ drops_root s m → not b ≡ true → s ≡ dropped_words s m
unfolding dropped_words
stay-run s m {b} e n = sym (ap (λ c. cond c (drop_root s m) s) (sym e ∙ not-true b n))

pub drop-run : (s : List ℕ) (m : ℕ) {t : List ℕ} {b : Bool} → b ≡ drops_root s m → not b ≡ false → t ≡ drop_root s m → t ≡ dropped_words s m
unfolding dropped_words
drop-run s m {t} {b} e n q = q ∙ sym (ap (λ c. cond c (drop_root s m) s) (sym e ∙ not-false b n))

-- ---- the tests

pub keeper-run : (s : List ℕ) (m p : ℕ) → p ≡ 0 → false ≡ splits_root s m p
unfolding splits_root
keeper-run s m p e = sym (ap (λ c. cond c false (eqb (node_at s m (entered_node s m)).count 8)) (eq-eqb p 0 e))

pub session-run : (s : List ℕ) (m p : ℕ) {i c : ℕ} → ¬ (p ≡ 0) → i ≡ entered_node s m → c ≡ (node_at s m i).count → eqb c 8 ≡ splits_root s m p
unfolding splits_root
session-run s m p n e q =
    sym (ap₂ (λ b k. cond b false (eqb k 8)) (ne_eqb p 0 n) (ap (λ j. (node_at s m j).count) (sym e) ∙ sym q))

pub one-run : (s : List ℕ) (m : ℕ) {b f : Bool} → b ≡ drops_root s m → b ≡ true → f ≡ has_free s m 1 → f ≡ has_two s m
unfolding has_two
one-run s m e n q = q ∙ sym (ap (λ c. cond c (has_free s m 1) (has_free s m 2)) (sym e ∙ n))

pub two_run : (s : List ℕ) (m : ℕ) {b f : Bool} → b ≡ drops_root s m → b ≡ false → f ≡ has_free s m 2 → f ≡ has_two s m
unfolding has_two
two_run s m e n q = q ∙ sym (ap (λ c. cond c (has_free s m 1) (has_free s m 2)) (sym e ∙ n))

pub way-run : (s : List ℕ) (m p : ℕ) {i j v w q : ℕ} → i ≡ header_word s root_place → j ≡ entered_node s m → v ≡ (node_at s m i).latch → w ≡ (node_at s m j).latch → q ≡ first_in_way p v w
    → q ≡ root_in_way s m p
unfolding root_in_way
way-run s m p a b c d e = e ∙ ap₂ (first_in_way p) (c ∙ ap (λ k. (node_at s m k).latch) a) (d ∙ ap (λ k. (node_at s m k).latch) b)

-- The half is a record.
pub half-small : (s : List ℕ) (m key : ℕ) {i : ℕ} → CanSplitRoot s m → i ≡ split_root_half s m key → i ≤ 4294967295
unfolding split_root_half
half-small s m key {i} h e = subst (λ n. n ≤ 4294967295) (sym e) (go (leb key (split_node (node_at s m (header_word s root_place))).up))
  where
    go : (b : Bool) → cond b (header_word s root_place) (header_word s free_place) ≤ 4294967295
    go true = omega (arith, h.root.last)
    go false = omega (arith, (h.free.first h.some).last)

-- ---- the effects

pub latched-run : (s : List ℕ) {t : List ℕ} (m p : ℕ) (x : Session) {y : Session} {i h : ℕ} → i ≡ header_word s root_place → h ≡ header_word s height_place → t ≡ latch_at s m i (p + 1)
    → y ≡ standing_at x i h → Leaves t (record { answer = More; session = y }) (enter_whole s m p x)
unfolding enter_whole whole_at
latched-run s m p x a b c d =
    (c ∙ ap (λ j. latch_at s m j (p + 1)) a, ap (λ z. record { answer = More; session = z }) (d ∙ ap₂ (standing_at x) a b))

pub split-run : (s : List ℕ) {t : List ℕ} (m p : ℕ) (x : Session) {y : Session} {i h : ℕ} → h ≡ header_word s height_place
    → (i ≡ split_root_half s m x.target) × (t ≡ split_root s m x.target (p + 1)) → y ≡ standing_at x i h → Leaves t (record { answer = More; session = y }) (enter_halves s m p x)
unfolding enter_halves halves_at
split-run s m p x a b c = (b.1, ap (λ z. record { answer = More; session = z }) (c ∙ ap₂ (standing_at x) b.0 a))

pub ended-run : (s : List ℕ) {t : List ℕ} (m : ℕ) (x : Session) {r : Moved} → (t ≡ end_request s m x) × (r ≡ record { answer = Refused 11 0; session = idled x }) → Leaves t r (root_refused s m x)
unfolding root_refused
ended-run s m x e = e

-- ---- the step

module _ (s t : List ℕ) (r : Moved) (m p : ℕ) (x : Session) where
  pub refused-run : {b : Bool} → b ≡ has_two s m → not b ≡ true → Leaves t r (root_refused s m x) → Leaves t r (enter_full s m p x)
  unfolding enter_full
  refused-run {b} e n l =
      leaves-as t r (root_refused s m x) (enter_full s m p x) (ap (λ c. cond c (enter_halves (dropped_words s m) m p x) (root_refused s m x)) (sym e ∙ not-true b n)) l

  pub halves_run : {b : Bool} {s₁ : List ℕ} → b ≡ has_two s m → not b ≡ false → s₁ ≡ dropped_words s m → Leaves t r (enter_halves s₁ m p x) → Leaves t r (enter_full s m p x)
  unfolding enter_full
  halves_run {b} {s₁} e n w l =
      leaves-as t r (enter_halves s₁ m p x) (enter_full s m p x)
      (ap (λ c. cond c (enter_halves (dropped_words s m) m p x) (root_refused s m x)) (sym e ∙ not-false b n) ∙ ap (λ z. enter_halves z m p x) (sym w)) l

  pub full-run : {b : Bool} → b ≡ splits_root s m p → b ≡ true → Leaves t r (enter_full s m p x) → Leaves t r (enter_free s m p x)
  unfolding enter_free
  full-run e n l =
      leaves-as t r (enter_full s m p x) (enter_free s m p x) (ap (λ c. cond c (enter_full s m p x) (enter_whole (dropped_words s m) m p x)) (sym e ∙ n)) l

  pub whole_run : {b : Bool} {s₁ : List ℕ} → b ≡ splits_root s m p → b ≡ false → s₁ ≡ dropped_words s m → Leaves t r (enter_whole s₁ m p x) → Leaves t r (enter_free s m p x)
  unfolding enter_free
  whole_run {b} {s₁} e n w l =
      leaves-as t r (enter_whole s₁ m p x) (enter_free s m p x)
      (ap (λ c. cond c (enter_full s m p x) (enter_whole (dropped_words s m) m p x)) (sym e ∙ n) ∙ ap (λ z. enter_whole z m p x) (sym w)) l

  pub open-run : {q : ℕ} → q ≡ root_in_way s m p → q ≡ 0 → Leaves t r (enter_free s m p x) → Leaves t r (enter_step_of s m p x)
  unfolding enter_step_of
  open-run e o l =
      leaves-as t r (enter_free s m p x) (enter_step_of s m p x) (ap (λ c. cond c (enter_free s m p x) (root_waits s x (root_in_way s m p))) (eq-eqb (root_in_way s m p) 0 (sym e ∙ o))) l

pub held-run : (s : List ℕ) (m p : ℕ) (x : Session) {q : ℕ} → q ≡ root_in_way s m p → ¬ (q ≡ 0) → Leaves s (record { answer = Wait (q - 1); session = x }) (enter_step_of s m p x)
unfolding enter_step_of root_waits
held-run s m p x {q} e n =
    leaves-as s (record { answer = Wait (q - 1); session = x }) (root_waits s x q) (enter_step_of s m p x)
    (ap (λ c. cond c (enter_free s m p x) (root_waits s x (root_in_way s m p))) (ne_eqb (root_in_way s m p) 0 (λ z. n (e ∙ z))) ∙ ap (root_waits s x) (sym e)) (refl, refl)

-- ---- what is asked, after the drop

pub halves-ready : {s s₁ : List ℕ} {m p : ℕ} {x : Session} {b : Bool} → FreeReady s m p x → b ≡ has_two s m → not b ≡ false → s₁ ≡ dropped_words s m → CanSplitRoot s₁ m
halves-ready {s} {s₁} {m} {p} {x} {b} h e n w = subst (λ z. CanSplitRoot z m) (sym w) (h.halves (sym e ∙ not-false b n))

pub whole_ready : {s s₁ : List ℕ} {m p : ℕ} {x : Session} → FreeReady s m p x → s₁ ≡ dropped_words s m → HasRecord s₁ m (header_word s₁ root_place)
whole_ready {s} {s₁} {m} h w = subst (λ z. HasRecord z m (header_word z root_place)) (sym w) h.whole

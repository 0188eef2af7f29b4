-- The runs of the code, as equations.
use Rattle.std.specs.Prelude.{◌≡◌, refl, Bool, true, false, cond, not, ◌&&◌, List, ℕ, ◌+◌, ◌-◌, ◌≤◌, ◌<◌, eqb, leb}
use Rattle.std.proofs.Common.{sym, ap, subst, ◌∙◌, eq-eqb}
use Rattle.words.specs.Header.{header_word, free_place}
use Rattle.nodes.specs.declared.Node.{Node}
use Rattle.nodes.specs.Node.{node_at}
use Rattle.nodes.specs.Ops.{son_for}
use Rattle.reshaping.specs.Ops.{split_node}
use Rattle.sessions.specs.declared.Session.{Session}
use Rattle.outcomes.specs.Said.{Stepped, moved}
use Rattle.outcomes.specs.declared.Answer.TheVariants.{More, Refused}
use Rattle.outcomes.specs.declared.Moved.{Moved}
use Rattle.serial.specs.Serial.{true≢false}
use Rattle.machine.specs.Logic.{eqb_is}
use Rattle.endings.specs.Table.{idled}
use Rattle.nodes.specs.Paths.{son_at, son_toward}
use Rattle.descents.specs.Descents.{has_free, in_way, first_in_way}
use Rattle.splits.specs.Splits.{CanSplitSon, split_son_half}
use Rattle.joins.specs.Joins.{HasDown, pair_place, down_bound}
use Rattle.walking.specs.Hands.{standing_at}
use Rattle.walking.specs.Walking.{mend_by, mend_step, other_count}
use Rattle.walking.specs.Ready.{Mendable, PairReady}

pub stands-run : (x : Session) {y : Session} {i l : ℕ} → y ≡ standing_at x i l → ◌≡◌ {A = Moved} (record { answer = More; session = y }) (record { answer = More; session = standing_at x i l })
stands-run x e = ap (λ (z : Session). record { answer = More; session = z }) e

pub full-run : (x : Session) {y : Session} → y ≡ idled x → ◌≡◌ {A = Moved} (record { answer = Refused 11 0; session = y }) (record { answer = Refused 11 0; session = idled x })
full-run x e = ap (λ (z : Session). record { answer = Refused 11 0; session = z }) e

-- The node by whatever name.
pub there-run : (x : Session) (l : ℕ) {z : Moved} {i j : ℕ} → z ≡ record { answer = More; session = standing_at x i l } → i ≡ j → z ≡ record { answer = More; session = standing_at x j l }
there-run x l e q = e ∙ ap (λ (k : ℕ). record { answer = More; session = standing_at x k l }) q

pub half-low : (s : List ℕ) (m at key : ℕ) {r : ℕ} → CanSplitSon s m at key → r ≡ split_son_half s m at key → r ≤ 4096
unfolding split_son_half
half-low s m at key {r} c e = subst (λ n. n ≤ 4096) (sym e) (go (leb key (split_node (node_at s m (son_toward s m at key))).up))
  where
    go : (b : Bool) → cond b (son_toward s m at key) (header_word s free_place) ≤ 4096
    go true = c.son.last
    go false = (c.free.first c.some).last

pub free-none : (s : List ℕ) (m : ℕ) → has_free s m 1 ≡ false → header_word s free_place ≡ 0
unfolding has_free
free-none s m e = go (header_word s free_place) refl e
  where
    go : (a : ℕ) → header_word s free_place ≡ a → cond (eqb a 0) false true ≡ false → header_word s free_place ≡ 0
    go a q f = by (eqb a 0) refl f
      where
        by : (b : Bool) → eqb a 0 ≡ b → cond b false true ≡ false → header_word s free_place ≡ 0
        by true g f = q ∙ eqb_is a 0 g
        by false g f = absurd (true≢false refl f)

pub free-some : (s : List ℕ) (m : ℕ) → has_free s m 1 ≡ true → ¬ (header_word s free_place ≡ 0)
unfolding has_free
free-some s m e z = true≢false e (rw (eq-eqb (header_word s free_place) 0 z) refl)

-- ---- the tests

pub splits-run : (s : List ℕ) (m at key p : ℕ) {son count : ℕ} {b : Bool} → son ≡ son_toward s m at key → count ≡ (node_at s m son).count → b ≡ (not (eqb p 0) && eqb count 8)
    → (not (eqb p 0) && eqb (node_at s m (son_toward s m at key)).count 8) ≡ b
splits-run s m at key p e q r = sym (r ∙ ap (λ (n : ℕ). not (eqb p 0) && eqb n 8) (q ∙ ap (λ (i : ℕ). (node_at s m i).count) e))

pub mends-run : (s : List ℕ) (m at key p : ℕ) {son count : ℕ} {b : Bool} → son ≡ son_toward s m at key → count ≡ (node_at s m son).count → b ≡ (eqb p 0 && eqb count 3)
    → (eqb p 0 && eqb (node_at s m (son_toward s m at key)).count 3) ≡ b
mends-run s m at key p e q r = sym (r ∙ ap (λ (n : ℕ). eqb p 0 && eqb n 3) (q ∙ ap (λ (i : ℕ). (node_at s m i).count) e))

pub way-run : (s : List ℕ) (m at key p : ℕ) {son w b : ℕ} → son ≡ son_toward s m at key → w ≡ (node_at s m son).latch → b ≡ in_way p w → in_way p (node_at s m (son_toward s m at key)).latch ≡ b
way-run s m at key p e q r = sym (r ∙ ap (in_way p) (q ∙ ap (λ (i : ℕ). (node_at s m i).latch) e))

-- ---- the pair

pub place-run : (s : List ℕ) (m at key : ℕ) {n : Node} {i : ℕ} → n ≡ node_at s m at → i ≡ pair_place n key → i ≡ pair_place (node_at s m at) key
place-run s m at key e q = q ∙ ap (λ (v : Node). pair_place v key) e

pub place-low : (s : List ℕ) (m p : ℕ) (x : Session) {n : Node} {i : ℕ} → PairReady s m p x → n ≡ node_at s m x.at → i ≡ pair_place n x.target → i < 7
place-low s m p x R e q = subst (λ (j : ℕ). j < 7) (sym (place-run s m x.at x.target e q)) R.place

pub left-run : (s : List ℕ) (m at key : ℕ) {n : Node} {i l : ℕ} → n ≡ node_at s m at → i ≡ pair_place n key → l ≡ son_at s m at i → l ≡ son_at s m at (pair_place (node_at s m at) key)
left-run s m at key e q r = r ∙ ap (λ (j : ℕ). son_at s m at j) (place-run s m at key e q)

pub right-run : (s : List ℕ) (m at key : ℕ) {n : Node} {i l : ℕ} → n ≡ node_at s m at → i ≡ pair_place n key → l ≡ son_at s m at (i + 1) → l ≡ son_at s m at (pair_place (node_at s m at) key + 1)
right-run s m at key e q r = r ∙ ap (λ (j : ℕ). son_at s m at (j + 1)) (place-run s m at key e q)

pub down_run : (s : List ℕ) (m p : ℕ) (x : Session) {n : Node} {i : ℕ} → PairReady s m p x → n ≡ node_at s m x.at → i ≡ pair_place n x.target → HasDown s m (x.level - 1) x.at i
down_run s m p x R e q = subst (λ (j : ℕ). HasDown s m (x.level - 1) x.at j) (sym (place-run s m x.at x.target e q)) R.down

pub ways-run : (s : List ℕ) (m at key p : ℕ) {n : Node} {i l q v w b : ℕ} → n ≡ node_at s m at → i ≡ pair_place n key → l ≡ son_at s m at i → q ≡ son_at s m at (i + 1)
    → v ≡ (node_at s m l).latch → w ≡ (node_at s m q).latch → b ≡ first_in_way p v w
    → first_in_way p (node_at s m (son_at s m at (pair_place (node_at s m at) key))).latch (node_at s m (son_at s m at (pair_place (node_at s m at) key + 1))).latch ≡ b
ways-run s m at key p a c d e f g h = cc

-- What the neighbour counts.
other-run : (s : List ℕ) (m at key : ℕ) {n : Node} {i l q a b other : ℕ} {first : Bool} → n ≡ node_at s m at → i ≡ pair_place n key → first ≡ eqb (son_for n key) 0
    → l ≡ son_at s m at i → q ≡ son_at s m at (i + 1) → a ≡ (node_at s m l).count → b ≡ (node_at s m q).count → other ≡ cond first b a
    → other ≡ other_count s m at (pair_place (node_at s m at) key) (eqb (son_for (node_at s m at) key) 0)
other-run s m at key c d e f g h i j = cc

pub mend-ready : (s : List ℕ) (m p : ℕ) (x : Session) {n : Node} {i l q a b other : ℕ} {first : Bool} → PairReady s m p x → n ≡ node_at s m x.at → i ≡ pair_place n x.target → first ≡ eqb (son_for n x.target) 0
    → l ≡ son_at s m x.at i → q ≡ son_at s m x.at (i + 1) → a ≡ (node_at s m l).count → b ≡ (node_at s m q).count → other ≡ cond first b a → Mendable s m p x i first other
mend-ready s m p x {n} {i} {l} {q} {a} {b} {other} {first} R c d e f g h k j =
    let at = x.at in
    let key = x.target in
    let e₁ = place-run s m at key c d in
    let e₂ : first ≡ eqb (son_for (node_at s m at) key) 0 = e ∙ ap (λ (v : Node). eqb (son_for v key) 0) c in
    let e₃ = other-run s m at key c d e f g h k j in
    subst (λ o. Mendable s m p x i first o) (sym e₃)
    (subst (λ o. Mendable s m p x i o (other_count s m at (pair_place (node_at s m at) key) (eqb (son_for (node_at s m at) key) 0))) (sym e₂)
    (subst (λ o. Mendable s m p x o (eqb (son_for (node_at s m at) key) 0) (other_count s m at (pair_place (node_at s m at) key) (eqb (son_for (node_at s m at) key) 0))) (sym e₁) R.mend))

pub mend-run : (s : List ℕ) (m p : ℕ) (x : Session) {s' : List ℕ} {r : Moved} {n : Node} {i l q a b other down : ℕ} {first : Bool} → n ≡ node_at s m x.at → i ≡ pair_place n x.target
    → first ≡ eqb (son_for n x.target) 0 → l ≡ son_at s m x.at i → q ≡ son_at s m x.at (i + 1) → a ≡ (node_at s m l).count → b ≡ (node_at s m q).count → other ≡ cond first b a
    → down ≡ down_bound s m (x.level - 1) x.at i → (s' ≡ (mend_by s m p x i first other down).words) × (r ≡ moved (mend_by s m p x i first other down))
    → (s' ≡ (mend_step s m p x).words) × (r ≡ moved (mend_step s m p x))
unfolding mend_step
mend-run s m p x {s'} {r} {n} {i} {l} {q} {a} {b} {other} {down} {first} c d e f g h k j o z =
    let at = x.at in
    let key = x.target in
    let e₁ = place-run s m at key c d in
    let e₂ : first ≡ eqb (son_for (node_at s m at) key) 0 = e ∙ ap (λ (v : Node). eqb (son_for v key) 0) c in
    let e₃ = other-run s m at key c d e f g h k j in
    let e₄ : down ≡ down_bound s m (x.level - 1) at (pair_place (node_at s m at) key) = o ∙ ap (λ (v : ℕ). down_bound s m (x.level - 1) at v) e₁ in
    let same : mend_by s m p x i first other down ≡ mend_by s m p x (pair_place (node_at s m at) key) (eqb (son_for (node_at s m at) key) 0)
    (other_count s m at (pair_place (node_at s m at) key) (eqb (son_for (node_at s m at) key) 0)) (down_bound s m (x.level - 1) at (pair_place (node_at s m at) key)) =
    λ v. mend_by s m p x (e₁ v) (e₂ v) (e₃ v) (e₄ v) in
    (z.0 ∙ ap (λ (y : Stepped). y.words) same, z.1 ∙ ap moved same)

-- The runs of the code, as equations: what its calls come to, in the order of the calls.
use Rattle.std.specs.Prelude.{◌≡◌, List, ℕ, ◌+◌, ◌-◌, ◌≤◌}
use Rattle.std.proofs.Common.{sym, ap, ap₂, subst, ◌∙◌, arith}
use Rattle.words.specs.Store.{word_of}
use Rattle.nodes.specs.declared.Node.{Node}
use Rattle.nodes.specs.Node.{node_at, put_node}
use Rattle.nodes.specs.Ops.{with_latch}
use Rattle.nodes.specs.Paths.{son_at}
use Rattle.reshaping.specs.declared.Neighbours.{Neighbours}
use Rattle.reshaping.specs.Ops.{remove_behind, set_bound, join_nodes, move_from_left, move_from_right}
use Rattle.chain.specs.Free.{push_free}
use Rattle.joins.specs.Joins.{join_sons, move_right, move_left, last_of_left, HasDown, down_bound}

-- Nodes l and r are read, as x and y, and then made one, or a son is moved from one to the other.
module _ (s : List ℕ) (m l r down : ℕ) {x y : Node} (a : x ≡ node_at s m l) (b : y ≡ node_at s m r) where
  pub joined-run : {n : Node} → n ≡ join_nodes x down y → n ≡ join_nodes (node_at s m l) down (node_at s m r)
  joined-run e = e ∙ ap₂ (λ (u v : Node). join_nodes u down v) a b

  pub moved-right-run : {n : Neighbours} → n ≡ move_from_left x down y → n ≡ move_from_left (node_at s m l) down (node_at s m r)
  moved-right-run e = e ∙ ap₂ (λ (u v : Node). move_from_left u down v) a b

  pub moved-left-run : {n : Neighbours} → n ≡ move_from_right x down y → n ≡ move_from_right (node_at s m l) down (node_at s m r)
  moved-left-run e = e ∙ ap₂ (λ (u v : Node). move_from_right u down v) a b

pub join-run : (s : List ℕ) {s₁ s₂ s₃ : List ℕ} {p one latched fewer released : Node} {l q : ℕ} (m at i down w : ℕ)
    → p ≡ node_at s m at → l ≡ son_at s m at i → q ≡ son_at s m at (i + 1) → one ≡ join_nodes (node_at s m l) down (node_at s m q)
    → latched ≡ with_latch one w → s₁ ≡ put_node s m l latched → fewer ≡ remove_behind p i → released ≡ with_latch fewer 0
    → s₂ ≡ put_node s₁ m at released → s₃ ≡ push_free s₂ m q
    → (l ≡ son_at s m at i) × (s₃ ≡ join_sons s m at i down w)
unfolding join_sons
join-run s m at i down w a b c d e f g h j k = (b, cc)

pub right-run : (s : List ℕ) {s₁ s₂ s₃ : List ℕ} {p latched other released : Node} {n : Neighbours} {l q : ℕ} (m at i down w : ℕ)
    → p ≡ node_at s m at → l ≡ son_at s m at i → q ≡ son_at s m at (i + 1) → n ≡ move_from_left (node_at s m l) down (node_at s m q)
    → s₁ ≡ put_node s m l n.left → latched ≡ with_latch n.right w → s₂ ≡ put_node s₁ m q latched → other ≡ set_bound p i n.up
    → released ≡ with_latch other 0 → s₃ ≡ put_node s₂ m at released
    → (q ≡ son_at s m at (i + 1)) × (s₃ ≡ move_right s m at i down w)
unfolding move_right
right-run s m at i down w a b c d e f g h j k = (c, cc)

pub left-run : (s : List ℕ) {s₁ s₂ s₃ : List ℕ} {p latched other released : Node} {n : Neighbours} {l q : ℕ} (m at i down w : ℕ)
    → p ≡ node_at s m at → l ≡ son_at s m at i → q ≡ son_at s m at (i + 1) → n ≡ move_from_right (node_at s m l) down (node_at s m q)
    → latched ≡ with_latch n.left w → s₁ ≡ put_node s m l latched → s₂ ≡ put_node s₁ m q n.right → other ≡ set_bound p i n.up
    → released ≡ with_latch other 0 → s₃ ≡ put_node s₂ m at released
    → (l ≡ son_at s m at i) × (s₃ ≡ move_left s m at i down w)
unfolding move_left
left-run s m at i down w a b c d e f g h j k = (b, cc)

-- between lowest nodes
pub down-lowest : {s : List ℕ} {m level at i : ℕ} → level ≡ 1 → HasDown s m level at i → HasDown s m 1 at i
down-lowest {s} {m} {level} {at} {i} e h = subst (λ (n : ℕ). HasDown s m n at i) e h

pub down-lowest-same : (s : List ℕ) (m level at i : ℕ) {x : ℕ} → level ≡ 1 → x ≡ down_bound s m 1 at i → x ≡ down_bound s m level at i
down-lowest-same s m level at i e q = q ∙ ap (λ (n : ℕ). down_bound s m n at i) (sym e)

-- how many sons the left one has, and the last of them
pub down-count : (s : List ℕ) {m at i l n : ℕ} → HasDown s m 1 at i → l ≡ son_at s m at i → n ≡ (node_at s m l).count → (1 ≤ n) × (n ≤ 8)
down-count s {m} {at} {i} {l} {n} h a b =
    let e : n ≡ (node_at s m (son_at s m at i)).count = b ∙ ap (λ (x : ℕ). (node_at s m x).count) a in (omega (arith, h.least), omega (arith, h.most))

pub last-same : (s : List ℕ) (m at i : ℕ) {l n d : ℕ} → l ≡ son_at s m at i → n ≡ (node_at s m l).count → d ≡ son_at s m l (n - 1) → d ≡ last_of_left s m at i
last-same s m at i a b c = cc

pub last-key-run : (s : List ℕ) (m at i : ℕ) {l n d x : ℕ} → l ≡ son_at s m at i → n ≡ (node_at s m l).count → d ≡ son_at s m l (n - 1)
    → x ≡ word_of s m d 1 → x ≡ down_bound s m 1 at i
unfolding down_bound
last-key-run s m at i a b c e = e ∙ ap (λ (j : ℕ). word_of s m j 1) (last-same s m at i a b c)

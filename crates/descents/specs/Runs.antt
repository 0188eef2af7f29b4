-- The runs of the code, as equations: what its calls come to, in the order of the calls.
use Rattle.std.specs.Prelude.{◌≡◌, List, ℕ}
use Rattle.words.specs.Store.{word_of}
use Rattle.nodes.specs.declared.Node.{Node}
use Rattle.nodes.specs.Node.{node_at, put_node}
use Rattle.nodes.specs.Ops.{son_for, with_latch, latch_at}
use Rattle.nodes.specs.Paths.{son_at, son_toward}
use Rattle.reshaping.specs.Ops.{remove_son}
use Rattle.descents.specs.Descents.{plain_son, beside, insert_leaf, remove_leaf}

-- ---- one level down

pub enter-run : (s : List ℕ) {s₁ s₂ : List ℕ} {son : ℕ} (m at key w : ℕ) → son ≡ son_toward s m at key → s₁ ≡ latch_at s m at 0 → s₂ ≡ latch_at s₁ m son w
    → (son ≡ son_toward s m at key) × (s₂ ≡ plain_son s m at key w)
unfolding plain_son
enter-run s m at key w a b c = (a, cc)

-- ---- a lowest node

pub insert-leaf-run : (s : List ℕ) {s₁ : List ℕ} {p wider released : Node} {i d k : ℕ} (m at key new : ℕ)
    → p ≡ node_at s m at → i ≡ son_for p key → d ≡ son_at s m at i → k ≡ word_of s m d 1 → wider ≡ beside p i key k new
    → released ≡ with_latch wider 0 → s₁ ≡ put_node s m at released
    → s₁ ≡ insert_leaf s m at key new
unfolding insert_leaf
insert-leaf-run s m at key new a b c d e f g = cc

pub remove-leaf-run : (s : List ℕ) {s₁ : List ℕ} {p fewer released : Node} {i : ℕ} (m at key : ℕ)
    → p ≡ node_at s m at → i ≡ son_for p key → fewer ≡ remove_son p i → released ≡ with_latch fewer 0 → s₁ ≡ put_node s m at released
    → s₁ ≡ remove_leaf s m at key
unfolding remove_leaf
remove-leaf-run s m at key a b c d e = cc

-- The runs of the code, as equations: what its calls come to, in the order of the calls.
use Rattle.std.specs.Prelude.{◌≡◌, List, ℕ, ◌+◌, ◌-◌}
use Rattle.std.proofs.Common.{sym, ap, subst, ◌∙◌}
use Rattle.words.specs.Header.{header_word, put_header_word, root_place, height_place, free_place}
use Rattle.nodes.specs.declared.Node.{Node}
use Rattle.nodes.specs.Node.{node_at, put_node}
use Rattle.nodes.specs.Ops.{son_for, lone_node, with_latch}
use Rattle.nodes.specs.Paths.{son_at}
use Rattle.reshaping.specs.declared.Neighbours.{Neighbours}
use Rattle.reshaping.specs.Ops.{insert_behind, split_node}
use Rattle.chain.specs.Free.{Poppable, pop_free, push_free}
use Rattle.splits.specs.Splits.{half_of, put_halves, split_son, split_son_half, put_top, split_root, split_root_half, drop_root}

-- Node i is read and halved, into n.
pub halved-run : (s : List ℕ) (m i : ℕ) {x : Node} {n : Neighbours} → x ≡ node_at s m i → n ≡ split_node x → n ≡ split_node (node_at s m i)
halved-run s m i a b = b ∙ ap split_node a

pub halves_run : (s : List ℕ) {s₁ s₂ : List ℕ} {left right : Node} {lw rw : ℕ} (m l r : ℕ) (n : Neighbours) (key w : ℕ)
    → lw ≡ half_of key n.up w 0 → rw ≡ half_of key n.up 0 w → left ≡ with_latch n.left lw → right ≡ with_latch n.right rw
    → s₁ ≡ put_node s m l left → s₂ ≡ put_node s₁ m r right
    → s₂ ≡ put_halves s m l r n key w
unfolding put_halves
halves_run s m l r n key w a b c d e f = cc

pub split-son-run : (s : List ℕ) {s₁ s₂ s₃ : List ℕ} {p wider released : Node} {n : Neighbours} {i son a x : ℕ} (m at key w : ℕ)
    → p ≡ node_at s m at → i ≡ son_for p key → son ≡ son_at s m at i → n ≡ split_node (node_at s m son) → a ≡ header_word s free_place
    → s₁ ≡ pop_free s m → s₂ ≡ put_halves s₁ m son a n key w → wider ≡ insert_behind p i n.up a → released ≡ with_latch wider 0
    → s₃ ≡ put_node s₂ m at released → x ≡ half_of key n.up son a
    → (x ≡ split_son_half s m at key) × (s₃ ≡ split_son s m at key w)
unfolding split_son_half split_son
split-son-run s m at key w a b c d e f g h i j k = (cc, cc)

-- ---- the root

-- The root is written, then the height.
pub top-run : (s : List ℕ) (root height : ℕ) {s₁ s₂ : List ℕ} → s₁ ≡ put_header_word s root_place root → s₂ ≡ put_header_word s₁ height_place height → s₂ ≡ put_top s root height
top-run s root height a b = b ∙ ap (λ (x : List ℕ). put_header_word x height_place height) a

-- A son alone, then another behind it.
pub over-run : (l up r : ℕ) {x n : Node} → x ≡ lone_node l → n ≡ insert_behind x 0 up r → n ≡ insert_behind (lone_node l) 0 up r
over-run l up r a b = b ∙ ap (λ (x : Node). insert_behind x 0 up r) a

pub pop-second : (s : List ℕ) {t : List ℕ} {m : ℕ} → t ≡ pop_free s m → Poppable (pop_free s m) m → Poppable t m
pop-second s {t} {m} e p = subst (λ (x : List ℕ). Poppable x m) (sym e) p

pub split-root-run : (s : List ℕ) {s₁ s₂ s₃ s₄ s₅ : List ℕ} {top : Node} {n : Neighbours} {t h a b x : ℕ} (m key w : ℕ)
    → t ≡ header_word s root_place → h ≡ header_word s height_place → n ≡ split_node (node_at s m t) → a ≡ header_word s free_place → s₁ ≡ pop_free s m
    → b ≡ header_word s₁ free_place → s₂ ≡ pop_free s₁ m → s₃ ≡ put_halves s₂ m t a n key w → top ≡ insert_behind (lone_node t) 0 n.up a
    → s₄ ≡ put_node s₃ m b top → s₅ ≡ put_top s₄ b (h + 1) → x ≡ half_of key n.up t a
    → (x ≡ split_root_half s m key) × (s₅ ≡ split_root s m key w)
unfolding split_root_half split_root
split-root-run s m key w a b c d e f g h i j k l = (cc, cc)

pub drop-run : (s : List ℕ) {s₁ s₂ : List ℕ} {r h son : ℕ} (m : ℕ)
    → r ≡ header_word s root_place → h ≡ header_word s height_place → son ≡ son_at s m r 0 → s₁ ≡ put_top s son (h - 1) → s₂ ≡ push_free s₁ m r
    → s₂ ≡ drop_root s m
unfolding drop_root
drop-run s m a b c d e = cc

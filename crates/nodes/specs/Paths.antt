-- The son of a node in a store: the one at a place, and the one on the path to a key.
use Rattle.std.specs.Prelude.{◌≡◌, List, [], ◌∷◌, Bool, true, false, cond, ℕ, suc, ◌-◌, ◌≤◌, ◌<◌, leb, get_or, length, take}
use Rattle.std.proofs.Common.{sym, ap, subst, ◌∙◌, arith, length-take}
use Rattle.words.specs.Store.{HasRecord, has_kept}
use Rattle.nodes.specs.declared.Node.{Node}
use Rattle.nodes.specs.Node.{node_at}
use Rattle.nodes.specs.Ops.{below, son_for}

-- the son of node `at` at place i, and the one on the path to a key
abbrev pub son_at : List ℕ → ℕ → ℕ → ℕ → ℕ
son_at s m at i = get_or (node_at s m at).sons i 0

abbrev pub son_toward : List ℕ → ℕ → ℕ → ℕ → ℕ
son_toward s m at key = son_at s m at (son_for (node_at s m at) key)

-- a record stays where the length does, by whatever name
pub has-at : {s t : List ℕ} {m i j : ℕ} → HasRecord s m i → length t ≡ length s → j ≡ i → HasRecord t m j
has-at {s} {t} {m} has e q = subst (λ (k : ℕ). HasRecord t m k) (sym q) (has_kept has e)

below-le : (bs : List ℕ) (k : ℕ) → below bs k ≤ length bs
below-le [] k = omega arith
below-le (b ∷ bs) k = go (leb k b) (below-le bs k)
  where
    go : (o : Bool) → below bs k ≤ length bs → cond o 0 (suc (below bs k)) ≤ suc (length bs)
    go true h = omega arith
    go false h = omega arith

-- the son on the path is one of the node's
pub son-place : (n : Node) (key : ℕ) → 1 ≤ n.count → son_for n key < n.count
unfolding son_for
son-place n key h =
    let p = below-le (take (n.count - 1) n.bounds) key in
    let q = length-take (n.count - 1) n.bounds in omega arith

pub path-place : (n : Node) (key : ℕ) {p : Node} {i : ℕ} → p ≡ n → i ≡ son_for p key → 1 ≤ n.count → n.count ≤ 8 → i < 8
path-place n key {p} {i} e q l h =
    let z = son-place n key l in
    let k : i ≡ son_for n key = q ∙ ap (λ (x : Node). son_for x key) e in omega arith

pub son-same : (s : List ℕ) (m at key : ℕ) {i son : ℕ} {p : Node} → p ≡ node_at s m at → i ≡ son_for p key → son ≡ son_at s m at i → son ≡ son_toward s m at key
son-same s m at key e q r = r ∙ ap (λ (j : ℕ). son_at s m at j) (q ∙ ap (λ (x : Node). son_for x key) e)

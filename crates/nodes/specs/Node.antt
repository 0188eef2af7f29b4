-- A node as the 20 words of a record: its latch, how many sons it has, 7 boundaries, 8 sons, 3 words unused.
-- A node of count sons uses the first count sons and the first count - 1 boundaries. Of the others any value is good.
use Rattle.std.specs.Prelude.{◌≡◌, refl, List, [], ◌∷◌, ◌++◌, ℕ, ◌≤◌, get_or, length}
use Rattle.std.proofs.Common.{ap, ◌∙◌}
use Rattle.words.specs.Window.{words_at, words-all}
use Rattle.words.specs.Store.{HasRecord}
use Rattle.kinds.specs.Kind.{Kind, read_at, write_at, write_same, write-other}
use Rattle.nodes.specs.declared.Node.{Node}

-- the unused words of the record are written as 0
unfoldable pub encode_node : Node → List ℕ
encode_node n = n.latch ∷ n.count ∷ (words_at n.bounds 0 7 ++ (words_at n.sons 0 8 ++ (0 ∷ 0 ∷ 0 ∷ [])))

unfoldable pub decode_node : List ℕ → Node
decode_node w = record { latch = get_or w 0 0; count = get_or w 1 0; bounds = words_at w 2 7; sons = words_at w 9 8 }

pub length-encode : (n : Node) → length (encode_node n) ≡ 20
unfolding encode_node words_at
length-encode n = refl

abbrev pub node_kind : Kind Node
node_kind = record { encode = encode_node; decode = decode_node; whole = length-encode }

-- record i of a store of m entries as this kind, and the store with one written there
abbrev pub node_at : List ℕ → ℕ → ℕ → Node
node_at s m i = read_at node_kind s m i

abbrev pub put_node : List ℕ → ℕ → ℕ → Node → List ℕ
put_node s m i n = write_at node_kind s m i n

-- the arrays of a node have their lengths
pub record Sized (n : Node) : Type 0 where
  pub bounds : length n.bounds ≡ 7
  pub sons : length n.sons ≡ 8

pub sized-decode : (w : List ℕ) → Sized (decode_node w)
unfolding decode_node words_at
sized-decode w = record { bounds = refl; sons = refl }

pub decode-encode : (n : Node) → Sized n → decode_node (encode_node n) ≡ n
unfolding decode_node encode_node words_at
decode-encode n z =
    let b : words_at n.bounds 0 7 ≡ n.bounds = words-all n.bounds 7 z.bounds in
    let s : words_at n.sons 0 8 ≡ n.sons = words-all n.sons 8 z.sons in
    ap (λ (x : List ℕ). made x (words_at n.sons 0 8)) b ∙ ap (made n.bounds) s
  where
    made : List ℕ → List ℕ → Node
    made b s = record { latch = n.latch; count = n.count; bounds = b; sons = s }

-- ---- a node written to a store

pub node-same : (s : List ℕ) (m i : ℕ) (n : Node) → HasRecord s m i → Sized n → node_at (put_node s m i n) m i ≡ n
node-same s m i n has z = write_same node_kind s m i n has (decode-encode n z)

pub node-other : (s : List ℕ) (m i : ℕ) (n : Node) (j : ℕ) → HasRecord s m i → 1 ≤ j → (i ≡ j → ⊥) → node_at (put_node s m i n) m j ≡ node_at s m j
node-other s m i n j has h ne = write-other node_kind s m i n has decode_node j h ne

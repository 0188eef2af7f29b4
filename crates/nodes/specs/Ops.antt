-- The son on the path to a key, a node of one son, and a node with another latch word.
use Rattle.std.specs.Prelude.{◌≡◌, refl, List, [], ◌∷◌, cond, ℕ, suc, ◌+◌, ◌-◌, ◌≤◌, leb, take, replicate, set, length}
use Rattle.std.proofs.Common.{sym, ap, ◌∙◌, inl, arith, get_or-set_same, get_or-set_other}
use Rattle.std.proofs.Math.ListN.{length-set}
use Rattle.words.specs.Window.{words-set}
use Rattle.words.specs.Store.{base_of, HasRecord, record_at, put_record, put_word_of, put_word, length-word, length-record, record_same, record-other}
use Rattle.nodes.specs.declared.Node.{Node}
use Rattle.nodes.specs.Node.{decode_node, node_at}

-- how many boundaries come before the first that is at least the key
abbrev pub below : List ℕ → ℕ → ℕ
below [] k = 0
below (b ∷ bs) k = cond (leb k b) 0 (suc (below bs k))

-- the place of the son that a key belongs to: a key equal to a boundary lies before it
unfoldable pub son_for : Node → ℕ → ℕ
son_for n k = below (take (n.count - 1) n.bounds) k

-- a node with one son and no latch
unfoldable pub lone_node : ℕ → Node
lone_node son = record { latch = 0; count = 1; bounds = replicate 7 0; sons = son ∷ replicate 7 0 }

-- another latch word
unfoldable pub with_latch : Node → ℕ → Node
with_latch n w = record { latch = w; count = n.count; bounds = n.bounds; sons = n.sons }

-- node i of a store with another latch word: its first word, and no other
unfoldable pub latch_at : List ℕ → ℕ → ℕ → ℕ → List ℕ
latch_at s m i w = put_word_of s m i 0 w

latch-words : (l : List ℕ) (w : ℕ) → length l ≡ 20 → decode_node (set l 0 w) ≡ with_latch (decode_node l) w
unfolding decode_node with_latch
latch-words l w e = rw (get_or-set_same l 0 w 0 (omega (arith, e)), get_or-set_other l 0 1 w 0 (λ q. omega (arith, q)), words-set l 0 w 2 7 (inl (omega arith)), words-set l 0 w 9 8 (inl (omega arith))) refl

module _ (s : List ℕ) (m i w : ℕ) (has : HasRecord s m i) where
  -- as a record that is written
  pub latch-record : put_record s m i (set (record_at s m i) 0 w) ≡ latch_at s m i w
  unfolding latch_at
  latch-record = put_word s m i 0 w has (omega arith)

  pub latch-length : length (latch_at s m i w) ≡ length s
  unfolding latch_at
  latch-length = length-set s (base_of m i + 0) w

  -- it reads as the node with that latch word
  pub latch-same : node_at (latch_at s m i w) m i ≡ with_latch (node_at s m i) w
  latch-same =
      ap (λ z. node_at z m i) (sym latch-record) ∙ ap decode_node (record_same s m i (set (record_at s m i) 0 w) has (length-word s m i 0 w))
      ∙ latch-words (record_at s m i) w (length-record s m i)

  -- every other record is as before
  pub latch-other : (j : ℕ) → 1 ≤ j → (i ≡ j → ⊥) → record_at (latch_at s m i w) m j ≡ record_at s m j
  latch-other j h ne = ap (λ z. record_at z m j) (sym latch-record) ∙ record-other s m i (set (record_at s m i) 0 w) has (length-word s m i 0 w) j h ne

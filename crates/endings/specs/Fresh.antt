-- The store that an accepted format leaves (document 01, "Sound": one root and key 0, all else free).
use Rattle.std.specs.Prelude.{List, ℕ, zero, suc, ◌+◌, ◌-◌, ◌*◌, ◌≤◌, length}
use Rattle.words.specs.Store.{entry_words}
use Rattle.words.specs.Header.{put_header_word, entries_place, records_place, root_place, height_place, first_place, free_place}
use Rattle.words.specs.Entries.{put_entry_word}
use Rattle.nodes.specs.Node.{put_node}
use Rattle.nodes.specs.Ops.{lone_node}
use Rattle.groups.specs.declared.Descriptor.{Descriptor}
use Rattle.groups.specs.Descriptor.{put_descriptor}
use Rattle.chain.specs.Free.{push_free}

-- sizes that format accepts, and room for them
pub record Roomy (s : List ℕ) (m r : ℕ) : Type 0 where
  pub one : 1 ≤ m
  pub entries : m ≤ 1024
  pub eight : 8 ≤ r
  pub records : r ≤ 4096
  pub inside : 16 + entry_words * m + 20 * r ≤ length s

-- the node is record 1, the descriptor of key 0 record 2, and no record is free yet
unfoldable pub fresh_header : List ℕ → ℕ → ℕ → List ℕ
fresh_header s m r =
    let sized = put_header_word (put_header_word s entries_place m) records_place r in
    let rooted = put_header_word (put_header_word sized root_place 1) height_place 1 in
    put_header_word (put_header_word rooted first_place 2) free_place 0

-- no value, no holders
unfoldable pub fresh_entry : List ℕ → ℕ → List ℕ
fresh_entry s e = put_entry_word (put_entry_word (put_entry_word s e 0 0) e 1 0) e 2 0

unfoldable pub fresh_entries : List ℕ → ℕ → List ℕ
fresh_entries s zero = s
fresh_entries s (suc n) = fresh_entry (fresh_entries s n) (suc n)

unfoldable pub zero_descriptor : Descriptor
zero_descriptor = record { next = 0; key = 0; locate = 0; update = 0; gap = 0; pins = 0; first = 0 }

-- n records from `from` on are given to the free chain, in order
unfoldable pub fresh_free : List ℕ → ℕ → ℕ → ℕ → List ℕ
fresh_free s m from zero = s
fresh_free s m from (suc n) = push_free (fresh_free s m (suc from) n) m from

unfoldable pub fresh_store : List ℕ → ℕ → ℕ → List ℕ
fresh_store s m r =
    let cleared = fresh_entries (fresh_header s m r) m in
    fresh_free (put_descriptor (put_node cleared m 1 (lone_node 2)) m 2 zero_descriptor) m 3 (r - 2)

-- A kind of record: how an X is written in the 20 words of a record, and how any 20 words read as one. With the laws of both, once for
-- every kind.
use Rattle.std.specs.Prelude.{◌≡◌, List, ℕ, ◌≤◌, length}
use Rattle.std.proofs.Common.{ap, ◌∙◌}
use Rattle.words.specs.Store.{HasRecord, record_at, put_record, length-put_record, record_same, record-other}

pub record Kind (X : Type 0) : Type 0 where
  pub encode : X → List ℕ
  pub decode : List ℕ → X
  pub whole : (x : X) → length (encode x) ≡ 20

-- record i of a store of m entries, read as this kind
abbrev pub read_at : {X : Type 0} → Kind X → List ℕ → ℕ → ℕ → X
read_at k s m i = k.decode (record_at s m i)

-- the store with x written over record i
abbrev pub write_at : {X : Type 0} → Kind X → List ℕ → ℕ → ℕ → X → List ℕ
write_at k s m i x = put_record s m i (k.encode x)

module _ {X : Type 0} (k : Kind X) (s : List ℕ) (m i : ℕ) (x : X) (has : HasRecord s m i) where
  -- a write keeps the store's length
  pub write-length : length (write_at k s m i x) ≡ length s
  write-length = length-put_record s m i (k.encode x) has (k.whole x)

  -- what is written is read back, if the words say all of it
  pub write_same : k.decode (k.encode x) ≡ x → read_at k (write_at k s m i x) m i ≡ x
  write_same back = ap k.decode (record_same s m i (k.encode x) has (k.whole x)) ∙ back

  -- every other record reads as before, whatever it is read as
  pub write-other : {Y : Type 0} (read : List ℕ → Y) (j : ℕ) → 1 ≤ j → (i ≡ j → ⊥) → read (record_at (write_at k s m i x) m j) ≡ read (record_at s m j)
  write-other read j h ne = ap read (record-other s m i (k.encode x) has (k.whole x) j h ne)

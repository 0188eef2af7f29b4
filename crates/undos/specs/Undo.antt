-- An undo record (document 01's take-back) as the 20 words of a record, and one for each change that abort undoes.
use Rattle.std.specs.Prelude.{◌≡◌, refl, List, ◌∷◌, ℕ, get_or, length, replicate}
use Rattle.kinds.specs.Kind.{Kind, read_at, write_at}
use Rattle.undos.specs.declared.Undo.{Undo}

-- the unused words of the record are written as 0
unfoldable pub encode_undo : Undo → List ℕ
encode_undo u = u.next ∷ u.kind ∷ u.entry ∷ u.saved ∷ u.descriptor ∷ replicate 15 0

unfoldable pub decode_undo : List ℕ → Undo
decode_undo w =
    record { next = get_or w 0 0; kind = get_or w 1 0; entry = get_or w 2 0; saved = get_or w 3 0; descriptor = get_or w 4 0 }

pub length-encode : (u : Undo) → length (encode_undo u) ≡ 20
unfolding encode_undo
length-encode u = refl

abbrev pub undo_kind : Kind Undo
undo_kind = record { encode = encode_undo; decode = decode_undo; whole = length-encode }

-- record i of a store of m entries as this kind, and the store with one written there
abbrev pub undo_at : List ℕ → ℕ → ℕ → Undo
undo_at s m i = read_at undo_kind s m i

abbrev pub put_undo : List ℕ → ℕ → ℕ → Undo → List ℕ
put_undo s m i u = write_at undo_kind s m i u

pub decode-encode : (u : Undo) → decode_undo (encode_undo u) ≡ u
unfolding decode_undo encode_undo
decode-encode u = refl

-- ---- the three kinds, each before the older ones of its session

-- the entry had this value
unfoldable pub undo_value : ℕ → ℕ → ℕ → Undo
undo_value next entry value = record { next = next; kind = 1; entry = entry; saved = value; descriptor = 0 }

-- the entry came into the descriptor's group by this membership
unfoldable pub undo_added : ℕ → ℕ → ℕ → ℕ → Undo
undo_added next entry membership descriptor =
    record { next = next; kind = 2; entry = entry; saved = membership; descriptor = descriptor }

-- the entry went out of the descriptor's group; the record is that of its former membership
unfoldable pub undo_taken : ℕ → ℕ → ℕ → Undo
undo_taken next entry descriptor = record { next = next; kind = 3; entry = entry; saved = 0; descriptor = descriptor }

-- A group descriptor as the 20 words of a record, and what is done to one by value.
use Rattle.std.specs.Prelude.{◌≡◌, refl, List, ◌∷◌, Bool, not, ◌&&◌, ℕ, eqb, get_or, length, replicate, set}
use Rattle.std.proofs.Common.{arith, get_or-set_same, get_or-set_other}
use Rattle.words.specs.Store.{HasRecord, put_word_of}
use Rattle.kinds.specs.Kind.{Kind, read_at, write_at, write_same}
use Rattle.groups.specs.declared.Descriptor.{Descriptor}

-- the unused words of the record are written as 0
unfoldable pub encode_descriptor : Descriptor → List ℕ
encode_descriptor d = d.next ∷ d.key ∷ d.locate ∷ d.update ∷ d.gap ∷ d.pins ∷ d.first ∷ replicate 13 0

unfoldable pub decode_descriptor : List ℕ → Descriptor
decode_descriptor w =
    record {
      next = get_or w 0 0;
      key = get_or w 1 0;
      locate = get_or w 2 0;
      update = get_or w 3 0;
      gap = get_or w 4 0;
      pins = get_or w 5 0;
      first = get_or w 6 0;
    }

pub length-encode : (d : Descriptor) → length (encode_descriptor d) ≡ 20
unfolding encode_descriptor
length-encode d = refl

abbrev pub descriptor_kind : Kind Descriptor
descriptor_kind = record { encode = encode_descriptor; decode = decode_descriptor; whole = length-encode }

-- record i of a store of m entries as this kind, and the store with one written there
abbrev pub descriptor_at : List ℕ → ℕ → ℕ → Descriptor
descriptor_at s m i = read_at descriptor_kind s m i

abbrev pub put_descriptor : List ℕ → ℕ → ℕ → Descriptor → List ℕ
put_descriptor s m i d = write_at descriptor_kind s m i d

pub decode-encode : (d : Descriptor) → decode_descriptor (encode_descriptor d) ≡ d
unfolding decode_descriptor encode_descriptor
decode-encode d = refl

-- ---- a descriptor written to a store

pub descriptor-same : (s : List ℕ) (m i : ℕ) (d : Descriptor) → HasRecord s m i → descriptor_at (put_descriptor s m i d) m i ≡ d
descriptor-same s m i d has = write_same descriptor_kind s m i d has (decode-encode d)

-- ---- by value

-- a descriptor made in a gap: pinned once by its maker, the gap's holders its locate and its gap holders, no member
unfoldable pub made_in : ℕ → ℕ → ℕ → Descriptor
made_in gap key next = record { next = next; key = key; locate = gap; update = 0; gap = gap; pins = 1; first = 0 }

unfoldable pub with_next_descriptor : Descriptor → ℕ → Descriptor
with_next_descriptor d next =
    record { next = next; key = d.key; locate = d.locate; update = d.update; gap = d.gap; pins = d.pins; first = d.first }

unfoldable pub with_first_member : Descriptor → ℕ → Descriptor
with_first_member d first =
    record { next = d.next; key = d.key; locate = d.locate; update = d.update; gap = d.gap; pins = d.pins; first = first }

unfoldable pub with_pins : Descriptor → ℕ → Descriptor
with_pins d pins =
    record { next = d.next; key = d.key; locate = d.locate; update = d.update; gap = d.gap; pins = pins; first = d.first }

-- descriptor i of a store with another number of pins: that word, and no other
unfoldable pub put_pins : List ℕ → ℕ → ℕ → ℕ → List ℕ
put_pins s m i pins = put_word_of s m i 5 pins

-- it reads as the descriptor with that number
pub pins-words : (l : List ℕ) (n : ℕ) → length l ≡ 20 → decode_descriptor (set l 5 n) ≡ with_pins (decode_descriptor l) n
unfolding decode_descriptor with_pins
pins-words l n e =
    rw (
      get_or-set_other l 5 0 n 0 (λ q. omega (arith, q)),
      get_or-set_other l 5 1 n 0 (λ q. omega (arith, q)),
      get_or-set_other l 5 2 n 0 (λ q. omega (arith, q)),
      get_or-set_other l 5 3 n 0 (λ q. omega (arith, q)),
      get_or-set_other l 5 4 n 0 (λ q. omega (arith, q)),
      get_or-set_same l 5 n 0 (omega (arith, e)),
      get_or-set_other l 5 6 n 0 (λ q. omega (arith, q)),
    ) refl

-- the three words of holders replaced
unfoldable pub with_holders : Descriptor → ℕ → ℕ → ℕ → Descriptor
with_holders d locate update gap =
    record { next = d.next; key = d.key; locate = locate; update = update; gap = gap; pins = d.pins; first = d.first }

abbrev pub grant_locate : Descriptor → ℕ → Descriptor
grant_locate d holders = with_holders d holders d.update d.gap

abbrev pub grant_update : Descriptor → ℕ → Descriptor
grant_update d holders = with_holders d d.locate holders d.gap

abbrev pub grant_gap : Descriptor → ℕ → Descriptor
grant_gap d holders = with_holders d d.locate d.update holders

-- a key may be forgotten: not key 0, not pinned, no member, no update holders, and its locate and gap holders those of the gap before it
unfoldable pub removable : Descriptor → ℕ → Bool
removable d before =
    not (eqb d.key 0) && eqb d.pins 0 && eqb d.first 0 && eqb d.update 0 && eqb d.locate before && eqb d.gap before

-- A membership of a group as the 20 words of a record, and what is done to one by value.
use Rattle.std.specs.Prelude.{◌≡◌, refl, List, ◌∷◌, ℕ, get_or, length, replicate}
use Rattle.kinds.specs.Kind.{Kind, read_at, write_at}
use Rattle.groups.specs.declared.Membership.{Membership}

-- the unused words of the record are written as 0
unfoldable pub encode_membership : Membership → List ℕ
encode_membership b = b.next ∷ b.before ∷ b.entry ∷ replicate 17 0

unfoldable pub decode_membership : List ℕ → Membership
decode_membership w = record { next = get_or w 0 0; before = get_or w 1 0; entry = get_or w 2 0 }

pub length-encode : (b : Membership) → length (encode_membership b) ≡ 20
unfolding encode_membership
length-encode b = refl

abbrev pub membership_kind : Kind Membership
membership_kind = record { encode = encode_membership; decode = decode_membership; whole = length-encode }

-- record i of a store of m entries as this kind, and the store with one written there
abbrev pub membership_at : List ℕ → ℕ → ℕ → Membership
membership_at s m i = read_at membership_kind s m i

abbrev pub put_membership : List ℕ → ℕ → ℕ → Membership → List ℕ
put_membership s m i b = write_at membership_kind s m i b

pub decode-encode : (b : Membership) → decode_membership (encode_membership b) ≡ b
unfolding decode_membership encode_membership
decode-encode b = refl

-- ---- by value: its neighbours in the chain of members

unfoldable pub with_next_member : Membership → ℕ → Membership
with_next_member b next = record { next = next; before = b.before; entry = b.entry }

unfoldable pub with_member_before : Membership → ℕ → Membership
with_member_before b before = record { next = b.next; before = before; entry = b.entry }

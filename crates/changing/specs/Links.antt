-- The links of a membership, as words.
use Rattle.std.specs.Prelude.{◌≡◌, refl, List, ℕ}
use Rattle.words.specs.Store.{word_of}
use Rattle.groups.specs.Membership.{decode_membership, membership_at}

pub member-next : (s : List ℕ) (m i : ℕ) → (membership_at s m i).next ≡ word_of s m i 0
unfolding decode_membership
member-next s m i = refl

pub member-before : (s : List ℕ) (m i : ℕ) → (membership_at s m i).before ≡ word_of s m i 1
unfolding decode_membership
member-before s m i = refl

-- What a session's leaving keeps of the store: its length, the chains, and of a descriptor all but the holders.
use Rattle.std.specs.Prelude.{◌≡◌, Bool, length}
use Rattle.std.proofs.Math.Path.{refl, ap, subst}
use Rattle.std.proofs.Common.{sym, eqb-true}
use mathlib.Core.List.{List}
use Rattle.std.proofs.Math.Bool.{true, false}
use Rattle.std.proofs.lemmas.Bool.{eqb-false}
use Prim.Native.Nat.{ℕ, zero, suc, ◌≤◌}
use Rattle.std.proofs.Math.ListN.{get_or}
use Rattle.std.proofs.Math.Dec.{eqb}
use Rattle.words.specs.Store.{HasRecord, record_at, word_of, has_kept, record_same, record-other}
use Rattle.kinds.specs.Kind.{write-length}
use Rattle.groups.specs.Descriptor.{descriptor_kind, encode_descriptor, decode_descriptor, descriptor_at, length-encode, with_holders}
use Rattle.chain.specs.Walk.{Walk}
use Rattle.endings.specs.Leave.{left_descriptor, leave_group, leave_groups}

-- a chain is walked as before where word 0 of each record stays
pub walk_kept : (s t : List ℕ) (m n i : ℕ) → length t ≡ length s → ((j : ℕ) → 1 ≤ j → word_of t m j 0 ≡ word_of s m j 0) → Walk s m n i → Walk t m n i
unfolding Walk
walk_kept s t m zero i e same w = w
walk_kept s t m (suc n) i e same w =
    λ (ne : ¬ (i ≡ 0)).
    let h = w ne in
    (has_kept h.0 e, subst (λ (k : ℕ). Walk t m n k) (sym (same i h.0.first)) (walk_kept s t m n (word_of s m i 0) e same h.1))

module _ (s : List ℕ) (m p i : ℕ) (has : HasRecord s m i) where
  pub length-left : length (leave_group s m p i) ≡ length s
  unfolding leave_group
  length-left = write-length descriptor_kind s m i (left_descriptor p (descriptor_at s m i)) has

  pub left_other : (j : ℕ) → 1 ≤ j → (i ≡ j → ⊥) → record_at (leave_group s m p i) m j ≡ record_at s m j
  unfolding leave_group
  left_other j h ne =
      let w : List ℕ = encode_descriptor (left_descriptor p (descriptor_at s m i)) in record-other s m i w has (length-encode (left_descriptor p (descriptor_at s m i))) j h ne

  pub left-same : record_at (leave_group s m p i) m i ≡ encode_descriptor (left_descriptor p (descriptor_at s m i))
  unfolding leave_group
  left-same = record_same s m i (encode_descriptor (left_descriptor p (descriptor_at s m i))) has (length-encode (left_descriptor p (descriptor_at s m i)))

  pub left-next : (j : ℕ) → 1 ≤ j → word_of (leave_group s m p i) m j 0 ≡ word_of s m j 0
  unfolding left_descriptor with_holders encode_descriptor decode_descriptor
  left-next j h = go (eqb i j) refl
    where
      go : (b : Bool) → eqb i j ≡ b → word_of (leave_group s m p i) m j 0 ≡ word_of s m j 0
      go true e = subst (λ (k : ℕ). word_of (leave_group s m p i) m k 0 ≡ word_of s m k 0) (eqb-true i j e) (ap (λ (w : List ℕ). get_or w 0 0) left-same)
      go false e = ap (λ (w : List ℕ). get_or w 0 0) (left_other j h (eqb-false i j e))

  pub left-walk : (n d : ℕ) → Walk s m n d → Walk (leave_group s m p i) m n d
  left-walk n d w = walk_kept s (leave_group s m p i) m n d length-left left-next w

-- nothing is left to walk
pub leave_none : (s : List ℕ) (m p n : ℕ) → leave_groups s m p n 0 ≡ s
unfolding leave_groups
leave_none s m p zero = refl
leave_none s m p (suc n) = refl

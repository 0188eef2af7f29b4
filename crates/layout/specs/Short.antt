-- No chain is longer than there are records: each record has one owner.
use Rattle.std.specs.Prelude.{◌≡◌, refl, List, [], ◌∷◌, ◌++◌, ℕ, zero, suc, ◌+◌, ◌≤◌, ◌<◌, length}
use Rattle.std.proofs.Common.{ap, arith, length-append}
use Rattle.std.proofs.Math.Decide.{ℕ_discrete}
use Rattle.machine.specs.Holders.{width}
use Rattle.machine.specs.Sound.{times}
use Rattle.meaning.specs.Reading.{Leaf, numbers}
use Rattle.meaning.specs.Sound.{All, Once}
use Rattle.meaning.specs.Numbers.{all-as, one-is, apart-times}
use Rattle.meaning.specs.Counts.{count-all, count_most, count_ones}
use Rattle.layout.specs.Layout.{Undone, Lay, Owned, leaves_in, firsts, undo_numbers, members_of, undos_from, all_records}

-- Numbers from 1 to r, none twice, are at most r.
pub short : (r : ℕ) (l : List ℕ) → All (λ i. (1 ≤ i) × (i ≤ r)) l → ((k : ℕ) → times k l ≤ 1) → length l ≤ r
short r l a h = omega (arith, count-all r l a, count_most r l h)

pub once-of : (l : List ℕ) → ((k : ℕ) → times k l ≤ 1) → Once l
once-of [] h = tt
once-of (x ∷ l) h = (apart-times x l (omega (arith, h x, one-is x x refl)), once-of l (λ k. omega (arith, h k)))

-- ---- the parts of what is owned

members_part : (g : ℕ → List (ℕ × ℕ)) (ls : List Leaf) → All (λ l. length (firsts (g l.num)) ≤ length (members_of g ls)) ls
members_part g [] = tt
members_part g (l ∷ ls) =
    let e = length-append (firsts (g l.num)) (members_of g ls) in
    (omega (arith, e), all-as (λ x b. omega (arith, e, b)) ls (members_part g ls))

undos_part : (u : ℕ → List Undone) (q n p : ℕ) → q ≤ p → p < q + n → length (undo_numbers (u p)) ≤ length (undos_from u q n)
undos_part u q zero p a b = absurd (omega (arith, a, b))
undos_part u q (suc n) p a b = go (ℕ_discrete p q) (undos_part u (suc q) n p)
  where
    all : length (undos_from u q (suc n)) ≡ length (undo_numbers (u q)) + length (undos_from u (suc q) n)
    all = length-append (undo_numbers (u q)) (undos_from u (suc q) n)

    go : Dec (p ≡ q) → (suc q ≤ p → p < suc q + n → length (undo_numbers (u p)) ≤ length (undos_from u (suc q) n))
        → length (undo_numbers (u p)) ≤ length (undos_from u q (suc n))
    go (yes e) ih = let same = ap (λ x. length (undo_numbers (u x))) e in omega (arith, all, same)
    go (no k) ih = omega (arith, all, ih (omega (arith, k, a)) (omega (arith, b)))

module _ (L : Lay) (O : Owned L) where
  abbrev tree_part : List ℕ
  tree_part = numbers (suc L.height) L.tree

  abbrev members_part_of : List ℕ
  members_part_of = members_of L.members (leaves_in L)

  parts : (n : ℕ) → length (all_records L) ≡ n
      → n ≡ length tree_part + (length members_part_of + (length (undos_from L.undos 1 width) + length L.free))
  parts n e =
      let U = undos_from L.undos 1 width in
      omega (arith, e, length-append tree_part (members_part_of ++ (U ++ L.free)), length-append members_part_of (U ++ L.free), length-append U L.free)

  most : length (all_records L) ≤ L.records
  most = omega (arith, count-all L.records (all_records L) O.no_other, count_ones L.records (all_records L) O.once)

  pub tree-short : length tree_part ≤ L.records
  tree-short = omega (arith, most, parts (length (all_records L)) refl)

  pub free-short : length L.free ≤ L.records
  free-short = omega (arith, most, parts (length (all_records L)) refl)

  pub members-short : All (λ l. length (firsts (L.members l.num)) ≤ L.records) (leaves_in L)
  members-short = all-as (λ l b. omega (arith, b, most, parts (length (all_records L)) refl)) (leaves_in L) (members_part L.members (leaves_in L))

  pub undos-short : (p : ℕ) → suc p ≤ width → length (undo_numbers (L.undos (suc p))) ≤ L.records
  undos-short p l = omega (arith, undos_part L.undos 1 width (suc p) (omega arith) (omega (arith, l)), most, parts (length (all_records L)) refl)

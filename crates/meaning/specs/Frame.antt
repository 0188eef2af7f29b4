-- Records and words that are the same in another list of words, and chains there; and the records of a tree.
use Rattle.std.specs.Prelude.{◌≡◌, refl, List, [], ◌∷◌, map, length, get_or}
use Rattle.std.proofs.Common.{sym, ap, ap₂, subst, ◌∙◌, arith, eq-eqb, ne_eqb}
use Rattle.std.proofs.lemmas.List.{map-append}
use Prim.Native.Nat.{ℕ, zero, suc, ◌+◌, ◌≤◌}
use Rattle.words.specs.Store.{record_at, word_of}
use Rattle.machine.specs.Tree.{flat, leaves}
use Rattle.machine.specs.Sound.{times}
use Rattle.meaning.specs.Reading.{chain, Chained, Leaf, Mark, Numbered, numbers, node_numbers}
use Rattle.meaning.specs.Sound.{All}
use Rattle.meaning.specs.Numbers.{all_append, all_left, all_right, all-as, times-append}

-- ---- the same words

-- Record i is the same.
abbrev pub SameAt : List ℕ → List ℕ → ℕ → ℕ → Type 0
SameAt s s' m i = record_at s m i ≡ record_at s' m i

-- The words of record i at these places are the same.
abbrev pub SameWords : List ℕ → List ℕ → ℕ → List ℕ → ℕ → Type 0
SameWords s s' m ks i = All (λ k. word_of s m i k ≡ word_of s' m i k) ks

-- What a chain, a membership and a descriptor are read from.
abbrev pub chain_words : List ℕ
chain_words = 0 ∷ []

abbrev pub member_words : List ℕ
member_words = 0 ∷ 2 ∷ []

abbrev pub desc_words : List ℕ
desc_words = 1 ∷ 2 ∷ 3 ∷ 4 ∷ 5 ∷ 6 ∷ []

-- ---- the records of a tree

-- What the sons' lists have.
pub sons-all : {A X Y : Type 0} (f : A → List X) (g : A → List Y) (P : X → Type 0) (Q : Y → Type 0) → ((a : A) → All P (f a) → All Q (g a)) → (es : List (A × ℕ))
    → All P (flat f es) → All Q (flat g es)
sons-all f g P Q k [] p = tt
sons-all f g P Q k (e ∷ es) p =
    all_append Q (g e.0) (flat g es) (k e.0 (all_left P (f e.0) (flat f es) p)) (sons-all f g P Q k es (all_right P (f e.0) (flat f es) p))

-- What all records of a tree have, its nodes and its descriptors have.
module _ (P : ℕ → Type 0) where
  pub numbers-nodes : (h : ℕ) (t : Numbered h) → All P (numbers h t) → All P (node_numbers h t)
  unfolding numbers node_numbers
  numbers-nodes zero t p = tt
  numbers-nodes (suc h) t p = (p.0, sons-all (numbers h) (node_numbers h) P P (numbers-nodes h) t.sons p.1)

  pub numbers-leaves : (h : ℕ) (t : Numbered h) → All P (numbers h t) → All (λ l. P l.num) (leaves Leaf Mark h t)
  unfolding numbers leaves
  numbers-leaves zero t p = (p.0, tt)
  numbers-leaves (suc h) t p = sons-all (numbers h) (leaves Leaf Mark h) P (λ l. P l.num) (numbers-leaves h) t.sons p.1

-- The records of some descriptors.
abbrev pub leaf_records : List Leaf → List ℕ
leaf_records ls = map (λ l. l.num) ls

sons-times : (j : ℕ) {A : Type 0} (f g : A → List ℕ) (k : A → List Leaf) → ((a : A) → times j (f a) ≡ times j (g a) + times j (leaf_records (k a))) → (es : List (A × ℕ))
    → times j (flat f es) ≡ times j (flat g es) + times j (leaf_records (flat k es))
sons-times j f g k e [] = omega arith
sons-times j f g k e (p ∷ es) =
    let x = map-append (λ l. l.num) (k p.0) (flat k es) in
    let y = ap (times j) x ∙ times-append j (leaf_records (k p.0)) (leaf_records (flat k es)) in
    omega (arith, e p.0, sons-times j f g k e es, times-append j (f p.0) (flat f es), times-append j (g p.0) (flat g es), y)

-- How often a record stands in a tree: as a node, or as a descriptor.
pub numbers-times : (j h : ℕ) (t : Numbered h) → times j (numbers h t) ≡ times j (node_numbers h t) + times j (leaf_records (leaves Leaf Mark h t))
unfolding numbers node_numbers leaves
numbers-times j zero t = omega arith
numbers-times j (suc h) t = omega (arith, sons-times j (numbers h) (node_numbers h) (leaves Leaf Mark h) (numbers-times j h) t.sons)

module _ (s s' : List ℕ) (m : ℕ) where
  pub same-words : (ks : List ℕ) (i : ℕ) → SameAt s s' m i → SameWords s s' m ks i
  same-words [] i e = tt
  same-words (k ∷ ks) i e = (ap (λ w. get_or w k 0) e, same-words ks i e)

  pub all_words : (ks l : List ℕ) → All (SameAt s s' m) l → All (SameWords s s' m ks) l
  all_words ks l a = all-as (same-words ks) l a

  -- ---- chains

  pub chained_same : (i : ℕ) (l : List ℕ) → All (SameWords s s' m chain_words) l → Chained s m i l → Chained s' m i l
  chained_same i [] a c = c
  chained_same i (j ∷ l) a c =
      let e : word_of s m i 0 ≡ word_of s' m i 0 = subst (λ x. word_of s m x 0 ≡ word_of s' m x 0) (sym c.0) a.0.0 in
      (c.0, c.1, chained_same (word_of s' m i 0) l a.1 (subst (λ x. Chained s m x l) e c.2))

-- A record before a chain, and a chain without its first record.
pub chain-push : (s s' : List ℕ) (m i first : ℕ) (l : List ℕ) → Chained s m first l → All (SameWords s s' m chain_words) l → word_of s' m i 0 ≡ first → (i ≡ 0 → ⊥) → Chained s' m i (i ∷ l)
chain-push s s' m i first l c a e n = (refl, n, subst (λ x. Chained s' m x l) (sym e) (chained_same s s' m first l a c))

pub chain-pop : (s : List ℕ) (m first i : ℕ) (l : List ℕ) → Chained s m first (i ∷ l) → (first ≡ i) × (i ≡ 0 → ⊥) × Chained s m (word_of s m i 0) l
chain-pop s m first i l c = (c.0, λ e. c.1 (c.0 ∙ e), subst (λ x. Chained s m (word_of s m x 0) l) c.0 c.2)

-- A whole chain is what is read from its first record on.
pub chain-is : (s : List ℕ) (m n i : ℕ) (l : List ℕ) → Chained s m i l → length l ≤ n → chain s m n i ≡ l
unfolding chain
chain-is s m zero i [] c h = refl
chain-is s m (suc n) i [] c h = rw (eq-eqb i 0 c) refl
chain-is s m zero i (j ∷ l) c h = absurd (omega (arith, h))
chain-is s m (suc n) i (j ∷ l) c h =
    rw (ne_eqb i 0 c.1) (ap₂ (λ x k. x ∷ k) c.0 (chain-is s m n (word_of s m i 0) l c.2 (omega (arith, h))))

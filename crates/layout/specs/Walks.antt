-- In words that hold a layout which means a sound state, the chains of descriptors and of members can be walked.
use Rattle.std.specs.Prelude.{◌≡◌, List, [], ◌∷◌, ◌++◌, ℕ, suc, ◌≤◌}
use Rattle.std.proofs.Math.Path.{ap}
use Rattle.std.proofs.Common.{subst, arith, length-append}
use Rattle.std.proofs.Math.ListN.{length, length-map}
use Rattle.words.specs.Store.{HasRecord, word_of}
use Rattle.words.specs.Header.{header_word, first_place}
use Rattle.chain.specs.Walk.{Walk}
use Rattle.sessions.specs.declared.Session.{Session}
use Rattle.machine.specs.Holders.{width}
use Rattle.machine.specs.State.{top}
use Rattle.machine.specs.Sound as S
use Rattle.meaning.specs.Reading.{Chained, Leaf, numbers, M-of, R-of}
use Rattle.meaning.specs.Sound.{All}
use Rattle.meaning.specs.Numbers.{all_left, all_right, all_both, map-all}
use Rattle.meaning.specs.Frame.{numbers-leaves}
use Rattle.meaning.specs.Parts.{entries-many}
use Rattle.meaning.specs.Lens.{leaves-erase}
use Rattle.layout.specs.Layout.{Lay, leaves_in, firsts, members_of, undos_from, DescFits, GroupFits, Holds, means}
use Rattle.layout.specs.Short.{members-short}
use Rattle.layout.specs.Chains.{walk-chain, has-record, nums, leaves-fit, chain_next, Scan, last-upto, Upto}

-- ---- parts of what is owned

members-all : (P : ℕ → Type 0) (g : ℕ → List (ℕ × ℕ)) (ls : List Leaf) → All P (members_of g ls) → All (λ l. All P (firsts (g l.num))) ls
members-all P g [] a = tt
members-all P g (l ∷ ls) a = (all_left P (firsts (g l.num)) (members_of g ls) a, members-all P g ls (all_right P (firsts (g l.num)) (members_of g ls) a))

module _ (s : List ℕ) (t : List Session) (L : Lay) (H : Holds s t L) (A : S.Sound (means L t)) where
  abbrev chain_tree : List ℕ
  chain_tree = numbers (suc L.height) L.tree

  abbrev chain_members : List ℕ
  chain_members = members_of L.members (leaves_in L)

  abbrev chain_undos : List ℕ
  chain_undos = undos_from L.undos 1 width

  pub few-entries : M-of s ≤ 1024
  unfolding means
  few-entries = omega (arith, entries-many s 1 (M-of s), ap length H.fits.entries, A.sizes.1)

  pub leaves-short : length (leaves_in L) ≤ L.records
  unfolding means
  leaves-short = omega (arith, A.counted, ap length (leaves-erase (suc L.height) L.tree), length-map (leaves_in L) (λ l. l.desc))

  tree-there : All (HasRecord s (M-of s)) chain_tree
  tree-there = all_left (HasRecord s (M-of s)) chain_tree (chain_members ++ (chain_undos ++ L.free)) (has-record s t L H few-entries)

  others-there : All (HasRecord s (M-of s)) (chain_members ++ (chain_undos ++ L.free))
  others-there = all_right (HasRecord s (M-of s)) chain_tree (chain_members ++ (chain_undos ++ L.free)) (has-record s t L H few-entries)

  -- ---- members

  pub members-there : All (λ l. All (HasRecord s (M-of s)) (firsts (L.members l.num))) (leaves_in L)
  members-there = members-all (HasRecord s (M-of s)) L.members (leaves_in L) (all_left (HasRecord s (M-of s)) chain_members (chain_undos ++ L.free) others-there)

  pub members-walk : All (λ l. Walk s (M-of s) (R-of s) (word_of s (M-of s) l.num 6)) (leaves_in L)
  members-walk =
      let m = M-of s in
      let P : Leaf → Type 0 = λ l. All (HasRecord s m) (firsts (L.members l.num)) × (length (firsts (L.members l.num)) ≤ L.records) in
      all_both {P = λ l. GroupFits s m (L.members l.num) l} {Q = P} {R = λ l. Walk s m (R-of s) (word_of s m l.num 6)}
      (λ l g a. walk-chain s m (word_of s m l.num 6) (firsts (L.members l.num)) g.chained a.0 (R-of s) (omega (arith, a.1, H.fits.records)))
      (leaves_in L) H.fits.groups
      (all_both {P = λ l. All (HasRecord s m) (firsts (L.members l.num))} {Q = λ l. length (firsts (L.members l.num)) ≤ L.records} {R = P} (λ l a b. (a, b)) (leaves_in L) members-there
      (members-short L H.owned))

  -- ---- descriptors

  pub leaves-there : All (λ l. HasRecord s (M-of s) l.num) (leaves_in L)
  leaves-there = numbers-leaves (HasRecord s (M-of s)) (suc L.height) L.tree tree-there

  pub descs-fit : All (DescFits s (M-of s)) (leaves_in L)
  descs-fit = leaves-fit s (M-of s) (suc L.height) top L.tree H.fits.tree

  module _ (B : List Leaf) (l : Leaf) (C : List Leaf) (e : leaves_in L ≡ B ++ l ∷ C) where
    pub leaf-there : HasRecord s (M-of s) l.num
    leaf-there = (all_right (λ x. HasRecord s (M-of s) x.num) B (l ∷ C) (subst (All (λ x. HasRecord s (M-of s) x.num)) e leaves-there)).0

    -- Behind a descriptor.
    pub next-walk : Walk s (M-of s) (R-of s) (word_of s (M-of s) l.num 0)
    next-walk =
        let P : Leaf → Type 0 = λ x. HasRecord s (M-of s) x.num in
        walk-chain s (M-of s) (word_of s (M-of s) l.num 0) (nums C)
        (chain_next s (M-of s) (header_word s first_place) B l C (subst (λ z. Chained s (M-of s) (header_word s first_place) (nums z)) e H.fits.chained))
        (map-all (λ x. x.num) (HasRecord s (M-of s)) C (all_right P B (l ∷ C) (subst (All P) e leaves-there)).1) (R-of s)
        (omega (arith, leaves-short, ap length e, length-append B (l ∷ C), length-map C (λ x. x.num), H.fits.records))

  -- A walk from the first descriptor to the last whose key is at most k.
  pub upto-found : (k : ℕ) (f : ℕ → ℕ → ℕ) → Scan s (M-of s) k f → (U : Upto (leaves_in L) k 0 (suc top)) → f (R-of s) (header_word s first_place) ≡ U.leaf.num
  upto-found k f F U =
      let e = U.is in
      last-upto s (M-of s) k f F (suc top) 0 U.before U.leaf U.behind (R-of s) (header_word s first_place)
      (subst (λ z. Chained s (M-of s) (header_word s first_place) (nums z)) e H.fits.chained) (subst (All (DescFits s (M-of s))) e descs-fit) U.below U.at_most U.above
      (omega (arith, leaves-short, ap length e, length-append U.before (U.leaf ∷ U.behind), H.fits.records))

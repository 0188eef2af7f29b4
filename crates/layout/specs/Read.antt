-- What is read from words that fit a tree is that tree.
use Rattle.std.specs.Prelude.{◌≡◌, refl, List, [], ◌∷◌, length}
use Rattle.std.proofs.Common.{sym, ◌∙◌, inl, inr}
use Rattle.std.proofs.Math.Path.{ap, ap₂}
use Prim.Native.Nat.{ℕ, zero, suc, ◌≤◌}
use Rattle.words.specs.Store.{word_of}
use Rattle.machine.specs.Tree.{flat, map_e, leaves}
use Rattle.meaning.specs.Reading.{gather, member_chain, member_entries, desc_at, Leaf, Mark, Numbered, read_sons, read_tree, node_numbers}
use Rattle.meaning.specs.Sound.{All}
use Rattle.meaning.specs.Numbers.{all_append, all_left, all_right}
use Rattle.meaning.specs.Frame.{chain-is}
use Rattle.meaning.specs.Around.{num_of}
use Rattle.layout.specs.Layout.{firsts, seconds, Each, DescFits, TreeFits, GroupFits, SomeSon, Marked}

-- ---- sons

-- What each son's list has, the list of all sons has.
each_all : {A X : Type 0} (P : ℕ → A → Type 0) (f : A → List X) (Q : X → Type 0) → ((u : ℕ) (a : A) → P u a → All Q (f a)) → (es : List (A × ℕ))
    → Each P es → All Q (flat f es)
each_all P f Q k [] p = tt
each_all P f Q k (e ∷ es) p = all_append Q (f e.0) (flat f es) (k e.1 e.0 p.0) (each_all P f Q k es p.1)

each-some : {A : Type 0} (P : ℕ → A → Type 0) (S : A → Type 0) (Z : Type 0) → ((u : ℕ) (a : A) → P u a → S a → Z) → (es : List (A × ℕ))
    → Each P es → SomeSon S es → Z
each-some {A = A} P S Z k [] p x'' = elim x'' [ ]
each-some P S Z k (e ∷ es) p (inl x) = k e.1 e.0 p.0 x
each-some P S Z k (e ∷ es) p (inr x) = each-some P S Z k es p.1 x

each_read : {A : Type 0} (P : ℕ → A → Type 0) (f : ℕ → ℕ → A) (n : A → ℕ) (g : A → List Leaf) (G : Leaf → Type 0)
    → ((u : ℕ) (a : A) → P u a → All G (g a) → f (n a) u ≡ a) → (es : List (A × ℕ)) → Each P es → All G (flat g es) → read_sons f (map_e n es) ≡ es
each_read P f n g G k [] p q = refl
each_read P f n g G k (e ∷ es) p q =
    ap₂ (λ a l. (a, e.1) ∷ l) (k e.1 e.0 p.0 (all_left G (g e.0) (flat g es) q))
    (each_read P f n g G k es p.1 (all_right G (g e.0) (flat g es) q))

module _ (s : List ℕ) (m : ℕ) where
  -- ---- what all of a tree fits

  pub tree-descs : (h hi : ℕ) (t : Numbered h) → TreeFits s m h hi t → All (DescFits s m) (leaves Leaf Mark h t)
  unfolding TreeFits leaves
  tree-descs zero hi t F = (F, tt)
  tree-descs (suc h) hi t F = each_all (TreeFits s m h) (leaves Leaf Mark h) (DescFits s m) (tree-descs h) t.sons F.1

  pub tree-few : (h hi : ℕ) (t : Numbered h) → TreeFits s m h hi t → All (λ i. word_of s m i 1 ≤ 8) (node_numbers h t)
  unfolding TreeFits node_numbers
  tree-few zero hi t F = tt
  tree-few (suc h) hi t F = (F.0.few, each_all (TreeFits s m h) (node_numbers h) (λ i. word_of s m i 1 ≤ 8) (tree-few h) t.sons F.1)

  -- A marked node's latch word.
  pub marked-word : (k n w h hi : ℕ) (t : Numbered h) → TreeFits s m h hi t → Marked k n w h t → word_of s m n 0 ≡ w
  unfolding TreeFits Marked
  marked-word k n w zero hi t F x'' = elim x'' [ ]
  marked-word k n w (suc h) hi t F (inl q) = ap (λ j. word_of s m j 0) (sym q.1) ∙ F.0.latch ∙ q.2
  marked-word k n w (suc h) hi t F (inr q) =
      each-some (TreeFits s m h) (Marked k n w h) (word_of s m n 0 ≡ w) (marked-word k n w h) t.sons F.1 q

  -- ---- reading

  pub entries-read : (c : List (ℕ × ℕ)) → All (λ q. word_of s m q.0 2 ≡ q.1) c → member_entries s m (firsts c) ≡ seconds c
  entries-read [] a = refl
  entries-read (q ∷ c) a = ap₂ (λ x l. x ∷ l) a.0 (entries-read c a.1)

  module _ (r : ℕ) (g : ℕ → List (ℕ × ℕ)) where
    -- The members of a leaf, not more than there are records.
    abbrev pub Grouped : Leaf → Type 0
    Grouped l = GroupFits s m (g l.num) l × (length (firsts (g l.num)) ≤ r)

    pub members-read : (l : Leaf) → Grouped l → member_chain s m r l.num ≡ firsts (g l.num)
    members-read l G = chain-is s m r (word_of s m l.num 6) (firsts (g l.num)) G.0.chained G.1

    desc-read : (l : Leaf) → DescFits s m l → Grouped l → desc_at s m r l.num ≡ l.desc
    desc-read l F G =
        let e = ap (λ c. gather (member_entries s m c)) (members-read l G) ∙ ap gather (entries-read (g l.num) G.0.entries) ∙ G.0.gathered in
        λ i. record { key = F.key i; locate = F.locate i; update = F.update i; gap = F.gap i; pins = F.pins i; members = e i }

    pub tree-read : (h hi : ℕ) (t : Numbered h) → TreeFits s m h hi t → All Grouped (leaves Leaf Mark h t) → read_tree s m r h (num_of h t) hi ≡ t
    unfolding TreeFits leaves read_tree num_of
    tree-read zero hi t F G = ap (λ d. record { num = t.num; desc = d }) (desc-read t F G.0)
    tree-read (suc h) hi t F G =
        ap₂ (λ w l. record { latch = record { num = t.latch.num; word = w }; sons = l }) F.0.latch
        (ap (read_sons (read_tree s m r h)) F.0.sons
        ∙ each_read (TreeFits s m h) (read_tree s m r h) (num_of h) (leaves Leaf Mark h) Grouped (tree-read h) t.sons F.1 G)

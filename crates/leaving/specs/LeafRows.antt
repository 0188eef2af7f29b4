-- Every descriptor of a layout written with other holders.
use Rattle.std.specs.Prelude.{◌≡◌, set}
use Rattle.std.proofs.Math.Path.{refl, ap, subst}
use Rattle.std.proofs.Common.{sym, ap₂, ◌∙◌, inl, inr, arith}
use mathlib.Core.List.{List, [], ◌∷◌, ◌++◌, map, map-append}
use Prim.Native.Nat.{ℕ, zero, suc, ◌+◌, ◌≤◌}
use Rattle.words.specs.Store.{word_of}
use Rattle.words.specs.Header.{header_word, first_place, free_place}
use Rattle.sessions.specs.declared.Session.{Session}
use Rattle.sessions.specs.Sessions.{session_at}
use Rattle.machine.specs.Tree.{map_e, flat, leaves}
use Rattle.machine.specs.Holders.{width, latch_word}
use Rattle.machine.specs.State.{Desc, top, on_leaves}
use Rattle.machine.specs.Sound.{times}
use Rattle.meaning.specs.Reading.{Chained, Leaf, Mark, Numbered, erase, numbers, node_numbers, M-of}
use Rattle.meaning.specs.Sound.{All, Apart}
use Rattle.meaning.specs.Numbers.{all_left, all_right, all-as, map-all, In, all_in, all_from, times-append, times-in, apart-times}
use Rattle.meaning.specs.Frame.{SameAt, SameWords, leaf_records, numbers-nodes, numbers-times, chain_words, chained_same}
use Rattle.meaning.specs.Parts.{entries_same}
use Rattle.meaning.specs.Around.{num_of}
use Rattle.layout.specs.Layout.{Lay, leaves_in, firsts, members_of, undos_from, Owned, Each, DescFits, NodeFits, TreeFits, GroupFits, Has, SomeSon, Marked, HandFits, lists_in, Holds}
use Rattle.layout.specs.Written.{Written, SameEntries, SameHead}
use Rattle.layout.specs.Keep.{node-keep, with_tree, records-times, owned-most, own-tree, own-rest, same-apart, table-undo, undos-row, groups-row, named-as, hand-as, fits-row, holds_row, chained-keep}

-- ---- a tree with each descriptor changed

unfoldable pub each_leaf : (Leaf → Leaf) → (h : ℕ) → Numbered h → Numbered h
each_leaf f zero l = f l
each_leaf f (suc h) t = record { latch = t.latch; sons = map_e (each_leaf f h) t.sons }

flat-leaves : {A B : Type 0} (f : A → A) (k : A → List B) (g : B → B) → ((a : A) → k (f a) ≡ map g (k a)) → (es : List (A × ℕ)) → flat k (map_e f es) ≡ map g (flat k es)
flat-leaves f k g e [] = refl
flat-leaves f k g e (p ∷ es) = ap₂ (λ a b. a ++ b) (e p.0) (flat-leaves f k g e es) ∙ sym (map-append g (k p.0) (flat k es))

flat-numbers : {A B : Type 0} (f : A → A) (k : A → List B) → ((a : A) → k (f a) ≡ k a) → (es : List (A × ℕ)) → flat k (map_e f es) ≡ flat k es
flat-numbers f k e [] = refl
flat-numbers f k e (p ∷ es) = ap₂ (λ a b. a ++ b) (e p.0) (flat-numbers f k e es)

sons-same : {A B : Type 0} (f : A → A) (k : A → B) → ((a : A) → k (f a) ≡ k a) → (es : List (A × ℕ)) → map_e k (map_e f es) ≡ map_e k es
sons-same f k e [] = refl
sons-same f k e (p ∷ es) = ap₂ (λ a b. (a, p.1) ∷ b) (e p.0) (sons-same f k e es)

sons-both : {A B : Type 0} (f : A → A) (k : A → B) (g : B → B) → ((a : A) → k (f a) ≡ g (k a)) → (es : List (A × ℕ)) → map_e k (map_e f es) ≡ map_e g (map_e k es)
sons-both f k g e [] = refl
sons-both f k g e (p ∷ es) = ap₂ (λ a b. (a, p.1) ∷ b) (e p.0) (sons-both f k g e es)

some-each : {A : Type 0} (P : A → Type 0) (f : A → A) → ((a : A) → P a → P (f a)) → (es : List (A × ℕ)) → SomeSon P es → SomeSon P (map_e f es)
some-each P f k [] x = x
some-each P f k (p ∷ es) (inl x) = inl (k p.0 x)
some-each P f k (p ∷ es) (inr x) = inr (some-each P f k es x)

pub each-erase : (f : Leaf → Leaf) (g : Desc → Desc) → ((l : Leaf) → (f l).desc ≡ g l.desc) → (h : ℕ) (t : Numbered h) → erase h (each_leaf f h t) ≡ on_leaves g h (erase h t)
unfolding each_leaf erase on_leaves
each-erase f g e zero t = e t
each-erase f g e (suc h) t = ap (λ l. record { latch = t.latch.word; sons = l }) (sons-both (each_leaf f h) (erase h) (on_leaves g h) (each-erase f g e h) t.sons)

pub each-leaves : (f : Leaf → Leaf) (h : ℕ) (t : Numbered h) → leaves Leaf Mark h (each_leaf f h t) ≡ map f (leaves Leaf Mark h t)
unfolding each_leaf leaves
each-leaves f zero t = refl
each-leaves f (suc h) t = flat-leaves (each_leaf f h) (leaves Leaf Mark h) f (each-leaves f h) t.sons

each-marked : (f : Leaf → Leaf) (j n w h : ℕ) (t : Numbered h) → Marked j n w h t → Marked j n w h (each_leaf f h t)
unfolding each_leaf Marked
each-marked f j n w zero t x = x
each-marked f j n w (suc h) t (inl x) = inl x
each-marked f j n w (suc h) t (inr x) = inr (some-each (Marked j n w h) (each_leaf f h) (each-marked f j n w h) t.sons x)

module _ (f : Leaf → Leaf) (num : (l : Leaf) → (f l).num ≡ l.num) where
  each-num : (h : ℕ) (t : Numbered h) → num_of h (each_leaf f h t) ≡ num_of h t
  unfolding each_leaf num_of
  each-num zero t = num t
  each-num (suc h) t = refl

  each-numbers : (h : ℕ) (t : Numbered h) → numbers h (each_leaf f h t) ≡ numbers h t
  unfolding each_leaf numbers
  each-numbers zero t = ap (λ n. n ∷ []) (num t)
  each-numbers (suc h) t = ap (λ l. t.latch.num ∷ l) (flat-numbers (each_leaf f h) (numbers h) (each-numbers h) t.sons)

  records-map : (ls : List Leaf) → leaf_records (map f ls) ≡ leaf_records ls
  records-map [] = refl
  records-map (l ∷ ls) = ap₂ (λ a b. a ∷ b) (num l) (records-map ls)

  members-map : (g : ℕ → List (ℕ × ℕ)) (ls : List Leaf) → members_of g (map f ls) ≡ members_of g ls
  members-map g [] = refl
  members-map g (l ∷ ls) = ap₂ (λ a b. firsts (g a) ++ b) (num l) (members-map g ls)

  has-map : ((l : Leaf) → (f l).desc.key ≡ l.desc.key) → (k d : ℕ) (ls : List Leaf) → Has k d ls → Has k d (map f ls)
  has-map key k d [] x' = elim x' [ ]
  has-map key k d (l ∷ ls) (inl x) = inl (key l ∙ x.0, num l ∙ x.1)
  has-map key k d (l ∷ ls) (inr x) = inr (has-map key k d ls x)

  group-map : (s : List ℕ) (m : ℕ) (g : ℕ → List (ℕ × ℕ)) → ((l : Leaf) → (f l).desc.members ≡ l.desc.members) → (ls : List Leaf)
      → All (λ l. GroupFits s m (g l.num) l) ls → All (λ l. GroupFits s m (g l.num) l) (map f ls)
  group-map s m g e [] a = tt
  group-map s m g e (l ∷ ls) a = (one a.0, group-map s m g e ls a.1)
    where
      one : GroupFits s m (g l.num) l → GroupFits s m (g (f l).num) (f l)
      one F = subst (λ i. GroupFits s m (g i) (f l)) (sym (num l)) (record {
        chained = subst (λ i. Chained s m (word_of s m i 6) (firsts (g l.num))) (sym (num l)) F.chained;
        linked = F.linked;
        entries = F.entries;
        once = F.once;
        gathered = F.gathered ∙ sym (e l);
      })

  each_fits : (s s' : List ℕ) (m h hi : ℕ) (t : Numbered h) → All (SameAt s s' m) (node_numbers h t) → All (λ l. DescFits s' m (f l)) (leaves Leaf Mark h t)
      → TreeFits s m h hi t → TreeFits s' m h hi (each_leaf f h t)
  unfolding each_leaf TreeFits node_numbers leaves
  each_fits s s' m zero hi t a d x = d.0
  each_fits s s' m (suc h) hi t a d x = (
    subst (NodeFits s' m hi t.latch) (sym (sons-same (each_leaf f h) (num_of h) (each-num h) t.sons)) (node-keep s s' m hi t.latch (map_e (num_of h) t.sons) a.0 x.0),
    sons t.sons (each_fits s s' m h) a.1 d x.1,
  )
    where
      sons : (es : List (Numbered h × ℕ))
          → ((b : ℕ) (u : Numbered h) → All (SameAt s s' m) (node_numbers h u) → All (λ l. DescFits s' m (f l)) (leaves Leaf Mark h u) → TreeFits s m h b u → TreeFits s' m h b (each_leaf f h u))
          → All (SameAt s s' m) (flat (node_numbers h) es) → All (λ l. DescFits s' m (f l)) (flat (leaves Leaf Mark h) es) → Each (TreeFits s m h) es → Each (TreeFits s' m h) (map_e (each_leaf f h) es)
      sons [] k a d x = tt
      sons (p ∷ es) k a d x =
          let P = SameAt s s' m in
          let Q : Leaf → Type 0 = λ l. DescFits s' m (f l) in (
            k p.1 p.0 (all_left P (node_numbers h p.0) (flat (node_numbers h) es) a) (all_left Q (leaves Leaf Mark h p.0) (flat (leaves Leaf Mark h) es) d) x.0,
            sons es k (all_right P (node_numbers h p.0) (flat (node_numbers h) es) a) (all_right Q (leaves Leaf Mark h p.0) (flat (leaves Leaf Mark h) es) d) x.1,
          )

-- ---- the row

-- The records of descriptors are no nodes, and have no other owner.
module _ (L : Lay) (O : Owned L) where
  pub leaf-twice : (i : ℕ) → times i (numbers (suc L.height) L.tree) ≡ times i (node_numbers (suc L.height) L.tree) + times i (leaf_records (leaves_in L))
  leaf-twice i = numbers-times i (suc L.height) L.tree

  pub leaves-once : (i : ℕ) → times i (leaf_records (leaves_in L)) ≤ 1
  leaves-once i = omega (arith, leaf-twice i, records-times L i, owned-most L O i)

  nodes-apart : (i : ℕ) → In i (node_numbers (suc L.height) L.tree) → Apart i (leaf_records (leaves_in L))
  nodes-apart i h = apart-times i (leaf_records (leaves_in L)) (omega (arith, leaf-twice i, records-times L i, owned-most L O i, times-in i (node_numbers (suc L.height) L.tree) h))

  rest-apart : (i : ℕ) → In i (leaf_records (leaves_in L)) → Apart i (members_of L.members (leaves_in L) ++ (undos_from L.undos 1 width ++ L.free))
  rest-apart i h =
      let R = members_of L.members (leaves_in L) ++ (undos_from L.undos 1 width ++ L.free) in
      apart-times i R (omega (arith, leaf-twice i, owned-most L O i, times-append i (numbers (suc L.height) L.tree) R, times-in i (leaf_records (leaves_in L)) h))

pub leaves-row : (s : List ℕ) (t : List Session) (L : Lay) → Holds s t L → (f : Leaf → Leaf) → ((l : Leaf) → (f l).num ≡ l.num) → ((l : Leaf) → (f l).desc.key ≡ l.desc.key)
    → ((l : Leaf) → (f l).desc.members ≡ l.desc.members)
    → (s' : List ℕ) → Written s s' (leaf_records (leaves_in L)) → SameEntries s s' → SameHead s s' → All (λ l. DescFits s' (M-of s) (f l)) (leaves_in L)
    → All (λ l. (word_of s (M-of s) l.num 0 ≡ word_of s' (M-of s) l.num 0) × (word_of s (M-of s) l.num 6 ≡ word_of s' (M-of s) l.num 6)) (leaves_in L)
    → (p : ℕ) (x' : Session) → p ≤ width → x'.undo ≡ (session_at t p).undo → HandFits (with_tree L L.height (each_leaf f (suc L.height) L.tree) L.free) p x'
    → Holds s' (set t p x') (with_tree L L.height (each_leaf f (suc L.height) L.tree) L.free)
leaves-row s t L H f num key members s' only ents head fit words p x' party undo own =
    let F = H.fits in
    let O = H.owned in
    let m = M-of s in
    let h = suc L.height in
    let P = SameAt s s' m in
    let ls = leaves_in L in
    let T = each_leaf f h L.tree in
    let L' = with_tree L L.height T L.free in
    let new : leaves Leaf Mark h T ≡ map f ls = each-leaves f h L.tree in
    let Y = members_of L.members ls in
    let Z = undos_from L.undos 1 width in
    let rest : All P (Y ++ (Z ++ L.free)) = same-apart s s' (leaf_records ls) only (Y ++ (Z ++ L.free)) (own-rest L O) (all_from (leaf_records ls) (rest-apart L O)) in
    let low = numbers-nodes (λ i. 1 ≤ i) h L.tree (own-tree L O) in
    let nodes : All P (node_numbers h L.tree) = all_from (node_numbers h L.tree) (λ j i. only.same j (all_in (λ k. 1 ≤ k) (node_numbers h L.tree) low j i) (nodes-apart L O j i)) in
    let behind : All P (Z ++ L.free) = all_right P Y (Z ++ L.free) rest in
    let word0 : All (λ l. SameWords s s' m chain_words l.num) ls =
    all-as {P = λ l. (word_of s m l.num 0 ≡ word_of s' m l.num 0) × (word_of s m l.num 6 ≡ word_of s' m l.num 6)} {Q = λ l. SameWords s s' m chain_words l.num} (λ l q. (q.0, tt)) ls words in
    let word6 : All (λ l. word_of s m l.num 6 ≡ word_of s' m l.num 6) ls =
    all-as {P = λ l. (word_of s m l.num 0 ≡ word_of s' m l.num 0) × (word_of s m l.num 6 ≡ word_of s' m l.num 6)} {Q = λ l. word_of s m l.num 6 ≡ word_of s' m l.num 6} (λ l q. q.1) ls words in
    let chained : Chained s' m (header_word s first_place) (leaf_records ls) =
    chained_same s s' m (header_word s first_place) (leaf_records ls) (map-all (λ l. l.num) (SameWords s s' m chain_words) ls word0) F.chained in
    let groups = group-map f num s' m L.members members ls (groups-row s s' m L.members ls word6 (all_left P Y (Z ++ L.free) rest) F.groups) in
    let has : (k d : ℕ) → Has k d ls → Has k d (leaves Leaf Mark h T) = λ k d x. subst (Has k d) (sym new) (has-map f num key k d ls x) in
    let same-records : leaf_records ls ≡ leaf_records (leaves Leaf Mark h T) = sym (records-map f num ls) ∙ ap leaf_records (sym new) in
    let same-members : members_of L.members (leaves Leaf Mark h T) ≡ Y = ap (members_of L.members) new ∙ members-map f num L.members ls in
    holds_row s t L H s' L' p x' party
    (fits-row s t L F s' (leaf_records ls) only (set t p x') L' refl (entries_same s s' 1 m (λ d i j. ents d i (omega (arith, j))) ∙ F.entries)
    (head 3 (omega arith) ∙ F.height) (head 2 (omega arith) ∙ F.root ∙ sym (each-num f num h L.tree))
    (each_fits f num s s' m h top L.tree nodes fit F.tree)
    (subst (λ i. Chained s' m i (leaf_records (leaves Leaf Mark h T))) (sym (head 4 (omega arith))) (subst (Chained s' m (header_word s first_place)) same-records chained))
    (subst (λ k. All (λ l. GroupFits s' m (L.members l.num) l) k) (sym new) groups)
    (subst (λ i. Chained s' m i L.free) (sym (head 5 (omega arith))) (chained-keep s s' m (header_word s free_place) L.free (all_right P Z L.free behind) F.free))
    (undos-row s s' t (set t p x') m L.undos (all_left P Z L.free behind) (table-undo t p x' H.seats party undo) F.undos))
    refl
    (λ i.
    let q = ap (times i) same-members in
    let r = ap (times i) (each-numbers f num h L.tree) in
    omega (arith, records-times L' i, records-times L i, q, r))
    own
    (λ q n k g. hand-as L L' q (session_at t q) has (λ e x. each-marked f (session_at t q).level (session_at t q).at (latch_word q) h L.tree x) g)
    (λ q k g. named-as ls (leaves Leaf Mark h T) has (L.undos (suc q)) (lists_in L) g)

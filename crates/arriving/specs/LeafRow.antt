-- A row for a changed list of descriptors: one more, or one less, under a lowest node.
use Rattle.std.specs.Prelude.{◌≡◌, refl, cond, List, [], ◌∷◌, ◌++◌, ℕ, suc, ◌+◌, ◌≤◌, eqb, get_or, set, drop}
use Rattle.std.proofs.Common.{sym, ap, subst, ◌∙◌, inl, inr, arith}
use Rattle.words.specs.Store.{word_of}
use Rattle.words.specs.Header.{header_word, root_place, height_place, first_place, free_place}
use Rattle.sessions.specs.declared.Session.{Session}
use Rattle.sessions.specs.Sessions.{session_at}
use Rattle.machine.specs.Tree.{flat}
use Rattle.machine.specs.Holders.{width}
use Rattle.machine.specs.State.{Undo, value, added, taken, top}
use Rattle.machine.specs.Sound.{times}
use Rattle.machine.specs.Order.{In}
use Rattle.meaning.specs.Reading.{Chained, Leaf, Numbered, numbers, M-of}
use Rattle.meaning.specs.Sound.{All, Apart, Lists, set_list}
use Rattle.meaning.specs.Numbers.{all_left, all_right, all_from, times-append, times-in, apart-times}
use Rattle.meaning.specs.Numbers as Nums
use Rattle.meaning.specs.Frame.{SameAt, SameWords, leaf_records, chain_words, desc_words, numbers-times, chained_same}
use Rattle.meaning.specs.Parts.{entries_same}
use Rattle.meaning.specs.Around.{NCtx, fill, num_of, bound_in, numbers_around, times-fill}
use Rattle.meaning.specs.Lens.{descs}
use Rattle.layout.specs.Layout.{Lay, Undone, leaves_in, members_of, undos_from, Owned, Each, DescFits, NodeFits, TreeFits, GroupFits, Has, SomeSon, Marked, HandFits, NamedAs, Named, lists_in, Holds}
use Rattle.layout.specs.Keep.{records-times, owned-most, own-rest, same-apart, undos-row, table-undo, fits-row, holds_row, num-fill, fits-open, fits-close, ctx-keep, hole-around, hole-one}
use Rattle.layout.specs.Places.{AtKey}
use Rattle.arriving.specs.Lowest.{leaves_of}
use Rattle.arriving.specs.Site.{nums_of}
use Rattle.arriving.specs.Edits.{Edit}

-- ---- where a list of descriptors is cut by a key

pub cut-once : (x hi : ℕ) (A B C D : List Leaf) → A ++ B ≡ C ++ D → In 0 x (descs A) → In x hi (descs B) → In 0 x (descs C) → In x hi (descs D) → (A ≡ C) × (B ≡ D)
cut-once x hi [] B [] D e a b c d = (refl, e)
cut-once x hi [] B (z ∷ C) D e a b c d = let q = subst (λ l. In x hi (descs l)) e b in absurd (omega (arith, q.0.0, c.0.1))
cut-once x hi (y ∷ A) B [] D e a b c d = let q = subst (λ l. In x hi (descs l)) (sym e) d in absurd (omega (arith, q.0.0, a.0.1))
cut-once x hi (y ∷ A) B (z ∷ C) D e a b c d =
    let r = cut-once x hi A B C D (ap (λ l. drop 1 l) e) a.1 b c.1 d in
    let h : y ≡ z = ap (λ l. get_or l 0 y) e in
    ((λ i. h i ∷ r.0 i), r.1)

-- ---- chains with one record more, or less

pub chain_more : (s s' : List ℕ) (m i : ℕ) (X : List ℕ) (b a : ℕ) (Y : List ℕ) → Chained s m i (X ++ b ∷ Y) → All (SameWords s s' m chain_words) X → All (SameWords s s' m chain_words) Y
    → word_of s' m b 0 ≡ a → word_of s' m a 0 ≡ word_of s m b 0 → ¬ (a ≡ 0) → Chained s' m i (X ++ b ∷ a ∷ Y)
chain_more s s' m i [] b a Y c x y p q n =
    let e : word_of s' m i 0 ≡ a = ap (λ j. word_of s' m j 0) c.0 ∙ p in
    let r : word_of s m i 0 ≡ word_of s' m (word_of s' m i 0) 0 = ap (λ j. word_of s m j 0) c.0 ∙ sym q ∙ ap (λ j. word_of s' m j 0) (sym e) in
    (c.0, c.1, (e, λ z. n (sym e ∙ z), subst (λ j. Chained s' m j Y) r (chained_same s s' m (word_of s m i 0) Y y c.2)))
chain_more s s' m i (j ∷ X) b a Y c x y p q n =
    let e : word_of s m i 0 ≡ word_of s' m i 0 = subst (λ z. word_of s m z 0 ≡ word_of s' m z 0) (sym c.0) x.0.0 in
    (c.0, c.1, subst (λ z. Chained s' m z (X ++ b ∷ a ∷ Y)) e (chain_more s s' m (word_of s m i 0) X b a Y c.2 x.1 y p q n))

pub chain-less : (s s' : List ℕ) (m i : ℕ) (X : List ℕ) (b d : ℕ) (Y : List ℕ) → Chained s m i (X ++ b ∷ d ∷ Y) → All (SameWords s s' m chain_words) X → All (SameWords s s' m chain_words) Y
    → word_of s' m b 0 ≡ word_of s m d 0 → Chained s' m i (X ++ b ∷ Y)
chain-less s s' m i [] b d Y c x y p =
    let r : word_of s m (word_of s m i 0) 0 ≡ word_of s' m i 0 = ap (λ j. word_of s m j 0) c.2.0 ∙ sym p ∙ ap (λ j. word_of s' m j 0) (sym c.0) in
    (c.0, c.1, subst (λ j. Chained s' m j Y) r (chained_same s s' m (word_of s m (word_of s m i 0) 0) Y y c.2.2))
chain-less s s' m i (j ∷ X) b d Y c x y p =
    let e : word_of s m i 0 ≡ word_of s' m i 0 = subst (λ z. word_of s m z 0 ≡ word_of s' m z 0) (sym c.0) x.0.0 in
    (c.0, c.1, subst (λ z. Chained s' m z (X ++ b ∷ Y)) e (chain-less s s' m (word_of s m i 0) X b d Y c.2 x.1 y p))

-- ---- owners

-- A descriptor's record is the tree's.
pub leaf-owned : (L : Lay) (j : ℕ) → Nums.In j (leaf_records (leaves_in L)) → 1 ≤ times j (numbers (suc L.height) L.tree)
leaf-owned L j i = omega (arith, numbers-times j (suc L.height) L.tree, times-in j (leaf_records (leaves_in L)) i)

module _ (L : Lay) (O : Owned L) (j : ℕ) where
  module _ (i : 1 ≤ times j (numbers (suc L.height) L.tree)) where
    pub tree-rest : Apart j (members_of L.members (leaves_in L) ++ (undos_from L.undos 1 width ++ L.free))
    tree-rest = apart-times j (members_of L.members (leaves_in L) ++ (undos_from L.undos 1 width ++ L.free))
        (omega (arith, i, owned-most L O j, times-append j (numbers (suc L.height) L.tree) (members_of L.members (leaves_in L) ++ (undos_from L.undos 1 width ++ L.free))))

  module _ (i : 1 ≤ times j L.free) where
    pub free-tree : Apart j (numbers (suc L.height) L.tree)
    free-tree = apart-times j (numbers (suc L.height) L.tree) (omega (arith, i, owned-most L O j, records-times L j))

    pub free-members : Apart j (members_of L.members (leaves_in L))
    free-members = apart-times j (members_of L.members (leaves_in L)) (omega (arith, i, owned-most L O j, records-times L j))

    pub free-undos : Apart j (undos_from L.undos 1 width)
    free-undos = apart-times j (undos_from L.undos 1 width) (omega (arith, i, owned-most L O j, records-times L j))

    pub free-leaves : Apart j (leaf_records (leaves_in L))
    free-leaves = apart-times j (leaf_records (leaves_in L)) (omega (arith, i, owned-most L O j, records-times L j, numbers-times j (suc L.height) L.tree))

-- ---- the tree

-- The words that a descriptor is read from are the same.
pub desc-words-fit : (s s' : List ℕ) (m : ℕ) (l : Leaf) → SameWords s s' m desc_words l.num → DescFits s m l → DescFits s' m l
desc-words-fit s s' m l w D = record {
  key = sym w.0 ∙ D.key;
  locate = sym w.1.0 ∙ D.locate;
  update = sym w.1.1.0 ∙ D.update;
  gap = sym w.1.1.1.0 ∙ D.gap;
  pins = sym w.1.1.1.1.0 ∙ D.pins;
}

-- The descriptor in a hole has another next one: the tree fits as before.
pub tree-relink : (L : Lay) → Owned L → (k d : ℕ) (A : AtKey L k d) (s s' : List ℕ) (m : ℕ) → ((j : ℕ) → 1 ≤ j → 1 ≤ times j (numbers (suc L.height) L.tree) → ¬ (j ≡ d) → SameAt s s' m j)
    → SameWords s s' m desc_words d → TreeFits s m (suc L.height) top L.tree → TreeFits s' m (suc L.height) top L.tree
unfolding TreeFits num_of
tree-relink L O k d A s s' m same words f =
    let h = suc L.height in
    let c = A.around in
    let l = A.leaf in
    let o = fits-open s m c l top (subst (TreeFits s m h top) A.is f) in
    let inside : (j : ℕ) → Nums.In j (numbers_around c) → 1 ≤ times j (numbers h L.tree) = λ j i. omega (arith, ap (λ u. times j (numbers h u)) A.is ∙ times-fill c l j, times-in j (numbers_around c) i) in
    let around = all_from {P = SameAt s s' m} (numbers_around c) (λ j i. same j (hole-one L O c l A.is j i) (inside j i) (λ z. hole-around L O c l A.is j i (z ∙ sym A.num))) in
    let w = subst (SameWords s s' m desc_words) (sym A.num) words in
    subst (TreeFits s' m h top) (sym A.is) (fits-close s' m c l top (ctx-keep s s' m c top l.num around o.0) (desc-words-fit s s' m l w o.1))

-- Sons that are all descriptors.
each-leaves : (P : Leaf → Type 0) (es : List (Leaf × ℕ)) → All P (leaves_of es) → Each (λ _ l. P l) es
each-leaves P [] a = tt
each-leaves P (e ∷ es) a = (a.0, each-leaves P es a.1)

-- A lowest node.
abbrev pub low_node : ℕ → ℕ → List (Leaf × ℕ) → Numbered 1
low_node n w es = record { latch = record { num = n; word = w }; sons = es }

pub tree-renode : {h : ℕ} (c : NCtx 1 h) (s s' : List ℕ) (m n w w' : ℕ) (es es' : List (Leaf × ℕ)) → All (SameAt s s' m) (numbers_around c)
    → NodeFits s' m (bound_in c top) (record { num = n; word = w' }) (nums_of es') → All (DescFits s' m) (leaves_of es')
    → TreeFits s m h top (fill c (low_node n w es)) → TreeFits s' m h top (fill c (low_node n w' es'))
unfolding TreeFits num_of
tree-renode c s s' m n w w' es es' around node descs f =
    let o = fits-open s m c (low_node n w es) top f in
    fits-close s' m c (low_node n w' es') top (ctx-keep s s' m c top n around o.0) (node, each-leaves (DescFits s' m) es' descs)

flat-nums : (es : List (Leaf × ℕ)) → flat (numbers 0) es ≡ leaf_records (leaves_of es)
unfolding numbers
flat-nums [] = refl
flat-nums (e ∷ es) = ap (λ l. e.0.num ∷ l) (flat-nums es)

pub low-times : {h : ℕ} (c : NCtx 1 h) (n w : ℕ) (es : List (Leaf × ℕ)) (i : ℕ)
    → times i (numbers h (fill c (low_node n w es))) ≡ times i (numbers_around c) + times i (n ∷ leaf_records (leaves_of es))
unfolding numbers
low-times c n w es i = times-fill c (low_node n w es) i ∙ ap (λ l. times i (numbers_around c) + times i (n ∷ l)) (flat-nums es)

-- ---- the parties that stand at nodes

no-sons : (j n w : ℕ) (es : List (Leaf × ℕ)) → SomeSon (Marked j n w 0) es → ⊥
unfolding Marked
no-sons j n w [] x = x
no-sons j n w (e ∷ es) (inl x) = x
no-sons j n w (e ∷ es) (inr x) = no-sons j n w es x

pub low-marked : (j n w a v v' : ℕ) (es es' : List (Leaf × ℕ)) → ¬ (v ≡ w) → Marked j n w 1 (low_node a v es) → Marked j n w 1 (low_node a v' es')
unfolding Marked
low-marked j n w a v v' es es' ne (inl x) = absurd (ne x.2)
low-marked j n w a v v' es es' ne (inr x) = absurd (no-sons j n w es x)

-- ---- undo records

-- Other lists at a record that none of them names.
pub named-apart : (a : ℕ) (ls ls' : List Leaf) → ((k d : ℕ) → Has k d ls → Has k d ls' × ¬ (d ≡ a)) → (us : List Undone) (g g' : Lists) → ((d e : ℕ) → ¬ (d ≡ a) → g' d e ≡ g d e)
    → Named ls us g → Named ls' us g'
named-apart a ls ls' h [] g g' q f = tt
named-apart a ls ls' h (u ∷ us) g g' q f = go u.undo (named-apart a ls ls' h us) f
  where
    same : (d e i : ℕ) (c f : ℕ) → ¬ (c ≡ a) → set_list d e i g' c f ≡ set_list d e i g c f
    same d e i c f n = ap (λ z. cond (eqb c d) (cond (eqb f e) i z) z) (q c f n)

    go : (x : Undo) → ((c c' : Lists) → ((d e : ℕ) → ¬ (d ≡ a) → c' d e ≡ c d e) → Named ls us c → Named ls' us c')
        → NamedAs ls (Named ls us) g u.num u.saved u.descriptor x → NamedAs ls' (Named ls' us) g' u.num u.saved u.descriptor x
    go (value e v) k f = k g g' q f
    go (added e i) k f =
        let z = h i u.descriptor f.0 in
        (z.0, q u.descriptor e z.1 ∙ f.1, k (set_list u.descriptor e 0 g) (set_list u.descriptor e 0 g') (same u.descriptor e 0) f.2)
    go (taken e i) k f =
        let z = h i u.descriptor f.0 in
        (z.0, k (set_list u.descriptor e u.num g) (set_list u.descriptor e u.num g') (same u.descriptor e u.num) f.1)

-- ---- the row

-- The layout with other descriptors under one node.
abbrev pub with_leaves : (L : Lay) → Numbered (suc L.height) → (ℕ → List (ℕ × ℕ)) → List ℕ → Lay
with_leaves L T g f = record { entries = L.entries; height = L.height; tree = T; members = g; undos = L.undos; free = f; records = L.records }

pub leaf-row : (s : List ℕ) (t : List Session) (L : Lay) → Holds s t L → (c : NCtx 1 (suc L.height)) (n w : ℕ) (es : List (Leaf × ℕ)) → L.tree ≡ fill c (low_node n w es)
    → (s' W : List ℕ) → Edit s s' W → All (λ i. Apart i (undos_from L.undos 1 width)) W
    → (w' : ℕ) (es' : List (Leaf × ℕ)) (g : ℕ → List (ℕ × ℕ)) (f : List ℕ) → TreeFits s' (M-of s) (suc L.height) top (fill c (low_node n w' es'))
    → Chained s' (M-of s) (header_word s first_place) (leaf_records (leaves_in (with_leaves L (fill c (low_node n w' es')) g f)))
    → All (λ l. GroupFits s' (M-of s) (g l.num) l) (leaves_in (with_leaves L (fill c (low_node n w' es')) g f))
    → Chained s' (M-of s) (header_word s' free_place) f
    → ((i : ℕ) → times i (leaf_records (leaves_of es')) + (times i (members_of g (leaves_in (with_leaves L (fill c (low_node n w' es')) g f))) + times i f)
    ≡ times i (leaf_records (leaves_of es)) + (times i (members_of L.members (leaves_in L)) + times i L.free))
    → (p : ℕ) (x' : Session) → p ≤ width → x'.undo ≡ (session_at t p).undo → HandFits (with_leaves L (fill c (low_node n w' es')) g f) p x'
    → ((q : ℕ) → ¬ (q ≡ p) → q ≤ width → HandFits L q (session_at t q) → HandFits (with_leaves L (fill c (low_node n w' es')) g f) q (session_at t q))
    → ((q : ℕ) → suc q ≤ width → Named (leaves_in L) (L.undos (suc q)) (lists_in L)
    → Named (leaves_in (with_leaves L (fill c (low_node n w' es')) g f)) (L.undos (suc q)) (lists_in (with_leaves L (fill c (low_node n w' es')) g f)))
    → Holds s' (set t p x') (with_leaves L (fill c (low_node n w' es')) g f)
unfolding num_of
leaf-row s t L H c n w es is s' W E far w' es' g f tree chained groups free count p x' party undo own others named =
    let F = H.fits in
    let m = M-of s in
    let h = suc L.height in
    let Z = undos_from L.undos 1 width in
    let Y = members_of L.members (leaves_in L) in
    let one : ℕ → Type 0 = λ i. 1 ≤ i in
    let proper = all_left one Z L.free (all_right one Y (Z ++ L.free) (own-rest L H.owned)) in
    let z = same-apart s s' W E.written Z proper far in
    let L' = with_leaves L (fill c (low_node n w' es')) g f in
    let head = E.head in
    holds_row s t L H s' L' p x' party
    (fits-row s t L F s' W E.written (set t p x') L' refl (entries_same s s' 1 m (λ d i j. E.entries d i (omega (arith, j))) ∙ F.entries)
    (head height_place (omega arith) (λ e. omega (arith, e)) ∙ F.height)
    (head root_place (omega arith) (λ e. omega (arith, e)) ∙ F.root ∙ ap (num_of h) is ∙ num-fill c (low_node n w es) ∙ sym (num-fill c (low_node n w' es')))
    tree (subst (λ i. Chained s' m i (leaf_records (leaves_in L'))) (sym (head first_place (omega arith) (λ e. omega (arith, e)))) chained) groups free
    (undos-row s s' t (set t p x') m L.undos z (table-undo t p x' H.seats party undo) F.undos))
    refl
    (λ i.
    let a = low-times c n w es i in
    let b = low-times c n w' es' i in
    let e = ap (λ u. times i (numbers h u)) is in
    omega (arith, records-times L' i, records-times L i, count i, a, b, e))
    own others named

-- A part of a layout's tree replaced: what is in the hole is another tree, with the same leaves, made of the same nodes and of free records.
use Rattle.std.specs.Prelude.{◌≡◌, refl, ℕ, zero, suc, ◌+◌, ◌-◌, ◌≤◌, length, set, take}
use Rattle.std.proofs.Common.{sym, ap, subst, ◌∙◌, arith, lit<}
use mathlib.Core.List.{List, [], ◌∷◌, ◌++◌, zip, zip_with}
use Rattle.words.specs.Store.{HasRecord, record_at}
use Rattle.words.specs.Header.{root_place, height_place, first_place}
use Rattle.nodes.specs.declared.Node.{Node}
use Rattle.nodes.specs.Live.{Usable}
use Rattle.nodes.specs.Node.{node_at, decode_node, sized-decode}
use Rattle.nodes.specs.Entries as N
use Rattle.sessions.specs.declared.Session.{Session}
use Rattle.machine.specs.Tree.{flat, leaves}
use Rattle.machine.specs.Holders.{width}
use Rattle.machine.specs.State.{top}
use Rattle.machine.specs.Sound.{times}
use Rattle.meaning.specs.Reading.{Chained, Leaf, Mark, Numbered, numbers, node_numbers, M-of, R-of}
use Rattle.meaning.specs.Sound.{All, Apart}
use Rattle.meaning.specs.Numbers.{times-append, times-in, in-times, apart-times, apart-append, all_in, all_from, all-as}
use Rattle.meaning.specs.Frame.{SameAt, leaf_records, numbers-times}
use Rattle.meaning.specs.Around.{NCtx, fill, num_of, bound_in, numbers_around, times-fill, nodes-fill, leaves-fill, before, behind, number_of, nothing}
use Rattle.layout.specs.Layout.{Lay, leaves_in, members_of, undos_from, all_records, Each, NodeFits, TreeFits, Holds}
use Rattle.layout.specs.Written.{Written}
use Rattle.layout.specs.Keep.{with_tree, Hands, records-times, owned-most, own-all, CtxFits, ctx-keep, fits-open, fits-close, tree-keep, each_keep, same-apart, tree-row, num-fill, num_in}
use Rattle.layout.specs.Room.{Sizes, owned_in, owned-has}
use Rattle.walking.specs.Traces.{Trace}

-- Entries are no more than sons.
entries-some : (n : Node) (u : ℕ) → 1 ≤ length (N.entries n u) → 1 ≤ n.count
unfolding N.entries zip zip_with
entries-some n u h = go n.count refl
  where
    go : (c : ℕ) → n.count ≡ c → 1 ≤ n.count
    go zero e = absurd (omega (arith, subst (λ k. 1 ≤ length (zip (take k n.sons) (take (k - 1) n.bounds ++ (u ∷ [])))) e h))
    go (suc c) e = omega (arith, e)

-- A node that has sons can be used.
pub fits-usable : (s : List ℕ) (m hi : ℕ) (w : Mark) (es : List (ℕ × ℕ)) → NodeFits s m hi w es → 1 ≤ length es → Usable (node_at s m w.num)
fits-usable s m hi w es f l = record {
  sized = sized-decode (record_at s m w.num);
  least = entries-some (node_at s m w.num) hi (subst (λ x. 1 ≤ length x) (sym f.sons) l);
  most = unfold decode_node in f.few;
}

-- A record is a node of the tree u, or free.
abbrev pub Ours : Lay → (k : ℕ) → Numbered k → ℕ → Type 0
Ours L k u i = 1 ≤ times i (node_numbers k u) + times i L.free

module _ (s : List ℕ) (t : List Session) (L : Lay) (H : Holds s t L) {k : ℕ} (c : NCtx k (suc L.height)) (u : Numbered k) (is : L.tree ≡ fill c u) where
  tree-times : (i : ℕ) → times i (numbers (suc L.height) L.tree) ≡ times i (numbers_around c) + times i (numbers k u)
  tree-times i = ap (λ x. times i (numbers (suc L.height) x)) is ∙ times-fill c u i

  -- No record stands twice in the hole and in the free chain together.
  pub hole-most : (i : ℕ) → times i (numbers k u) + times i L.free ≤ 1
  hole-most i = omega (arith, records-times L i, owned-most L H.owned i, tree-times i)

  -- It is nowhere else.
  record Nowhere (i : ℕ) : Type 0 where
    around : times i (numbers_around c) ≡ 0
    leaf : times i (leaf_records (leaves_in L)) ≡ 0
    member : times i (members_of L.members (leaves_in L)) ≡ 0
    undo : times i (undos_from L.undos 1 width) ≡ 0

  nowhere : (i : ℕ) → Ours L k u i → Nowhere i
  nowhere i o =
      let h = suc L.height in
      let A = before number_of node_numbers c in
      let B = behind number_of node_numbers c in
      let f = ap (λ x. times i (node_numbers h x)) is ∙ ap (times i) (nodes-fill c u) ∙ times-append i A (node_numbers k u ++ B) in
      let g = times-append i (node_numbers k u) B in
      let n = numbers-times i h L.tree in
      let v = numbers-times i k u in
      let r = records-times L i in
      let z = owned-most L H.owned i in
      record {
        around = omega (arith, r, z, tree-times i, v, o);
        leaf = omega (arith, r, z, n, f, g, o);
        member = omega (arith, r, z, n, f, g, o);
        undo = omega (arith, r, z, n, f, g, o);
      }

  pub ours-owned : (i : ℕ) → Ours L k u i → 1 ≤ times i (all_records L)
  ours-owned i o = omega (arith, records-times L i, tree-times i, numbers-times i k u, o)

  -- Records of the tree in the hole, and free ones, are numbered from 1.
  pub proper : (X : List ℕ) → ((j : ℕ) → times j X ≤ times j (numbers k u) + times j L.free) → All (λ i. 1 ≤ i) X
  proper X f = all_from X (λ j i. all_in (λ i. 1 ≤ i) (all_records L) (own-all L H.owned) j (in-times j (all_records L) (omega (arith, f j, times-in j X i, records-times L j, tree-times j))))

  around-proper : All (λ i. 1 ≤ i) (numbers_around c)
  around-proper = all_from (numbers_around c) (λ j i. all_in (λ i. 1 ≤ i) (all_records L) (own-all L H.owned) j (in-times j (all_records L) (omega (arith, times-in j (numbers_around c) i, records-times L j, tree-times j))))

  -- It is no descriptor, no membership and no undo record.
  pub ours-far : (i : ℕ) → Ours L k u i → Apart i (leaf_records (leaves_in L) ++ (members_of L.members (leaves_in L) ++ undos_from L.undos 1 width))
  ours-far i o =
      let X = leaf_records (leaves_in L) in
      let Y = members_of L.members (leaves_in L) in
      let X' = undos_from L.undos 1 width in
      let n = nowhere i o in
      apart-append i X (Y ++ X') (apart-times i X n.leaf) (apart-append i Y X' (apart-times i Y n.member) (apart-times i X' n.undo))

  module _ (Z : Sizes L) where
    -- Every record of the tree in the hole is there.
    pub in-has : (i : ℕ) → 1 ≤ times i (numbers k u) → HasRecord s (M-of s) i
    in-has i o = owned-has s t L H Z i (omega (arith, records-times L i, tree-times i, o))

    pub ours-has : (i : ℕ) → Ours L k u i → HasRecord s (M-of s) i
    ours-has i o = owned-has s t L H Z i (ours-owned i o)

    pub ours_in : (i : ℕ) → Ours L k u i → i ≤ R-of s
    ours_in i o = omega (arith, (owned_in s t L H Z i (ours-owned i o)).1, H.fits.records)

  module _ (s' : List ℕ) (W : List ℕ) (only : Written s s' W) where
    pub part-keep : (X : List ℕ) → ((j : ℕ) → times j X ≤ times j (numbers k u) + times j L.free) → All (λ i. times i X ≡ 0) W → All (SameAt s s' (M-of s)) X
    part-keep X f a = same-apart s s' W only X (proper X f) (all-as (λ i e. apart-times i X e) W a)

    pub sons-keep : (h : ℕ) (es : List (Numbered h × ℕ)) → ((j : ℕ) → times j (flat (numbers h) es) ≤ times j (numbers k u)) → All (λ i. times i (flat (numbers h) es) ≡ 0) W
        → Each (TreeFits s (M-of s) h) es → Each (TreeFits s' (M-of s) h) es
    sons-keep h es f a =
        each_keep (TreeFits s (M-of s) h) (TreeFits s' (M-of s) h) (numbers h) (SameAt s s' (M-of s)) (λ b v q g. tree-keep s s' (M-of s) h b v q g) es
        (part-keep (flat (numbers h) es) (λ j. omega (arith, f j)) a)

  pub hole-fits : TreeFits s (M-of s) k (bound_in c top) u
  hole-fits = (fits-open s (M-of s) c u top (subst (TreeFits s (M-of s) (suc L.height) top) is H.fits.tree)).1

  -- The row: the words fit the new tree in the hole and the new free chain, which are made of the same records.
  pub hole-row : (s' : List ℕ) (W : List ℕ) (f : ℕ) → Trace s s' W f → All (Ours L k u) W → (u' : Numbered k) (f' : List ℕ) → num_of k u' ≡ num_of k u → leaves Leaf Mark k u' ≡ leaves Leaf Mark k u
      → TreeFits s' (M-of s) k (bound_in c top) u' → Chained s' (M-of s) f f' → ((i : ℕ) → times i (numbers k u') + times i f' ≡ times i (numbers k u) + times i L.free)
      → (p : ℕ) (x' : Session) → Hands L t (with_tree L L.height (fill c u') f') p x' → Holds s' (set t p x') (with_tree L L.height (fill c u') f')
  hole-row s' W f T ours u' f' num same fits free count p x' hands =
      let m = M-of s in
      let h = suc L.height in
      let o = fits-open s m c u top (subst (TreeFits s m h top) is H.fits.tree) in
      let around = same-apart s s' W T.written (numbers_around c) around-proper (all-as (λ i q. apart-times i (numbers_around c) (nowhere i q).around) W ours) in
      let far = all-as (λ i q. ours-far i q) W ours in
      tree-row s t L H s' W T.written T.ents (T.head first_place (lit< tt) (λ e. omega (arith, e))) far
      L.height (fill c u') f'
      (leaves-fill c u' ∙ ap (λ x. before nothing (leaves Leaf Mark) c ++ (x ++ behind nothing (leaves Leaf Mark) c)) same ∙ sym (ap (leaves Leaf Mark h) is ∙ leaves-fill c u))
      (T.head height_place (lit< tt) (λ e. omega (arith, e)) ∙ H.fits.height)
      (T.head root_place (lit< tt) (λ e. omega (arith, e)) ∙ H.fits.root ∙ ap (num_of h) is ∙ num-fill c u ∙ ap (num_in c) (sym num) ∙ sym (num-fill c u'))
      (fits-close s' m c u' top (ctx-keep s s' m c top (num_of k u') around (subst (CtxFits s m c top) (sym num) o.0)) fits)
      (subst (λ i. Chained s' m i f') (sym T.free) free)
      (λ i. omega (arith, times-fill c u' i, tree-times i, count i))
      p x' hands

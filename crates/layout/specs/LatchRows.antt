-- The node in a hole of a layout's tree written with another latch word: its record is apart from all others.
use Rattle.std.specs.Prelude.{◌≡◌, refl, List, [], ◌∷◌, ◌++◌, set}
use Rattle.std.proofs.Math.Path.{sym, ap, subst}
use Rattle.std.proofs.Common.{◌∙◌, arith, lit<}
use Prim.Native.Nat.{ℕ, suc, ◌+◌, ◌≤◌}
use Rattle.words.specs.Store.{HasRecord, record_at, put_record, length-word}
use Rattle.words.specs.Header.{header_word, root_place, height_place, first_place, free_place}
use Rattle.nodes.specs.Node.{node_at}
use Rattle.nodes.specs.Ops.{with_latch, latch_at, latch-record, latch-same}
use Rattle.nodes.specs.Entries as N
use Rattle.nodes.specs.Entries.{latch-entries}
use Rattle.sessions.specs.declared.Session.{Session}
use Rattle.machine.specs.Tree.{flat, leaves}
use Rattle.machine.specs.Holders.{width}
use Rattle.machine.specs.State.{top}
use Rattle.machine.specs.Sound.{times}
use Rattle.meaning.specs.Reading.{Chained, Leaf, Mark, Numbered, numbers, node_numbers, M-of}
use Rattle.meaning.specs.Sound.{All, Apart}
use Rattle.meaning.specs.Numbers.{one-is, times-append, times-in, in-times, apart-times, apart-append, all_in, all_from, all_right}
use Rattle.meaning.specs.Frame.{SameAt, leaf_records, numbers-times}
use Rattle.meaning.specs.Around.{NCtx, fill, num_of, bound_in, numbers_around, times-fill, nodes-fill, leaves-fill, before, behind, number_of}
use Rattle.layout.specs.Layout.{Lay, leaves_in, members_of, undos_from, all_records, NodeFits, TreeFits, Holds}
use Rattle.layout.specs.Written.{Written, SameEntries, SameHead, put_written, put_entries, put-head}
use Rattle.layout.specs.Keep.{with_tree, Hands, records-times, owned-most, own-all, own-tree, ctx-keep, fits-open, fits-close, tree-keep, chained-keep, each_keep, same-apart, tree-row, num-fill}
use Rattle.layout.specs.Puts.{node-count, node-fits}
use Rattle.layout.specs.Room.{Sizes, owned_in, owned-has}

-- A node with another latch word.
abbrev pub relatched : (k : ℕ) → ℕ → Numbered (suc k) → Numbered (suc k)
relatched k w u = record { latch = record { num = u.latch.num; word = w }; sons = u.sons }

module _ (s : List ℕ) (t : List Session) (L : Lay) (H : Holds s t L) {k : ℕ} (c : NCtx (suc k) (suc L.height)) (u : Numbered (suc k)) (is : L.tree ≡ fill c u) where
  abbrev at : ℕ
  at = u.latch.num

  -- The record is the node's alone.
  pub node-times : times at (numbers_around c) + times at (flat (numbers k) u.sons) + (times at (members_of L.members (leaves_in L)) + (times at (undos_from L.undos 1 width) + times at L.free)) ≡ 0
  unfolding numbers
  node-times =
      let h = suc L.height in
      let e = ap (λ x. times at (numbers h x)) is ∙ times-fill c u at in
      omega (arith, records-times L at, owned-most L H.owned at, e, one-is at at refl)

  pub node-owned : 1 ≤ times at (all_records L)
  unfolding numbers
  node-owned =
      let h = suc L.height in
      let e = ap (λ x. times at (numbers h x)) is ∙ times-fill c u at in
      omega (arith, records-times L at, e, one-is at at refl)

  pub node-around : Apart at (numbers_around c)
  node-around = apart-times at (numbers_around c) (omega (arith, node-times))

  pub node-sons : Apart at (flat (numbers k) u.sons)
  node-sons = apart-times at (flat (numbers k) u.sons) (omega (arith, node-times))

  pub node-free : Apart at L.free
  node-free = apart-times at L.free (omega (arith, node-times))

  pub node-leaves : Apart at (leaf_records (leaves_in L))
  unfolding node_numbers
  node-leaves =
      let h = suc L.height in
      let e = ap (λ x. times at (numbers h x)) is ∙ times-fill c u at in
      let f = ap (λ x. times at (node_numbers h x)) is ∙ ap (times at) (nodes-fill c u) ∙ times-append at (before number_of node_numbers c) (node_numbers (suc k) u ++ behind number_of node_numbers c) in
      let g = times-append at (node_numbers (suc k) u) (behind number_of node_numbers c) in
      let one : 1 ≤ times at (node_numbers (suc k) u) = omega (arith, one-is at at refl) in
      apart-times at (leaf_records (leaves_in L)) (omega (arith, numbers-times at h L.tree, records-times L at, owned-most L H.owned at, f, g, one))

  pub node-rest : Apart at (leaf_records (leaves_in L) ++ (members_of L.members (leaves_in L) ++ undos_from L.undos 1 width))
  node-rest =
      apart-append at (leaf_records (leaves_in L)) (members_of L.members (leaves_in L) ++ undos_from L.undos 1 width) node-leaves
      (apart-append at (members_of L.members (leaves_in L)) (undos_from L.undos 1 width) (apart-times at (members_of L.members (leaves_in L)) (omega (arith, node-times)))
      (apart-times at (undos_from L.undos 1 width) (omega (arith, node-times))))

  -- All records are proper numbers.
  pub around-proper : All (λ i. 1 ≤ i) (numbers_around c)
  around-proper = all_from (numbers_around c) (λ j i. go j (times-in j (numbers_around c) i))
    where
      go : (j : ℕ) → 1 ≤ times j (numbers_around c) → 1 ≤ j
      go j n =
          let h = suc L.height in
          let e = ap (λ x. times j (numbers h x)) is ∙ times-fill c u j in
          all_in (λ i. 1 ≤ i) (numbers h L.tree) (own-tree L H.owned) j (in-times j (numbers h L.tree) (omega (arith, e, n)))

  pub sons-proper : All (λ i. 1 ≤ i) (flat (numbers k) u.sons)
  unfolding numbers
  sons-proper = all_from (flat (numbers k) u.sons) (λ j i. go j (times-in j (flat (numbers k) u.sons) i))
    where
      go : (j : ℕ) → 1 ≤ times j (flat (numbers k) u.sons) → 1 ≤ j
      go j n =
          let h = suc L.height in
          let e = ap (λ x. times j (numbers h x)) is ∙ times-fill c u j in
          all_in (λ i. 1 ≤ i) (numbers h L.tree) (own-tree L H.owned) j (in-times j (numbers h L.tree) (omega (arith, e, n)))

  pub free-proper : All (λ i. 1 ≤ i) L.free
  free-proper =
      all_right (λ i. 1 ≤ i) (undos_from L.undos 1 width) L.free
      (all_right (λ i. 1 ≤ i) (members_of L.members (leaves_in L)) (undos_from L.undos 1 width ++ L.free)
      (all_right (λ i. 1 ≤ i) (numbers (suc L.height) L.tree) (members_of L.members (leaves_in L) ++ (undos_from L.undos 1 width ++ L.free)) (own-all L H.owned)))

  module _ (Z : Sizes L) (w : ℕ) where
    pub node-has : HasRecord s (M-of s) at
    node-has = owned-has s t L H Z at node-owned

    abbrev relatch : List ℕ
    relatch = latch_at s (M-of s) at w

    abbrev words : List ℕ
    words = set (record_at s (M-of s) at) 0 w

    is-put : put_record s (M-of s) at words ≡ relatch
    is-put = latch-record s (M-of s) at w node-has

    pub latch-written : Written s relatch (at ∷ [])
    latch-written = subst (λ z. Written s z (at ∷ [])) is-put (put_written s at words node-has (length-word s (M-of s) at 0 w) (omega (arith, (owned_in s t L H Z at node-owned).1, H.fits.records)))

    -- The tree with that node relatched fits the words.
    pub latch-fits : TreeFits relatch (M-of s) (suc L.height) top (fill c (relatched k w u))
    unfolding TreeFits num_of with_latch
    latch-fits =
        let m = M-of s in
        let h = suc L.height in
        let o = fits-open s m c u top (subst (TreeFits s m h top) is H.fits.tree) in
        let around = same-apart s relatch (at ∷ []) latch-written (numbers_around c) around-proper (node-around, tt) in
        let sons = same-apart s relatch (at ∷ []) latch-written (flat (numbers k) u.sons) sons-proper (node-sons, tt) in
        let few : (node_at s m at).count ≤ 8 = subst (λ n. n ≤ 8) (sym (node-count s m at)) o.1.0.few in
        let here : NodeFits relatch m (bound_in c top) (record { num = at; word = w }) (N.entries (with_latch (node_at s m at) w) (bound_in c top)) =
        node-fits relatch m at (bound_in c top) (with_latch (node_at s m at) w) (latch-same s m at w node-has) few in
        fits-close relatch m c (relatched k w u) top (ctx-keep s relatch m c top at around o.0) (
          subst (NodeFits relatch m (bound_in c top) (record { num = at; word = w })) (latch-entries (node_at s m at) w (bound_in c top) ∙ o.1.0.sons) here,
          each_keep (TreeFits s m k) (TreeFits relatch m k) (numbers k) (SameAt s relatch m) (λ b a q f. tree-keep s relatch m k b a q f) u.sons sons o.1.1,
        )

    pub latch-put : (p : ℕ) (x' : Session) → Hands L t (with_tree L L.height (fill c (relatched k w u)) L.free) p x'
        → Holds relatch (set t p x') (with_tree L L.height (fill c (relatched k w u)) L.free)
    unfolding numbers leaves num_of
    latch-put p x' hands =
        let m = M-of s in
        let h = suc L.height in
        let whole = length-word s m at 0 w in
        let head : SameHead s relatch = subst (SameHead s) is-put (put-head s at words node-has whole) in
        tree-row s t L H relatch (at ∷ []) latch-written (subst (SameEntries s) is-put (put_entries s at words node-has whole)) (head first_place (lit< tt)) (node-rest, tt)
        L.height (fill c (relatched k w u)) L.free
        (leaves-fill c (relatched k w u) ∙ sym (ap (leaves Leaf Mark h) is ∙ leaves-fill c u))
        (head height_place (lit< tt) ∙ H.fits.height)
        (head root_place (lit< tt) ∙ H.fits.root ∙ ap (num_of h) is ∙ num-fill c u ∙ sym (num-fill c (relatched k w u)))
        latch-fits
        (subst (λ i. Chained relatch m i L.free) (sym (head free_place (lit< tt))) (chained-keep s relatch m (header_word s free_place) L.free (same-apart s relatch (at ∷ []) latch-written L.free free-proper (node-free, tt)) H.fits.free))
        (λ i. ap (λ x. x + times i L.free) (times-fill c (relatched k w u) i ∙ sym (ap (λ x. times i (numbers h x)) is ∙ times-fill c u i)))
        p x' hands

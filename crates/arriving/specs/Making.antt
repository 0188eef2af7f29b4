-- A session makes the descriptor of its key in the gap before it, and its node is released.
use Rattle.std.specs.Prelude.{◌≡◌, List, [], ◌∷◌, ◌++◌, ℕ, suc, ◌+◌, ◌≤◌, ◌<◌, set}
use Rattle.std.proofs.Math.Path.{refl, sym, ap, subst}
use Rattle.std.proofs.Common.{ap₂, ◌∙◌, arith}
use Rattle.std.proofs.lemmas.List.{map-append}
use Rattle.std.proofs.Math.ListN.{length, get_or, length-append}
use Rattle.words.specs.Store.{HasRecord, word_of, has_kept}
use Rattle.words.specs.Header.{header_word, first_place, free_place}
use Rattle.nodes.specs.declared.Node.{Node}
use Rattle.nodes.specs.Node.{node_at, put_node, encode_node, decode_node}
use Rattle.nodes.specs.Node as NN
use Rattle.nodes.specs.Ops.{son_for, with_latch}
use Rattle.nodes.specs.Live.{Usable, latch-usable}
use Rattle.nodes.specs.Entries as N
use Rattle.groups.specs.declared.Descriptor.{Descriptor}
use Rattle.groups.specs.Descriptor.{descriptor_at, put_descriptor, encode_descriptor, decode_descriptor, descriptor-same, made_in, with_next_descriptor}
use Rattle.groups.specs.Descriptor as GD
use Rattle.chain.specs.Free.{pop_free}
use Rattle.sessions.specs.declared.Session.{Session}
use Rattle.sessions.specs.Sessions.{session_at}
use Rattle.machine.specs.Tree.{map_e, leaves}
use Rattle.machine.specs.Holders.{width, latch_word}
use Rattle.machine.specs.State.{top}
use Rattle.machine.specs.Sound.{times}
use Rattle.machine.specs.Order.{in-wide}
use Rattle.meaning.specs.Reading.{Chained, Leaf, Mark, numbers, erase, M-of, R-of}
use Rattle.meaning.specs.Sound.{All, Apart}
use Rattle.meaning.specs.Numbers.{all_append, all_left, all_right, all-as, all_both, all_map, all_in, all_from, not_in, in-times, times-append, apart-times, apart-left, apart-right, apart-all, one-is}
use Rattle.meaning.specs.Numbers as Nums
use Rattle.meaning.specs.Frame.{SameAt, SameWords, leaf_records, chain_words, desc_words}
use Rattle.meaning.specs.Around.{NCtx, fill, bound_in, numbers_around}
use Rattle.meaning.specs.Lens.{descs, leaves_before, leaves_behind}
use Rattle.meaning.specs.Writes.{put_other, put-others}
use Rattle.layout.specs.Layout.{means, Lay, leaves_in, firsts, members_of, undos_from, all_records, DescFits, NodeFits, TreeFits, GroupFits, Has, Marked, HandFits, member_of, lists_in, Holds}
use Rattle.layout.specs.Row.{Stands}
use Rattle.layout.specs.Written.{Written, pop-free}
use Rattle.layout.specs.Keep.{records-times, owned-most, own-rest, own-leaves, same-apart, groups-row, chained-keep, marked-fill, hand-as}
use Rattle.layout.specs.Places.{at_key}
use Rattle.layout.specs.Puts.{desc-next, desc-key, desc-locate, desc-update, desc-gap, desc-pins, desc-first, desc-fits, node-put}
use Rattle.layout.specs.Room.{Sizes, sizes-of, owned_in, owned-has}
use Rattle.layout.specs.Walks.{descs-fit, leaf-there}
use Rattle.layout.specs.LatchRows.{node-owned, node-around, node-free, node-rest, around-proper}
use Rattle.descents.specs.Descents.{beside, insert_leaf}
use Rattle.arriving.specs.Arriving.{make_at}
use Rattle.arriving.specs.Ready.{linked, MakeAble}
use Rattle.arriving.specs.Lowest.{Lowest, lowest, leaves_of}
use Rattle.arriving.specs.Site.{nums_of, site_low, site_high, site-leaves, site-open, site-usable, site-place}
use Rattle.arriving.specs.Edits.{Edit, edit-pop, edit-more, free_more}
use Rattle.arriving.specs.LeafRow.{cut-once, chain_more, leaf-owned, tree-rest, free-tree, free-members, free-undos, free-leaves, tree-relink, desc-words-fit, low_node, tree-renode, low-marked, named-apart, with_leaves, leaf-row}
use Rattle.arriving.specs.Beside.{made_leaf, Beside}
use Rattle.arriving.specs.Before.{in-mid, has-in-records, once-around, Pred, leaves_kept}
use Rattle.arriving.specs.Lists.{snoc, map_e-length, members-append, members-same, without_at, without_other, without-here, has_more, in-front, in-back, leaves-parts, session-room}

module _ (s : List ℕ) (t : List Session) (A : Stands s t) (p : ℕ) (nz : ¬ (p ≡ 0)) (P : Lowest A.lay t p) (Q : Pred s t A.lay (session_at t p).target)
    (B : Beside A.lay t p P (header_word s free_place) (descriptor_at s (M-of s) Q.leaf.num).gap) (f : List ℕ) (fr : A.lay.free ≡ header_word s free_place ∷ f) where
  abbrev L : Lay
  L = A.lay

  abbrev H : Holds s t A.lay
  H = A.holds

  abbrev m : ℕ
  m = M-of s

  abbrev x : ℕ
  x = (session_at t p).target

  abbrev c : NCtx 1 (suc A.lay.height)
  c = P.around

  abbrev es : List (Leaf × ℕ)
  es = P.pre ++ (P.leaf, P.bound) ∷ P.post

  abbrev n : ℕ
  n = P.mark.num

  abbrev a : ℕ
  a = header_word s free_place

  abbrev b : ℕ
  b = Q.leaf.num

  abbrev d : Descriptor
  d = descriptor_at s (M-of s) Q.leaf.num

  abbrev new : Leaf
  new = made_leaf (header_word s free_place) (session_at t p).target (descriptor_at s (M-of s) Q.leaf.num).gap

  abbrev D₁ : Descriptor
  D₁ = made_in d.gap x d.next

  abbrev D₂ : Descriptor
  D₂ = with_next_descriptor d a

  abbrev s₁ : List ℕ
  s₁ = pop_free s m

  abbrev s₂ : List ℕ
  s₂ = put_descriptor s₁ m a D₁

  abbrev s₃ : List ℕ
  s₃ = put_descriptor s₂ m b D₂

  abbrev q : Node
  q = node_at s m n

  abbrev q' : Node
  q' = with_latch (beside q (length (nums_of P.pre)) x P.leaf.desc.key a) 0

  abbrev s₄ : List ℕ
  s₄ = put_node s₃ m n q'

  abbrev g : ℕ → List (ℕ × ℕ)
  g = without_at a L.members

  abbrev pub made_lay : Lay
  made_lay = with_leaves L (fill c (low_node n 0 B.sons)) g f

  -- ---- the records written

  sizes : Sizes L
  sizes = sizes-of L t A.sound

  chain-a : Chained s m a (a ∷ f)
  chain-a = subst (Chained s m a) fr H.fits.free

  a-free : 1 ≤ times a L.free
  a-free = omega (arith, ap (times a) fr, one-is a a refl)

  a-owned : 1 ≤ times a (all_records L)
  a-owned = omega (arith, a-free, records-times L a)

  a-has : HasRecord s m a
  a-has = owned-has s t L H sizes a a-owned

  a-most : a ≤ R-of s
  a-most = omega (arith, (owned_in s t L H sizes a a-owned).1, H.fits.records)

  b-in : Nums.In b (leaf_records (leaves_in L))
  b-in = subst (λ ls. Nums.In b (leaf_records ls)) (sym Q.is) (in-mid Q.before Q.leaf Q.behind)

  b-tree : 1 ≤ times b (numbers (suc L.height) L.tree)
  b-tree = leaf-owned L b b-in

  b-owned : 1 ≤ times b (all_records L)
  b-owned = omega (arith, b-tree, records-times L b)

  b-has : HasRecord s m b
  b-has = owned-has s t L H sizes b b-owned

  b-most : b ≤ R-of s
  b-most = omega (arith, (owned_in s t L H sizes b b-owned).1, H.fits.records)

  n-owned : 1 ≤ times n (all_records L)
  n-owned = node-owned s t L H c (lowest P.mark P.pre P.leaf P.bound P.post) P.is

  n-has : HasRecord s m n
  n-has = owned-has s t L H sizes n n-owned

  n-most : n ≤ R-of s
  n-most = omega (arith, (owned_in s t L H sizes n n-owned).1, H.fits.records)

  n-rest : Apart n (leaf_records (leaves_in L) ++ (members_of L.members (leaves_in L) ++ undos_from L.undos 1 width))
  n-rest = node-rest s t L H c (lowest P.mark P.pre P.leaf P.bound P.post) P.is

  n-free : Apart n L.free
  n-free = node-free s t L H c (lowest P.mark P.pre P.leaf P.bound P.post) P.is

  not_a : (j : ℕ) → Nums.In j (leaf_records (leaves_in L)) → ¬ (j ≡ a)
  not_a j i z = not_in a (leaf_records (leaves_in L)) (free-leaves L H.owned a a-free) (subst (λ k. Nums.In k (leaf_records (leaves_in L))) z i)

  not-n : (j : ℕ) → Nums.In j (leaf_records (leaves_in L)) → ¬ (j ≡ n)
  not-n j i z = not_in n (leaf_records (leaves_in L)) (apart-left n (leaf_records (leaves_in L)) (members_of L.members (leaves_in L) ++ undos_from L.undos 1 width) n-rest)
      (subst (λ k. Nums.In k (leaf_records (leaves_in L))) z i)

  a-not-n : ¬ (a ≡ n)
  a-not-n z = not_in n L.free n-free (subst (λ k. Nums.In k L.free) z (in-times a L.free a-free))

  edit₁ : Edit s s₁ []
  edit₁ = edit-pop s m chain-a.1

  edit₂ : Edit s s₂ (a ∷ [])
  edit₂ = edit-more s s₁ [] edit₁ a (encode_descriptor D₁) a-has (GD.length-encode D₁) a-most

  edit₃ : Edit s s₃ (a ∷ b ∷ [])
  edit₃ = edit-more s s₂ (a ∷ []) edit₂ b (encode_descriptor D₂) b-has (GD.length-encode D₂) b-most

  edit₄ : Edit s s₄ (a ∷ b ∷ n ∷ [])
  edit₄ = edit-more s s₃ (a ∷ b ∷ []) edit₃ n (encode_node q') n-has (NN.length-encode q') n-most

  same₃ : (j : ℕ) → 1 ≤ j → ¬ (j ≡ a) → ¬ (j ≡ b) → SameAt s s₃ m j
  same₃ j h u v = edit₃.written.same j h (u, (v, tt))

  same₄ : (j : ℕ) → 1 ≤ j → ¬ (j ≡ a) → ¬ (j ≡ b) → ¬ (j ≡ n) → SameAt s s₄ m j
  same₄ j h u v w = edit₄.written.same j h (u, (v, (w, tt)))

  leaf-proper : (j : ℕ) → Nums.In j (leaf_records (leaves_in L)) → 1 ≤ j
  leaf-proper j i = all_in (λ k. 1 ≤ k) (leaf_records (leaves_in L)) (own-leaves L H.owned) j i

  has₁ : HasRecord s₁ m a
  has₁ = has_kept a-has edit₁.written.long

  has₂ : HasRecord s₂ m b
  has₂ = has_kept b-has edit₂.written.long

  has₃ : HasRecord s₃ m n
  has₃ = has_kept n-has edit₃.written.long

  node-last : (j : ℕ) → 1 ≤ j → ¬ (j ≡ n) → SameAt s₃ s₄ m j
  node-last j h w = put_other s₃ m n (encode_node q') has₃ (NN.length-encode q') j h (λ z. w (sym z))

  desc-a : descriptor_at s₄ m a ≡ D₁
  desc-a =
      let u : SameAt s₂ s₃ m a = put_other s₂ m b (encode_descriptor D₂) has₂ (GD.length-encode D₂) a a-has.first (not_a b b-in) in
      ap decode_descriptor (sym (u ∙ node-last a a-has.first a-not-n)) ∙ descriptor-same s₁ m a D₁ has₁

  desc-b₃ : descriptor_at s₃ m b ≡ D₂
  desc-b₃ = descriptor-same s₂ m b D₂ has₂

  desc-b : descriptor_at s₄ m b ≡ D₂
  desc-b = ap decode_descriptor (sym (node-last b b-has.first (not-n b b-in))) ∙ desc-b₃

  b-words : (s' : List ℕ) → descriptor_at s' m b ≡ D₂ → SameWords s s' m desc_words b
  unfolding with_next_descriptor
  b-words s' e = (
    sym (desc-key s m b) ∙ ap (λ z. z.key) (sym e) ∙ desc-key s' m b,
    (
      sym (desc-locate s m b) ∙ ap (λ z. z.locate) (sym e) ∙ desc-locate s' m b,
      (
        sym (desc-update s m b) ∙ ap (λ z. z.update) (sym e) ∙ desc-update s' m b,
        (
          sym (desc-gap s m b) ∙ ap (λ z. z.gap) (sym e) ∙ desc-gap s' m b,
          (sym (desc-pins s m b) ∙ ap (λ z. z.pins) (sym e) ∙ desc-pins s' m b, (sym (desc-first s m b) ∙ ap (λ z. z.first) (sym e) ∙ desc-first s' m b, tt)),
        ),
      ),
    ),
  )

  kept₃ : All (λ l. SameWords s s₃ m desc_words l.num) (leaves_in L)
  kept₃ = leaves_kept s s₃ m b (leaves_in L) (b-words s₃ desc-b₃) (λ j i v. same₃ j (leaf-proper j i) (not_a j i) v)

  kept₄ : All (λ l. SameWords s s₄ m desc_words l.num) (leaves_in L)
  kept₄ = leaves_kept s s₄ m b (leaves_in L) (b-words s₄ desc-b) (λ j i v. same₄ j (leaf-proper j i) (not_a j i) v (not-n j i))

  -- ---- where the new one stands

  cut-old : leaves_in L ≡ (leaves_before c ++ B.X) ++ (B.Y ++ leaves_behind c)
  cut-old = ap (leaves Leaf Mark (suc L.height)) P.is ∙ leaves-parts c n P.mark.word es B.X B.Y B.was

  cut-new : leaves_in made_lay ≡ (leaves_before c ++ B.X) ++ new ∷ (B.Y ++ leaves_behind c)
  cut-new = leaves-parts c n 0 B.sons B.X (new ∷ B.Y) B.is

  cuts : (leaves_before c ++ B.X ≡ Q.before ++ Q.leaf ∷ []) × (B.Y ++ leaves_behind c ≡ Q.behind)
  cuts =
      cut-once x (suc top) (leaves_before c ++ B.X) (B.Y ++ leaves_behind c) (Q.before ++ Q.leaf ∷ []) Q.behind (sym cut-old ∙ Q.is ∙ snoc Q.before Q.leaf Q.behind) B.low
      (in-wide (suc x) (suc top) x (suc top) (descs (B.Y ++ leaves_behind c)) B.high (omega arith) (omega arith)) Q.low Q.high

  pub leaves-made : leaves_in made_lay ≡ Q.before ++ Q.leaf ∷ new ∷ Q.behind
  leaves-made = cut-new ∙ ap₂ (λ u v. u ++ new ∷ v) cuts.0 cuts.1 ∙ sym (snoc Q.before Q.leaf (new ∷ Q.behind))

  pub made-has : (k e : ℕ) → Has k e (leaves_in L) → Has k e (leaves_in made_lay)
  made-has k e h = subst (Has k e) (sym cut-new) (has_more k e (leaves_before c ++ B.X) new (B.Y ++ leaves_behind c) (subst (Has k e) cut-old h))

  -- ---- the node and the tree

  usable : Usable q
  usable = subst (λ i. Usable (node_at s m i)) (sym P.num) (site-usable s t L H p P)

  place : son_for q x ≡ length (nums_of P.pre)
  place = subst (λ i. son_for (node_at s m i) x ≡ length (nums_of P.pre)) (sym P.num) (site-place s t L H p P)

  entries_q : N.entries q (bound_in c top) ≡ nums_of P.pre ++ (P.leaf.num, P.bound) ∷ nums_of P.post
  entries_q = (site-open s t L H p P).1.sons

  son : get_or q.sons (length (nums_of P.pre)) 0 ≡ P.leaf.num
  son = N.son-here usable (bound_in c top) (nums_of P.pre) P.leaf.num P.bound (nums_of P.post) entries_q

  key_word : word_of s₃ m P.leaf.num 1 ≡ P.leaf.desc.key
  key_word =
      let R : Leaf → Type 0 = λ l. SameWords s s₃ m desc_words l.num in
      let u = (all_right R (site_low s t L H p P) (P.leaf ∷ site_high s t L H p P) (subst (All R) (site-leaves s t L H p P) kept₃)).0 in
      let v = (all_right (DescFits s m) (site_low s t L H p P) (P.leaf ∷ site_high s t L H p P) (subst (All (DescFits s m)) (site-leaves s t L H p P) (descs-fit s t L H A.sound))).0 in
      sym u.0 ∙ v.key

  node-is : node_at s₃ m n ≡ q
  node-is = ap decode_node (sym (same₃ n n-has.first (λ z. a-not-n (sym z)) (λ z. not-n b b-in (sym z))))

  pub make-is : make_at s m n x b ≡ s₄
  unfolding make_at insert_leaf
  make-is =
      ap (λ z. put_node s₃ m n (with_latch (beside z (son_for z x) x (word_of s₃ m (get_or z.sons (son_for z x) 0) 1) a) 0)) node-is
      ∙ ap (λ i. put_node s₃ m n (with_latch (beside q i x (word_of s₃ m (get_or q.sons i 0) 1) a) 0)) place
      ∙ ap (λ k. put_node s₃ m n (with_latch (beside q (length (nums_of P.pre)) x k a) 0)) (ap (λ i. word_of s₃ m i 1) son ∙ key_word)

  room : q.count < 8
  unfolding erase
  room =
      let u = N.entries-length usable (bound_in c top) in
      let v = ap length entries_q in
      let w = length-append (nums_of P.pre) ((P.leaf.num, P.bound) ∷ nums_of P.post) in
      let r = session-room (means L t) p 0 (length (map_e (λ l. l.desc) es)) nz P.focus.room in
      omega (arith, u, v, w, r, map_e-length (λ l. l.desc) es, length-append P.pre ((P.leaf, P.bound) ∷ P.post), map_e-length (λ l. l.num) P.pre, map_e-length (λ l. l.num) P.post)

  node-fits : NodeFits s₄ m (bound_in c top) (record { num = n; word = 0 }) (nums_of B.sons)
  unfolding with_latch
  node-fits =
      let v = beside q (length (nums_of P.pre)) x P.leaf.desc.key a in
      let e = B.entries q (bound_in c top) usable entries_q room in
      let ok = latch-usable e.1 0 in
      subst (NodeFits s₄ m (bound_in c top) (record { num = n; word = 0 })) (N.latch-entries v 0 (bound_in c top) ∙ e.0) (node-put s₃ m n (bound_in c top) q' has₃ ok.sized ok.most)

  descs₄ : All (DescFits s₄ m) (leaves_in L)
  descs₄ = all_both {P = λ l. SameWords s s₄ m desc_words l.num} {Q = DescFits s m} {R = DescFits s₄ m} (λ l u v. desc-words-fit s s₄ m l u v) (leaves_in L) kept₄ (descs-fit s t L H A.sound)

  new-fits : DescFits s₄ m new
  unfolding made_in
  new-fits = desc-fits s₄ m new D₁ desc-a refl refl refl refl refl

  sons-fit : All (DescFits s₄ m) (leaves_of B.sons)
  sons-fit =
      let R = DescFits s₄ m in
      let u = subst (All R) cut-old descs₄ in
      subst (All R) (sym B.is) (all_append R B.X (new ∷ B.Y) (all_right R (leaves_before c) B.X (all_left R (leaves_before c ++ B.X) (B.Y ++ leaves_behind c) u))
      (new-fits, all_left R B.Y (leaves_behind c) (all_right R (leaves_before c ++ B.X) (B.Y ++ leaves_behind c) u)))

  tree₃ : TreeFits s₃ m (suc L.height) top L.tree
  tree₃ =
      let T = numbers (suc L.height) L.tree in
      tree-relink L H.owned Q.leaf.desc.key b (at_key L t A.sound Q.leaf.desc.key b Q.has) s s₃ m
      (λ j one i v. same₃ j one (λ z. not_in a T (free-tree L H.owned a a-free) (subst (λ k. Nums.In k T) z (in-times j T i))) v) (b-words s₃ desc-b₃) H.fits.tree

  tree₄ : TreeFits s₄ m (suc L.height) top (fill c (low_node n 0 B.sons))
  tree₄ =
      let u = lowest P.mark P.pre P.leaf P.bound P.post in
      tree-renode c s₃ s₄ m n P.mark.word 0 es B.sons
      (put-others s₃ m n (encode_node q') has₃ (NN.length-encode q') (numbers_around c) (around-proper s t L H c u P.is) (node-around s t L H c u P.is))
      node-fits sons-fit (subst (TreeFits s₃ m (suc L.height) top) P.is tree₃)

  -- The code can make it.
  pub make-able : MakeAble s m n x b
  unfolding linked
  make-able =
      let e : get_or (node_at s₃ m n).sons (son_for (node_at s₃ m n) x) 0 ≡ P.leaf.num = ap (λ z. get_or z.sons (son_for z x) 0) node-is ∙ ap (λ i. get_or q.sons i 0) place ∙ son in
      record {
        free = record { header = H.fits.header; first = λ z. a-has };
        some = chain-a.1;
        before = b-has;
        insert = record {
          node = has₃;
          least = subst (λ z. 1 ≤ z.count) (sym node-is) usable.least;
          room = subst (λ z. z.count < 8) (sym node-is) room;
          son = subst (HasRecord s₃ m) (sym e) (has_kept (leaf-there s t L H A.sound (site_low s t L H p P) P.leaf (site_high s t L H p P) (site-leaves s t L H p P)) edit₃.written.long);
        };
      }

  -- ---- the chain of descriptors

  apart-b : Apart b (leaf_records Q.before) × Apart b (leaf_records Q.behind)
  apart-b = once-around s t L H Q.before Q.leaf Q.behind Q.is

  same-part : (Y : List Leaf) → ((j : ℕ) → Nums.In j (leaf_records Y) → Nums.In j (leaf_records (leaves_in L))) → Apart b (leaf_records Y) → All (SameWords s s₄ m chain_words) (leaf_records Y)
  same-part Y sub ap-b = all_from (leaf_records Y) (λ j i. (
    ap (λ v. get_or v 0 0)
        (same₄ j (leaf-proper j (sub j i)) (not_a j (sub j i)) (λ z. not_in b (leaf_records Y) ap-b (subst (λ k. Nums.In k (leaf_records Y)) z i)) (not-n j (sub j i))),
    tt,
  ))

  next-b : word_of s₄ m b 0 ≡ a
  unfolding with_next_descriptor
  next-b = sym (desc-next s₄ m b) ∙ ap (λ z. z.next) desc-b

  next-a : word_of s₄ m a 0 ≡ word_of s m b 0
  unfolding made_in
  next-a = sym (desc-next s₄ m a) ∙ ap (λ z. z.next) desc-a ∙ desc-next s m b

  chained₄ : Chained s₄ m (header_word s first_place) (leaf_records (leaves_in made_lay))
  chained₄ =
      let i = header_word s first_place in
      let num : Leaf → ℕ = λ l. l.num in
      subst (λ ls. Chained s₄ m i (leaf_records ls)) (sym leaves-made) (subst (Chained s₄ m i) (sym (map-append num Q.before (Q.leaf ∷ new ∷ Q.behind)))
      (chain_more s s₄ m i (leaf_records Q.before) b a (leaf_records Q.behind)
      (subst (Chained s m i) (map-append num Q.before (Q.leaf ∷ Q.behind)) (subst (λ ls. Chained s m i (leaf_records ls)) Q.is H.fits.chained))
      (same-part Q.before (λ j u. subst (λ ls. Nums.In j (leaf_records ls)) (sym Q.is) (in-front j Q.before (Q.leaf ∷ Q.behind) u)) apart-b.0)
      (same-part Q.behind (λ j u. subst (λ ls. Nums.In j (leaf_records ls)) (sym (Q.is ∙ snoc Q.before Q.leaf Q.behind)) (in-back j (Q.before ++ Q.leaf ∷ []) Q.behind u)) apart-b.1)
      next-b next-a chain-a.1))

  -- ---- members

  not-as : All (λ l. ¬ (l.num ≡ a)) (leaves_in L)
  not-as = all-as {P = λ l. ¬ (a ≡ l.num)} {Q = λ l. ¬ (l.num ≡ a)} (λ l u z. u (sym z)) (leaves_in L)
      (all_map (λ l. l.num) (λ j. ¬ (a ≡ j)) (leaves_in L) (apart-all a (leaf_records (leaves_in L)) (free-leaves L H.owned a a-free)))

  lists_same : All (λ l. g l.num ≡ L.members l.num) (leaves_in L)
  lists_same = all-as {P = λ l. ¬ (l.num ≡ a)} {Q = λ l. g l.num ≡ L.members l.num} (λ l u. without_other a L.members l.num u) (leaves_in L) not-as

  members-made : members_of g (leaves_in made_lay) ≡ members_of L.members (leaves_in L)
  members-made =
      let R : Leaf → Type 0 = λ l. g l.num ≡ L.members l.num in
      let X = leaves_before c ++ B.X in
      let Y = B.Y ++ leaves_behind c in
      let u = subst (All R) cut-old lists_same in
      ap (members_of g) cut-new
      ∙ members-append g X (new ∷ Y)
      ∙ ap₂ (λ v w. v ++ w) (members-same L.members g X (all_left R X Y u))
      (ap₂ (λ v w. firsts v ++ w) (without-here a L.members) (members-same L.members g Y (all_right R X Y u)))
      ∙ sym (members-append L.members X Y)
      ∙ ap (members_of L.members) (sym cut-old)

  abbrev written : List ℕ
  written = a ∷ b ∷ n ∷ []

  members-apart : All (λ i. Apart i (members_of L.members (leaves_in L))) written
  members-apart =
      let X = leaf_records (leaves_in L) in
      let Y = members_of L.members (leaves_in L) in
      let Z = undos_from L.undos 1 width in
      (free-members L H.owned a a-free, (apart-left b Y (Z ++ L.free) (tree-rest L H.owned b b-tree), (apart-left n Y Z (apart-right n X (Y ++ Z) n-rest), tt)))

  undos-apart : All (λ i. Apart i (undos_from L.undos 1 width)) written
  undos-apart =
      let X = leaf_records (leaves_in L) in
      let Y = members_of L.members (leaves_in L) in
      let Z = undos_from L.undos 1 width in
      (free-undos L H.owned a a-free, (apart-left b Z L.free (apart-right b Y (Z ++ L.free) (tree-rest L H.owned b b-tree)), (apart-right n Y Z (apart-right n X (Y ++ Z) n-rest), tt)))

  groups-old : All (λ l. GroupFits s₄ m (L.members l.num) l) (leaves_in L)
  groups-old =
      let Y = members_of L.members (leaves_in L) in
      let one : ℕ → Type 0 = λ i. 1 ≤ i in
      groups-row s s₄ m L.members (leaves_in L)
      (all-as {P = λ l. SameWords s s₄ m desc_words l.num} {Q = λ l. word_of s m l.num 6 ≡ word_of s₄ m l.num 6} (λ l w. w.1.1.1.1.1.0) (leaves_in L) kept₄)
      (same-apart s s₄ written edit₄.written Y (all_left one Y (undos_from L.undos 1 width ++ L.free) (own-rest L H.owned)) members-apart) H.fits.groups

  group-new : GroupFits s₄ m (g a) new
  unfolding made_in
  group-new = subst (λ k. GroupFits s₄ m k new) (sym (without-here a L.members))
      record { chained = sym (desc-first s₄ m a) ∙ ap (λ z. z.first) desc-a; linked = tt; entries = tt; once = tt; gathered = refl }

  groups₄ : All (λ l. GroupFits s₄ m (g l.num) l) (leaves_in made_lay)
  groups₄ =
      let R : Leaf → Type 0 = λ l. GroupFits s₄ m (g l.num) l in
      let X = leaves_before c ++ B.X in
      let Y = B.Y ++ leaves_behind c in
      let u = all_both {P = λ l. g l.num ≡ L.members l.num} {Q = λ l. GroupFits s₄ m (L.members l.num) l} {R = R} (λ l e v. subst (λ k. GroupFits s₄ m k l) (sym e) v) (leaves_in L) lists_same groups-old in
      let v = subst (All R) cut-old u in
      subst (All R) (sym cut-new) (all_append R X (new ∷ Y) (all_left R X Y v) (group-new, all_right R X Y v))

  -- ---- free records

  free-head : header_word s₄ free_place ≡ word_of s m a 0
  free-head =
      free_more s s₃ (a ∷ b ∷ []) edit₃ n (encode_node q') n-has (NN.length-encode q')
      ∙ free_more s s₂ (a ∷ []) edit₂ b (encode_descriptor D₂) b-has (GD.length-encode D₂)
      ∙ free_more s s₁ [] edit₁ a (encode_descriptor D₁) a-has (GD.length-encode D₁)
      ∙ pop-free s m H.fits.header chain-a.1

  free_same : All (SameAt s s₄ m) f
  free_same =
      let one : ℕ → Type 0 = λ i. 1 ≤ i in
      let Y = members_of L.members (leaves_in L) in
      let Z = undos_from L.undos 1 width in
      let proper = all_right one Z L.free (all_right one Y (Z ++ L.free) (own-rest L H.owned)) in
      let far-a = apart-times a f (omega (arith, owned-most L H.owned a, records-times L a, ap (times a) fr, one-is a a refl)) in
      let far-b = (subst (Apart b) fr (apart-right b Z L.free (apart-right b Y (Z ++ L.free) (tree-rest L H.owned b b-tree)))).1 in
      same-apart s s₄ written edit₄.written f (subst (All one) fr proper).1 (far-a, (far-b, ((subst (Apart n) fr n-free).1, tt)))

  free₄ : Chained s₄ m (header_word s₄ free_place) f
  free₄ = subst (λ i. Chained s₄ m i f) (sym free-head) (chained-keep s s₄ m (word_of s m a 0) f free_same chain-a.2)

  count : (i : ℕ) → times i (leaf_records (leaves_of B.sons)) + (times i (members_of g (leaves_in made_lay)) + times i f)
      ≡ times i (leaf_records (leaves_of es)) + (times i (members_of L.members (leaves_in L)) + times i L.free)
  count i =
      let num : Leaf → ℕ = λ l. l.num in
      let u = ap (λ z. times i (leaf_records z)) B.is ∙ ap (times i) (map-append num B.X (new ∷ B.Y)) ∙ times-append i (leaf_records B.X) (leaf_records (new ∷ B.Y)) in
      let v = ap (λ z. times i (leaf_records z)) B.was ∙ ap (times i) (map-append num B.X B.Y) ∙ times-append i (leaf_records B.X) (leaf_records B.Y) in
      omega (arith, u, v, ap (times i) members-made, ap (times i) fr)

  -- ---- the whole

  pub made_holds : (x' : Session) → p ≤ width → x'.undo ≡ (session_at t p).undo → HandFits made_lay p x' → Holds s₄ (set t p x') made_lay
  made_holds x' l undo own =
      leaf-row s t L H c n P.mark.word es P.is s₄ written edit₄ undos-apart 0 B.sons g f tree₄ chained₄ groups₄ free₄ count p x' l undo own
      (λ k ne w h. hand-as L made_lay k (session_at t k) made-has
      (λ z y. marked-fill (session_at t k).level (session_at t k).at (latch_word k) c (low_node n P.mark.word es) (low_node n 0 B.sons)
      (low-marked (session_at t k).level (session_at t k).at (latch_word k) n P.mark.word 0 es B.sons (λ e. ne (omega (arith, sym P.word ∙ e))))
      (subst (Marked (session_at t k).level (session_at t k).at (latch_word k) (suc L.height)) P.is y)) h)
      (λ k w h. named-apart a (leaves_in L) (leaves_in made_lay) (λ i e u. (made-has i e u, not_a e (has-in-records i e (leaves_in L) u))) (L.undos (suc k)) (lists_in L) (lists_in made_lay)
      (λ e y u. ap (member_of y) (without_other a L.members e u)) h)

  pub made-written : Written s s₄ (a ∷ b ∷ n ∷ [])
  made-written = edit₄.written

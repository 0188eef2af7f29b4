-- Tidy removes the descriptor on the path: the words hold the layout without it.
use Rattle.std.specs.Prelude.{◌≡◌, refl, true, List, [], ◌∷◌, ◌++◌, map, ◌⊎◌, ℕ, suc, ◌+◌, ◌≤◌, length, set}
use Rattle.std.proofs.Math.Path.{sym, ap, subst}
use Rattle.std.proofs.Common.{◌∙◌, inl, inr, arith, length-append}
use Rattle.std.proofs.lemmas.List.{map-append}
use Rattle.std.proofs.Math.ListN.{get_or}
use Rattle.words.specs.Store.{HasRecord, word_of, has_kept}
use Rattle.words.specs.Header.{header_word, first_place, free_place}
use Rattle.nodes.specs.declared.Node.{Node}
use Rattle.nodes.specs.Node.{node_at, put_node, encode_node, decode_node}
use Rattle.nodes.specs.Node as NN
use Rattle.nodes.specs.Ops.{son_for, with_latch}
use Rattle.reshaping.specs.Ops.{remove_son}
use Rattle.nodes.specs.Live.{Usable, latch-usable}
use Rattle.nodes.specs.Entries as N
use Rattle.groups.specs.declared.Descriptor.{Descriptor}
use Rattle.groups.specs.Descriptor.{descriptor_at, put_descriptor, encode_descriptor, decode_descriptor, descriptor-same, with_next_descriptor}
use Rattle.groups.specs.Descriptor as GD
use Rattle.chain.specs.Free.{push_free}
use Rattle.sessions.specs.declared.Session.{Session}
use Rattle.sessions.specs.Sessions.{session_at}
use Rattle.serial.specs.Locks.{strong}
use Rattle.serial.specs.Locks as LK
use Rattle.machine.specs.Holders.{width, latch_word}
use Rattle.machine.specs.State.{top, session_of}
use Rattle.machine.specs.Sound.{times, pins_by, Undoable, cells}
use Rattle.machine.specs.View.{holders}
use Rattle.machine.specs.Order.{in-wide}
use Rattle.meaning.specs.Reading.{Chained, Leaf, numbers, M-of, R-of}
use Rattle.meaning.specs.Sound.{All, Apart}
use Rattle.meaning.specs.Numbers.{all_append, all_left, all_right, all-as, all_both, all_in, all_from, not_in, times-append, apart-times, apart-left, apart-right, one-is}
use Rattle.meaning.specs.Numbers as Nums
use Rattle.meaning.specs.Frame.{SameAt, SameWords, leaf_records, chain_words, desc_words}
use Rattle.meaning.specs.Around.{NCtx, fill, bound_in, numbers_around}
use Rattle.meaning.specs.Lens.{descs, leaves_before, leaves_behind}
use Rattle.meaning.specs.Writes.{put_other}
use Rattle.layout.specs.Layout.{Lay, leaves_in, firsts, members_of, undos_from, all_records, DescFits, NodeFits, TreeFits, GroupFits, Has, Marked, HandFits, lists_in, means, Holds}
use Rattle.layout.specs.Row.{Stands}
use Rattle.layout.specs.Written.{Written, push-free}
use Rattle.layout.specs.Keep.{records-times, owned-most, own-rest, own-leaves, same-apart, groups-row, chained-keep, marked-fill}
use Rattle.layout.specs.Places.{at_key, session-means}
use Rattle.layout.specs.Puts.{desc-next, desc-key, desc-locate, desc-update, desc-gap, desc-pins, desc-first, node-put, free-pushed}
use Rattle.layout.specs.Room.{Sizes, sizes-of, owned_in, owned-has}
use Rattle.layout.specs.Walks.{descs-fit}
use Rattle.layout.specs.LatchRows.{node-owned, node-around, node-free, node-rest, around-proper}
use Rattle.descents.specs.Descents.{remove_leaf}
use Rattle.arriving.specs.Arriving.{tidy_at}
use Rattle.arriving.specs.Lowest.{Lowest, lowest, leaves_of}
use Rattle.arriving.specs.Site.{nums_of, site_low, site_high, site-leaves, site-open, site-usable, site-place}
use Rattle.arriving.specs.Edits.{Edit, edit-put, edit-more, edit-then, edit-push, free-put, free_more}
use Rattle.arriving.specs.LeafRow.{cut-once, chain-less, leaf-owned, tree-rest, tree-relink, desc-words-fit, low_node, low-times, tree-renode, low-marked, with_leaves, leaf-row}
use Rattle.arriving.specs.Before.{in-mid, once-around, Pred, leaves_kept}
use Rattle.arriving.specs.Lists.{snoc, members-append, has-less, in-front, in-back, leaves-parts}
use Rattle.arriving.specs.Without.{Without, without-usable}
use Rattle.arriving.specs.Unnamed.{unheld, named-held, unpinned, low-other, high-other}

module _ (s : List ℕ) (t : List Session) (A : Stands s t) (p : ℕ) (P : Lowest A.lay t p) (Q : Pred s t A.lay (session_at t p).target) (key : P.leaf.desc.key ≡ (session_at t p).target)
    (B : Without (session_at t p).target P.pre P.leaf P.bound P.post) (two : 1 ≤ length P.pre + length P.post)
    (bare : A.lay.members P.leaf.num ≡ []) (unpin : P.leaf.desc.pins ≡ 0) (unlock : P.leaf.desc.update ≡ 0) where
  abbrev L : Lay
  L = A.lay

  abbrev H : Holds s t A.lay
  H = A.holds

  abbrev m : ℕ
  m = M-of s

  abbrev x : ℕ
  x = (session_at t p).target

  abbrev c : NCtx 1 (suc A.lay.height)
  c = P.around

  abbrev es : List (Leaf × ℕ)
  es = P.pre ++ (P.leaf, P.bound) ∷ P.post

  abbrev n : ℕ
  n = P.mark.num

  abbrev b : ℕ
  b = Q.leaf.num

  abbrev d : ℕ
  d = P.leaf.num

  abbrev D : Descriptor
  D = with_next_descriptor (descriptor_at s (M-of s) Q.leaf.num) (descriptor_at s (M-of s) P.leaf.num).next

  abbrev s₁ : List ℕ
  s₁ = put_descriptor s m b D

  abbrev q : Node
  q = node_at s m n

  abbrev q' : Node
  q' = with_latch (remove_son q (length (nums_of P.pre))) 0

  abbrev s₂ : List ℕ
  s₂ = put_node s₁ m n q'

  abbrev s₃ : List ℕ
  s₃ = push_free s₂ m d

  abbrev C : List Leaf
  C = site_low s t L H p P

  abbrev E : List Leaf
  E = site_high s t L H p P

  abbrev pub tidy_lay : Lay
  tidy_lay = with_leaves L (fill c (low_node n 0 B.sons)) L.members (d ∷ L.free)

  -- ---- where it stood

  cut-old : leaves_in L ≡ C ++ P.leaf ∷ E
  cut-old = site-leaves s t L H p P

  cut-new : leaves_in tidy_lay ≡ C ++ E
  cut-new = leaves-parts c n 0 B.sons (leaves_of P.pre) (leaves_of P.post) B.is

  cuts : (C ≡ Q.before ++ Q.leaf ∷ []) × (P.leaf ∷ E ≡ Q.behind)
  cuts =
      cut-once x (suc top) C (P.leaf ∷ E) (Q.before ++ Q.leaf ∷ []) Q.behind (sym cut-old ∙ Q.is ∙ snoc Q.before Q.leaf Q.behind) P.keys_low
      ((omega (arith, key), omega (arith, P.key_most)), in-wide (suc x) (suc top) x (suc top) (descs E) P.keys_high (omega arith) (omega arith)) Q.low Q.high

  leaves-tidy : leaves_in tidy_lay ≡ Q.before ++ Q.leaf ∷ E
  leaves-tidy = cut-new ∙ ap (λ z. z ++ E) cuts.0 ∙ sym (snoc Q.before Q.leaf E)

  leaves-old : leaves_in L ≡ Q.before ++ Q.leaf ∷ P.leaf ∷ E
  leaves-old = Q.is ∙ ap (λ z. Q.before ++ Q.leaf ∷ z) (sym cuts.1)

  -- ---- the records written

  sizes : Sizes L
  sizes = sizes-of L t A.sound

  owned-most-of : (j : ℕ) → 1 ≤ times j (all_records L) → j ≤ R-of s
  owned-most-of j i = omega (arith, (owned_in s t L H sizes j i).1, H.fits.records)

  b-in : Nums.In b (leaf_records (leaves_in L))
  b-in = subst (λ ls. Nums.In b (leaf_records ls)) (sym Q.is) (in-mid Q.before Q.leaf Q.behind)

  d-in : Nums.In d (leaf_records (leaves_in L))
  d-in = subst (λ ls. Nums.In d (leaf_records ls)) (sym cut-old) (in-mid C P.leaf E)

  b-tree : 1 ≤ times b (numbers (suc L.height) L.tree)
  b-tree = leaf-owned L b b-in

  d-tree : 1 ≤ times d (numbers (suc L.height) L.tree)
  d-tree = leaf-owned L d d-in

  b-owned : 1 ≤ times b (all_records L)
  b-owned = omega (arith, b-tree, records-times L b)

  d-owned : 1 ≤ times d (all_records L)
  d-owned = omega (arith, d-tree, records-times L d)

  n-owned : 1 ≤ times n (all_records L)
  n-owned = node-owned s t L H c (lowest P.mark P.pre P.leaf P.bound P.post) P.is

  b-has : HasRecord s m b
  b-has = owned-has s t L H sizes b b-owned

  d-has : HasRecord s m d
  d-has = owned-has s t L H sizes d d-owned

  n-has : HasRecord s m n
  n-has = owned-has s t L H sizes n n-owned

  n-rest : Apart n (leaf_records (leaves_in L) ++ (members_of L.members (leaves_in L) ++ undos_from L.undos 1 width))
  n-rest = node-rest s t L H c (lowest P.mark P.pre P.leaf P.bound P.post) P.is

  n-free : Apart n L.free
  n-free = node-free s t L H c (lowest P.mark P.pre P.leaf P.bound P.post) P.is

  not-n : (j : ℕ) → Nums.In j (leaf_records (leaves_in L)) → ¬ (j ≡ n)
  not-n j i z = not_in n (leaf_records (leaves_in L)) (apart-left n (leaf_records (leaves_in L)) (members_of L.members (leaves_in L) ++ undos_from L.undos 1 width) n-rest)
      (subst (λ k. Nums.In k (leaf_records (leaves_in L))) z i)

  apart-d : Apart d (leaf_records C) × Apart d (leaf_records E)
  apart-d = once-around s t L H C P.leaf E cut-old

  apart-b : Apart b (leaf_records Q.before) × Apart b (leaf_records Q.behind)
  apart-b = once-around s t L H Q.before Q.leaf Q.behind Q.is

  -- The descriptor before it is another.
  b-not-d : ¬ (b ≡ d)
  b-not-d z = not_in d (leaf_records C) apart-d.0 (subst (λ k. Nums.In k (leaf_records C)) z (subst (λ ls. Nums.In b (leaf_records ls)) (sym cuts.0) (in-mid Q.before Q.leaf [])))

  leaf-proper : (j : ℕ) → Nums.In j (leaf_records (leaves_in L)) → 1 ≤ j
  leaf-proper j i = all_in (λ k. 1 ≤ k) (leaf_records (leaves_in L)) (own-leaves L H.owned) j i

  edit₁ : Edit s s₁ (b ∷ [])
  edit₁ = edit-put s m b (encode_descriptor D) refl b-has (GD.length-encode D) (owned-most-of b b-owned)

  edit₂ : Edit s s₂ (b ∷ n ∷ [])
  edit₂ = edit-more s s₁ (b ∷ []) edit₁ n (encode_node q') n-has (NN.length-encode q') (owned-most-of n n-owned)

  has₁ : HasRecord s₁ m n
  has₁ = has_kept n-has edit₁.written.long

  has₂ : HasRecord s₂ m d
  has₂ = has_kept d-has edit₂.written.long

  push₃ : Edit s₂ s₃ (d ∷ [])
  push₃ = edit-push s₂ m d edit₂.written.entries has₂ (omega (arith, owned-most-of d d-owned, edit₂.written.records))

  edit₃ : Edit s s₃ (b ∷ n ∷ d ∷ [])
  edit₃ = edit-then s s₂ s₃ (b ∷ n ∷ []) (d ∷ []) edit₂ push₃

  same₁ : (j : ℕ) → 1 ≤ j → ¬ (j ≡ b) → SameAt s s₁ m j
  same₁ j h u = edit₁.written.same j h (u, tt)

  same₃ : (j : ℕ) → 1 ≤ j → ¬ (j ≡ b) → ¬ (j ≡ n) → ¬ (j ≡ d) → SameAt s s₃ m j
  same₃ j h u v w = edit₃.written.same j h (u, (v, (w, tt)))

  last₃ : (j : ℕ) → 1 ≤ j → ¬ (j ≡ d) → SameAt s₂ s₃ m j
  last₃ j h w = subst (λ k. SameAt s₂ s₃ k j) edit₂.written.entries (push₃.written.same j h (w, tt))

  node₂ : (j : ℕ) → 1 ≤ j → ¬ (j ≡ n) → SameAt s₁ s₂ m j
  node₂ j h w = put_other s₁ m n (encode_node q') has₁ (NN.length-encode q') j h (λ z. w (sym z))

  desc-b₁ : descriptor_at s₁ m b ≡ D
  desc-b₁ = descriptor-same s m b D b-has

  desc-b : descriptor_at s₃ m b ≡ D
  desc-b = ap decode_descriptor (sym (node₂ b b-has.first (not-n b b-in) ∙ last₃ b b-has.first b-not-d)) ∙ desc-b₁

  b-words : (s' : List ℕ) → descriptor_at s' m b ≡ D → SameWords s s' m desc_words b
  unfolding with_next_descriptor
  b-words s' e = (
    sym (desc-key s m b) ∙ ap (λ z. z.key) (sym e) ∙ desc-key s' m b,
    (
      sym (desc-locate s m b) ∙ ap (λ z. z.locate) (sym e) ∙ desc-locate s' m b,
      (
        sym (desc-update s m b) ∙ ap (λ z. z.update) (sym e) ∙ desc-update s' m b,
        (
          sym (desc-gap s m b) ∙ ap (λ z. z.gap) (sym e) ∙ desc-gap s' m b,
          (sym (desc-pins s m b) ∙ ap (λ z. z.pins) (sym e) ∙ desc-pins s' m b, (sym (desc-first s m b) ∙ ap (λ z. z.first) (sym e) ∙ desc-first s' m b, tt)),
        ),
      ),
    ),
  )

  -- A descriptor that stays.
  stay-in : (j : ℕ) → Nums.In j (leaf_records (C ++ E)) → Nums.In j (leaf_records (leaves_in L)) × ¬ (j ≡ d)
  stay-in j i = go (in_parts C i)
    where
      in_parts : (X : List Leaf) → Nums.In j (leaf_records (X ++ E)) → Nums.In j (leaf_records X) ⊎ Nums.In j (leaf_records E)
      in_parts [] i = inr i
      in_parts (y ∷ X) (inl e) = inl (inl e)
      in_parts (y ∷ X) (inr i) = onward (in_parts X i)
        where
          onward : Nums.In j (leaf_records X) ⊎ Nums.In j (leaf_records E) → Nums.In j (leaf_records (y ∷ X)) ⊎ Nums.In j (leaf_records E)
          onward (inl e) = inl (inr e)
          onward (inr e) = inr e

      go : Nums.In j (leaf_records C) ⊎ Nums.In j (leaf_records E) → Nums.In j (leaf_records (leaves_in L)) × ¬ (j ≡ d)
      go (inl e) = (subst (λ ls. Nums.In j (leaf_records ls)) (sym cut-old) (in-front j C (P.leaf ∷ E) e), λ z. not_in d (leaf_records C) apart-d.0 (subst (λ k. Nums.In k (leaf_records C)) z e))
      go (inr e) = (subst (λ ls. Nums.In j (leaf_records ls)) (sym (cut-old ∙ snoc C P.leaf E)) (in-back j (C ++ P.leaf ∷ []) E e), λ z. not_in d (leaf_records E) apart-d.1 (subst (λ k. Nums.In k (leaf_records E)) z e))

  kept₃ : All (λ l. SameWords s s₃ m desc_words l.num) (C ++ E)
  kept₃ = leaves_kept s s₃ m b (C ++ E) (b-words s₃ desc-b) (λ j i v. let u = stay-in j i in same₃ j (leaf-proper j u.0) v (not-n j u.0) u.1)

  stay_all : (R : Leaf → Type 0) → All R (leaves_in L) → All R (C ++ E)
  stay_all R u = let v = subst (All R) cut-old u in all_append R C E (all_left R C (P.leaf ∷ E) v) (all_right R C (P.leaf ∷ E) v).1

  -- ---- the node and the tree

  usable : Usable q
  usable = subst (λ i. Usable (node_at s m i)) (sym P.num) (site-usable s t L H p P)

  place : son_for q x ≡ length (nums_of P.pre)
  place = subst (λ i. son_for (node_at s m i) x ≡ length (nums_of P.pre)) (sym P.num) (site-place s t L H p P)

  entries_q : N.entries q (bound_in c top) ≡ nums_of P.pre ++ (P.leaf.num, P.bound) ∷ nums_of P.post
  entries_q = (site-open s t L H p P).1.sons

  nums-long : (l : List (Leaf × ℕ)) → length (nums_of l) ≡ length l
  nums-long [] = refl
  nums-long (e ∷ l) = ap suc (nums-long l)

  sons-two : 2 ≤ q.count
  sons-two = omega (arith, N.entries-length usable (bound_in c top), ap length entries_q, length-append (nums_of P.pre) ((P.leaf.num, P.bound) ∷ nums_of P.post), nums-long P.pre, nums-long P.post, two)

  node-is : node_at s₁ m n ≡ q
  node-is = ap decode_node (sym (same₁ n n-has.first (λ z. not-n b b-in (sym z))))

  pub tidy-is : tidy_at s m n x b d ≡ s₃
  unfolding tidy_at remove_leaf
  tidy-is = ap (λ z. push_free (put_node s₁ m n (with_latch (remove_son z (son_for z x)) 0)) m d) node-is ∙ ap (λ i. push_free (put_node s₁ m n (with_latch (remove_son q i) 0)) m d) place

  node-fits : NodeFits s₃ m (bound_in c top) (record { num = n; word = 0 }) (nums_of B.sons)
  unfolding with_latch
  node-fits =
      let v = remove_son q (length (nums_of P.pre)) in
      let ok = latch-usable (without-usable q usable (length (nums_of P.pre)) sons-two (N.place-in usable (bound_in c top) (nums_of P.pre) P.leaf.num P.bound (nums_of P.post) entries_q)) 0 in
      let F : NodeFits s₂ m (bound_in c top) (record { num = n; word = 0 }) (N.entries q' (bound_in c top)) = node-put s₁ m n (bound_in c top) q' has₁ ok.sized ok.most in
      let e : SameAt s₂ s₃ m n = last₃ n n-has.first (λ z. not-n d d-in (sym z)) in
      let G = N.latch-entries v 0 (bound_in c top) ∙ B.entries q (bound_in c top) usable entries_q in
      record {
        latch = sym (ap (λ w. get_or w 0 0) e) ∙ F.latch;
        few = subst (λ w. get_or w 1 0 ≤ 8) e F.few;
        sons = ap (λ w. N.entries (decode_node w) (bound_in c top)) (sym e) ∙ F.sons ∙ G;
      }

  descs₃ : All (DescFits s₃ m) (C ++ E)
  descs₃ = all_both {P = λ l. SameWords s s₃ m desc_words l.num} {Q = DescFits s m} {R = DescFits s₃ m} (λ l u v. desc-words-fit s s₃ m l u v) (C ++ E) kept₃
      (stay_all (DescFits s m) (descs-fit s t L H A.sound))

  sons-fit : All (DescFits s₃ m) (leaves_of B.sons)
  sons-fit =
      let R = DescFits s₃ m in
      subst (All R) (sym B.is) (all_append R (leaves_of P.pre) (leaves_of P.post) (all_right R (leaves_before c) (leaves_of P.pre) (all_left R C E descs₃))
      (all_left R (leaves_of P.post) (leaves_behind c) (all_right R C E descs₃)))

  tree₁ : TreeFits s₁ m (suc L.height) top L.tree
  tree₁ = tree-relink L H.owned Q.leaf.desc.key b (at_key L t A.sound Q.leaf.desc.key b Q.has) s s₁ m (λ j one i v. same₁ j one v) (b-words s₁ desc-b₁) H.fits.tree

  -- The record of the removed one is not around the node.
  d-around : Apart d (numbers_around c)
  d-around =
      let num : Leaf → ℕ = λ l. l.num in
      let e = ap (λ u. times d (numbers (suc L.height) u)) P.is ∙ low-times c n P.mark.word es d in
      let f = ap (times d) (ap leaf_records (map-append (λ z. z.0) P.pre ((P.leaf, P.bound) ∷ P.post)) ∙ map-append num (leaves_of P.pre) (P.leaf ∷ leaves_of P.post))
      ∙ times-append d (leaf_records (leaves_of P.pre)) (leaf_records (P.leaf ∷ leaves_of P.post)) in
      apart-times d (numbers_around c) (omega (arith, e, f, one-is d d refl, owned-most L H.owned d, records-times L d))

  tree₃ : TreeFits s₃ m (suc L.height) top (fill c (low_node n 0 B.sons))
  tree₃ =
      let u = lowest P.mark P.pre P.leaf P.bound P.post in
      let proper = around-proper s t L H c u P.is in
      let far = node-around s t L H c u P.is in
      let X = numbers_around c in
      tree-renode c s₁ s₃ m n P.mark.word 0 es B.sons
      (all_from {P = SameAt s₁ s₃ m} X (λ j i.
      let one = all_in (λ k. 1 ≤ k) X proper j i in
      node₂ j one (λ z. not_in n X far (subst (λ k. Nums.In k X) z i)) ∙ last₃ j one (λ z. not_in d X d-around (subst (λ k. Nums.In k X) z i))))
      node-fits sons-fit (subst (TreeFits s₁ m (suc L.height) top) P.is tree₁)

  -- ---- the chain of descriptors

  same-part : (Y : List Leaf) → ((j : ℕ) → Nums.In j (leaf_records Y) → Nums.In j (leaf_records (C ++ E))) → Apart b (leaf_records Y) → All (SameWords s s₃ m chain_words) (leaf_records Y)
  same-part Y sub ap-b = all_from (leaf_records Y) (λ j i.
      let u = stay-in j (sub j i) in
      (ap (λ v. get_or v 0 0) (same₃ j (leaf-proper j u.0) (λ z. not_in b (leaf_records Y) ap-b (subst (λ k. Nums.In k (leaf_records Y)) z i)) (not-n j u.0) u.1), tt))

  next-b : word_of s₃ m b 0 ≡ word_of s m d 0
  unfolding with_next_descriptor
  next-b = sym (desc-next s₃ m b) ∙ ap (λ z. z.next) desc-b ∙ desc-next s m d

  chained₃ : Chained s₃ m (header_word s first_place) (leaf_records (leaves_in tidy_lay))
  chained₃ =
      let i = header_word s first_place in
      let num : Leaf → ℕ = λ l. l.num in
      let behind : Apart b (leaf_records (P.leaf ∷ E)) = subst (λ z. Apart b (leaf_records z)) (sym cuts.1) apart-b.1 in
      subst (λ ls. Chained s₃ m i (leaf_records ls)) (sym leaves-tidy) (subst (Chained s₃ m i) (sym (map-append num Q.before (Q.leaf ∷ E)))
      (chain-less s s₃ m i (leaf_records Q.before) b d (leaf_records E)
      (subst (Chained s m i) (map-append num Q.before (Q.leaf ∷ P.leaf ∷ E)) (subst (λ ls. Chained s m i (leaf_records ls)) leaves-old H.fits.chained))
      (same-part Q.before (λ j u. subst (λ ls. Nums.In j (leaf_records (ls ++ E))) (sym cuts.0) (in-front j (Q.before ++ Q.leaf ∷ []) E (in-front j Q.before (Q.leaf ∷ []) u))) apart-b.0)
      (same-part E (λ j u. in-back j C E u) behind.1)
      next-b))

  -- ---- members

  members-tidy : members_of L.members (C ++ E) ≡ members_of L.members (leaves_in L)
  members-tidy =
      let g = L.members in
      members-append g C E
      ∙ ap (λ k. members_of g C ++ (firsts k ++ members_of g E)) (sym bare)
      ∙ sym (members-append g C (P.leaf ∷ E))
      ∙ ap (members_of g) (sym cut-old)

  abbrev written : List ℕ
  written = b ∷ n ∷ d ∷ []

  members-apart : All (λ i. Apart i (members_of L.members (leaves_in L))) written
  members-apart =
      let X = leaf_records (leaves_in L) in
      let Y = members_of L.members (leaves_in L) in
      let Z = undos_from L.undos 1 width in
      (apart-left b Y (Z ++ L.free) (tree-rest L H.owned b b-tree), (apart-left n Y Z (apart-right n X (Y ++ Z) n-rest), (apart-left d Y (Z ++ L.free) (tree-rest L H.owned d d-tree), tt)))

  undos-apart : All (λ i. Apart i (undos_from L.undos 1 width)) written
  undos-apart =
      let X = leaf_records (leaves_in L) in
      let Y = members_of L.members (leaves_in L) in
      let Z = undos_from L.undos 1 width in (
        apart-left b Z L.free (apart-right b Y (Z ++ L.free) (tree-rest L H.owned b b-tree)),
        (apart-right n Y Z (apart-right n X (Y ++ Z) n-rest), (apart-left d Z L.free (apart-right d Y (Z ++ L.free) (tree-rest L H.owned d d-tree)), tt)),
      )

  groups₃ : All (λ l. GroupFits s₃ m (L.members l.num) l) (leaves_in tidy_lay)
  groups₃ =
      let Y = members_of L.members (leaves_in L) in
      let one : ℕ → Type 0 = λ i. 1 ≤ i in
      let R : Leaf → Type 0 = λ l. GroupFits s₃ m (L.members l.num) l in
      let same = same-apart s s₃ written edit₃.written Y (all_left one Y (undos_from L.undos 1 width ++ L.free) (own-rest L H.owned)) members-apart in
      subst (All R) (sym cut-new)
      (groups-row s s₃ m L.members (C ++ E)
      (all-as {P = λ l. SameWords s s₃ m desc_words l.num} {Q = λ l. word_of s m l.num 6 ≡ word_of s₃ m l.num 6} (λ l w. w.1.1.1.1.1.0) (C ++ E) kept₃)
      (subst (All (SameAt s s₃ m)) (sym members-tidy) same) (stay_all (λ l. GroupFits s m (L.members l.num) l) H.fits.groups))

  -- ---- free records

  free-proper : All (λ i. 1 ≤ i) L.free
  free-proper =
      let one : ℕ → Type 0 = λ i. 1 ≤ i in
      let Y = members_of L.members (leaves_in L) in
      let Z = undos_from L.undos 1 width in
      all_right one Z L.free (all_right one Y (Z ++ L.free) (own-rest L H.owned))

  free-apart : (j : ℕ) → 1 ≤ times j (numbers (suc L.height) L.tree) → Apart j L.free
  free-apart j i =
      let Y = members_of L.members (leaves_in L) in
      let Z = undos_from L.undos 1 width in
      apart-right j Z L.free (apart-right j Y (Z ++ L.free) (tree-rest L H.owned j i))

  free₂ : Chained s₂ m (header_word s₂ free_place) L.free
  free₂ =
      let e : header_word s₂ free_place ≡ header_word s free_place =
      free_more s s₁ (b ∷ []) edit₁ n (encode_node q') n-has (NN.length-encode q') ∙ free-put s m b (encode_descriptor D) refl b-has (GD.length-encode D) in
      subst (λ i. Chained s₂ m i L.free) (sym e)
      (chained-keep s s₂ m (header_word s free_place) L.free (same-apart s s₂ (b ∷ n ∷ []) edit₂.written L.free free-proper (free-apart b b-tree, (n-free, tt))) H.fits.free)

  free₃ : Chained s₃ m (header_word s₃ free_place) (d ∷ L.free)
  free₃ =
      let e : M-of s₂ ≡ m = edit₂.written.entries in
      subst (λ k. HasRecord s₂ k d → Chained s₂ k (header_word s₂ free_place) L.free → Chained (push_free s₂ k d) k (header_word (push_free s₂ k d) free_place) (d ∷ L.free)) e
      (λ h u. subst (λ i. Chained (push_free s₂ (M-of s₂) d) (M-of s₂) i (d ∷ L.free)) (sym (push-free s₂ d h (subst (λ k. 16 ≤ k) (sym edit₂.written.long) H.fits.header)))
      (free-pushed s₂ d L.free h u free-proper (free-apart d d-tree)))
      has₂ free₂

  count : (i : ℕ) → times i (leaf_records (leaves_of B.sons)) + (times i (members_of L.members (leaves_in tidy_lay)) + times i (d ∷ L.free))
      ≡ times i (leaf_records (leaves_of es)) + (times i (members_of L.members (leaves_in L)) + times i L.free)
  count i =
      let num : Leaf → ℕ = λ l. l.num in
      let X = leaves_of P.pre in
      let Y = leaves_of P.post in
      let u = ap (λ z. times i (leaf_records z)) B.is ∙ ap (times i) (map-append num X Y) ∙ times-append i (leaf_records X) (leaf_records Y) in
      let v = ap (times i) (ap leaf_records (map-append (λ z. z.0) P.pre ((P.leaf, P.bound) ∷ P.post)) ∙ map-append num X (P.leaf ∷ Y)) ∙ times-append i (leaf_records X) (leaf_records (P.leaf ∷ Y)) in
      omega (arith, u, v, ap (times i) (ap (members_of L.members) cut-new ∙ members-tidy))

  -- ---- what is named

  tidy-has : (k e : ℕ) → ¬ (x ≡ k) → Has k e (leaves_in L) → Has k e (leaves_in tidy_lay)
  tidy-has k e ne h = subst (Has k e) (sym cut-new) (has-less k e C P.leaf E (λ z. ne (sym key ∙ z)) (subst (Has k e) cut-old h))

  pins-none : (k : ℕ) → pins_by x (session_of k (means L t)) ≡ 0
  pins-none k = unpinned L t A.sound x C P.leaf E cut-old P.keys_low key unpin k

  others : (k : ℕ) → ¬ (k ≡ p) → k ≤ width → HandFits L k (session_at t k) → HandFits tidy_lay k (session_at t k)
  others k ne w h =
      let y = session_at t k in
      record {
        stage = h.stage;
        at-node = λ e. marked-fill y.level y.at (latch_word k) c (low_node n P.mark.word es) (low_node n 0 B.sons)
            (low-marked y.level y.at (latch_word k) n P.mark.word 0 es B.sons (λ e. ne (omega (arith, sym P.word ∙ e))))
            (subst (Marked y.level y.at (latch_word k) (suc L.height)) P.is (h.at-node e));
        low = λ live e. tidy-has y.first y.low (low-other L t H.seats A.sound k w live h.stage x (pins-none k) e) (h.low live e);
        high = λ e u. tidy-has y.second y.high (high-other L t H.seats A.sound k w (λ z. omega (arith, z, e)) h.stage x (pins-none k) e u) (h.high e u);
        last = h.last;
      }

  undos-are : (k : ℕ) → suc k ≤ width → (session_of (suc k) (means L t)).undos ≡ map (λ u. u.undo) (L.undos (suc k))
  undos-are k w = ap (λ z. z.undos) (session-means L t (suc k) (omega (arith, H.seats, w)))

  -- ---- the whole

  pub tidy-holds : (x' : Session) → p ≤ width → x'.undo ≡ (session_at t p).undo → HandFits tidy_lay p x' → Holds s₃ (set t p x') tidy_lay
  tidy-holds x' l undo own =
      leaf-row s t L H c n P.mark.word es P.is s₃ written edit₃ undos-apart 0 B.sons L.members (d ∷ L.free) tree₃ chained₃ groups₃ free₃ count p x' l undo own others
      (λ k w h. named-held (means L t) (suc k) (leaves_in L) (leaves_in tidy_lay)
      (λ i e held u. tidy-has i e (λ z. unheld L t x C P.leaf E cut-old P.keys_low key unlock (suc k) (subst (λ v. holders (means L t) LK.group strong (suc k) v ≡ true) (sym z) held)) u)
      (L.undos (suc k)) (lists_in L) (cells (means L t)) (subst (λ v. Undoable (suc k) (means L t) v (cells (means L t))) (undos-are k w) (A.sound.undoable (suc k))) h)

  pub tidy-written : Written s s₃ (b ∷ n ∷ d ∷ [])
  tidy-written = edit₃.written

-- The root: entered as it is, split under a new one, dropped where its lone son is a node.
use Rattle.std.specs.Prelude.{◌≡◌, Bool, true, false, cond, ◌⊎◌, leb, length, set, take, drop}
use Rattle.std.proofs.Math.Path.{refl, sym, ap, subst}
use Rattle.std.proofs.Common.{◌∙◌, inl, inr, lit<}
use mathlib.Core.List.{List, [], ◌∷◌, ◌++◌, append-nil, map}
use Prim.Native.Nat.{ℕ, suc, ◌+◌, ◌≤◌}
use native.Mathlib.Omega.{arith}
use Rattle.std.proofs.Math.ListN.{get_or}
use Rattle.words.specs.Store.{HasRecord, word_of}
use Rattle.words.specs.Header.{header_word, put_header_word, root_place, height_place, first_place, free_place}
use Rattle.words.specs.Frames.{header-same, header-other, header-record}
use Rattle.nodes.specs.declared.Node.{Node}
use Rattle.reshaping.specs.declared.Neighbours.{Neighbours}
use Rattle.nodes.specs.Node.{node_at, put_node, decode_node}
use Rattle.nodes.specs.Ops.{with_latch, latch_at, lone_node}
use Rattle.reshaping.specs.Ops.{split_node, insert_behind, insert_son}
use Rattle.nodes.specs.Live.{Usable}
use Rattle.reshaping.specs.Live.{left-usable, right-usable, insert-usable}
use Rattle.nodes.specs.Entries as N
use Rattle.nodes.specs.Entries.{entries-length, lone-entries}
use Rattle.reshaping.specs.Entries.{behind-entries, split-left, split-up, split-right}
use Rattle.chain.specs.Free.{pop_free}
use Rattle.sessions.specs.declared.Session.{Session}
use Rattle.sessions.specs.Sessions.{session_at}
use Rattle.machine.specs.Tree.{map_e, flat, leaves}
use Rattle.machine.specs.Holders.{width, latch_word}
use Rattle.machine.specs.State.{top}
use Rattle.machine.specs.Descent.{Sons, node, halves}
use Rattle.machine.specs.InTheWay.{Free}
use Rattle.machine.specs.Parts.{free_other}
use Rattle.machine.specs.Sound.{times}
use Rattle.meaning.specs.Reading.{Chained, Leaf, Mark, Numbered, erase, numbers, node_numbers, M-of}
use Rattle.meaning.specs.Sound.{All}
use Rattle.meaning.specs.Numbers.{times-append, all-as}
use Rattle.meaning.specs.Around.{here, num_of}
use Rattle.layout.specs.Layout.{Lay, leaves_in, Each, NodeFits, TreeFits, SomeSon, Marked, Holds}
use Rattle.layout.specs.Written.{Written, SameEntries, written_then, entries-then, head-written, head-entries}
use Rattle.layout.specs.Keep.{with_tree, Hands, tree-row, chained-keep}
use Rattle.layout.specs.Puts.{node-fits}
use Rattle.layout.specs.Room.{Sizes}
use Rattle.layout.specs.LatchRows.{relatched, latch-put, latch-written}
use Rattle.walking.specs.Traces.{Trace, trace-none, trace-node, trace-pop, trace-has, three-first, three-second, three_third}
use Rattle.walking.specs.Holes.{fits-usable, Ours, hole-most, ours-has, ours_in, ours-far, part-keep, sons-keep}
use Rattle.walking.specs.Hands.{nd, standing_at, own-hand, some-cut, marked-below, marked-under, marked-self, node-times, flat-times, one-self}
use Rattle.walking.specs.Levels.{length-map_e, map_e-take, map_e-drop, map_e-bounds, take-drop, flat-halves, each-split, numbers-law, nodes-law, sized-latch, latch-fits}

-- ---- the header's root and height

-- As Trace, with r the root and h the height.
pub record Topped (s s' : List ℕ) (W : List ℕ) (f r h : ℕ) : Type 0 where
  pub written : Written s s' W
  pub ents : SameEntries s s'
  pub first : header_word s' first_place ≡ header_word s first_place
  pub free : header_word s' free_place ≡ f
  pub root : header_word s' root_place ≡ r
  pub height : header_word s' height_place ≡ h

abbrev pub put_top : List ℕ → ℕ → ℕ → List ℕ
put_top s r h = put_header_word (put_header_word s root_place r) height_place h

module _ (s s₁ : List ℕ) (W : List ℕ) (f : ℕ) (T : Trace s s₁ W f) (r h : ℕ) (long : 16 ≤ length s) where
  long₁ : 16 ≤ length s₁
  long₁ = subst (λ n. 16 ≤ n) (sym T.written.long) long

  pub topped : Topped s (put_top s₁ r h) (W ++ []) f r h
  topped =
      let s₂ = put_header_word s₁ root_place r in
      let s₃ = put_header_word s₂ height_place h in
      let a = head-written s₁ root_place r (omega arith) (lit< tt) in
      let b = head-written s₂ height_place h (omega arith) (lit< tt) in
      let other : (k : ℕ) → ¬ (k ≡ root_place) → ¬ (k ≡ height_place) → header_word s₃ k ≡ header_word s₁ k = λ k n o. header-other s₂ height_place h (lit< tt) k o ∙ header-other s₁ root_place r (lit< tt) k n in
      record {
        written = written_then s s₁ s₃ W [] T.written (written_then s₁ s₂ s₃ [] [] a b);
        ents = entries-then s s₁ s₃ T.written.entries T.ents
            (entries-then s₁ s₂ s₃ a.entries (head-entries s₁ root_place r (omega arith) (lit< tt)) (head-entries s₂ height_place h (omega arith) (lit< tt)));
        first = other first_place (λ e. omega (arith, e)) (λ e. omega (arith, e)) ∙ T.head first_place (lit< tt) (λ e. omega (arith, e));
        free = other free_place (λ e. omega (arith, e)) (λ e. omega (arith, e)) ∙ T.free;
        root = header-other s₂ height_place h (lit< tt) root_place (λ e. omega (arith, e)) ∙ header-same s₁ root_place r (lit< tt) long₁;
        height = header-same s₂ height_place h (lit< tt) (subst (λ n. 16 ≤ n) (sym a.long) long₁);
      }

-- ---- a whole tree replaced

module _ (s : List ℕ) (t : List Session) (L : Lay) (H : Holds s t L) where
  pub root-row : (s' : List ℕ) (W : List ℕ) (f r g : ℕ) → Topped s s' W f r g → All (Ours L (suc L.height) L.tree) W → (h' : ℕ) (T' : Numbered (suc h')) (f' : List ℕ)
      → leaves Leaf Mark (suc h') T' ≡ leaves_in L → g ≡ suc h' → r ≡ num_of (suc h') T' → TreeFits s' (M-of s) (suc h') top T' → Chained s' (M-of s) f f'
      → ((i : ℕ) → times i (numbers (suc h') T') + times i f' ≡ times i (numbers (suc L.height) L.tree) + times i L.free)
      → (p : ℕ) (x' : Session) → Hands L t (with_tree L h' T' f') p x' → Holds s' (set t p x') (with_tree L h' T' f')
  root-row s' W f r g T ours h' T' f' same eh er fits free count p x' hands =
      tree-row s t L H s' W T.written T.ents T.first (all-as (λ i q. ours-far s t L H here L.tree refl i q) W ours) h' T' f' same
      (T.height ∙ eh) (T.root ∙ er) fits (subst (λ i. Chained s' (M-of s) i f') (sym T.free) free) count p x' hands

-- ---- entered as it is

module _ (s : List ℕ) (t : List Session) (L : Lay) (H : Holds s t L) (Z : Sizes L) (p : ℕ) (l : p ≤ width) (st : (session_at t p).stage ≡ 2) (fr : Free p L.tree.latch.word) where
  abbrev pub entered_tree : Numbered (suc L.height)
  entered_tree = relatched L.height (latch_word p) L.tree

  abbrev pub entered_words : List ℕ
  entered_words = latch_at s (M-of s) L.tree.latch.num (latch_word p)

  pub entered-written : Written s entered_words (L.tree.latch.num ∷ [])
  entered-written = latch-written s t L H here L.tree refl Z (latch_word p)

  pub entered-holds : Holds entered_words (set t p (standing_at (session_at t p) L.tree.latch.num (suc L.height))) (with_tree L L.height entered_tree L.free)
  unfolding leaves
  entered-holds =
      let w = latch_word p in
      latch-put s t L H here L.tree refl Z w p (standing_at (session_at t p) L.tree.latch.num (suc L.height))
      record {
        party = l;
        undo = refl;
        own = own-hand L (with_tree L L.height entered_tree L.free) p (session_at t p) L.tree.latch.num (suc L.height) (inl st) refl
            (marked-self L.tree.latch.num w L.height L.tree.sons) (H.hands p l);
        others = λ q ne k g N. marked-under (session_at t q).level (session_at t q).at (latch_word q) L.height entered_tree
            (marked-below (session_at t q).level (session_at t q).at (latch_word q) L.height L.tree (free_other p q L.tree.latch.word (λ z. ne (sym z)) fr) N);
      }

-- ---- split under a new root

module _ (s : List ℕ) (t : List Session) (L : Lay) (H : Holds s t L) (Z : Sizes L) (w x f₁ f₂ : ℕ) (f' : List ℕ) (fr : L.free ≡ f₁ ∷ f₂ ∷ f') (full : length L.tree.sons ≡ 8) where
  abbrev u : Numbered (suc L.height)
  u = L.tree

  abbrev k : ℕ
  k = L.height

  abbrev m : ℕ
  m = M-of s

  abbrev r : ℕ
  r = u.latch.num

  abbrev halved : Neighbours
  halved = split_node (node_at s m r)

  abbrev pub root_mid : ℕ
  root_mid = get_or (map (λ p. p.1) u.sons) 3 0

  abbrev wl : ℕ
  wl = cond (leb x root_mid) w 0

  abbrev wr : ℕ
  wr = cond (leb x root_mid) 0 w

  abbrev nl : Node
  nl = with_latch halved.left wl

  abbrev nr : Node
  nr = with_latch halved.right wr

  abbrev np : Node
  np = insert_behind (lone_node r) 0 root_mid f₁

  abbrev s₀ : List ℕ
  s₀ = pop_free (pop_free s m) m

  abbrev s₃ : List ℕ
  s₃ = put_node (put_node (put_node s₀ m r nl) m f₁ nr) m f₂ np

  abbrev pub root_words : List ℕ
  root_words = put_top s₃ f₂ (suc (suc k))

  abbrev pub left_half : Numbered (suc k)
  left_half = nd (record { num = r; word = wl }) (take 4 u.sons)

  abbrev pub right_half : Numbered (suc k)
  right_half = nd (record { num = f₁; word = wr }) (drop 4 u.sons)

  abbrev pub root_node : Numbered (suc (suc k))
  root_node = nd (record { num = f₂; word = 0 }) ((left_half, root_mid) ∷ (right_half, top) ∷ [])

  Chain : Type 0
  Chain = (header_word s free_place ≡ f₁) × ¬ (header_word s free_place ≡ 0) × (word_of s m (header_word s free_place) 0 ≡ f₂) × ¬ (word_of s m (header_word s free_place) 0 ≡ 0)
      × Chained s m (word_of s m (word_of s m (header_word s free_place) 0) 0) f'

  free-cut : Chain
  unfolding Chain
  free-cut = let c = subst (Chained s m (header_word s free_place)) fr H.fits.free in (c.0, c.1, c.2.0, c.2.1, c.2.2)

  free-times : (i : ℕ) → times i L.free ≡ times i (f₁ ∷ []) + (times i (f₂ ∷ []) + times i f')
  free-times i = ap (times i) fr ∙ omega arith

  most : (i : ℕ) → times i (numbers (suc k) u) + times i L.free ≤ 1
  most = hole-most s t L H here u refl

  tree-times : (i : ℕ) → times i (numbers (suc k) u) ≡ times i (r ∷ []) + times i (flat (numbers k) u.sons)
  tree-times i = node-times numbers numbers-law k u i

  r-ours : Ours L (suc k) u r
  r-ours = omega (arith, node-times node_numbers nodes-law k u r, one-self r)

  f₁-ours : Ours L (suc k) u f₁
  f₁-ours = omega (arith, free-times f₁, one-self f₁)

  f₂-ours : Ours L (suc k) u f₂
  f₂-ours = omega (arith, free-times f₂, one-self f₂)

  r-f₁ : ¬ (r ≡ f₁)
  r-f₁ e = omega (arith, tree-times r, most r, one-self r, free-times r, ap (λ j. times r (j ∷ [])) (sym e))

  r-f₂ : ¬ (r ≡ f₂)
  r-f₂ e = omega (arith, tree-times r, most r, one-self r, free-times r, ap (λ j. times r (j ∷ [])) (sym e))

  f₁-f₂ : ¬ (f₁ ≡ f₂)
  f₁-f₂ e = omega (arith, most f₁, one-self f₁, free-times f₁, ap (λ j. times f₁ (j ∷ [])) (sym e))

  -- Nowhere below the root, nor among the other free records.
  Gone : ℕ → Type 0
  Gone i = (times i (flat (numbers k) u.sons) ≡ 0) × (times i f' ≡ 0)

  r-gone : Gone r
  unfolding Gone
  r-gone = (omega (arith, tree-times r, most r, one-self r, free-times r), omega (arith, tree-times r, most r, one-self r, free-times r))

  f₁-gone : Gone f₁
  unfolding Gone
  f₁-gone = (omega (arith, tree-times f₁, most f₁, one-self f₁, free-times f₁), omega (arith, tree-times f₁, most f₁, one-self f₁, free-times f₁))

  f₂-gone : Gone f₂
  unfolding Gone
  f₂-gone = (omega (arith, tree-times f₂, most f₂, one-self f₂, free-times f₂), omega (arith, tree-times f₂, most f₂, one-self f₂, free-times f₂))

  abbrev last_word : ℕ
  last_word = word_of s m (word_of s m (header_word s free_place) 0) 0

  abbrev W : List ℕ
  W = r ∷ f₁ ∷ f₂ ∷ []

  popped₁ : Trace s (pop_free s m) [] (word_of s m (header_word s free_place) 0)
  unfolding Chain
  popped₁ = trace-pop s s [] (header_word s free_place) (trace-none s) H.fits.header free-cut.1

  -- A pop writes no record.
  pop-same : word_of (pop_free s m) m (word_of s m (header_word s free_place) 0) 0 ≡ last_word
  unfolding Chain
  pop-same = sym (ap (λ v. get_or v 0 0) (popped₁.written.same (word_of s m (header_word s free_place) 0) (omega (arith, free-cut.3)) tt))

  popped : Trace s s₀ [] last_word
  unfolding Chain
  popped = subst (Trace s s₀ []) pop-same (trace-pop s (pop_free s m) [] (word_of s m (header_word s free_place) 0) popped₁ H.fits.header free-cut.3)

  halves-trace : Trace s s₃ W last_word
  halves-trace =
      let has = ours-has s t L H here u refl Z in
      let l = ours_in s t L H here u refl Z in
      let t₁ = trace-node s s₀ [] last_word popped r nl (has r r-ours) (l r r-ours) in
      let t₂ = trace-node s (put_node s₀ m r nl) (r ∷ []) last_word t₁ f₁ nr (has f₁ f₁-ours) (l f₁ f₁-ours) in
      trace-node s (put_node (put_node s₀ m r nl) m f₁ nr) (r ∷ f₁ ∷ []) last_word t₂ f₂ np (has f₂ f₂-ours) (l f₂ f₂-ours)

  pub root-topped : Topped s root_words W last_word f₂ (suc (suc k))
  root-topped = topped s s₃ W last_word halves-trace f₂ (suc (suc k)) H.fits.header

  fits-root : NodeFits s m top u.latch (map_e (num_of k) u.sons)
  unfolding TreeFits
  fits-root = H.fits.tree.0

  fits-sons : Each (TreeFits s m k) u.sons
  unfolding TreeFits
  fits-sons = H.fits.tree.1

  root-usable : Usable (node_at s m r)
  root-usable = fits-usable s m top u.latch (map_e (num_of k) u.sons) fits-root (omega (arith, length-map_e (num_of k) u.sons, full))

  count-8 : (node_at s m r).count ≡ 8
  count-8 = sym (entries-length root-usable top) ∙ ap length fits-root.sons ∙ length-map_e (num_of k) u.sons ∙ full

  up_is : halved.up ≡ root_mid
  up_is = split-up root-usable count-8 top ∙ ap (λ l. get_or (map (λ p. p.1) l) 3 0) fits-root.sons ∙ ap (λ l. get_or l 3 0) (map_e-bounds (num_of k) u.sons)

  left-entries : N.entries halved.left root_mid ≡ map_e (num_of k) (take 4 u.sons)
  left-entries = ap (N.entries halved.left) (sym up_is) ∙ split-left root-usable count-8 top ∙ ap (λ l. take 4 l) fits-root.sons ∙ sym (map_e-take (num_of k) 4 u.sons)

  right-entries : N.entries halved.right top ≡ map_e (num_of k) (drop 4 u.sons)
  right-entries = split-right root-usable count-8 top ∙ ap (λ l. drop 4 l) fits-root.sons ∙ sym (map_e-drop (num_of k) 4 u.sons)

  lone-usable : Usable (lone_node r)
  unfolding lone_node
  lone-usable = record { sized = record { bounds = refl; sons = refl }; least = omega arith; most = omega arith }

  lone-count : (lone_node r).count ≡ 1
  unfolding lone_node
  lone-count = refl

  np-usable : Usable np
  np-usable = insert-usable lone-usable 0 root_mid 1 f₁ (omega (arith, lone-count)) (omega (arith, lone-count)) (omega (arith, lone-count))

  np-entries : N.entries np top ≡ (r, root_mid) ∷ (f₁, top) ∷ []
  np-entries = behind-entries lone-usable top [] r top [] (lone-entries r top) (omega (arith, lone-count)) root_mid f₁

  np-latch : np.latch ≡ 0
  unfolding insert_son lone_node
  np-latch = refl

  halves-times : (i : ℕ) → times i (flat (numbers k) u.sons) ≡ times i (flat (numbers k) (take 4 u.sons)) + times i (flat (numbers k) (drop 4 u.sons))
  halves-times i = ap (λ es. times i (flat (numbers k) es)) (take-drop 4 u.sons) ∙ flat-times (numbers k) (take 4 u.sons) (drop 4 u.sons) i

  -- The halves are read in the store before its header was written.
  top-same : (i : ℕ) → node_at root_words m i ≡ node_at s₃ m i
  top-same i =
      let s₄ = put_header_word s₃ root_place f₂ in
      ap decode_node (header-record s₄ height_place (suc (suc k)) (lit< tt) m i ∙ header-record s₃ root_place f₂ (lit< tt) m i)

  root-fits : TreeFits root_words m (suc (suc k)) top root_node
  unfolding TreeFits num_of Gone
  root-fits =
      let keep = sons-keep s t L H here u refl root_words W root-topped.written in
      let has : (i : ℕ) → Ours L (suc k) u i → HasRecord s₀ m i = λ i o. trace-has s s₀ [] last_word popped (ours-has s t L H here u refl Z i o) in
      let hr = has r r-ours in
      let h₁ = has f₁ f₁-ours in
      let h₂ = has f₂ f₂-ours in
      let zl = sized-latch halved.left wl (left-usable root-usable count-8).sized in
      let zr = sized-latch halved.right wr (right-usable root-usable count-8).sized in
      let il = top-same r ∙ three-first s₀ m r f₁ nl nr hr h₁ r-f₁ f₂ np h₂ r-f₂ f₁-f₂ zl in
      let ir = top-same f₁ ∙ three-second s₀ m r f₁ nl nr hr h₁ r-f₁ f₂ np h₂ r-f₂ f₁-f₂ zr in
      let ip = top-same f₂ ∙ three_third s₀ m r f₁ nl nr hr h₁ r-f₁ f₂ np h₂ r-f₂ f₁-f₂ np-usable.sized in
      let cut = each-split (TreeFits s m k) 4 u.sons fits-sons in
      let part : (X : List (Numbered k × ℕ)) → ((j : ℕ) → times j (flat (numbers k) X) ≤ times j (flat (numbers k) u.sons)) → (j : ℕ) → times j (flat (numbers k) X) ≤ times j (numbers (suc k) u) =
      λ X f j. omega (arith, f j, tree-times j) in
      let none : (X : List (Numbered k × ℕ)) → ((j : ℕ) → times j (flat (numbers k) X) ≤ times j (flat (numbers k) u.sons)) → All (λ i. times i (flat (numbers k) X) ≡ 0) W =
      λ X f. (omega (arith, f r, r-gone.0), (omega (arith, f f₁, f₁-gone.0), (omega (arith, f f₂, f₂-gone.0), tt))) in
      let fl : (j : ℕ) → times j (flat (numbers k) (take 4 u.sons)) ≤ times j (flat (numbers k) u.sons) = λ j. omega (arith, halves-times j) in
      let fd : (j : ℕ) → times j (flat (numbers k) (drop 4 u.sons)) ≤ times j (flat (numbers k) u.sons) = λ j. omega (arith, halves-times j) in (
        subst (λ z. NodeFits root_words m top (record { num = f₂; word = z }) ((r, root_mid) ∷ (f₁, top) ∷ [])) np-latch
            (subst (NodeFits root_words m top (record { num = f₂; word = np.latch })) np-entries (node-fits root_words m f₂ top np ip np-usable.most)),
        (
          (
            latch-fits root_words m r root_mid halved.left wl (map_e (num_of k) (take 4 u.sons)) il (left-usable root-usable count-8).most left-entries,
            keep k (take 4 u.sons) (part (take 4 u.sons) fl) (none (take 4 u.sons) fl) cut.0,
          ),
          (
            (
              latch-fits root_words m f₁ top halved.right wr (map_e (num_of k) (drop 4 u.sons)) ir (right-usable root-usable count-8).most right-entries,
              keep k (drop 4 u.sons) (part (drop 4 u.sons) fd) (none (drop 4 u.sons) fd) cut.1,
            ),
            tt,
          ),
        ),
      )

  root-leaves : leaves Leaf Mark (suc (suc k)) root_node ≡ leaves_in L
  unfolding leaves
  root-leaves =
      let g = leaves Leaf Mark k in
      ap (λ l. flat g (take 4 u.sons) ++ l) (append-nil (flat g (drop 4 u.sons))) ∙ flat-halves g 4 u.sons

  root-count : (i : ℕ) → times i (numbers (suc (suc k)) root_node) + times i f' ≡ times i (numbers (suc k) u) + times i L.free
  root-count i =
      omega (
        arith,
        node-times numbers numbers-law (suc k) root_node i,
        times-append i (numbers (suc k) left_half) (numbers (suc k) right_half ++ []),
        times-append i (numbers (suc k) right_half) [],
        node-times numbers numbers-law k left_half i,
        node-times numbers numbers-law k right_half i,
        tree-times i,
        halves-times i,
        free-times i,
      )

  abbrev pub root_half : ℕ
  root_half = cond (leb x root_mid) r f₁

  half-marked : (o : Bool) (l q : List (Numbered k × ℕ)) (d e : ℕ)
      → SomeSon (Marked (suc k) (cond o r f₁) w (suc k)) ((nd (record { num = r; word = cond o w 0 }) l, d) ∷ (nd (record { num = f₁; word = cond o 0 w }) q, e) ∷ [])
  half-marked true l q d e = inl (marked-self r w k l)
  half-marked false l q d e = inr (inl (marked-self f₁ w k q))

  root-marked : (p q j n : ℕ) → ¬ (q ≡ p) → Free p u.latch.word → Marked j n (latch_word q) (suc k) u → Marked j n (latch_word q) (suc (suc k)) root_node
  root-marked p q j n ne f M =
      marked-under j n (latch_word q) (suc k) root_node
      (half (some-cut (Marked j n (latch_word q) k) (take 4 u.sons) (drop 4 u.sons)
      (subst (SomeSon (Marked j n (latch_word q) k)) (take-drop 4 u.sons) (marked-below j n (latch_word q) k u (free_other p q u.latch.word (λ g. ne (sym g)) f) M))))
    where
      half : SomeSon (Marked j n (latch_word q) k) (take 4 u.sons) ⊎ SomeSon (Marked j n (latch_word q) k) (drop 4 u.sons)
          → SomeSon (Marked j n (latch_word q) (suc k)) ((left_half, root_mid) ∷ (right_half, top) ∷ [])
      half (inl y) = inl (marked-under j n (latch_word q) k left_half y)
      half (inr y) = inr (inl (marked-under j n (latch_word q) k right_half y))

  pub root-holds : (p : ℕ) → p ≤ width → w ≡ latch_word p → Free p u.latch.word → (session_at t p).stage ≡ 2
      → Holds root_words (set t p (standing_at (session_at t p) root_half (suc k))) (with_tree L (suc k) root_node f')
  unfolding num_of Gone Chain
  root-holds p l we f st =
      let L' = with_tree L (suc k) root_node f' in
      let M : Marked (suc k) root_half w (suc (suc k)) root_node = marked-under (suc k) root_half w (suc k) root_node (half-marked (leb x root_mid) (take 4 u.sons) (drop 4 u.sons) root_mid top) in
      root-row s t L H root_words W last_word f₂ (suc (suc k)) root-topped (r-ours, (f₁-ours, (f₂-ours, tt))) (suc k) root_node f' root-leaves refl refl root-fits
      (chained-keep s root_words m last_word f'
      (part-keep s t L H here u refl root_words W root-topped.written f' (λ j. omega (arith, free-times j)) (r-gone.1, (f₁-gone.1, (f₂-gone.1, tt)))) free-cut.4)
      root-count p (standing_at (session_at t p) root_half (suc k))
      record {
        party = l;
        undo = refl;
        own = own-hand L L' p (session_at t p) root_half (suc k) (inl st) root-leaves (subst (λ z. Marked (suc k) root_half z (suc (suc k)) root_node) we M) (H.hands p l);
        others = λ q ne k3 g N. root-marked p q (session_at t q).level (session_at t q).at ne f N;
      }

  pub root-erase : halves w x k (erase (suc k) u) top ≡ (erase (suc k) left_half, root_mid) ∷ (erase (suc k) right_half, top) ∷ []
  unfolding halves erase
  root-erase =
      let made : ℕ → Sons k → Sons k → Sons (suc k) = λ n l q. (node (cond (leb x n) w 0) l, n) ∷ (node (cond (leb x n) 0 w) q, top) ∷ [] in
      let e₁ = ap (λ l. get_or l 3 0) (map_e-bounds (erase k) u.sons) in
      let e₂ = sym (map_e-take (erase k) 4 u.sons) in
      let e₃ = sym (map_e-drop (erase k) 4 u.sons) in
      λ j. made (e₁ j) (e₂ j) (e₃ j)

-- One level down: the node at which a party stands is released, and its son on the path is latched as it is, or in two.
use Rattle.std.specs.Prelude.{◌≡◌, Bool, true, false, ◌⊎◌, leb, set, take, drop}
use Rattle.std.proofs.Math.Path.{refl, sym, ap, subst}
use Rattle.std.proofs.Common.{◌∙◌, inl, inr, length-append}
use Rattle.std.proofs.Math.Bool.{cond}
use mathlib.Core.List.{List, [], ◌∷◌, ◌++◌, append_assoc, map}
use Prim.Native.Nat.{ℕ, zero, suc, ◌+◌, ◌-◌, ◌≤◌, ◌<◌}
use native.Mathlib.Omega.{arith}
use Rattle.std.proofs.Math.ListN.{length, get_or}
use Rattle.words.specs.Store.{HasRecord, word_of, has_kept}
use Rattle.words.specs.Header.{header_word, free_place}
use Rattle.nodes.specs.declared.Node.{Node}
use Rattle.reshaping.specs.declared.Neighbours.{Neighbours}
use Rattle.nodes.specs.Node.{node_at, put_node, decode_node, Sized}
use Rattle.nodes.specs.Ops.{son_for, with_latch, latch_at, latch-same, latch-length, latch-other}
use Rattle.reshaping.specs.Ops.{split_node, insert_behind}
use Rattle.nodes.specs.Live.{Usable}
use Rattle.reshaping.specs.Live.{left-usable, right-usable, insert-usable}
use Rattle.nodes.specs.Entries as N
use Rattle.nodes.specs.Entries.{latch-entries, entries-length, place-in, find-here, son-here}
use Rattle.reshaping.specs.Entries.{behind-entries, split-left, split-up, split-right}
use Rattle.chain.specs.Free.{pop_free}
use Rattle.nodes.specs.Paths.{son_toward}
use Rattle.descents.specs.Descents.{Toward, plain_son}
use Rattle.splits.specs.Splits.{put_halves, split_son, split_son_half}
use Rattle.sessions.specs.declared.Session.{Session}
use Rattle.sessions.specs.Sessions.{session_at}
use Rattle.machine.specs.Tree.{map_e, map_e-append, flat, flat_append, leaves, Below, onp-hit, pick-hit}
use Rattle.machine.specs.Holders.{width, latch_word}
use Rattle.machine.specs.State.{Tree, top, same, at, with_free, on_tree}
use Rattle.machine.specs.Descent.{Sons, node, halves, on_latch}
use Rattle.machine.specs.Steps.{small, fills, son-at, stepped, descended, level_state, goes_on}
use Rattle.machine.specs.Context.{Focus}
use Rattle.machine.specs.InTheWay.{Free}
use Rattle.machine.specs.Parts.{free_other}
use Rattle.machine.specs.Sound.{times}
use Rattle.meaning.specs.Reading.{Chained, Leaf, Mark, Numbered, erase, numbers, node_numbers, M-of}
use Rattle.meaning.specs.Sound.{All}
use Rattle.meaning.specs.Numbers.{times-append}
use Rattle.meaning.specs.Around.{NCtx, fill, num_of, bound_in, leaves-fill, before, behind, nothing}
pub use Rattle.meaning.specs.Heights.{length-map_e}
use Rattle.layout.specs.Layout.{Lay, Each, NodeFits, TreeFits, SomeSon, Marked, Holds, means}
use Rattle.layout.specs.Row.{Becomes}
use Rattle.layout.specs.Keep.{with_tree, Hands, each-cut, each-join, chained-keep, marked-fill}
use Rattle.layout.specs.Places.{Erased}
use Rattle.layout.specs.Puts.{node-latch, node-count, node-fits}
use Rattle.layout.specs.Room.{Sizes}
use Rattle.layout.specs.Asked.{request_in}
use Rattle.walking.specs.Traces.{Trace, trace-none, trace-node, trace-latch, trace-pop, trace-has, three-first, three-second, three_third}
use Rattle.walking.specs.Holes.{fits-usable, Ours, hole-most, ours-has, ours_in, part-keep, sons-keep, hole-fits, hole-row}
use Rattle.walking.specs.Hands.{nd, standing_at, own-hand, some-mid, some_right, some-cut, marked-into, marked-below, marked-under, marked-self, node-times, flat-times, one-self, means-level, becomes-at}

-- ---- lists

pub map_e-take : {A B : Type 0} (f : A → B) (i : ℕ) (es : List (A × ℕ)) → map_e f (take i es) ≡ take i (map_e f es)
map_e-take f zero es = refl
map_e-take f (suc i) [] = refl
map_e-take f (suc i) (e ∷ es) = ap (λ l. (f e.0, e.1) ∷ l) (map_e-take f i es)

pub map_e-drop : {A B : Type 0} (f : A → B) (i : ℕ) (es : List (A × ℕ)) → map_e f (drop i es) ≡ drop i (map_e f es)
map_e-drop f zero es = refl
map_e-drop f (suc i) [] = refl
map_e-drop f (suc i) (e ∷ es) = map_e-drop f i es

pub map_e-bounds : {A B : Type 0} (f : A → B) (es : List (A × ℕ)) → map (λ p. p.1) (map_e f es) ≡ map (λ p. p.1) es
map_e-bounds f [] = refl
map_e-bounds f (e ∷ es) = ap (λ l. e.1 ∷ l) (map_e-bounds f es)

pub take-drop : {A : Type 0} (i : ℕ) (es : List A) → es ≡ take i es ++ drop i es
take-drop zero es = refl
take-drop (suc i) [] = refl
take-drop (suc i) (e ∷ es) = ap (λ l. e ∷ l) (take-drop i es)

pub flat-halves : {A B : Type 0} (g : A → List B) (i : ℕ) (es : List (A × ℕ)) → flat g (take i es) ++ flat g (drop i es) ≡ flat g es
flat-halves g i es = sym (ap (flat g) (take-drop i es) ∙ flat_append g (take i es) (drop i es))

pub each-split : {A : Type 0} (P : ℕ → A → Type 0) (i : ℕ) (es : List (A × ℕ)) → Each P es → Each P (take i es) × Each P (drop i es)
each-split P zero es f = (tt, f)
each-split P (suc i) [] f = (tt, tt)
each-split P (suc i) (e ∷ es) f = let r = each-split P i es f.1 in ((f.0, r.0), r.1)

pub map_e-mid : {A B : Type 0} (f : A → B) (pre : List (A × ℕ)) (a : A) (b : ℕ) (post : List (A × ℕ)) → map_e f (pre ++ (a, b) ∷ post) ≡ map_e f pre ++ (f a, b) ∷ map_e f post
map_e-mid f pre a b post = map_e-append f pre ((a, b) ∷ post)

pub below-nodes : {A B : Type 0} (f : A → B) (x : ℕ) (es : List (A × ℕ)) → Below x es → N.Below x (map_e f es)
below-nodes f x [] b = tt
below-nodes f x (e ∷ es) b = (b.0, below-nodes f x es b.1)

-- ---- the machine's row

pub son_is : (x h : ℕ) (A : Sons (suc h)) (a : Tree (suc h)) (b : ℕ) (B : Sons (suc h)) → Below x A → x ≤ b → son-at x h (A ++ (a, b) ∷ B) ≡ a
son_is x h A a b B low up = pick-hit x (node 0 []) same A a b B low up

pub stepped-plain : (p x h : ℕ) (A : Sons (suc h)) (a : Tree (suc h)) (b : ℕ) (B : Sons (suc h)) → Below x A → x ≤ b → small p h a ≡ false → fills p h a ≡ false
    → stepped p x h (son-at x h (A ++ (a, b) ∷ B)) (A ++ (a, b) ∷ B) ≡ A ++ (node (latch_word p) a.sons, b) ∷ B
unfolding stepped
stepped-plain p x h A a b B low up sm fl =
    rw (son_is x h A a b B low up, sm, fl) (onp-hit x (λ a u. (node (latch_word p) a.sons, u) ∷ []) A a b B low up)

pub stepped-split : (p x h : ℕ) (A : Sons (suc h)) (a : Tree (suc h)) (b : ℕ) (B : Sons (suc h)) → Below x A → x ≤ b → small p h a ≡ false → fills p h a ≡ true
    → stepped p x h (son-at x h (A ++ (a, b) ∷ B)) (A ++ (a, b) ∷ B) ≡ A ++ (halves (latch_word p) x h a b ++ B)
unfolding stepped
stepped-split p x h A a b B low up sm fl = rw (son_is x h A a b B low up, sm, fl) (onp-hit x (halves (latch_word p) x h) A a b B low up)

pub numbers-law : (h : ℕ) (x : Numbered (suc h)) → numbers (suc h) x ≡ x.latch.num ∷ flat (numbers h) x.sons
numbers-law h x = unfold numbers in refl

pub nodes-law : (h : ℕ) (x : Numbered (suc h)) → node_numbers (suc h) x ≡ x.latch.num ∷ flat (node_numbers h) x.sons
nodes-law h x = unfold node_numbers in refl

-- How often a record stands in a node cut at a son.
module _ (k : ℕ) (v : Mark) (pre : List (Numbered (suc k) × ℕ)) (a : Numbered (suc k)) (b : ℕ) (post : List (Numbered (suc k) × ℕ)) (i : ℕ) where
  pub cut-numbers : times i (numbers (suc (suc k)) (nd v (pre ++ (a, b) ∷ post)))
      ≡ times i (v.num ∷ []) + (times i (flat (numbers (suc k)) pre) + (times i (a.latch.num ∷ []) + times i (flat (numbers k) a.sons) + times i (flat (numbers (suc k)) post)))
  cut-numbers =
      omega (
        arith,
        node-times numbers numbers-law (suc k) (nd v (pre ++ (a, b) ∷ post)) i,
        flat-times (numbers (suc k)) pre ((a, b) ∷ post) i,
        times-append i (numbers (suc k) a) (flat (numbers (suc k)) post),
        node-times numbers numbers-law k a i,
      )

  pub cut-nodes : times i (node_numbers (suc (suc k)) (nd v (pre ++ (a, b) ∷ post)))
      ≡ times i (v.num ∷ []) + (times i (flat (node_numbers (suc k)) pre) + (times i (a.latch.num ∷ []) + times i (flat (node_numbers k) a.sons) + times i (flat (node_numbers (suc k)) post)))
  cut-nodes =
      omega (
        arith,
        node-times node_numbers nodes-law (suc k) (nd v (pre ++ (a, b) ∷ post)) i,
        flat-times (node_numbers (suc k)) pre ((a, b) ∷ post) i,
        times-append i (node_numbers (suc k) a) (flat (node_numbers (suc k)) post),
        node-times node_numbers nodes-law k a i,
      )

pub sized-latch : (n : Node) (w : ℕ) → Sized n → Sized (with_latch n w)
unfolding with_latch
sized-latch n w z = record { bounds = z.bounds; sons = z.sons }

-- A node with another latch word fits, with the same sons.
pub latch-fits : (s : List ℕ) (m i hi : ℕ) (n : Node) (w : ℕ) (es : List (ℕ × ℕ)) → node_at s m i ≡ with_latch n w → n.count ≤ 8 → N.entries n hi ≡ es → NodeFits s m hi (record { num = i; word = w }) es
unfolding with_latch
latch-fits s m i hi n w es e c q = subst (NodeFits s m hi (record { num = i; word = w })) (latch-entries n w hi ∙ q) (node-fits s m i hi (with_latch n w) e c)

module _ (s : List ℕ) (t : List Session) (L : Lay) (H : Holds s t L) (Z : Sizes L) {k : ℕ} (c : NCtx (suc (suc k)) (suc L.height))
    (v : Mark) (pre : List (Numbered (suc k) × ℕ)) (a : Numbered (suc k)) (b : ℕ) (post : List (Numbered (suc k) × ℕ)) (is : L.tree ≡ fill c (nd v (pre ++ (a, b) ∷ post))) where
  abbrev U : Numbered (suc (suc k))
  U = nd v (pre ++ (a, b) ∷ post)

  abbrev m : ℕ
  m = M-of s

  abbrev hi : ℕ
  hi = bound_in c top

  abbrev here : ℕ
  here = v.num

  abbrev son : ℕ
  son = a.latch.num

  -- The node and its son, as their records are.
  record Opened : Type 0 where
    parent : NodeFits s m hi v (map_e (num_of (suc k)) pre ++ (son, b) ∷ map_e (num_of (suc k)) post)
    before : Each (TreeFits s m (suc k)) pre
    node_a : NodeFits s m b a.latch (map_e (num_of k) a.sons)
    sons_a : Each (TreeFits s m k) a.sons
    after : Each (TreeFits s m (suc k)) post

  opened : Opened
  unfolding TreeFits num_of
  opened =
      let f = hole-fits s t L H c U is in
      let e = each-cut (TreeFits s m (suc k)) pre a b post f.1 in
      record {
        parent = subst (NodeFits s m hi v) (map_e-mid (num_of (suc k)) pre a b post) f.0;
        before = e.0;
        node_a = e.1.0;
        sons_a = e.1.1;
        after = e.2;
      }

  pub here-ours : Ours L (suc (suc k)) U here
  here-ours = omega (arith, cut-nodes k v pre a b post here, one-self here)

  pub son-ours : Ours L (suc (suc k)) U son
  son-ours = omega (arith, cut-nodes k v pre a b post son, one-self son)

  pub apart-son : ¬ (here ≡ son)
  apart-son e = omega (arith, cut-numbers k v pre a b post here, hole-most s t L H c U is here, one-self here, ap (λ j. times here (j ∷ [])) (sym e))

  -- What a step writes is nowhere among the sons before and behind, below the son, or free.
  record Missing (i : ℕ) : Type 0 where
    before : times i (flat (numbers (suc k)) pre) ≡ 0
    below : times i (flat (numbers k) a.sons) ≡ 0
    after : times i (flat (numbers (suc k)) post) ≡ 0
    free : times i L.free ≡ 0

  here-missing : Missing here
  here-missing =
      let e = cut-numbers k v pre a b post here in
      let n = hole-most s t L H c U is here in
      let o = one-self here in
      record { before = omega (arith, e, n, o); below = omega (arith, e, n, o); after = omega (arith, e, n, o); free = omega (arith, e, n, o) }

  son-missing : Missing son
  son-missing =
      let e = cut-numbers k v pre a b post son in
      let n = hole-most s t L H c U is son in
      let o = one-self son in
      record { before = omega (arith, e, n, o); below = omega (arith, e, n, o); after = omega (arith, e, n, o); free = omega (arith, e, n, o) }

  below-part : (j : ℕ) → times j (flat (numbers (suc k)) pre) ≤ times j (numbers (suc (suc k)) U)
  below-part j = omega (arith, cut-numbers k v pre a b post j)

  sons-part : (j : ℕ) → times j (flat (numbers k) a.sons) ≤ times j (numbers (suc (suc k)) U)
  sons-part j = omega (arith, cut-numbers k v pre a b post j)

  after-part : (j : ℕ) → times j (flat (numbers (suc k)) post) ≤ times j (numbers (suc (suc k)) U)
  after-part j = omega (arith, cut-numbers k v pre a b post j)

  parent-usable : Usable (node_at s m here)
  parent-usable = fits-usable s m hi v (map_e (num_of (suc k)) pre ++ (son, b) ∷ map_e (num_of (suc k)) post) opened.parent
      (omega (arith, length-append (map_e (num_of (suc k)) pre) ((son, b) ∷ map_e (num_of (suc k)) post)))

  -- ---- plain

  module _ (w : ℕ) where
    abbrev s₁ : List ℕ
    s₁ = latch_at s m here 0

    -- The words, the son and the node after.
    abbrev pub plain_words : List ℕ
    plain_words = latch_at s₁ m son w

    abbrev pub plain-son : Numbered (suc k)
    plain-son = nd (record { num = son; word = w }) a.sons

    abbrev pub plain_node : Numbered (suc (suc k))
    plain_node = nd (record { num = here; word = 0 }) (pre ++ (plain-son, b) ∷ post)

    pub plain-trace : Trace s plain_words (here ∷ son ∷ []) (header_word s free_place)
    plain-trace =
        let f = header_word s free_place in
        let has = ours-has s t L H c U is Z in
        let l = ours_in s t L H c U is Z in
        trace-latch s s₁ (here ∷ []) f (trace-latch s s [] f (trace-none s) here 0 (has here here-ours) (l here here-ours)) son w (has son son-ours) (l son son-ours)

    son-same : node_at s₁ m son ≡ node_at s m son
    son-same = ap decode_node (latch-other s m here 0 (ours-has s t L H c U is Z here here-ours) son (ours-has s t L H c U is Z son son-ours).first apart-son)

    plain_fits : TreeFits plain_words m (suc (suc k)) hi plain_node
    unfolding TreeFits num_of
    plain_fits =
        let has = ours-has s t L H c U is Z in
        let W = here ∷ son ∷ [] in
        let keep = sons-keep s t L H c U is plain_words W plain-trace.written in
        let O = opened in
        let x = here-missing in
        let y = son-missing in
        let hh = has here here-ours in
        let hs : HasRecord s₁ m son = has_kept (has son son-ours) (latch-length s m here 0 hh) in
        let i : node_at plain_words m here ≡ with_latch (node_at s m here) 0 = ap decode_node (latch-other s₁ m son w hs here hh.first (λ e. apart-son (sym e))) ∙ latch-same s m here 0 hh in
        let j = latch-same s₁ m son w hs in
        let few : (node_at s m here).count ≤ 8 = subst (λ n. n ≤ 8) (sym (node-count s m here)) O.parent.few in
        let few₁ : (node_at s₁ m son).count ≤ 8 = subst (λ n. n.count ≤ 8) (sym son-same) (subst (λ n. n ≤ 8) (sym (node-count s m son)) O.node_a.few) in (
          latch-fits plain_words m here hi (node_at s m here) 0 (map_e (num_of (suc k)) (pre ++ (plain-son, b) ∷ post)) i few (O.parent.sons ∙ sym (map_e-mid (num_of (suc k)) pre plain-son b post)),
          each-join (TreeFits plain_words m (suc k)) pre plain-son b post
              (keep (suc k) pre below-part (x.before, (y.before, tt)) O.before) (
                latch-fits plain_words m son b (node_at s₁ m son) w (map_e (num_of k) a.sons) j few₁ (ap (λ n. N.entries n b) son-same ∙ O.node_a.sons),
                keep k a.sons sons-part (x.below, (y.below, tt)) O.sons_a,
              )
              (keep (suc k) post after-part (x.after, (y.after, tt)) O.after),
        )

    plain-leaves : leaves Leaf Mark (suc (suc k)) plain_node ≡ leaves Leaf Mark (suc (suc k)) U
    unfolding leaves
    plain-leaves = flat_append (leaves Leaf Mark (suc k)) pre ((plain-son, b) ∷ post) ∙ sym (flat_append (leaves Leaf Mark (suc k)) pre ((a, b) ∷ post))

    pub plain-holds : (p : ℕ) (x' : Session) → Hands L t (with_tree L L.height (fill c plain_node) L.free) p x' → Holds plain_words (set t p x') (with_tree L L.height (fill c plain_node) L.free)
    unfolding num_of
    plain-holds p x' hands =
        let x = here-missing in
        let y = son-missing in
        hole-row s t L H c U is plain_words (here ∷ son ∷ []) (header_word s free_place) plain-trace (here-ours, (son-ours, tt)) plain_node L.free refl plain-leaves plain_fits
        (chained-keep s plain_words m (header_word s free_place) L.free
        (part-keep s t L H c U is plain_words (here ∷ son ∷ []) plain-trace.written L.free (λ j. omega arith) (x.free, (y.free, tt))) H.fits.free)
        (λ i. omega (arith, cut-numbers k v pre a b post i, cut-numbers k (record { num = here; word = 0 }) pre plain-son b post i))
        p x' hands

    -- The others' marks.
    plain-marked : (p q j n : ℕ) → ¬ (q ≡ p) → v.word ≡ latch_word p → Free p a.latch.word → Marked j n (latch_word q) (suc (suc k)) U → Marked j n (latch_word q) (suc (suc k)) plain_node
    plain-marked p q j n ne e f M =
        let P = Marked j n (latch_word q) (suc k) in
        marked-under j n (latch_word q) (suc k) plain_node
        (some-mid P pre ((a, b) ∷ []) ((plain-son, b) ∷ []) post go (marked-below j n (latch_word q) (suc k) U (λ g. ne (omega (arith, e, g))) M))
      where
        go : SomeSon (Marked j n (latch_word q) (suc k)) ((a, b) ∷ []) → SomeSon (Marked j n (latch_word q) (suc k)) ((plain-son, b) ∷ [])
        go (inl M) = inl (marked-under j n (latch_word q) k plain-son (marked-below j n (latch_word q) k a (free_other p q a.latch.word (λ g. ne (sym g)) f) M))
        go (inr M) = absurd M

    pub plain-hands : (p : ℕ) → p ≤ width → w ≡ latch_word p → v.word ≡ latch_word p → Free p a.latch.word → (session_at t p).stage ≡ 3
        → Hands L t (with_tree L L.height (fill c plain_node) L.free) p (standing_at (session_at t p) son (suc k))
    unfolding leaves
    plain-hands p l we e f st =
        let L' = with_tree L L.height (fill c plain_node) L.free in
        let M : Marked (suc k) son w (suc (suc k)) plain_node = marked-under (suc k) son w (suc k) plain_node (some_right (Marked (suc k) son w (suc k)) pre ((plain-son, b) ∷ post) (inl (marked-self son w k a.sons))) in
        record {
          party = l;
          undo = refl;
          own = own-hand L L' p (session_at t p) son (suc k) (inr st)
              (leaves-fill c plain_node ∙ ap (λ x. before nothing (leaves Leaf Mark) c ++ (x ++ behind nothing (leaves Leaf Mark) c)) plain-leaves ∙ sym (ap (leaves Leaf Mark (suc L.height)) is ∙ leaves-fill c U))
              (subst (λ z. Marked (suc k) son z (suc L.height) (fill c plain_node)) we (marked-into (suc k) son w c plain_node M)) (H.hands p l);
          others = λ q ne k3 g N. marked-fill (session_at t q).level (session_at t q).at (latch_word q) c U plain_node
              (plain-marked p q (session_at t q).level (session_at t q).at ne e f) (subst (Marked (session_at t q).level (session_at t q).at (latch_word q) (suc L.height)) is N);
        }

  -- The machine's node.
  plain-erase : (p x : ℕ) → Below x (map_e (erase (suc k)) pre) → x ≤ b → small p k (erase (suc k) a) ≡ false → fills p k (erase (suc k) a) ≡ false
      → erase (suc (suc k)) (plain_node (latch_word p)) ≡ descended p x (suc k) (erase (suc (suc k)) U)
  unfolding descended erase
  plain-erase p x low up sm fl =
      let E = erase (suc k) in
      ap (node 0) (map_e-mid E pre (plain-son (latch_word p)) b post
      ∙ sym (ap (λ es. stepped p x k (son-at x k es) es) (map_e-mid E pre a b post) ∙ stepped-plain p x k (map_e E pre) (E a) b (map_e E post) low up sm fl))

  -- As many records are free.
  plain-free : (p x : ℕ) (es : Sons (suc k)) → small p k (erase (suc k) a) ≡ false → fills p k (erase (suc k) a) ≡ false
      → with_free (length L.free) (on_tree (on_latch (latch_word p) x (descended p x)) (means L t)) ≡ level_state p x (means L t) k es (erase (suc k) a)
  unfolding means
  plain-free p x es sm fl = rw (sm, fl) (ap (λ n. with_free n (on_tree (on_latch (latch_word p) x (descended p x)) (means L t))) (kept (length L.free)))
    where
      kept : (n : ℕ) → n ≡ n + 0 - 0
      kept n = omega arith

  pub plain-becomes : (p : ℕ) → p ≤ width → (session_at t p).stage ≡ 3 → v.word ≡ latch_word p → Free p a.latch.word
      → Below (session_at t p).target (map_e (erase (suc k)) pre) → (session_at t p).target ≤ b → small p k (erase (suc k) a) ≡ false → fills p k (erase (suc k) a) ≡ false
      → (F : Focus p (session_at t p).target (means L t) (suc k) (erase (suc (suc k)) U)) → Erased L t p (session_at t p).target (suc k) (erase (suc (suc k)) U) F c
      → (es : Sons (suc k))
      → Becomes s (plain_words (latch_word p)) (set t p (standing_at (session_at t p) son (suc k)))
      (goes_on p (request_in (session_at t p)) (at (session_at t p).target) (level_state p (session_at t p).target (means L t) k es (erase (suc k) a))).next
  plain-becomes p l st e f low up sm fl F er es =
      let x = (session_at t p).target in
      let w = latch_word p in
      let L' = with_tree L L.height (fill c (plain_node w)) L.free in
      becomes-at s (plain_words w) t (here ∷ son ∷ []) (header_word s free_place) (plain-trace w) p (omega (arith, H.seats, l)) son (suc k) L'
      (level_state p x (means L t) k es (erase (suc k) a))
      (means-level L t p x (suc k) U (plain_node w) c F er L.free (plain-erase p x low up sm fl) ∙ plain-free p x es sm fl)
      (plain-holds w p (standing_at (session_at t p) son (suc k)) (plain-hands w p l refl e f st))

  -- ---- split

  module _ (w x fresh : ℕ) (f' : List ℕ) (fr : L.free ≡ fresh ∷ f') (full : length a.sons ≡ 8) (room : length (pre ++ (a, b) ∷ post) ≤ 7) where
    abbrev halved : Neighbours
    halved = split_node (node_at s m son)

    -- The boundary between the halves.
    abbrev pub mid : ℕ
    mid = get_or (map (λ p. p.1) a.sons) 3 0

    abbrev wl : ℕ
    wl = cond (leb x mid) w 0

    abbrev wr : ℕ
    wr = cond (leb x mid) 0 w

    abbrev PRE : List (ℕ × ℕ)
    PRE = map_e (num_of (suc k)) pre

    abbrev POST : List (ℕ × ℕ)
    POST = map_e (num_of (suc k)) post

    abbrev nl : Node
    nl = with_latch halved.left wl

    abbrev nr : Node
    nr = with_latch halved.right wr

    abbrev wide : Node
    wide = insert_behind (node_at s m here) (length PRE) mid fresh

    abbrev np : Node
    np = with_latch wide 0

    abbrev pub split_words : List ℕ
    split_words = put_node (put_node (put_node (pop_free s m) m son nl) m fresh nr) m here np

    abbrev pub left_son : Numbered (suc k)
    left_son = nd (record { num = son; word = wl }) (take 4 a.sons)

    abbrev pub right_son : Numbered (suc k)
    right_son = nd (record { num = fresh; word = wr }) (drop 4 a.sons)

    abbrev pub split-node : Numbered (suc (suc k))
    split-node = nd (record { num = here; word = 0 }) (pre ++ (left_son, mid) ∷ (right_son, b) ∷ post)

    -- The record that was free.
    free-cut : (header_word s free_place ≡ fresh) × ¬ (header_word s free_place ≡ 0) × Chained s m (word_of s m (header_word s free_place) 0) f'
    free-cut = subst (Chained s m (header_word s free_place)) fr H.fits.free

    free-times : (i : ℕ) → times i L.free ≡ times i (fresh ∷ []) + times i f'
    free-times i = ap (times i) fr ∙ omega arith

    fresh-ours : Ours L (suc (suc k)) U fresh
    fresh-ours = omega (arith, free-times fresh, one-self fresh)

    here-fresh : ¬ (here ≡ fresh)
    here-fresh e = omega (arith, cut-numbers k v pre a b post here, hole-most s t L H c U is here, one-self here, free-times here, ap (λ j. times here (j ∷ [])) (sym e))

    son-fresh : ¬ (son ≡ fresh)
    son-fresh e = omega (arith, cut-numbers k v pre a b post son, hole-most s t L H c U is son, one-self son, free-times son, ap (λ j. times son (j ∷ [])) (sym e))

    record FreshMissing : Type 0 where
      before : times fresh (flat (numbers (suc k)) pre) ≡ 0
      below : times fresh (flat (numbers k) a.sons) ≡ 0
      after : times fresh (flat (numbers (suc k)) post) ≡ 0
      free : times fresh f' ≡ 0

    fresh-missing : FreshMissing
    fresh-missing =
        let e = cut-numbers k v pre a b post fresh in
        let n = hole-most s t L H c U is fresh in
        let o = one-self fresh in
        let f = free-times fresh in
        record { before = omega (arith, e, n, o, f); below = omega (arith, e, n, o, f); after = omega (arith, e, n, o, f); free = omega (arith, e, n, o, f) }

    abbrev rest_word : ℕ
    rest_word = word_of s m (header_word s free_place) 0

    popped : Trace s (pop_free s m) [] rest_word
    popped = trace-pop s s [] (header_word s free_place) (trace-none s) H.fits.header free-cut.1

    pub split-trace : Trace s split_words (son ∷ fresh ∷ here ∷ []) rest_word
    split-trace =
        let has = ours-has s t L H c U is Z in
        let l = ours_in s t L H c U is Z in
        let s₀ = pop_free s m in
        let t₁ = trace-node s s₀ [] rest_word popped son nl (has son son-ours) (l son son-ours) in
        let t₂ = trace-node s (put_node s₀ m son nl) (son ∷ []) rest_word t₁ fresh nr (has fresh fresh-ours) (l fresh fresh-ours) in
        trace-node s (put_node (put_node s₀ m son nl) m fresh nr) (son ∷ fresh ∷ []) rest_word t₂ here np (has here here-ours) (l here here-ours)

    son-usable : Usable (node_at s m son)
    son-usable = fits-usable s m b a.latch (map_e (num_of k) a.sons) opened.node_a (omega (arith, length-map_e (num_of k) a.sons, full))

    count-8 : (node_at s m son).count ≡ 8
    count-8 = sym (entries-length son-usable b) ∙ ap length opened.node_a.sons ∙ length-map_e (num_of k) a.sons ∙ full

    up_is : halved.up ≡ mid
    up_is = split-up son-usable count-8 b ∙ ap (λ l. get_or (map (λ p. p.1) l) 3 0) opened.node_a.sons ∙ ap (λ l. get_or l 3 0) (map_e-bounds (num_of k) a.sons)

    left-entries : N.entries halved.left mid ≡ map_e (num_of k) (take 4 a.sons)
    left-entries = ap (N.entries halved.left) (sym up_is) ∙ split-left son-usable count-8 b ∙ ap (λ l. take 4 l) opened.node_a.sons ∙ sym (map_e-take (num_of k) 4 a.sons)

    right-entries : N.entries halved.right b ≡ map_e (num_of k) (drop 4 a.sons)
    right-entries = split-right son-usable count-8 b ∙ ap (λ l. drop 4 l) opened.node_a.sons ∙ sym (map_e-drop (num_of k) 4 a.sons)

    here-room : (node_at s m here).count < 8
    here-room =
        let e = entries-length parent-usable hi in
        let f = ap length opened.parent.sons in
        omega (arith, e, f, length-append PRE ((son, b) ∷ POST), length-map_e (num_of (suc k)) pre, length-map_e (num_of (suc k)) post, length-append pre ((a, b) ∷ post), room)

    wide-usable : Usable wide
    wide-usable =
        let i = place-in parent-usable hi PRE son b POST opened.parent.sons in
        insert-usable parent-usable (length PRE) mid (length PRE + 1) fresh here-room i (omega (arith, i))

    wide-entries : N.entries wide hi ≡ map_e (num_of (suc k)) (pre ++ (left_son, mid) ∷ (right_son, b) ∷ post)
    unfolding num_of
    wide-entries = behind-entries parent-usable hi PRE son b POST opened.parent.sons here-room mid fresh ∙ sym (map_e-append (num_of (suc k)) pre ((left_son, mid) ∷ (right_son, b) ∷ post))

    halves-times : (i : ℕ) → times i (flat (numbers k) a.sons) ≡ times i (flat (numbers k) (take 4 a.sons)) + times i (flat (numbers k) (drop 4 a.sons))
    halves-times i = ap (λ es. times i (flat (numbers k) es)) (take-drop 4 a.sons) ∙ flat-times (numbers k) (take 4 a.sons) (drop 4 a.sons) i

    half-take : All (λ i. times i (flat (numbers k) (take 4 a.sons)) ≡ 0) (son ∷ fresh ∷ here ∷ [])
    half-take =
        (omega (arith, halves-times son, son-missing.below), (omega (arith, halves-times fresh, fresh-missing.below), (omega (arith, halves-times here, here-missing.below), tt)))

    half-drop : All (λ i. times i (flat (numbers k) (drop 4 a.sons)) ≡ 0) (son ∷ fresh ∷ here ∷ [])
    half-drop =
        (omega (arith, halves-times son, son-missing.below), (omega (arith, halves-times fresh, fresh-missing.below), (omega (arith, halves-times here, here-missing.below), tt)))

    split-fits : TreeFits split_words m (suc (suc k)) hi split-node
    unfolding TreeFits num_of
    split-fits =
        let W = son ∷ fresh ∷ here ∷ [] in
        let keep = sons-keep s t L H c U is split_words W split-trace.written in
        let O = opened in
        let s₀ = pop_free s m in
        let has : (i : ℕ) → Ours L (suc (suc k)) U i → HasRecord s₀ m i = λ i o. trace-has s s₀ [] rest_word popped (ours-has s t L H c U is Z i o) in
        let hs = has son son-ours in
        let hf = has fresh fresh-ours in
        let hh = has here here-ours in
        let nh : ¬ (son ≡ here) = λ e. apart-son (sym e) in
        let nf : ¬ (fresh ≡ here) = λ e. here-fresh (sym e) in
        let zl = sized-latch halved.left wl (left-usable son-usable count-8).sized in
        let zr = sized-latch halved.right wr (right-usable son-usable count-8).sized in
        let zp = sized-latch wide 0 wide-usable.sized in
        let il = three-first s₀ m son fresh nl nr hs hf son-fresh here np hh nh nf zl in
        let ir = three-second s₀ m son fresh nl nr hs hf son-fresh here np hh nh nf zr in
        let ip = three_third s₀ m son fresh nl nr hs hf son-fresh here np hh nh nf zp in
        let cut = each-split (TreeFits s m k) 4 a.sons O.sons_a in
        let part : (X : List (Numbered k × ℕ)) → ((j : ℕ) → times j (flat (numbers k) X) ≤ times j (flat (numbers k) a.sons)) → (j : ℕ) → times j (flat (numbers k) X) ≤ times j (numbers (suc (suc k)) U) =
        λ X f j. omega (arith, f j, sons-part j) in (
          latch-fits split_words m here hi wide 0 (map_e (num_of (suc k)) (pre ++ (left_son, mid) ∷ (right_son, b) ∷ post)) ip wide-usable.most wide-entries,
          each-join (TreeFits split_words m (suc k)) pre left_son mid ((right_son, b) ∷ post)
              (keep (suc k) pre below-part (son-missing.before, (fresh-missing.before, (here-missing.before, tt))) O.before) (
                latch-fits split_words m son mid halved.left wl (map_e (num_of k) (take 4 a.sons)) il (left-usable son-usable count-8).most left-entries,
                keep k (take 4 a.sons) (part (take 4 a.sons) (λ j. omega (arith, halves-times j))) half-take cut.0,
              ) (
                (
                  latch-fits split_words m fresh b halved.right wr (map_e (num_of k) (drop 4 a.sons)) ir (right-usable son-usable count-8).most right-entries,
                  keep k (drop 4 a.sons) (part (drop 4 a.sons) (λ j. omega (arith, halves-times j))) half-drop cut.1,
                ),
                keep (suc k) post after-part (son-missing.after, (fresh-missing.after, (here-missing.after, tt))) O.after,
              ),
        )

    split-leaves : leaves Leaf Mark (suc (suc k)) split-node ≡ leaves Leaf Mark (suc (suc k)) U
    unfolding leaves
    split-leaves =
        let g = leaves Leaf Mark (suc k) in
        let g₀ = leaves Leaf Mark k in
        flat_append g pre ((left_son, mid) ∷ (right_son, b) ∷ post)
        ∙ ap (λ l. flat g pre ++ l) (sym (append_assoc (flat g₀ (take 4 a.sons)) (flat g₀ (drop 4 a.sons)) (flat g post)) ∙ ap (λ l. l ++ flat g post) (flat-halves g₀ 4 a.sons))
        ∙ sym (flat_append g pre ((a, b) ∷ post))

    split-count : (i : ℕ) → times i (numbers (suc (suc k)) split-node) + times i f' ≡ times i (numbers (suc (suc k)) U) + times i L.free
    split-count i =
        omega (
          arith,
          cut-numbers k v pre a b post i,
          cut-numbers k (record { num = here; word = 0 }) pre left_son mid ((right_son, b) ∷ post) i,
          times-append i (numbers (suc k) right_son) (flat (numbers (suc k)) post),
          node-times numbers numbers-law k right_son i,
          halves-times i,
          free-times i,
        )

    pub split-holds : (p : ℕ) (x' : Session) → Hands L t (with_tree L L.height (fill c split-node) f') p x' → Holds split_words (set t p x') (with_tree L L.height (fill c split-node) f')
    unfolding num_of
    split-holds p x' hands =
        hole-row s t L H c U is split_words (son ∷ fresh ∷ here ∷ []) rest_word split-trace (son-ours, (fresh-ours, (here-ours, tt))) split-node f' refl split-leaves split-fits
        (chained-keep s split_words m rest_word f'
        (part-keep s t L H c U is split_words (son ∷ fresh ∷ here ∷ []) split-trace.written f' (λ j. omega (arith, free-times j))
        (omega (arith, son-missing.free, free-times son), (fresh-missing.free, (omega (arith, here-missing.free, free-times here), tt)))) free-cut.2)
        split-count p x' hands

    split-marked : (p q j n : ℕ) → ¬ (q ≡ p) → v.word ≡ latch_word p → Free p a.latch.word → Marked j n (latch_word q) (suc (suc k)) U → Marked j n (latch_word q) (suc (suc k)) split-node
    split-marked p q j n ne e f M =
        let P = Marked j n (latch_word q) (suc k) in
        marked-under j n (latch_word q) (suc k) split-node
        (some-mid P pre ((a, b) ∷ []) ((left_son, mid) ∷ (right_son, b) ∷ []) post go (marked-below j n (latch_word q) (suc k) U (λ g. ne (omega (arith, e, g))) M))
      where
        half : SomeSon (Marked j n (latch_word q) k) (take 4 a.sons) ⊎ SomeSon (Marked j n (latch_word q) k) (drop 4 a.sons)
            → SomeSon (Marked j n (latch_word q) (suc k)) ((left_son, mid) ∷ (right_son, b) ∷ [])
        half (inl y) = inl (marked-under j n (latch_word q) k left_son y)
        half (inr y) = inr (inl (marked-under j n (latch_word q) k right_son y))

        go : SomeSon (Marked j n (latch_word q) (suc k)) ((a, b) ∷ []) → SomeSon (Marked j n (latch_word q) (suc k)) ((left_son, mid) ∷ (right_son, b) ∷ [])
        go (inl M) = half (some-cut (Marked j n (latch_word q) k) (take 4 a.sons) (drop 4 a.sons)
            (subst (SomeSon (Marked j n (latch_word q) k)) (take-drop 4 a.sons) (marked-below j n (latch_word q) k a (free_other p q a.latch.word (λ g. ne (sym g)) f) M)))
        go (inr M) = absurd M

    -- The half of the key is latched.
    half-marked : (o : Bool) (l r : List (Numbered k × ℕ)) (d e : ℕ) (ps : List (Numbered (suc k) × ℕ))
        → SomeSon (Marked (suc k) (cond o son fresh) w (suc k)) ((nd (record { num = son; word = cond o w 0 }) l, d) ∷ (nd (record { num = fresh; word = cond o 0 w }) r, e) ∷ ps)
    half-marked true l r d e ps = inl (marked-self son w k l)
    half-marked false l r d e ps = inr (inl (marked-self fresh w k r))

    pub split-hands : (p : ℕ) → p ≤ width → w ≡ latch_word p → v.word ≡ latch_word p → Free p a.latch.word → (session_at t p).stage ≡ 3
        → Hands L t (with_tree L L.height (fill c split-node) f') p (standing_at (session_at t p) (cond (leb x mid) son fresh) (suc k))
    split-hands p l we e f st =
        let L' = with_tree L L.height (fill c split-node) f' in
        let i = cond (leb x mid) son fresh in
        let M : Marked (suc k) i w (suc (suc k)) split-node = marked-under (suc k) i w (suc k) split-node
        (some_right (Marked (suc k) i w (suc k)) pre ((left_son, mid) ∷ (right_son, b) ∷ post) (half-marked (leb x mid) (take 4 a.sons) (drop 4 a.sons) mid b post)) in
        record {
          party = l;
          undo = refl;
          own = own-hand L L' p (session_at t p) i (suc k) (inr st)
              (leaves-fill c split-node ∙ ap (λ y. before nothing (leaves Leaf Mark) c ++ (y ++ behind nothing (leaves Leaf Mark) c)) split-leaves ∙ sym (ap (leaves Leaf Mark (suc L.height)) is ∙ leaves-fill c U))
              (subst (λ z. Marked (suc k) i z (suc L.height) (fill c split-node)) we (marked-into (suc k) i w c split-node M)) (H.hands p l);
          others = λ q ne k3 g N. marked-fill (session_at t q).level (session_at t q).at (latch_word q) c U split-node
              (split-marked p q (session_at t q).level (session_at t q).at ne e f) (subst (Marked (session_at t q).level (session_at t q).at (latch_word q) (suc L.height)) is N);
        }

    halves-erase : halves w x k (erase (suc k) a) b ≡ (erase (suc k) left_son, mid) ∷ (erase (suc k) right_son, b) ∷ []
    unfolding halves erase
    halves-erase =
        let made : ℕ → Sons k → Sons k → Sons (suc k) = λ n l r. (node (cond (leb x n) w 0) l, n) ∷ (node (cond (leb x n) 0 w) r, b) ∷ [] in
        let e₁ = ap (λ l. get_or l 3 0) (map_e-bounds (erase k) a.sons) in
        let e₂ = sym (map_e-take (erase k) 4 a.sons) in
        let e₃ = sym (map_e-drop (erase k) 4 a.sons) in
        λ j. made (e₁ j) (e₂ j) (e₃ j)

  split-erase : (p x fresh : ℕ) (f' : List ℕ) (fr : L.free ≡ fresh ∷ f') (full : length a.sons ≡ 8) (room : length (pre ++ (a, b) ∷ post) ≤ 7)
      → Below x (map_e (erase (suc k)) pre) → x ≤ b → small p k (erase (suc k) a) ≡ false → fills p k (erase (suc k) a) ≡ true
      → erase (suc (suc k)) (split-node (latch_word p) x fresh f' fr full room) ≡ descended p x (suc k) (erase (suc (suc k)) U)
  unfolding descended erase
  split-erase p x fresh f' fr full room low up sm fl =
      let E = erase (suc k) in
      let w = latch_word p in
      let l = left_son w x fresh f' fr full room in
      let r = right_son w x fresh f' fr full room in
      let d = mid w x fresh f' fr full room in
      ap (node 0) (map_e-append E pre ((l, d) ∷ (r, b) ∷ post)
      ∙ sym (ap (λ es. stepped p x k (son-at x k es) es) (map_e-mid E pre a b post) ∙ stepped-split p x k (map_e E pre) (E a) b (map_e E post) low up sm fl
      ∙ ap (λ q. map_e E pre ++ (q ++ map_e E post)) (halves-erase w x fresh f' fr full room)))

  -- One record fewer is free.
  split-free : (p x fresh : ℕ) (f' : List ℕ) → L.free ≡ fresh ∷ f' → (es : Sons (suc k)) → small p k (erase (suc k) a) ≡ false → fills p k (erase (suc k) a) ≡ true
      → with_free (length f') (on_tree (on_latch (latch_word p) x (descended p x)) (means L t)) ≡ level_state p x (means L t) k es (erase (suc k) a)
  unfolding means
  split-free p x fresh f' fr es sm fl =
      let e : length f' ≡ length L.free + 0 - 1 = omega (arith, ap length fr) in
      rw (sm, fl) (ap (λ n. with_free n (on_tree (on_latch (latch_word p) x (descended p x)) (means L t))) e)

  pub split-becomes : (p : ℕ) → p ≤ width → (session_at t p).stage ≡ 3 → v.word ≡ latch_word p → Free p a.latch.word
      → Below (session_at t p).target (map_e (erase (suc k)) pre) → (session_at t p).target ≤ b → small p k (erase (suc k) a) ≡ false → fills p k (erase (suc k) a) ≡ true
      → (F : Focus p (session_at t p).target (means L t) (suc k) (erase (suc (suc k)) U)) → Erased L t p (session_at t p).target (suc k) (erase (suc (suc k)) U) F c
      → (es : Sons (suc k)) (fresh : ℕ) (f' : List ℕ) (fr : L.free ≡ fresh ∷ f') (full : length a.sons ≡ 8) (room : length (pre ++ (a, b) ∷ post) ≤ 7)
      → Becomes s (split_words (latch_word p) (session_at t p).target fresh f' fr full room)
      (set t p (standing_at (session_at t p) (cond (leb (session_at t p).target (mid (latch_word p) (session_at t p).target fresh f' fr full room)) son fresh) (suc k)))
      (goes_on p (request_in (session_at t p)) (at (session_at t p).target) (level_state p (session_at t p).target (means L t) k es (erase (suc k) a))).next
  split-becomes p l st e f low up sm fl F er es fresh f' fr full room =
      let x = (session_at t p).target in
      let w = latch_word p in
      let T = split-node w x fresh f' fr full room in
      let i = cond (leb x (mid w x fresh f' fr full room)) son fresh in
      becomes-at s (split_words w x fresh f' fr full room) t (son ∷ fresh ∷ here ∷ []) (word_of s m (header_word s free_place) 0) (split-trace w x fresh f' fr full room) p (omega (arith, H.seats, l)) i (suc k)
      (with_tree L L.height (fill c T) f') (level_state p x (means L t) k es (erase (suc k) a))
      (means-level L t p x (suc k) U T c F er f' (split-erase p x fresh f' fr full room low up sm fl) ∙ split-free p x fresh f' fr es sm fl)
      (split-holds w x fresh f' fr full room p (standing_at (session_at t p) i (suc k)) (split-hands w x fresh f' fr full room p l refl e f st))

  -- ---- as the words have it

  module _ (x : ℕ) (low : Below x pre) (up : x ≤ b) where
    -- The place of the son on the path, and the son.
    pub place_is : son_for (node_at s m here) x ≡ length (map_e (num_of (suc k)) pre)
    place_is = find-here parent-usable hi (map_e (num_of (suc k)) pre) son b (map_e (num_of (suc k)) post) opened.parent.sons x (below-nodes (num_of (suc k)) x pre low) (inl up)

    pub toward-is : son_toward s m here x ≡ son
    toward-is = ap (λ i. get_or (node_at s m here).sons i 0) place_is ∙ son-here parent-usable hi (map_e (num_of (suc k)) pre) son b (map_e (num_of (suc k)) post) opened.parent.sons

    pub toward-ready : Toward s m here x
    toward-ready = record {
      node = ours-has s t L H c U is Z here here-ours;
      least = parent-usable.least;
      most = parent-usable.most;
      son = subst (HasRecord s m) (sym toward-is) (ours-has s t L H c U is Z son son-ours);
    }

    pub plain-words-is : (w : ℕ) → plain_son s m here x w ≡ plain_words w
    unfolding plain_son
    plain-words-is w = ap (λ i. latch_at (latch_at s m here 0) m i w) toward-is

    module _ (w fresh : ℕ) (f' : List ℕ) (fr : L.free ≡ fresh ∷ f') (full : length a.sons ≡ 8) (room : length (pre ++ (a, b) ∷ post) ≤ 7) where
      -- The split, of what its parts are.
      made : ℕ → ℕ → ℕ → ℕ → List ℕ
      made o i f d =
          let n = split_node (node_at s m o) in
          put_node (put_node (put_node (pop_free s m) m o (with_latch n.left (cond (leb x d) w 0))) m f (with_latch n.right (cond (leb x d) 0 w))) m here (with_latch (insert_behind (node_at s m here) i d f) 0)

      pub split-words-is : split_son s m here x w ≡ split_words w x fresh f' fr full room
      unfolding split_son put_halves made
      split-words-is =
          let e = (free-cut w x fresh f' fr full room).0 in
          let up_to : ℕ → ℕ = λ o. (split_node (node_at s m o)).up in
          (λ j. made (toward-is j) (place_is j) (e j) (up_to (toward-is j)))
          ∙ ap (made son (length (map_e (num_of (suc k)) pre)) fresh) (up_is w x fresh f' fr full room)

      pub split-half-is : split_son_half s m here x ≡ cond (leb x (mid w x fresh f' fr full room)) son fresh
      unfolding split_son_half
      split-half-is =
          let e = (free-cut w x fresh f' fr full room).0 in
          (λ j. cond (leb x (split_node (node_at s m (toward-is j))).up) (toward-is j) (e j))
          ∙ ap (λ d. cond (leb x d) son fresh) (up_is w x fresh f' fr full room)

  pub son-count : 1 ≤ length a.sons → (node_at s m son).count ≡ length a.sons
  son-count n =
      let ok = fits-usable s m b a.latch (map_e (num_of k) a.sons) opened.node_a (omega (arith, length-map_e (num_of k) a.sons, n)) in
      sym (entries-length ok b) ∙ ap length opened.node_a.sons ∙ length-map_e (num_of k) a.sons

  pub son-latch : (node_at s m son).latch ≡ a.latch.word
  son-latch = node-latch s m son ∙ opened.node_a.latch

  pub parent-count : (node_at s m here).count ≡ length (pre ++ (a, b) ∷ post)
  parent-count =
      sym (entries-length parent-usable hi) ∙ ap length opened.parent.sons ∙ length-append (map_e (num_of (suc k)) pre) ((son, b) ∷ map_e (num_of (suc k)) post)
      ∙ omega (arith, length-map_e (num_of (suc k)) pre, length-map_e (num_of (suc k)) post, length-append pre ((a, b) ∷ post))

-- The test of a party at a node: true exactly if its node is on the path to its target, at its level, with its latch (document 01's short lock) and with
-- room for what its next step may do.
use Rattle.std.specs.Prelude.{◌≡◌, ◌&&◌, ◌||◌, List, [], ◌∷◌, ◌⊎◌}
use Rattle.std.proofs.Common.{sym, ap, subst, ◌∙◌, arith}
use Rattle.std.proofs.Math.Bool.{true, not}
use Rattle.std.proofs.Math.Logic.{inl, inr}
use Prim.Native.Nat.{ℕ, zero, suc, ◌+◌, ◌≤◌}
use Rattle.std.proofs.Math.Decide.{ℕ_discrete}
use Rattle.std.proofs.Math.Dec.{eqb, leb}
use borrow.Author.Tests.{eq-eqb, ne_eqb, le-leb, eqb-true, eqb-false, leb-true, not-true}
use Rattle.words.specs.Header.{header_word, height_place}
use Rattle.words.specs.Store.{word_of}
use Rattle.nodes.specs.declared.Node.{Node}
use Rattle.nodes.specs.Node.{node_at, decode_node}
use Rattle.sessions.specs.declared.Session.{Session}
use Rattle.machine.specs.State.{Tree, top}
use Rattle.machine.specs.Holders.{latch_word}
use Rattle.machine.specs.Descent.{sons_of}
use Rattle.machine.specs.Sound.{OnPath}
use Rattle.machine.specs.Paths.{path-map}
use Rattle.meaning.specs.Reading.{erase, M-of, R-of, height_of, tree_of}
use Rattle.meaning.specs.Sound.{number_at, StandsAtNode}
use Rattle.marks.specs.Steps.{both}
use Rattle.standing.specs.Standing.{may_stand, at_node, descent_ok, latch_ok}
use Rattle.soundness.specs.TreePaths.{NodeAt, Reads}
use Rattle.soundness.specs.TreeKnown.{TreeKnown, level-descent, level-among, level-node}
use Rattle.soundness.specs.PartyRequests.{some_of, first_of, second-of, both-are}

-- ---- the node at a level

module _ {A : Type 0} (x : ℕ) where
  pub path-both : (P Q R : A → Type 0) → ((a : A) → P a → Q a → R a) → (es : List (A × ℕ)) → OnPath x P es → OnPath x Q es → OnPath x R es
  path-both P Q R f [] o i = o
  path-both P Q R f (p ∷ es) (inl o) (inl i) = inl (o.0, f p.0 o.1 i.1)
  path-both P Q R f (p ∷ es) (inl o) (inr i) = absurd (omega (arith, o.0, i.0))
  path-both P Q R f (p ∷ es) (inr o) (inl i) = absurd (omega (arith, o.0, i.0))
  path-both P Q R f (p ∷ es) (inr o) (inr i) = inr (o.0, path-both P Q R f es o.1 i.1)

  pub path-some : (P : A → Type 0) (C : Type 0) → ((a : A) → P a → C) → (es : List (A × ℕ)) → OnPath x P es → C
  path-some P C f [] o = absurd o
  path-some P C f (p ∷ es) (inl o) = f p.0 o.1
  path-some P C f (p ∷ es) (inr o) = path-some P C f es o.1

module _ (k x : ℕ) where
  pub node-as : (P Q : (h : ℕ) → Tree (suc h) → Type 0) → ((h : ℕ) (u : Tree (suc h)) → suc h ≡ k → P h u → Q h u) → (h : ℕ) (t : Tree h) → NodeAt k x P h t → NodeAt k x Q h t
  unfolding NodeAt
  node-as P Q f zero t o = o
  node-as P Q f (suc h) t (inl o) = inl (o.0, f h t o.0 o.1)
  node-as P Q f (suc h) t (inr o) = inr (o.0, path-map x (NodeAt k x P h) (NodeAt k x Q h) (node-as P Q f h) t.sons o.1)

  pub node-both : (P Q : (h : ℕ) → Tree (suc h) → Type 0) (h : ℕ) (t : Tree h) → NodeAt k x P h t → NodeAt k x Q h t → NodeAt k x (λ j u. P j u × Q j u) h t
  unfolding NodeAt
  node-both P Q zero t o i = o
  node-both P Q (suc h) t (inl o) (inl i) = inl (o.0, (o.1, i.1))
  node-both P Q (suc h) t (inl o) (inr i) = absurd (i.0 o.0)
  node-both P Q (suc h) t (inr o) (inl i) = absurd (o.0 i.0)
  node-both P Q (suc h) t (inr o) (inr i) =
      inr (o.0, path-both x (NodeAt k x P h) (NodeAt k x Q h) (NodeAt k x (λ j u. P j u × Q j u) h) (node-both P Q h) t.sons o.1 i.1)

  pub node-some : (P : (h : ℕ) → Tree (suc h) → Type 0) (C : Type 0) → ((h : ℕ) (u : Tree (suc h)) → suc h ≡ k → P h u → C) → (h : ℕ) (t : Tree h) → NodeAt k x P h t → C
  unfolding NodeAt
  node-some P C f zero t o = absurd o
  node-some P C f (suc h) t (inl o) = f h t o.0 o.1
  node-some P C f (suc h) t (inr o) = path-some x (NodeAt k x P h) C (node-some P C f h) t.sons o.1

-- ---- room

-- A session's node of n sons, at a level of so many, has at most 7; the housekeeper's has at least 4, or is the root and has no lone node for a son.
abbrev pub Fits : ℕ → ℕ → ℕ → ℕ → Type 0
Fits zero level height n = (4 ≤ n) ⊎ ((level ≡ height) × ((level ≡ 1) ⊎ (2 ≤ n)))
Fits (suc p) level height n = n ≤ 7

stand-found : (p : ℕ) (n : Node) (level height : ℕ) → may_stand p n level height ≡ true → Fits p level height n.count
unfolding may_stand
stand-found zero n level height e = go (some_of (leb 4 n.count) _ e)
  where
    alone : (eqb level 1 ≡ true) ⊎ (leb 2 n.count ≡ true) → (level ≡ 1) ⊎ (2 ≤ n.count)
    alone (inl q) = inl (eqb-true level 1 q)
    alone (inr q) = inr (leb-true 2 n.count q)

    go : (leb 4 n.count ≡ true) ⊎ ((eqb level height && (eqb level 1 || leb 2 n.count)) ≡ true) → Fits zero level height n.count
    go (inl q) = inl (leb-true 4 n.count q)
    go (inr q) = let p = both (eqb level height) (eqb level 1 || leb 2 n.count) q in inr (eqb-true level height p.0, alone (some_of (eqb level 1) (leb 2 n.count) p.1))
stand-found (suc p) n level height e = leb-true n.count 7 (simp (ne_eqb (suc p) 0 (λ q. omega (arith, q))) at e)

stand-walks : (p : ℕ) (n : Node) (level height : ℕ) → Fits p level height n.count → may_stand p n level height ≡ true
unfolding may_stand
stand-walks zero n level height (inl h) = first_of (leb 4 n.count) _ (le-leb 4 n.count h)
stand-walks zero n level height (inr h) = second-of (leb 4 n.count) _ (both-are (eqb level height) _ (eq-eqb level height h.0) (alone h.1))
  where
    alone : (level ≡ 1) ⊎ (2 ≤ n.count) → (eqb level 1 || leb 2 n.count) ≡ true
    alone (inl q) = first_of (eqb level 1) _ (eq-eqb level 1 q)
    alone (inr q) = second-of (eqb level 1) _ (le-leb 2 n.count q)
stand-walks (suc p) n level height h = simp (ne_eqb (suc p) 0 (λ q. omega (arith, q))) (le-leb n.count 7 h)

fits-same : (p l k a b n i : ℕ) → l ≡ k → a ≡ b → n ≡ i → Fits p l a n → Fits p k b i
fits-same p l k a b n i e q d f = subst (λ (y : ℕ). Fits p k b y) d (subst (λ (y : ℕ). Fits p k y n) q (subst (λ (y : ℕ). Fits p y a n) e f))

-- ---- a party at a node

-- The node has party p's latch and room for it.
abbrev pub Stood : List ℕ → ℕ → (h : ℕ) → Tree (suc h) → Type 0
Stood s p h u = (u.latch ≡ latch_word p) × Fits p (suc h) (suc (height_of s)) (sons_of u)

abbrev pub RoomAt : List ℕ → ℕ → Session → Type 0
RoomAt s p x = NodeAt x.level x.target (Stood s p) (suc (height_of s)) (erase (suc (height_of s)) (tree_of s))

pub record Latching (s : List ℕ) (p : ℕ) (x : Session) : Type 0 where
  pub at-node : StandsAtNode s p x
  pub room : RoomAt s p x

module _ (s seen : List ℕ) (K : TreeKnown s seen) (p : ℕ) (x : Session) (high : x.target ≤ top) where
  abbrev m : ℕ
  m = M-of s

  abbrev r : ℕ
  r = R-of s

  abbrev H : ℕ
  H = header_word s height_place

  record Tested (i : ℕ) : Type 0 where
    is_at : i ≡ x.at
    some : ¬ (i ≡ 0)
    most : i ≤ r
    latched : word_of s m i 0 ≡ suc p
    fits : Fits p x.level H (word_of s m i 1)

  tested : (i : ℕ) → at_node s m r p x i ≡ true → Tested i
  unfolding at_node decode_node
  tested i e =
      let n = node_at s m i in
      let a = both (eqb i x.at && not (eqb i 0) && leb i r && eqb n.latch (p + 1)) (may_stand p n x.level H) e in
      let b = both (eqb i x.at && not (eqb i 0) && leb i r) (eqb n.latch (p + 1)) a.0 in
      let c = both (eqb i x.at && not (eqb i 0)) (leb i r) b.0 in
      let d = both (eqb i x.at) (not (eqb i 0)) c.0 in
      let w : word_of s m i 0 ≡ p + 1 = eqb-true (word_of s m i 0) (p + 1) b.1 in
      record {
        is_at = eqb-true i x.at d.0;
        some = eqb-false i 0 (not-true _ d.1);
        most = leb-true i r c.1;
        latched = omega (arith, w);
        fits = stand-found p n x.level H a.1;
      }

  passes : (i : ℕ) → Tested i → at_node s m r p x i ≡ true
  unfolding at_node decode_node
  passes i t =
      simp (eq-eqb i x.at t.is_at, ne_eqb i 0 t.some, le-leb i r t.most, eq-eqb (word_of s m i 0) (p + 1) (omega (arith, t.latched)))
      (stand-walks p (node_at s m i) x.level H t.fits)

  abbrev node : ℕ
  node = number_at x.level x.target (suc (height_of s)) (tree_of s)

  -- What is read at the node, on both sides.
  module _ (low : 1 ≤ x.level) (few : x.level ≤ H) where
    levels : H ≡ suc (height_of s)
    levels = omega (arith, K.rooted)

    latching : Tested node → Latching s p x
    latching t = record {
      at-node = record {
        lowest = low;
        highest = omega (arith, few, levels);
        node = sym t.is_at;
        latched = subst (λ (i : ℕ). word_of s m i 0 ≡ latch_word p) t.is_at t.latched;
      };
      room = node-as x.level x.target (Reads s m r node) (Stood s p)
          (λ j u q k. (k.0 ∙ t.latched, fits-same p x.level (suc j) H (suc (height_of s)) (word_of s m node 1) (sons_of u) (sym q) levels (sym k.1) t.fits))
          (suc (height_of s)) (erase (suc (height_of s)) (tree_of s)) (level-node s seen K x.target x.level high low few);
    }

    room_fits : RoomAt s p x → Fits p x.level H (word_of s m node 1)
    room_fits o =
        node-some x.level x.target (λ j u. Stood s p j u × Reads s m r node j u) (Fits p x.level H (word_of s m node 1))
        (λ j u q k. fits-same p (suc j) x.level (suc (height_of s)) H (sons_of u) (word_of s m node 1) q (sym levels) k.1.1 k.0.1)
        (suc (height_of s)) (erase (suc (height_of s)) (tree_of s))
        (node-both x.level x.target (Stood s p) (Reads s m r node) (suc (height_of s)) (erase (suc (height_of s)) (tree_of s)) o (level-node s seen K x.target x.level high low few))

    latching-tested : Latching s p x → Tested node
    latching-tested l =
        let a = level-among s seen K x.target x.level high low few in
        record {
          is_at = sym l.at-node.node;
          some = λ q. omega (arith, q, a.0);
          most = a.1;
          latched = subst (λ (i : ℕ). word_of s m i 0 ≡ latch_word p) l.at-node.node l.at-node.latched;
          fits = room_fits l.room;
        }

  pub descent-found : descent_ok s (M-of s) (R-of s) p x ≡ true → Latching s p x
  unfolding descent_ok
  descent-found e =
      let a = both (not (eqb x.level 0) && leb x.level H) _ e in
      let b = both (not (eqb x.level 0)) (leb x.level H) a.0 in
      let n : ¬ (x.level ≡ 0) = eqb-false x.level 0 (not-true _ b.0) in
      let l : 1 ≤ x.level = omega (arith, n) in
      let h = leb-true x.level H b.1 in
      latching l h (subst Tested (level-descent s seen K x.target x.level high l h) (tested _ a.1))

  pub descent-walks : Latching s p x → descent_ok s (M-of s) (R-of s) p x ≡ true
  unfolding descent_ok
  descent-walks t =
      let l = t.at-node.lowest in
      let h : x.level ≤ H = omega (arith, t.at-node.highest, K.rooted) in
      simp (ne_eqb x.level 0 (λ q. omega (arith, q, l)), le-leb x.level H h)
      (ap (at_node s m r p x) (level-descent s seen K x.target x.level high l h) ∙ passes node (latching-tested l h t))

  -- A party that is at no node has no latch to show.
  pub latch-found : latch_ok s (M-of s) (R-of s) p x ≡ true → x.stage ≡ 3 → Latching s p x
  unfolding latch_ok
  latch-found e q = descent-found (simp (eq-eqb x.stage 3 q) at e)

  pub latch-walks : (x.stage ≡ 3 → Latching s p x) → latch_ok s (M-of s) (R-of s) p x ≡ true
  unfolding latch_ok
  latch-walks f = go (ℕ_discrete x.stage 3)
    where
      go : Dec (x.stage ≡ 3) → (not (eqb x.stage 3) || descent_ok s m r p x) ≡ true
      go (yes q) = second-of (not (eqb x.stage 3)) _ (descent-walks (f q))
      go (no n) = first_of (not (eqb x.stage 3)) _ (simp (ne_eqb x.stage 3 n))

-- Paths in the tree that a store's words say: where a descent (document 01's walk) comes to, and the descriptor at its end.
use Rattle.std.specs.Prelude.{◌≡◌, ◌⊎◌}
use Rattle.std.proofs.Math.Path.{refl, sym, ap, subst}
use Rattle.std.proofs.Common.{◌∙◌, arith}
use mathlib.Core.List.{List, [], ◌∷◌, ◌++◌}
use Rattle.std.proofs.Math.Logic.{inl, inr}
use Prim.Native.Nat.{ℕ, zero, suc, ◌+◌, ◌≤◌}
use Rattle.std.proofs.Math.ListN.{get_or}
use borrow.Author.Tests.{eq-eqb, ne_eqb, le-leb, lt-leb}
use Rattle.words.specs.Store.{word_of, record_at}
use Rattle.nodes.specs.declared.Node.{Node}
use Rattle.nodes.specs.Node.{node_at, decode_node, sized-decode}
use Rattle.nodes.specs.Live.{Usable}
use Rattle.nodes.specs.Entries.{Entry, entries, entries-length, find-here, son-here}
use Rattle.nodes.specs.Entries as N
use Rattle.machine.specs.Tree.{pick, flat, map_e, Seg, Below, Hit, hit}
use Rattle.machine.specs.State.{Tree}
use Rattle.machine.specs.Descent.{sons_of}
use Rattle.machine.specs.Sound.{Shaped, OnPath}
use Rattle.meaning.specs.Reading.{Numbered, read_sons, read_tree, erase, numbers, node_numbers}
use Rattle.meaning.specs.Sound.{All, number_at}
use Rattle.standing.specs.Standing.{son_on, descend_from}
use Rattle.soundness.specs.Marking.{Among, all_left, all_right}
use Rattle.soundness.specs.Sons.{fan-usable, fan-walks}
use Rattle.soundness.specs.TreeRecords.{read-many}
use Rattle.soundness.specs.TreeWalked.{Few}

-- The record of the descriptor on the path to x.
unfoldable pub leaf_number : ℕ → (h : ℕ) → Numbered h → ℕ
leaf_number x zero t = t.num
leaf_number x (suc h) t = pick x 0 (leaf_number x h) t.sons

-- The node at level k, counted from below, on the path to x has P, which sees the levels below it.
unfoldable pub NodeAt : (k x : ℕ) (P : (h : ℕ) → Tree (suc h) → Type 0) (h : ℕ) → Tree h → Type 0
NodeAt k x P zero d = ⊥
NodeAt k x P (suc h) t = ((suc h ≡ k) × P h t) ⊎ (¬ (suc h ≡ k) × OnPath x (NodeAt k x P h) t.sons)

-- ---- entries

below-same : (x : ℕ) (es : List Entry) → Below x es → N.Below x es
below-same x [] b = tt
below-same x (p ∷ es) b = (b.0, below-same x es b.1)

module _ {A : Type 0} (f : ℕ → ℕ → A) (x : ℕ) where
  pub pick-read : {B : Type 0} (z : B) (g : A → B) (pre : List Entry) (a u : ℕ) (post : List Entry) → Below x pre → x ≤ u
      → pick x z g (read_sons f (pre ++ (a, u) ∷ post)) ≡ g (f a u)
  pick-read z g [] a u post b h = rw (le-leb x u h)
  pick-read z g (p ∷ pre) a u post b h = rw (lt-leb x p.1 b.0) (pick-read z g pre a u post b.1 h)

  pub path-read : {B : Type 0} (k : A → B) (P : B → Type 0) (pre : List Entry) (a u : ℕ) (post : List Entry) → Below x pre → x ≤ u
      → P (k (f a u)) → OnPath x P (map_e k (read_sons f (pre ++ (a, u) ∷ post)))
  path-read k P [] a u post b h q = inl (h, q)
  path-read k P (p ∷ pre) a u post b h q = inr (b.0, path-read k P pre a u post b.1 h q)

module _ (n : Node) (hi x : ℕ) (ok : Usable n) (Q : ℕ → ℕ → ℕ → Type 0) (lo e : ℕ) (H : Hit Q x lo e (entries n hi)) where
  son-on : son_on n x ≡ H.a
  unfolding son_on
  son-on =
      let z : n.count ≡ 0 → ⊥ = λ q. omega (arith, q, ok.least) in
      simp (ne_eqb n.count 0 z, le-leb n.count 8 ok.most)
      (ap (λ (i : ℕ). get_or n.sons i 0) (find-here ok hi H.pre H.a H.u H.post H.eq x (below-same x H.pre H.below) (inl H.upto))
      ∙ son-here ok hi H.pre H.a H.u H.post H.eq)

-- ---- a tree that is read

module _ (s : List ℕ) (m r : ℕ) where
  -- What is known of the tree from record i on: its keys lie from lo to hi.
  pub record Known (h least lo hi i : ℕ) : Type 0 where
    pub shaped : Shaped h least lo hi (erase h (read_tree s m r h i hi))
    pub few : All (Few s m) (node_numbers h (read_tree s m r h i hi))
    pub inside : All (Among r) (numbers h (read_tree s m r h i hi))

  known-sons : (h lo e : ℕ) (es : List Entry) → Seg (Shaped h 3) lo e (map_e (erase h) (read_sons (read_tree s m r h) es))
      → All (Few s m) (flat (node_numbers h) (read_sons (read_tree s m r h) es)) → All (Among r) (flat (numbers h) (read_sons (read_tree s m r h) es))
      → Seg (λ (l u i : ℕ). Known h 3 l u i) lo e es
  known-sons h lo e [] g c n = g
  known-sons h lo e (p ∷ es) g c n =
      let t = read_tree s m r h p.0 p.1 in
      let ts = read_sons (read_tree s m r h) es in (
        record { shaped = g.0; few = all_left (Few s m) (node_numbers h t) (flat (node_numbers h) ts) c; inside = all_left (Among r) (numbers h t) (flat (numbers h) ts) n },
        known-sons h (suc p.1) e es g.1 (all_right (Few s m) (node_numbers h t) (flat (node_numbers h) ts) c) (all_right (Among r) (numbers h t) (flat (numbers h) ts) n),
      )

  module _ (h least lo hi i : ℕ) (some : 1 ≤ least) (K : Known (suc h) least lo hi i) where
    pub usable : Usable (node_at s m i)
    unfolding read_tree erase node_numbers Shaped decode_node
    usable =
        let n = read-many (read_tree s m r h) (erase h) (entries (node_at s m i) hi) in
        fan-usable (node_at s m i) least (sized-decode (record_at s m i)) some (fan-walks (node_at s m i) hi least (omega (arith, n, K.shaped.0)) K.few.0)

    pub known_among : Among r i
    unfolding read_tree numbers
    known_among = K.inside.0

    pub known-seg : Seg (λ (l u j : ℕ). Known h 3 l u j) lo (suc hi) (entries (node_at s m i) hi)
    unfolding read_tree erase Shaped node_numbers numbers
    known-seg = known-sons h lo (suc hi) (entries (node_at s m i) hi) K.shaped.3 K.few.1 K.inside.1

    module _ (x : ℕ) (low : lo ≤ x) (high : x ≤ hi) where
      pub known-hit : Hit (λ (l u j : ℕ). Known h 3 l u j) x lo (suc hi) (entries (node_at s m i) hi)
      known-hit = hit (λ (l u j : ℕ). Known h 3 l u j) x lo (suc hi) (entries (node_at s m i) hi) known-seg low (omega (arith, high))

      pub descend-suc : (n : ℕ) → descend_from s m r x i (suc n) ≡ descend_from s m r x known-hit.a n
      unfolding descend_from
      descend-suc n =
          let z : i ≡ 0 → ⊥ = λ q. omega (arith, q, known_among.0) in
          simp (ne_eqb i 0 z, le-leb i r known_among.1)
          (ap (λ (j : ℕ). descend_from s m r x j n) (son-on (node_at s m i) hi x usable (λ (l u j : ℕ). Known h 3 l u j) lo (suc hi) known-hit))

  -- ---- where a descent comes to

  number-below : (k x h i hi : ℕ) (pre : List Entry) (a u : ℕ) (post : List Entry) → entries (node_at s m i) hi ≡ pre ++ (a, u) ∷ post → Below x pre → x ≤ u → (suc h ≡ k → ⊥)
      → number_at k x (suc h) (read_tree s m r (suc h) i hi) ≡ number_at k x h (read_tree s m r h a u)
  unfolding number_at read_tree
  number-below k x h i hi pre a u post e b up n =
      simp (ne_eqb (suc h) k n)
      (ap (λ (l : List Entry). pick x 0 (number_at k x h) (read_sons (read_tree s m r h) l)) e ∙ pick-read (read_tree s m r h) x 0 (number_at k x h) pre a u post b up)

  number-here : (k x h i hi : ℕ) → suc h ≡ k → number_at k x (suc h) (read_tree s m r (suc h) i hi) ≡ i
  unfolding number_at read_tree
  number-here k x h i hi e = simp (eq-eqb (suc h) k e)

  -- n levels below record i, at level k, on the path to x.
  pub descend-level : (h n k least lo hi i x : ℕ) → 1 ≤ least → Known h least lo hi i → lo ≤ x → x ≤ hi → n + k ≡ h → 1 ≤ k
      → descend_from s m r x i n ≡ number_at k x h (read_tree s m r h i hi)
  unfolding descend_from
  descend-level zero n k least lo hi i x some K low high e one = absurd (omega (arith, e, one))
  descend-level (suc h) zero k least lo hi i x some K low high e one = sym (number-here k x h i hi (omega (arith, e)))
  descend-level (suc h) (suc n) k least lo hi i x some K low high e one =
      let H = known-hit h least lo hi i some K x low high in
      descend-suc h least lo hi i some K x low high n
      ∙ descend-level h n k 3 H.m H.u H.a x (omega arith) H.here H.from H.upto (omega (arith, e)) one
      ∙ sym (number-below k x h i hi H.pre H.a H.u H.post H.eq H.below H.upto (λ q. omega (arith, q, e)))

  leaf-below : (x h i hi : ℕ) (pre : List Entry) (a u : ℕ) (post : List Entry) → entries (node_at s m i) hi ≡ pre ++ (a, u) ∷ post → Below x pre → x ≤ u
      → leaf_number x (suc h) (read_tree s m r (suc h) i hi) ≡ leaf_number x h (read_tree s m r h a u)
  unfolding leaf_number read_tree
  leaf-below x h i hi pre a u post e b up =
      ap (λ (l : List Entry). pick x 0 (leaf_number x h) (read_sons (read_tree s m r h) l)) e ∙ pick-read (read_tree s m r h) x 0 (leaf_number x h) pre a u post b up

  pub descend-leaf : (h least lo hi i x : ℕ) → 1 ≤ least → Known h least lo hi i → lo ≤ x → x ≤ hi
      → descend_from s m r x i h ≡ leaf_number x h (read_tree s m r h i hi)
  unfolding descend_from leaf_number read_tree
  descend-leaf zero least lo hi i x some K low high = refl
  descend-leaf (suc h) least lo hi i x some K low high =
      let H = known-hit h least lo hi i some K x low high in
      descend-suc h least lo hi i some K x low high h
      ∙ descend-leaf h 3 H.m H.u H.a x (omega arith) H.here H.from H.upto
      ∙ sym (leaf-below x h i hi H.pre H.a H.u H.post H.eq H.below H.upto)

  -- The node of record j as the tree has it.
  abbrev pub Reads : ℕ → (h : ℕ) → Tree (suc h) → Type 0
  Reads j h u = (u.latch ≡ word_of s m j 0) × (sons_of u ≡ word_of s m j 1) × (1 ≤ sons_of u)

  node-here : (h least lo hi i x k : ℕ) → 1 ≤ least → Known (suc h) least lo hi i → suc h ≡ k → NodeAt k x (Reads i) (suc h) (erase (suc h) (read_tree s m r (suc h) i hi))
  unfolding NodeAt erase read_tree decode_node
  node-here h least lo hi i x k some K e =
      let n = read-many (read_tree s m r h) (erase h) (entries (node_at s m i) hi) ∙ entries-length (usable h least lo hi i some K) hi in
      inl (e, (refl, n, omega (arith, n, (usable h least lo hi i some K).least)))

  node-below : (h i hi x k j : ℕ) (pre : List Entry) (a u : ℕ) (post : List Entry) → entries (node_at s m i) hi ≡ pre ++ (a, u) ∷ post → Below x pre → x ≤ u → (suc h ≡ k → ⊥)
      → NodeAt k x (Reads j) h (erase h (read_tree s m r h a u)) → NodeAt k x (Reads j) (suc h) (erase (suc h) (read_tree s m r (suc h) i hi))
  unfolding NodeAt erase read_tree
  node-below h i hi x k j pre a u post e b up n q =
      inr (
        n,
        subst (λ (l : List Entry). OnPath x (NodeAt k x (Reads j) h) (map_e (erase h) (read_sons (read_tree s m r h) l))) (sym e)
            (path-read (read_tree s m r h) x (erase h) (NodeAt k x (Reads j) h) pre a u post b up q),
      )

  pub node-level : (h n k least lo hi i x : ℕ) → 1 ≤ least → Known h least lo hi i → lo ≤ x → x ≤ hi → n + k ≡ h → 1 ≤ k
      → NodeAt k x (Reads (number_at k x h (read_tree s m r h i hi))) h (erase h (read_tree s m r h i hi))
  node-level zero n k least lo hi i x some K low high e one = absurd (omega (arith, e, one))
  node-level (suc h) zero k least lo hi i x some K low high e one =
      let q : suc h ≡ k = omega (arith, e) in
      subst (λ (j : ℕ). NodeAt k x (Reads j) (suc h) (erase (suc h) (read_tree s m r (suc h) i hi))) (sym (number-here k x h i hi q)) (node-here h least lo hi i x k some K q)
  node-level (suc h) (suc n) k least lo hi i x some K low high e one =
      let H = known-hit h least lo hi i some K x low high in
      let z : suc h ≡ k → ⊥ = λ q. omega (arith, q, e) in
      subst (λ (j : ℕ). NodeAt k x (Reads j) (suc h) (erase (suc h) (read_tree s m r (suc h) i hi)))
      (sym (number-below k x h i hi H.pre H.a H.u H.post H.eq H.below H.upto z))
      (node-below h i hi x k (number_at k x h (read_tree s m r h H.a H.u)) H.pre H.a H.u H.post H.eq H.below H.upto z
      (node-level h n k 3 H.m H.u H.a x (omega arith) H.here H.from H.upto (omega (arith, e)) one))

  pub number-among : (h n k least lo hi i x : ℕ) → 1 ≤ least → Known h least lo hi i → lo ≤ x → x ≤ hi → n + k ≡ h → 1 ≤ k
      → Among r (number_at k x h (read_tree s m r h i hi))
  number-among zero n k least lo hi i x some K low high e one = absurd (omega (arith, e, one))
  number-among (suc h) zero k least lo hi i x some K low high e one =
      subst (Among r) (sym (number-here k x h i hi (omega (arith, e)))) (known_among h least lo hi i some K)
  number-among (suc h) (suc n) k least lo hi i x some K low high e one =
      let H = known-hit h least lo hi i some K x low high in
      subst (Among r) (sym (number-below k x h i hi H.pre H.a H.u H.post H.eq H.below H.upto (λ q. omega (arith, q, e))))
      (number-among h n k 3 H.m H.u H.a x (omega arith) H.here H.from H.upto (omega (arith, e)) one)

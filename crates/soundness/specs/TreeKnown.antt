-- What the pass over the session table finds in a tree that is known to be in order: the nodes on a path, the stored keys, the descriptors.
use Rattle.std.specs.Prelude.{◌≡◌, refl, Bool, true, false, not, ◌&&◌, List, ◌∷◌, ℕ, suc, ◌+◌, ◌-◌, ◌≤◌, eqb, get_or}
use Rattle.std.proofs.Common.{sym, subst, ◌∙◌, arith}
use Rattle.std.proofs.Math.Path.{ap}
use Rattle.std.proofs.lemmas.List.{map-append}
use Rattle.std.proofs.Math.Dec.{leb}
use borrow.Author.Tests.{eq-eqb, ne_eqb, le-leb, eqb-true}
use Rattle.words.specs.Header.{header_word, root_place, height_place}
use Rattle.words.specs.Store.{word_of}
use Rattle.groups.specs.Descriptor.{descriptor_at, decode_descriptor}
use Rattle.machine.specs.State.{Desc, top}
use Rattle.machine.specs.Order.{ord-in, in-wide}
use Rattle.machine.specs.Order as Order
use Rattle.machine.specs.Sound.{Shaped, stored_in, pins_in}
use Rattle.machine.specs.Looks.{shaped-ordered, stored-range, pins-at}
use Rattle.meaning.specs.Reading.{Leaf, erase, numbers, node_numbers, M-of, R-of, height_of, tree_of}
use Rattle.meaning.specs.Sound.{All, leaves_of, number_at, record_of}
use Rattle.marks.specs.Marks.{is_met, descriptor_mark}
use Rattle.marks.specs.Steps.{both}
use Rattle.standing.specs.Standing.{descend_from, has_key, is_stored}
use Rattle.soundness.specs.Marking.{Among, In, all_in, all_right, all-as, is-met, met-is}
use Rattle.soundness.specs.TreePaths.{leaf_number, NodeAt, Known, Reads}
use Rattle.soundness.specs.TreePaths as P
use Rattle.soundness.specs.Leaves.{erase-leaves}
use Rattle.soundness.specs.UndoLeaves.{descs, nums, leaves-read}
use Rattle.soundness.specs.TreeLeaves.{Split, split, stored-split, split-stored, record_at, Says, number-split, in-mid}
use Rattle.soundness.specs.TreeRecords.{leaf-in, TreeMarks, is_leaf}
use Rattle.soundness.specs.TreeWalked.{Few}
use Rattle.soundness.specs.RootPass.{root_tree, RootInOrder}

-- The tree is in order, and the marks say which records are its descriptors: what the passes before this one have found.
pub record TreeKnown (s seen : List ℕ) : Type 0 where
  pub rooted : 1 ≤ header_word s height_place
  pub shaped : Shaped (suc (height_of s)) 1 0 top (erase (suc (height_of s)) (tree_of s))
  pub few : All (Few s (M-of s)) (node_numbers (suc (height_of s)) (tree_of s))
  pub inside : All (Among (R-of s)) (numbers (suc (height_of s)) (tree_of s))
  pub met : (i : ℕ) → is_met seen (R-of s) i descriptor_mark ≡ true → In i (nums (leaves_of s))
  pub marked : (i : ℕ) → In i (nums (leaves_of s)) → is_met seen (R-of s) i descriptor_mark ≡ true

-- The pass over the tree says so.
pub tree-known : (s before now : List ℕ) → RootInOrder s (M-of s) (R-of s) before → TreeMarks (suc (height_of s)) (root_tree s (M-of s) (R-of s)) before now
    → ((j : ℕ) → get_or before j 0 ≡ 0) → TreeKnown s now
unfolding tree_of
tree-known s before now T marks new = record {
  rooted = T.rooted;
  shaped = T.shaped;
  few = T.few;
  inside = T.fresh.inside;
  met = λ i e. is_leaf (suc (height_of s)) (root_tree s (M-of s) (R-of s)) marks i (new i) (met-is now (R-of s) i descriptor_mark e).1;
  marked = λ i n. is-met now (R-of s) i descriptor_mark
      (all_in (Among (R-of s)) (numbers (suc (height_of s)) (root_tree s (M-of s) (R-of s))) T.fresh.inside i (leaf-in (suc (height_of s)) (root_tree s (M-of s) (R-of s)) i n))
      (marks.leaf i n);
}

pub same_bool : (a b : Bool) → (a ≡ true → b ≡ true) → (b ≡ true → a ≡ true) → a ≡ b
same_bool true b f g = sym (f refl)
same_bool false true f g = g refl
same_bool false false f g = refl

-- Word 1 of a record: its key, where it is a descriptor's.
abbrev pub key_word : List ℕ → ℕ → ℕ
key_word s i = word_of s (M-of s) i 1

abbrev root : List ℕ → ℕ
root s = header_word s root_place

module _ (s : List ℕ) (m r key i : ℕ) where
  key-found : has_key s m r key i ≡ true → word_of s m i 1 ≡ key
  unfolding has_key decode_descriptor
  key-found e = eqb-true (word_of s m i 1) key (both (not (eqb i 0) && leb i r) (eqb (word_of s m i 1) key) e).1

  key_walks : Among r i → word_of s m i 1 ≡ key → has_key s m r key i ≡ true
  unfolding has_key decode_descriptor
  key_walks a e = simp (ne_eqb i 0 (λ q. omega (arith, q, a.0)), le-leb i r a.1, eq-eqb (word_of s m i 1) key e)

module _ (s seen : List ℕ) (K : TreeKnown s seen) where
  known : Known s (M-of s) (R-of s) (suc (height_of s)) 1 0 top (root s)
  unfolding tree_of
  known = record { shaped = K.shaped; few = K.few; inside = K.inside }

  levels : header_word s height_place ≡ suc (height_of s)
  levels = omega (arith, K.rooted)

  module _ (key level : ℕ) (high : key ≤ top) (least : 1 ≤ level) (most : level ≤ header_word s height_place) where
    depth : header_word s height_place - level + level ≡ suc (height_of s)
    depth = omega (arith, K.rooted, most)

    -- The node at a level on the path to a key.
    pub level-descent : descend_from s (M-of s) (R-of s) key (root s) (header_word s height_place - level) ≡ number_at level key (suc (height_of s)) (tree_of s)
    unfolding tree_of
    level-descent =
        P.descend-level s (M-of s) (R-of s) (suc (height_of s)) (header_word s height_place - level) level 1 0 top (root s) key (omega arith) known (omega arith) high depth least

    pub level-among : Among (R-of s) (number_at level key (suc (height_of s)) (tree_of s))
    unfolding tree_of
    level-among =
        P.number-among s (M-of s) (R-of s) (suc (height_of s)) (header_word s height_place - level) level 1 0 top (root s) key (omega arith) known (omega arith) high depth least

    pub level-node : NodeAt level key (Reads s (M-of s) (R-of s) (number_at level key (suc (height_of s)) (tree_of s))) (suc (height_of s)) (erase (suc (height_of s)) (tree_of s))
    unfolding tree_of
    level-node =
        P.node-level s (M-of s) (R-of s) (suc (height_of s)) (header_word s height_place - level) level 1 0 top (root s) key (omega arith) known (omega arith) high depth least

  -- ---- stored keys

  pub says : Says (key_word s) (leaves_of s)
  says = all-as (λ (l : Leaf) q. ap (λ (d : Desc). d.key) q) (leaves_of s) (leaves-read s)

  pub leaf-among : (i : ℕ) → In i (nums (leaves_of s)) → Among (R-of s) i
  leaf-among i n = all_in (Among (R-of s)) (numbers (suc (height_of s)) (tree_of s)) K.inside i (leaf-in (suc (height_of s)) (tree_of s) i n)

  -- No descriptor has a key above the upper infinity.
  keys_low : Order.In 0 (suc top) (descs (leaves_of s))
  keys_low =
      let h = suc (height_of s) in
      let t = erase h (tree_of s) in
      subst (Order.In 0 (suc top)) (erase-leaves h (tree_of s)) (ord-in h 0 top t (shaped-ordered h 1 0 top t K.shaped))

  pub stored_low : (k : ℕ) → stored_in k (descs (leaves_of s)) ≡ true → k ≤ top
  stored_low k e = let q = (stored-range k 0 (suc top) (descs (leaves_of s)) keys_low e).1 in omega (arith, q)

  module _ (key : ℕ) (high : key ≤ top) where
    on-path : Split key (suc (height_of s)) (tree_of s) 0 (suc top)
    on-path = split key (suc (height_of s)) (tree_of s) 0 top (shaped-ordered (suc (height_of s)) 1 0 top (erase (suc (height_of s)) (tree_of s)) K.shaped) (omega arith) high

    -- The descriptor on the path to a key.
    pub leaf-descent : descend_from s (M-of s) (R-of s) key (root s) (header_word s height_place) ≡ leaf_number key (suc (height_of s)) (tree_of s)
    unfolding tree_of
    leaf-descent =
        ap (descend_from s (M-of s) (R-of s) key (root s)) levels
        ∙ P.descend-leaf s (M-of s) (R-of s) (suc (height_of s)) 1 0 top (root s) key (omega arith) known (omega arith) high

    path-stored : stored_in key (descs (leaves_of s)) ≡ true → on-path.l.desc.key ≡ key
    path-stored e =
        let S = on-path in
        stored-split key S.A S.l S.B 0 S.lo S.hi (suc top) S.low S.high S.at_least S.at_most
        (subst (λ (x : List Leaf). stored_in key (descs x) ≡ true) S.was e)

    stored-path : on-path.l.desc.key ≡ key → stored_in key (descs (leaves_of s)) ≡ true
    stored-path e =
        let S = on-path in
        ap (λ (x : List Leaf). stored_in key (descs x)) S.was
        ∙ split-stored key S.A S.l S.B 0 S.lo S.hi (suc top) S.low S.high S.at_least S.at_most e

    path-in : In on-path.l.num (nums (leaves_of s))
    path-in = let S = on-path in subst (λ (x : List Leaf). In S.l.num (nums x)) (sym S.was) (in-mid S.A S.l S.B)

    path-says : on-path.l.desc.key ≡ key_word s on-path.l.num
    path-says = let S = on-path in (all_right (λ (x : Leaf). x.desc.key ≡ key_word s x.num) S.A (S.l ∷ S.B) (subst (Says (key_word s)) S.was says)).0

    path-record : on-path.l.desc.key ≡ key → record_of key (leaves_of s) ≡ on-path.l.num
    path-record e = let S = on-path in ap (record_of key) S.was ∙ record_at key 0 S.lo S.A S.l S.B S.low S.at_least e

    pub record-in : stored_in key (descs (leaves_of s)) ≡ true → In (record_of key (leaves_of s)) (nums (leaves_of s))
    record-in e = subst (λ (i : ℕ). In i (nums (leaves_of s))) (sym (path-record (path-stored e))) path-in

    pub record-key : stored_in key (descs (leaves_of s)) ≡ true → key_word s (record_of key (leaves_of s)) ≡ key
    record-key e = ap (key_word s) (path-record (path-stored e)) ∙ sym path-says ∙ path-stored e

    -- A descriptor of that key is the one.
    pub record-only : (i : ℕ) → In i (nums (leaves_of s)) → key_word s i ≡ key → (stored_in key (descs (leaves_of s)) ≡ true) × (i ≡ record_of key (leaves_of s))
    record-only i n e =
        let S = on-path in
        let q = number-split (key_word s) key i S.A S.l S.B 0 S.lo S.hi (suc top) S.low S.high S.at_least S.at_most
        (subst (Says (key_word s)) S.was says) (subst (λ (x : List Leaf). In i (nums x)) S.was n) e in
        (stored-path q.1, q.0 ∙ sym (path-record q.1))

    pub stored_is : is_stored s (M-of s) (R-of s) key ≡ stored_in key (descs (leaves_of s))
    unfolding is_stored
    stored_is =
        let end : descend_from s (M-of s) (R-of s) key (root s) (header_word s height_place) ≡ on-path.l.num = leaf-descent ∙ on-path.leaf in
        ap (has_key s (M-of s) (R-of s) key) end
        ∙ same_bool (has_key s (M-of s) (R-of s) key on-path.l.num) (stored_in key (descs (leaves_of s)))
        (λ e. stored-path (path-says ∙ key-found s (M-of s) (R-of s) key on-path.l.num e))
        (λ e. key_walks s (M-of s) (R-of s) key on-path.l.num (leaf-among on-path.l.num path-in) (sym path-says ∙ path-stored e))

    -- The pins of a stored key are those of its descriptor.
    path-pins : on-path.l.desc.key ≡ key → pins_in key (descs (leaves_of s)) ≡ on-path.l.desc.pins
    path-pins e =
        let S = on-path in
        ap (λ (x : List Leaf). pins_in key (descs x)) S.was ∙ ap (pins_in key) (map-append (λ (x : Leaf). x.desc) S.A (S.l ∷ S.B))
        ∙ pins-at key 0 S.l.desc e (descs S.A) (descs S.B) (in-wide 0 S.lo 0 key (descs S.A) S.low (omega arith) S.at_least)

    pub pins_stored : (P : ℕ → Type 0) → All (λ (l : Leaf). l.desc.key ≡ key → P l.desc.pins) (leaves_of s) → stored_in key (descs (leaves_of s)) ≡ true
        → P (pins_in key (descs (leaves_of s)))
    pins_stored P a e =
        let S = on-path in
        let q = path-stored e in
        subst P (sym (path-pins q))
        ((all_right (λ (l : Leaf). l.desc.key ≡ key → P l.desc.pins) S.A (S.l ∷ S.B) (subst (All (λ (l : Leaf). l.desc.key ≡ key → P l.desc.pins)) S.was a)).0 q)

    -- ---- descriptors that are pinned

    pub pin-found : (i : ℕ) → (is_met seen (R-of s) i descriptor_mark && eqb (descriptor_at s (M-of s) i).key key) ≡ true
        → (stored_in key (descs (leaves_of s)) ≡ true) × (i ≡ record_of key (leaves_of s))
    unfolding decode_descriptor
    pin-found i e =
        let p = both (is_met seen (R-of s) i descriptor_mark) (eqb (key_word s i) key) e in
        record-only i (K.met i p.0) (eqb-true (key_word s i) key p.1)

    pub pin-walks : stored_in key (descs (leaves_of s)) ≡ true
        → (is_met seen (R-of s) (record_of key (leaves_of s)) descriptor_mark && eqb (descriptor_at s (M-of s) (record_of key (leaves_of s))).key key) ≡ true
    unfolding decode_descriptor
    pin-walks e = simp (K.marked (record_of key (leaves_of s)) (record-in e), eq-eqb (key_word s (record_of key (leaves_of s))) key (record-key e))

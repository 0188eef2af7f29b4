-- The stored descriptors as the words have them, each with its record's number: a leaf's number and key determine each other, and what the machine
-- reads at a stored key is what the words of its leaf say.
use Rattle.std.specs.Prelude.{◌≡◌, Bool}
use Rattle.std.proofs.Math.Path.{refl, sym, ap}
use Rattle.std.proofs.Common.{ap₂, ◌∙◌, inl, inr, arith}
use Rattle.std.proofs.Math.Bool.{true, false, cond}
use mathlib.Core.List.{List, [], ◌∷◌, ◌++◌, map}
use Prim.Native.Nat.{ℕ, zero, suc, ◌≤◌}
use Rattle.std.proofs.Math.Dec.{eqb}
use borrow.Author.Tests.{eq-eqb, ne_eqb, eqb-true}
use Rattle.words.specs.Store.{word_of}
use Rattle.nodes.specs.Node.{node_at}
use Rattle.nodes.specs.Entries.{entries}
use Rattle.sessions.specs.declared.Session.{Session}
use Rattle.machine.specs.Tree.{flat, leaves}
use Rattle.machine.specs.Gaps.{updaters}
use Rattle.machine.specs.State.{Desc, State}
use Rattle.machine.specs.Order as O
use Rattle.machine.specs.Order.{in-wide}
use Rattle.machine.specs.View.{seen, group_in, update_word}
use Rattle.machine.specs.Groups.{words, Rises}
use Rattle.machine.specs.Housekeeping.{lvs, seen-words, seen-group}
use Rattle.machine.specs.Keys.{update-at, group_at}
use Rattle.machine.specs.Sound.{stored_in}
use Rattle.machine.specs.Looks.{stored_here}
use Rattle.meaning.specs.Reading.{desc_at, Leaf, Mark, read_sons, read_tree, M-of, R-of, height_of, tree_of, meaning}
use Rattle.meaning.specs.Sound.{All, leaves_of, record_of}
use Rattle.marks.specs.Steps.{no as never}
use Rattle.soundness.specs.Marking.{In, all_append}
use Rattle.soundness.specs.Leaves.{lvs-meaning}

abbrev pub descs : List Leaf → List Desc
descs ls = map (λ l. l.desc) ls

abbrev pub nums : List Leaf → List ℕ
nums ls = map (λ l. l.num) ls

-- ---- the leaves of the words' tree

-- A leaf's descriptor is read from its record.
abbrev pub Read : List ℕ → ℕ → ℕ → Leaf → Type 0
Read s m r l = l.desc ≡ desc_at s m r l.num

module _ (s : List ℕ) (m r : ℕ) where
  read_all : {A : Type 0} (f : ℕ → ℕ → A) (g : A → List Leaf) → ((i hi : ℕ) → All (Read s m r) (g (f i hi))) → (es : List (ℕ × ℕ)) → All (Read s m r) (flat g (read_sons f es))
  read_all f g e [] = tt
  read_all f g e (p ∷ es) = all_append (Read s m r) (g (f p.0 p.1)) (flat g (read_sons f es)) (e p.0 p.1) (read_all f g e es)

  tree-read : (h i hi : ℕ) → All (Read s m r) (leaves Leaf Mark h (read_tree s m r h i hi))
  unfolding read_tree leaves
  tree-read zero i hi = (refl, tt)
  tree-read (suc h) i hi = read_all (read_tree s m r h) (leaves Leaf Mark h) (tree-read h) (entries (node_at s m i) hi)

pub leaves-read : (s : List ℕ) → All (Read s (M-of s) (R-of s)) (leaves_of s)
unfolding tree_of
leaves-read s = tree-read s (M-of s) (R-of s) (suc (height_of s)) _ _

-- The meaning stores their descriptors.
pub leaves-meant : (s : List ℕ) (t : List Session) → lvs (meaning s t) ≡ descs (leaves_of s)
leaves-meant s t = lvs-meaning s t ∙ sym (go (leaves_of s) (leaves-read s))
  where
    go : (ls : List Leaf) → All (Read s (M-of s) (R-of s)) ls → descs ls ≡ map (desc_at s (M-of s) (R-of s)) (nums ls)
    go [] a = refl
    go (l ∷ ls) a = ap₂ (λ x xs. x ∷ xs) a.0 (go ls a.1)

-- ---- a leaf's number and key

-- The key that record d has, if it is a leaf's.
abbrev pub key_at : List ℕ → ℕ → ℕ → ℕ
key_at s m d = word_of s m d 1

module _ (s : List ℕ) (m r : ℕ) where
  -- The leaf of record d, among leaves whose keys are from lo on.
  pub record Found (lo : ℕ) (ls : List Leaf) (d : ℕ) : Type 0 where
    pub A : List Desc
    pub B : List Desc
    pub is : descs ls ≡ A ++ desc_at s m r d ∷ B
    pub low : O.In lo (key_at s m d) A
    pub from : lo ≤ key_at s m d
    pub named : record_of (key_at s m d) ls ≡ d

  pub leaf-found : (lo hi : ℕ) (ls : List Leaf) → All (Read s m r) ls → Rises lo hi (descs ls) → (d : ℕ) → In d (nums ls) → Found lo ls d
  unfolding record_of
  leaf-found lo hi [] a q d x3 = elim x3 [ ]
  leaf-found lo hi (l ∷ ls) a q d (inl e) =
      let is : l.desc ≡ desc_at s m r d = a.0 ∙ ap (desc_at s m r) (sym e) in
      let k : l.desc.key ≡ key_at s m d = ap (λ (x : Desc). x.key) is in
      record {
        A = [];
        B = descs ls;
        is = ap (λ (x : Desc). x ∷ descs ls) is;
        low = tt;
        from = omega (arith, k, q.0.0);
        named = ap (λ (b : Bool). cond b l.num (record_of (key_at s m d) ls)) (eq-eqb l.desc.key (key_at s m d) k) ∙ sym e;
      }
  leaf-found lo hi (l ∷ ls) a q d (inr w) =
      let f = leaf-found (suc l.desc.key) hi ls a.1 q.1 d w in
      record {
        A = l.desc ∷ f.A;
        B = f.B;
        is = ap (λ (x : List Desc). l.desc ∷ x) f.is;
        low = ((q.0.0, f.from), in-wide (suc l.desc.key) (key_at s m d) lo (key_at s m d) f.A f.low (omega (arith, q.0.0)) (omega arith));
        from = omega (arith, q.0.0, f.from);
        named = ap (λ (b : Bool). cond b l.num (record_of (key_at s m d) ls)) (ne_eqb l.desc.key (key_at s m d) (λ z. omega (arith, z, f.from))) ∙ f.named;
      }

  -- The record of a stored key is a leaf's, and has that key.
  pub record-leaf : (k : ℕ) (ls : List Leaf) → All (Read s m r) ls → stored_in k (descs ls) ≡ true → In (record_of k ls) (nums ls) × (key_at s m (record_of k ls) ≡ k)
  unfolding record_of stored_in
  record-leaf k [] a h = never h
  record-leaf k (l ∷ ls) a h = go (eqb l.desc.key k) refl h (record-leaf k ls a.1)
    where
      go : (b : Bool) → eqb l.desc.key k ≡ b → cond b true (stored_in k (descs ls)) ≡ true
          → (stored_in k (descs ls) ≡ true → In (record_of k ls) (nums ls) × (key_at s m (record_of k ls) ≡ k))
          → In (cond b l.num (record_of k ls)) (nums (l ∷ ls)) × (key_at s m (cond b l.num (record_of k ls)) ≡ k)
      go true e z ih = (inl refl, sym (ap (λ (x : Desc). x.key) a.0) ∙ eqb-true l.desc.key k e)
      go false e z ih = let w = ih z in (inr w.0, w.1)

  -- ---- what the machine reads at the key of a leaf

  module _ (ls : List Leaf) (a : All (Read s m r) ls) (lo hi : ℕ) (q : Rises lo hi (descs ls)) (σ : State) (is : lvs σ ≡ descs ls) (d : ℕ) (w : In d (nums ls)) where
    found : Found lo ls d
    found = leaf-found lo hi ls a q d w

    pub leaf-stored : stored_in (key_at s m d) (lvs σ) ≡ true
    leaf-stored = ap (stored_in (key_at s m d)) (is ∙ found.is) ∙ stored_here (key_at s m d) (desc_at s m r d) refl found.A found.B

    pub leaf-update : update_word (key_at s m d) (seen σ) ≡ word_of s m d 3
    unfolding update_word
    leaf-update =
        ap (λ x. updaters x (key_at s m d)) (seen-words σ ∙ ap words (is ∙ found.is))
        ∙ update-at (key_at s m d) lo (desc_at s m r d) refl found.A found.B found.low

    pub leaf-group : group_in (key_at s m d) (seen σ) ≡ (desc_at s m r d).members
    leaf-group = seen-group (key_at s m d) σ ∙ ap (group_in (key_at s m d)) (is ∙ found.is) ∙ group_at (key_at s m d) lo (desc_at s m r d) refl found.A found.B found.low

-- The records of a tree that is read, in the order of a walk, and the marks that meeting them leaves.
use Rattle.std.specs.Prelude.{◌≡◌, refl, Bool, true, false, cond, List, [], ◌∷◌, ◌++◌, map, ◌⊎◌, ℕ, zero, suc, ◌+◌, ◌≤◌, ◌<◌, eqb, length, get_or, set}
use Rattle.std.proofs.Common.{sym, ap, subst, ◌∙◌, inl, inr, arith, length-append, length-set, get_or-set_same, get_or-set_other}
use Rattle.std.proofs.lemmas.List.{map-append}
use Rattle.machine.specs.Tree.{flat, map_e, sum_e, leaves}
use Rattle.machine.specs.State.{Tree}
use Rattle.meaning.specs.Reading.{Leaf, Mark, Numbered, read_sons, erase, numbers, node_numbers}
use Rattle.meaning.specs.Sound.{All, Apart, Once}
use Rattle.marks.specs.Marks.{node_mark, descriptor_mark}
use Rattle.soundness.specs.Marking.{Fresh, Marked, Among, all_in, In, in?, in-append, in_left, in_right, all_append}
use Rattle.soundness.specs.TreeTrace.{Trace, join, nothing, nums, nums-append, nums-length, mark_each, each-length, Kinds, Fits}

-- Each record with its kind.
unfoldable pub kinds : (h : ℕ) → Numbered h → List (ℕ × ℕ)
kinds zero t = (t.num, descriptor_mark) ∷ []
kinds (suc h) t = (t.latch.num, node_mark) ∷ flat (kinds h) t.sons

-- The records of the descriptors.
abbrev pub leaf_numbers : (h : ℕ) → Numbered h → List ℕ
leaf_numbers h t = map (λ l. l.num) (leaves Leaf Mark h t)

-- How many nodes have a latch (document 01: short lock).
unfoldable pub latched_many : (h : ℕ) → Tree h → ℕ
latched_many zero t = 0
latched_many (suc h) t = cond (eqb t.latch 0) 0 1 + sum_e (latched_many h) t.sons

pub read-many : {A B : Type 0} (f : ℕ → ℕ → A) (g : A → B) (es : List (ℕ × ℕ)) → length (map_e g (read_sons f es)) ≡ length es
read-many f g [] = refl
read-many f g (p ∷ es) = ap suc (read-many f g es)

-- ---- what a tree says is met

unfoldable pub trace : (h : ℕ) → Numbered h → Trace
trace h t = record { marks = kinds h t; leaves = leaf_numbers h t; latched = latched_many h (erase h t) }

abbrev pub forest : (h : ℕ) → List (Numbered h × ℕ) → Trace
forest h [] = nothing
forest h (p ∷ es) = join (trace h p.0) (forest h es)

abbrev pub leaf_trace : ℕ → Trace
leaf_trace i = record { marks = (i, descriptor_mark) ∷ []; leaves = i ∷ []; latched = 0 }

abbrev pub node_trace : ℕ → ℕ → Trace
node_trace i w = record { marks = (i, node_mark) ∷ []; leaves = []; latched = cond (eqb w 0) 0 1 }

pub trace-leaf : (t : Numbered zero) → trace zero t ≡ leaf_trace t.num
unfolding trace kinds leaves latched_many
trace-leaf t = refl

forest-is : (h : ℕ) (es : List (Numbered h × ℕ))
    → forest h es ≡ record { marks = flat (kinds h) es; leaves = map (λ l. l.num) (flat (leaves Leaf Mark h) es); latched = sum_e (latched_many h) (map_e (erase h) es) }
unfolding trace
forest-is h [] = refl
forest-is h (p ∷ es) =
    ap (join (trace h p.0)) (forest-is h es)
    ∙ (λ i. record {
      marks = flat (kinds h) (p ∷ es);
      leaves = sym (map-append (λ l. l.num) (leaves Leaf Mark h p.0) (flat (leaves Leaf Mark h) es)) i;
      latched = sum_e (latched_many h) (map_e (erase h) (p ∷ es));
    })

pub trace-node : (h : ℕ) (t : Numbered (suc h)) → trace (suc h) t ≡ join (node_trace t.latch.num t.latch.word) (forest h t.sons)
unfolding trace kinds leaves latched_many erase
trace-node h t = sym (ap (join (node_trace t.latch.num t.latch.word)) (forest-is h t.sons))

-- ---- no more descriptors, and no more latches, than records

pub leaf-fits : (i : ℕ) → Fits (leaf_trace i)
leaf-fits i = record { latches = omega arith; leaves = omega arith }

pub node-fits : (i w : ℕ) → Fits (node_trace i w)
node-fits i w = record { latches = go (eqb w 0); leaves = omega arith }
  where
    go : (b : Bool) → cond {A = ℕ} b 0 1 ≤ 1
    go true = omega arith
    go false = omega arith

fits-join : (x y : Trace) → Fits x → Fits y → Fits (join x y)
fits-join x y f g = record {
  latches = omega (arith, f.latches, g.latches, length-append x.marks y.marks);
  leaves = omega (arith, f.leaves, g.leaves, length-append x.marks y.marks, length-append x.leaves y.leaves);
}

fits-forest : (h : ℕ) → ((t : Numbered h) → Fits (trace h t)) → (es : List (Numbered h × ℕ)) → Fits (forest h es)
fits-forest h f [] = record { latches = omega arith; leaves = omega arith }
fits-forest h f (p ∷ es) = fits-join (trace h p.0) (forest h es) (f p.0) (fits-forest h f es)

pub trace-fits : (h : ℕ) (t : Numbered h) → Fits (trace h t)
trace-fits zero t = subst Fits (sym (trace-leaf t)) (leaf-fits t.num)
trace-fits (suc h) t =
    subst Fits (sym (trace-node h t))
    (fits-join (node_trace t.latch.num t.latch.word) (forest h t.sons) (node-fits t.latch.num t.latch.word) (fits-forest h (trace-fits h) t.sons))

-- ---- the kinds of a tree's records

nums-flat : {A : Type 0} (g : A → List (ℕ × ℕ)) (k : A → List ℕ) → ((a : A) → nums (g a) ≡ k a) → (es : List (A × ℕ)) → nums (flat g es) ≡ flat k es
nums-flat g k f [] = refl
nums-flat g k f (p ∷ es) = nums-append (g p.0) (flat g es) ∙ ap (λ l. l ++ nums (flat g es)) (f p.0) ∙ ap (λ l. k p.0 ++ l) (nums-flat g k f es)

pub kinds-numbers : (h : ℕ) (t : Numbered h) → nums (kinds h t) ≡ numbers h t
unfolding kinds numbers
kinds-numbers zero t = refl
kinds-numbers (suc h) t = ap (λ l. t.latch.num ∷ l) (nums-flat (kinds h) (numbers h) (kinds-numbers h) t.sons)

pub kinds-length : (h : ℕ) (t : Numbered h) → length (kinds h t) ≡ length (numbers h t)
kinds-length h t = sym (nums-length (kinds h t)) ∙ ap length (kinds-numbers h t)

all-flat : {A B : Type 0} (P : B → Type 0) (g : A → List B) → ((a : A) → All P (g a)) → (es : List (A × ℕ)) → All P (flat g es)
all-flat P g f [] = tt
all-flat P g f (p ∷ es) = all_append P (g p.0) (flat g es) (f p.0) (all-flat P g f es)

pub kinds-some : (h : ℕ) (t : Numbered h) → Kinds (kinds h t)
unfolding kinds
kinds-some zero t = ((λ e. omega arith), tt)
kinds-some (suc h) t = ((λ e. omega arith), all-flat (λ p. p.1 ≡ 0 → ⊥) (kinds h) (kinds-some h) t.sons)

-- ---- the marks, record by record

-- Record j is met as one of kind k.
abbrev Has : ℕ → ℕ → List (ℕ × ℕ) → Type 0
Has j k [] = ⊥
Has j k (p ∷ l) = ((j ≡ p.0) × (k ≡ p.1)) ⊎ Has j k l

has_left : (j k : ℕ) (a b : List (ℕ × ℕ)) → Has j k a → Has j k (a ++ b)
has_left j k [] b x' = elim x' [ ]
has_left j k (p ∷ a) b (inl e) = inl e
has_left j k (p ∷ a) b (inr h) = inr (has_left j k a b h)

has_right : (j k : ℕ) (a b : List (ℕ × ℕ)) → Has j k b → Has j k (a ++ b)
has_right j k [] b h = h
has_right j k (p ∷ a) b h = inr (has_right j k a b h)

each-other : (seen : List ℕ) (l : List (ℕ × ℕ)) (j : ℕ) → Apart j (nums l) → get_or (mark_each seen l) j 0 ≡ get_or seen j 0
each-other seen [] j a = refl
each-other seen (p ∷ l) j a = each-other (set seen p.0 p.1) l j a.1 ∙ get_or-set_other seen p.0 j p.1 0 a.0

each-has : (seen : List ℕ) (l : List (ℕ × ℕ)) (j k : ℕ) → Once (nums l) → j < length seen → Has j k l → get_or (mark_each seen l) j 0 ≡ k
each-has seen [] j k o h x3 = elim x3 [ ]
each-has seen (p ∷ l) j k o h (inl e) =
    each-other (set seen p.0 p.1) l j (subst (λ x. Apart x (nums l)) (sym e.0) o.0)
    ∙ subst (λ x. get_or (set seen x p.1) j 0 ≡ p.1) e.0 (get_or-set_same seen j p.1 0 h) ∙ sym e.1
each-has seen (p ∷ l) j k o h (inr q) =
    each-has (set seen p.0 p.1) l j k o.1 (subst (λ n. j < n) (sym (length-set seen p.0 p.1)) h) q

has_flat : (j k h : ℕ) (g : Numbered h → List ℕ) → ((t : Numbered h) → In j (g t) → Has j k (kinds h t)) → (es : List (Numbered h × ℕ)) → In j (flat g es) → Has j k (flat (kinds h) es)
has_flat j k h g f [] i = elim i [ ]
has_flat j k h g f (p ∷ es) i = go (in-append j (g p.0) (flat g es) i) (has_flat j k h g f es)
  where
    go : In j (g p.0) ⊎ In j (flat g es) → (In j (flat g es) → Has j k (flat (kinds h) es)) → Has j k (flat (kinds h) (p ∷ es))
    go (inl a) ih = has_left j k (kinds h p.0) (flat (kinds h) es) (f p.0 a)
    go (inr b) ih = has_right j k (kinds h p.0) (flat (kinds h) es) (ih b)

has-node : (j h : ℕ) (t : Numbered h) → In j (node_numbers h t) → Has j node_mark (kinds h t)
unfolding node_numbers kinds
has-node j zero t i = absurd i
has-node j (suc h) t (inl e) = inl (e, refl)
has-node j (suc h) t (inr i) = inr (has_flat j node_mark h (node_numbers h) (has-node j h) t.sons i)

flat_map : {A B C : Type 0} (f : B → C) (g : A → List B) (es : List (A × ℕ)) → map f (flat g es) ≡ flat (λ a. map f (g a)) es
flat_map f g [] = refl
flat_map f g (p ∷ es) = map-append f (g p.0) (flat g es) ∙ ap (λ l. map f (g p.0) ++ l) (flat_map f g es)

leaf-flat : (h : ℕ) (t : Numbered (suc h)) → leaf_numbers (suc h) t ≡ flat (leaf_numbers h) t.sons
unfolding leaves
leaf-flat h t = flat_map (λ l. l.num) (leaves Leaf Mark h) t.sons

has-leaf : (j h : ℕ) (t : Numbered h) → In j (leaf_numbers h t) → Has j descriptor_mark (kinds h t)
unfolding leaves kinds
has-leaf j zero t (inl e) = inl (e, refl)
has-leaf j zero t (inr i) = absurd i
has-leaf j (suc h) t i = inr (has_flat j descriptor_mark h (leaf_numbers h) (has-leaf j h) t.sons (subst (In j) (leaf-flat h t) i))

-- A record of a tree is a node's or a descriptor's.
in-flat : (j : ℕ) {A : Type 0} (f g k : A → List ℕ) → ((a : A) → In j (f a) → In j (g a) ⊎ In j (k a)) → (es : List (A × ℕ)) → In j (flat f es) → In j (flat g es) ⊎ In j (flat k es)
in-flat j {A = A} f g k u [] i = elim i [ ]
in-flat j f g k u (p ∷ es) i = go (in-append j (f p.0) (flat f es) i) (in-flat j f g k u es)
  where
    here : In j (g p.0) ⊎ In j (k p.0) → In j (flat g (p ∷ es)) ⊎ In j (flat k (p ∷ es))
    here (inl a) = inl (in_left j (g p.0) (flat g es) a)
    here (inr b) = inr (in_left j (k p.0) (flat k es) b)

    there : In j (flat g es) ⊎ In j (flat k es) → In j (flat g (p ∷ es)) ⊎ In j (flat k (p ∷ es))
    there (inl a) = inl (in_right j (g p.0) (flat g es) a)
    there (inr b) = inr (in_right j (k p.0) (flat k es) b)

    go : In j (f p.0) ⊎ In j (flat f es) → (In j (flat f es) → In j (flat g es) ⊎ In j (flat k es)) → In j (flat g (p ∷ es)) ⊎ In j (flat k (p ∷ es))
    go (inl a) ih = here (u p.0 a)
    go (inr b) ih = there (ih b)

pub in-numbers : (j h : ℕ) (t : Numbered h) → In j (numbers h t) → In j (node_numbers h t) ⊎ In j (leaf_numbers h t)
unfolding numbers node_numbers leaves
in-numbers j zero t i = inr i
in-numbers j (suc h) t (inl e) = inl (inl e)
in-numbers j (suc h) t (inr i) = go (in-flat j (numbers h) (node_numbers h) (leaf_numbers h) (in-numbers j h) t.sons i)
  where
    go : In j (flat (node_numbers h) t.sons) ⊎ In j (flat (leaf_numbers h) t.sons) → In j (node_numbers (suc h) t) ⊎ In j (leaf_numbers (suc h) t)
    go (inl a) = inl (inr a)
    go (inr b) = inr (subst (In j) (sym (leaf-flat h t)) b)

-- The marks after the records of a tree were met: those of its nodes, those of its descriptors, and no other changed.
pub record TreeMarks (h : ℕ) (t : Numbered h) (before now : List ℕ) : Type 0 where
  pub node : (j : ℕ) → In j (node_numbers h t) → get_or now j 0 ≡ node_mark
  pub leaf : (j : ℕ) → In j (leaf_numbers h t) → get_or now j 0 ≡ descriptor_mark
  pub other : (j : ℕ) → Apart j (numbers h t) → get_or now j 0 ≡ get_or before j 0
  pub kept : length now ≡ length before

has_in : (j k : ℕ) (l : List (ℕ × ℕ)) → Has j k l → In j (nums l)
has_in j k [] x' = elim x' [ ]
has_in j k (p ∷ l) (inl e) = inl e.0
has_in j k (p ∷ l) (inr h) = inr (has_in j k l h)

module _ (h : ℕ) (t : Numbered h) where
  has-number : (j k : ℕ) → Has j k (kinds h t) → In j (numbers h t)
  has-number j k i = subst (In j) (kinds-numbers h t) (has_in j k (kinds h t) i)

  pub leaf-in : (j : ℕ) → In j (leaf_numbers h t) → In j (numbers h t)
  leaf-in j i = has-number j descriptor_mark (has-leaf j h t i)

  pub tree-marks : (seen : List ℕ) (r : ℕ) → r < length seen → Fresh seen r (numbers h t) → TreeMarks h t seen (mark_each seen (kinds h t))
  tree-marks seen r long f = record {
    node = λ j i. marked j node_mark (has-node j h t i);
    leaf = λ j i. marked j descriptor_mark (has-leaf j h t i);
    other = λ j a. each-other seen (kinds h t) j (subst (Apart j) (sym (kinds-numbers h t)) a);
    kept = each-length seen (kinds h t);
  }
    where
      marked : (j k : ℕ) → Has j k (kinds h t) → get_or (mark_each seen (kinds h t)) j 0 ≡ k
      marked j k i =
          each-has seen (kinds h t) j k (subst Once (sym (kinds-numbers h t)) f.once) (omega (arith, long, (all_in (Among r) (numbers h t) f.inside j (has-number j k i)).1)) i

  -- Exactly the tree's records were marked.
  pub tree-marked : {before now : List ℕ} → TreeMarks h t before now → Marked before (numbers h t) now
  tree-marked {before} {now} m = record { long = m.kept; new = λ j l i e. go j e (in-numbers j h t i); old = m.other }
    where
      go : (j : ℕ) → get_or now j 0 ≡ 0 → In j (node_numbers h t) ⊎ In j (leaf_numbers h t) → ⊥
      go j e (inl i) = omega (arith, m.node j i)
      go j e (inr i) = omega (arith, m.leaf j i)

  module _ {before now : List ℕ} (m : TreeMarks h t before now) (j : ℕ) (z : get_or before j 0 ≡ 0) where
    -- What was not marked before and is now, is of the tree.
    in_tree : (get_or now j 0 ≡ 0 → ⊥) → In j (node_numbers h t) ⊎ In j (leaf_numbers h t)
    in_tree n = go (in? j (numbers h t))
      where
        go : In j (numbers h t) ⊎ Apart j (numbers h t) → In j (node_numbers h t) ⊎ In j (leaf_numbers h t)
        go (inl i) = in-numbers j h t i
        go (inr a) = absurd (n (m.other j a ∙ z))

    pub is_leaf : get_or now j 0 ≡ descriptor_mark → In j (leaf_numbers h t)
    is_leaf e = go (in_tree (λ q. omega arith))
      where
        go : In j (node_numbers h t) ⊎ In j (leaf_numbers h t) → In j (leaf_numbers h t)
        go (inl i) = absurd (omega (arith, m.node j i))
        go (inr i) = i

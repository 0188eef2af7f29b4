-- A node's sons by their places, as the tree's walk takes them: they are the node's entries.
use Rattle.std.specs.Prelude.{◌≡◌, true, leb, length, take, drop}
use Rattle.std.proofs.Math.Path.{refl, ap}
use Rattle.std.proofs.Common.{sym, ◌∙◌, arith, length-take, lt-ltb, le-ltb, le-leb, leb-true}
use mathlib.Core.List.{List, [], ◌∷◌, ◌++◌, zip, zip_with}
use Prim.Native.Nat.{ℕ, zero, suc, ◌+◌, ◌-◌, ◌≤◌, ◌<◌}
use Rattle.std.proofs.Math.Numerals.{add-one}
use Rattle.std.proofs.Math.ListN.{get_or}
use Rattle.std.proofs.Math.Seq.{drop-cons}
use Rattle.nodes.specs.declared.Node.{Node}
use Rattle.nodes.specs.Node.{Sized}
use Rattle.nodes.specs.Live.{Usable, sons_of, bounds_of}
use Rattle.nodes.specs.Entries.{entries}
use Rattle.marks.specs.Steps.{both}
use Rattle.tree_walk.specs.TreeWalk.{top_of, least_of, fanout_ok}

-- The lowest key that may come next, each entry saying its own.
abbrev pub last_low : {A : Type 0} → (A → ℕ → ℕ) → ℕ → List (A × ℕ) → ℕ
last_low g low [] = low
last_low g low (p ∷ es) = last_low g (g p.0 p.1) es

-- The least key of a descriptor at a lowest node: the bound behind it, but for the last.
abbrev pub least_before : List (ℕ × ℕ) → ℕ → ℕ
least_before [] b = 0
least_before (q ∷ es) b = b

-- The sons from place k on, `rest` of them, each with the highest key that it may hold.
unfoldable pub entries_from : Node → ℕ → ℕ → ℕ → List (ℕ × ℕ)
entries_from n hi k zero = []
entries_from n hi k (suc rest) = (get_or n.sons k 0, top_of n k hi) ∷ entries_from n hi (k + 1) rest

module _ (n : Node) (hi : ℕ) where
  top-last : (k : ℕ) → k + 1 ≡ n.count → top_of n k hi ≡ hi
  unfolding top_of
  top-last k e = simp (le-ltb (k + 1) n.count (omega arith))

  top-inner : (k : ℕ) → k + 1 < n.count → top_of n k hi ≡ get_or n.bounds k 0
  unfolding top_of
  top-inner k h = simp (lt-ltb (k + 1) n.count h)

  pub least-from : (k rest : ℕ) → k + suc rest ≡ n.count → least_of n k ≡ least_before (entries_from n hi (k + 1) rest) (top_of n k hi)
  unfolding least_of entries_from
  least-from k zero e = simp (le-ltb (k + 1) n.count (omega arith))
  least-from k (suc rest) e = simp (lt-ltb (k + 1) n.count (omega arith), top-inner k (omega arith))

  pub last-from : (z k j : ℕ) → k + suc j ≡ n.count → last_low (λ (a : ℕ) u. u + 1) z (entries_from n hi k (suc j)) ≡ hi + 1
  unfolding entries_from
  last-from z k zero e = ap (λ (u : ℕ). u + 1) (top-last k e)
  last-from z k (suc j) e = last-from (top_of n k hi + 1) (k + 1) j (omega arith)

  from-zip : (k j : ℕ) → k + suc j ≡ n.count → n.count ≤ length n.sons → n.count ≤ suc (length n.bounds)
      → zip (take (suc j) (drop k n.sons)) (take j (drop k n.bounds) ++ (hi ∷ [])) ≡ entries_from n hi k (suc j)
  unfolding entries_from zip zip_with
  from-zip k zero e a b = rw (drop-cons n.sons k 0 (omega arith), top-last k e) refl
  from-zip k (suc j) e a b =
      rw (drop-cons n.sons k 0 (omega arith), drop-cons n.bounds k 0 (omega arith), top-inner k (omega arith), add-one k)
      (ap (λ l. (get_or n.sons k 0, get_or n.bounds k 0) ∷ l) (from-zip (suc k) j (omega arith) a b))

  module _ (ok : Usable n) where
    some-count : n.count ≡ suc (n.count - 1)
    some-count = omega (arith, ok.least)

    pub entries-as : entries n hi ≡ entries_from n hi 0 n.count
    unfolding entries
    entries-as =
        ap (λ (c : ℕ). zip (take c n.sons) (bounds_of n ++ (hi ∷ []))) some-count
        ∙ from-zip 0 (n.count - 1) (omega (arith, ok.least)) (omega (arith, ok.most, ok.sized.sons)) (omega (arith, ok.most, ok.sized.bounds))
        ∙ ap (λ (c : ℕ). entries_from n hi 0 c) (sym some-count)

    pub entries-last : (z : ℕ) → last_low (λ (a : ℕ) u. u + 1) z (entries n hi) ≡ hi + 1
    entries-last z =
        ap (λ (l : List (ℕ × ℕ)). last_low (λ (a : ℕ) u. u + 1) z l) (entries-as ∙ ap (λ (c : ℕ). entries_from n hi 0 c) some-count)
        ∙ last-from z 0 (n.count - 1) (omega (arith, ok.least))

pub zip-short : (a b : List ℕ) → length (zip a b) ≤ length a
unfolding zip zip_with
zip-short [] b = omega arith
zip-short (x ∷ a) [] = omega arith
zip-short (x ∷ a) (y ∷ b) = omega (arith, zip-short a b)

-- ---- the fanout

pub fan-found : (n : Node) (least : ℕ) → fanout_ok n least ≡ true → (least ≤ n.count) × (n.count ≤ 8)
unfolding fanout_ok
fan-found n least e = let p = both (leb least n.count) (leb n.count 8) e in (leb-true least n.count p.0, leb-true n.count 8 p.1)

pub fan-usable : (n : Node) (least : ℕ) → Sized n → 1 ≤ least → fanout_ok n least ≡ true → Usable n
fan-usable n least z h e = let p = fan-found n least e in record { sized = z; least = omega (arith, p.0); most = p.1 }

-- As many entries at least, and not more than 8 said.
pub fan-walks : (n : Node) (hi least : ℕ) → least ≤ length (entries n hi) → n.count ≤ 8 → fanout_ok n least ≡ true
unfolding fanout_ok entries
fan-walks n hi least h k =
    let a = zip-short (sons_of n) (bounds_of n ++ (hi ∷ [])) in
    let b = length-take n.count n.sons in
    let c : least ≤ n.count = omega arith in
    simp (le-leb least n.count c, le-leb n.count 8 k)

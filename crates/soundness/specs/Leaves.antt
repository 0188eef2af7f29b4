-- The stored descriptors of the meaning are those of the leaves' records, in order.
use Rattle.std.specs.Prelude.{◌≡◌, refl, List, [], ◌∷◌, ◌++◌, map, ℕ, zero, suc, length}
use Rattle.std.proofs.Common.{sym, ap, ap₂, ◌∙◌}
use Rattle.std.proofs.lemmas.List.{map-append}
use Rattle.sessions.specs.declared.Session.{Session}
use Rattle.machine.specs.Tree.{flat, map_e, leaves}
use Rattle.machine.specs.State.{Desc}
use Rattle.machine.specs.Housekeeping.{lvs}
use Rattle.nodes.specs.Node.{node_at}
use Rattle.nodes.specs.Entries as N
use Rattle.meaning.specs.Reading.{desc_at, Leaf, Mark, Numbered, read_sons, read_tree, erase, entries_of, M-of, R-of, height_of, tree_of, meaning}
use Rattle.meaning.specs.Sound.{leaves_of}

-- The records of the stored descriptors, in the order of their keys.
abbrev pub stored_records : List ℕ → List ℕ
stored_records s = map (λ (l : Leaf). l.num) (leaves_of s)

-- Without the numbers the leaves are the descriptors.
pub erase-leaves : (h : ℕ) (t : Numbered h) → leaves Desc ℕ h (erase h t) ≡ map (λ (l : Leaf). l.desc) (leaves Leaf Mark h t)
unfolding leaves erase
erase-leaves zero t = refl
erase-leaves (suc h) t = go (erase-leaves h) t.sons
  where
    go : ((u : Numbered h) → leaves Desc ℕ h (erase h u) ≡ map (λ (l : Leaf). l.desc) (leaves Leaf Mark h u)) → (es : List (Numbered h × ℕ))
        → flat (leaves Desc ℕ h) (map_e (erase h) es) ≡ map (λ (l : Leaf). l.desc) (flat (leaves Leaf Mark h) es)
    go ih [] = refl
    go ih (p ∷ es) = ap₂ (λ a b. a ++ b) (ih p.0) (go ih es) ∙ sym (map-append (λ (l : Leaf). l.desc) (leaves Leaf Mark h p.0) (flat (leaves Leaf Mark h) es))

-- A leaf that is read is its record's descriptor.
read-leaves : (s : List ℕ) (m r h i hi : ℕ)
    → map (λ (l : Leaf). l.desc) (leaves Leaf Mark h (read_tree s m r h i hi)) ≡ map (desc_at s m r) (map (λ (l : Leaf). l.num) (leaves Leaf Mark h (read_tree s m r h i hi)))
unfolding leaves read_tree
read-leaves s m r zero i hi = refl
read-leaves s m r (suc h) i hi = go (read-leaves s m r h) (N.entries (node_at s m i) hi)
  where
    below : List (ℕ × ℕ) → List Leaf
    below es = flat (leaves Leaf Mark h) (read_sons (read_tree s m r h) es)

    first : ℕ × ℕ → List Leaf
    first p = leaves Leaf Mark h (read_tree s m r h p.0 p.1)

    number : Leaf → ℕ
    number l = l.num

    go : ((j up : ℕ) → map (λ (l : Leaf). l.desc) (leaves Leaf Mark h (read_tree s m r h j up)) ≡ map (desc_at s m r) (map (λ (l : Leaf). l.num) (leaves Leaf Mark h (read_tree s m r h j up))))
        → (es : List (ℕ × ℕ)) → map (λ (l : Leaf). l.desc) (below es) ≡ map (desc_at s m r) (map number (below es))
    go ih [] = refl
    go ih (p ∷ es) =
        map-append (λ (l : Leaf). l.desc) (first p) (below es) ∙ ap₂ (λ a b. a ++ b) (ih p.0 p.1) (go ih es)
        ∙ sym (ap (map (desc_at s m r)) (map-append number (first p) (below es)) ∙ map-append (desc_at s m r) (map number (first p)) (map number (below es)))

pub lvs-meaning : (s : List ℕ) (t : List Session) → lvs (meaning s t) ≡ map (desc_at s (M-of s) (R-of s)) (stored_records s)
unfolding meaning tree_of
lvs-meaning s t = erase-leaves (suc (height_of s)) (tree_of s) ∙ read-leaves s (M-of s) (R-of s) (suc (height_of s)) _ _

entries-many : (s : List ℕ) (e n : ℕ) → length (entries_of s e n) ≡ n
entries-many s e zero = refl
entries-many s e (suc n) = ap suc (entries-many s (suc e) n)

pub entries-meaning : (s : List ℕ) (t : List Session) → length (meaning s t).entries ≡ M-of s
unfolding meaning
entries-meaning s t = entries-many s 1 (M-of s)

-- How many records the parts of a store have.
use Rattle.std.specs.Prelude.{◌≡◌, refl, List, [], ◌∷◌, map, ℕ, zero, suc, ◌+◌, length}
use Rattle.std.proofs.Common.{arith, length-append}
use Rattle.std.proofs.lemmas.List.{length-map}
use Rattle.sessions.specs.declared.Session.{Session}
use Rattle.machine.specs.Tree.{flat, map_e, leaves, sum_e}
use Rattle.machine.specs.Sound.{nodes, total, undos_many}
use Rattle.meaning.specs.Reading.{chain, undo_at, Leaf, Mark, Numbered, erase, numbers, sessions_of, M-of, R-of}
use Rattle.meaning.specs.Sound.{joined, undo_chains}

pub numbers-many : (h : ℕ) (t : Numbered h) → length (numbers h t) ≡ nodes h (erase h t) + length (leaves Leaf Mark h t)
unfolding numbers nodes erase leaves
numbers-many zero t = omega arith
numbers-many (suc h) t = let q = go t.sons (numbers-many h) in omega arith
  where
    go : (es : List (Numbered h × ℕ)) → ((u : Numbered h) → length (numbers h u) ≡ nodes h (erase h u) + length (leaves Leaf Mark h u))
        → length (flat (numbers h) es) ≡ sum_e (nodes h) (map_e (erase h) es) + length (flat (leaves Leaf Mark h) es)
    go [] f = omega arith
    go (p ∷ es) f =
        let a = length-append (numbers h p.0) (flat (numbers h) es) in
        let b = length-append (leaves Leaf Mark h p.0) (flat (leaves Leaf Mark h) es) in
        let c = f p.0 in
        let d = go es f in
        omega arith

pub joined-many : (ls : List (List ℕ)) → length (joined ls) ≡ total length ls
joined-many [] = refl
joined-many (l ∷ ls) = let a = length-append l (joined ls) in let b = joined-many ls in omega arith

-- The undo records of the table are those of the sessions' chains.
pub undos-are : (s : List ℕ) (t : List Session) → undos_many (sessions_of s (M-of s) (R-of s) 0 t) ≡ total length (undo_chains s t)
undos-are s [] = refl
undos-are s (x ∷ t) = let q = go 0 t in omega arith
  where
    go : (p : ℕ) (u : List Session) → undos_many (sessions_of s (M-of s) (R-of s) (suc p) u) ≡ total length (map (λ y. chain s (M-of s) (R-of s) y.undo) u)
    go p [] = refl
    go p (y ∷ u) = let a = length-map (chain s (M-of s) (R-of s) y.undo) (undo_at s (M-of s)) in let b = go (suc p) u in omega arith

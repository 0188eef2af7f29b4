-- What a descent does to the tree (document 01, "Steps"): splits, joins and moves at a node, the latched node of a party, the root.
use Rattle.std.specs.Prelude.{Bool, false, cond, List, [], ◌∷◌, ◌++◌, map, zero, suc, ℕ, leb, eqb, length, get_or, take, drop}
use Rattle.machine.specs.Tree.{Node, onp, pick}
use Rattle.machine.specs.State.{Desc, Tree, Root, top}

abbrev pub Sons : ℕ → Type 0
Sons h = List (Tree h × ℕ)

abbrev pub node : {A : Type 0} → ℕ → List (A × ℕ) → Node ℕ A
node w es = record { latch = w; sons = es }

-- ---- at a node, the sons in view

-- A full node in two, four and four; its fourth boundary goes up. The half on the path to x gets the latch word w.
unfoldable pub halves : ℕ → ℕ → (h : ℕ) → Tree (suc h) → ℕ → Sons (suc h)
halves w x h s u =
    let b = get_or (map (λ p. p.1) s.sons) 3 0 in
    (node (cond (leb x b) w 0) (take 4 s.sons), b) ∷ (node (cond (leb x b) 0 w) (drop 4 s.sons), u) ∷ []

-- The boundary behind a son that comes down from the parent: at a lowest node the son's own key instead.
abbrev pub down_to : (h : ℕ) → Tree h → ℕ → ℕ
down_to zero d b = d.key
down_to (suc h) t b = b

-- The last bound, and it changed.
abbrev pub on_last : {A : Type 0} → (A → ℕ → ℕ) → List (A × ℕ) → List (A × ℕ)
on_last f [] = []
on_last f (p ∷ []) = (p.0, f p.0 p.1) ∷ []
on_last f (p ∷ q ∷ es) = p ∷ on_last f (q ∷ es)

abbrev pub last_of : {A : Type 0} → List (A × ℕ) → List (A × ℕ)
last_of [] = []
last_of (p ∷ []) = p ∷ []
last_of (p ∷ q ∷ es) = last_of (q ∷ es)

abbrev pub but_last : {A : Type 0} → List (A × ℕ) → List (A × ℕ)
but_last [] = []
but_last (p ∷ []) = []
but_last (p ∷ q ∷ es) = p ∷ but_last (q ∷ es)

abbrev pub bound_of : {A : Type 0} → ℕ → List (A × ℕ) → ℕ
bound_of u [] = u
bound_of u (p ∷ es) = bound_of p.1 es

-- Two neighbours a, up to u, and b, up to v: one node of both; the last son of a to b's front; the first son of b to a's end.
unfoldable pub joined : ℕ → (h : ℕ) → Tree (suc h) → Tree (suc h) → ℕ → Sons (suc h)
joined w h a b v = (node w (on_last (down_to h) a.sons ++ b.sons), v) ∷ []

unfoldable pub moved_right : ℕ → (h : ℕ) → Tree (suc h) → Tree (suc h) → ℕ → Sons (suc h)
moved_right w h a b v =
    let rest = but_last a.sons in
    (node a.latch rest, bound_of 0 rest) ∷ (node w (on_last (down_to h) (last_of a.sons) ++ b.sons), v) ∷ []

unfoldable pub moved_left : ℕ → (h : ℕ) → Tree (suc h) → Tree (suc h) → ℕ → Sons (suc h)
moved_left w h a b v =
    let one = take 1 b.sons in
    (node w (on_last (down_to h) a.sons ++ one), bound_of 0 one) ∷ (node b.latch (drop 1 b.sons), v) ∷ []

-- The pair of the son on the path to x and its left neighbour (right, for the first son), given to g from left to right.
abbrev pub on_pair : {A : Type 0} → ℕ → ((A × ℕ) → (A × ℕ) → List (A × ℕ)) → List (A × ℕ) → List (A × ℕ)
on_pair x g [] = []
on_pair x g (p ∷ []) = p ∷ []
on_pair x g (p ∷ q ∷ es) = let here = g p q ++ es in let later = p ∷ on_pair x g (q ∷ es) in cond (leb x q.1) here later

abbrev pub pick_pair : {A B : Type 0} → ℕ → B → ((A × ℕ) → (A × ℕ) → B) → List (A × ℕ) → B
pick_pair x z g [] = z
pick_pair x z g (p ∷ []) = z
pick_pair x z g (p ∷ q ∷ es) = let here = g p q in let later = pick_pair x z g (q ∷ es) in cond (leb x q.1) here later

abbrev pub sons_of : {A : Type 0} → Node ℕ A → ℕ
sons_of t = length t.sons

-- Of the pair, the neighbour of the son on the path has at most 5 sons.
abbrev pub joins : ℕ → (h : ℕ) → (Tree (suc h) × ℕ) → (Tree (suc h) × ℕ) → Bool
joins x h p q = leb (cond (leb x p.1) (sons_of q.0) (sons_of p.0)) 5

-- The housekeeper joins the son with its neighbour, or takes one son from that.
unfoldable pub mended : ℕ → ℕ → (h : ℕ) → (Tree (suc h) × ℕ) → (Tree (suc h) × ℕ) → Sons (suc h)
mended w x h p q =
    cond (joins x h p q) (joined w h p.0 q.0 q.1)
    (cond (leb x p.1) (moved_left w h p.0 q.0 q.1) (moved_right w h p.0 q.0 q.1))

-- A descriptor put in: before the one on the path, or behind it, where that is the node's last.
unfoldable pub put_in : Desc → Sons 0 → Sons 0
put_in n es = onp n.key (λ d u. cond (leb n.key d.key) ((n, n.key) ∷ (d, u) ∷ []) ((d, d.key) ∷ (n, u) ∷ [])) es

-- The descriptor on the path taken out; the node keeps its own bound.
unfoldable pub taken_out : ℕ → Sons 0 → Sons 0
taken_out x es = let u = bound_of 0 es in on_last (λ _ _. u) (onp x (λ _ _. []) es)

-- ---- the node on the path to x that has the latch word w

-- What g answers there.
unfoldable pub at_latch : {B : Type 0} → ℕ → ℕ → B → ((h : ℕ) → Tree (suc h) → B) → (h : ℕ) → Tree h → B
at_latch w x z g zero t = z
at_latch w x z g (suc h) t = let here = g h t in let below = pick x z (at_latch w x z g h) t.sons in cond (eqb t.latch w) here below

-- The tree with f done there.
unfoldable pub on_latch : ℕ → ℕ → ((h : ℕ) → Tree (suc h) → Tree (suc h)) → (h : ℕ) → Tree h → Tree h
on_latch w x f zero t = t
on_latch w x f (suc h) t =
    let here = f h t in
    let below : Tree (suc h) = record { latch = t.latch; sons = onp x (λ a b. (on_latch w x f h a, b) ∷ []) t.sons } in
    cond (eqb t.latch w) here below

-- The node unlatched.
unfoldable pub unlatched : (h : ℕ) → Tree (suc h) → Tree (suc h)
unlatched h t = node 0 t.sons

-- ---- the root

-- Its lone son, where that is a node.
abbrev pub lone : (h : ℕ) → Tree (suc h) → Bool
lone zero t = false
lone (suc h) t = eqb (sons_of t) 1

abbrev pub lone_son : (h : ℕ) → Sons (suc h) → Tree (suc (suc h)) → Root
lone_son h [] t = record { height = suc h; node = t }
lone_son h (p ∷ []) t = record { height = h; node = p.0 }
lone_son h (p ∷ q ∷ es) t = record { height = suc h; node = t }

-- The root, dropped where its lone son is a node.
abbrev pub drop_lone : (h : ℕ) → Tree (suc h) → Root
drop_lone zero t = record { height = zero; node = t }
drop_lone (suc h) t = lone_son h t.sons t

-- The root entered by a party of latch word w on its way to x: latched, or split under a new root.
abbrev pub entered : ℕ → Root → Root
entered w r = record { height = r.height; node = node w r.node.sons }

abbrev pub split_root : ℕ → ℕ → Root → Root
split_root w x r = record { height = suc r.height; node = node 0 (halves w x r.height r.node top) }

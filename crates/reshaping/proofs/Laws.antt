-- What a shift and a copy leave of an array, and what two changed arrays make.
use mathlib.Core.Path.{◌≡◌, refl, sym, ap, ap₂, ◌∙◌}
use mathlib.Core.List.{List, [], ◌∷◌, ◌++◌, append-nil, append_assoc}
use Prim.Native.Nat.{ℕ, suc, ◌+◌, ◌-◌, ◌≤◌, ◌<◌}
use native.Mathlib.Numerals.{add-one}
use native.Mathlib.Omega.{arith}
use lib.ListN.{length, take, drop, set, drop_of_length-le, length-drop}
use lib.Seq.{take_all, set_split, paste}
use borrow.Rule.Slice.PartMut.{put_mid}
use Rattle.std.proofs.Common.{length-append, drop_at}
use Rattle.std.proofs.lemmas.List.{length-take-le, take-append-le, take-take}
use Rattle.std.proofs.lemmas.List.Edits.{length-paste, take-paste}
use Rattle.std.proofs.lemmas.Slice.{put_mid-paste}
use Rattle.nodes.specs.declared.Node.{Node}
use Rattle.reshaping.specs.Ops.{insert_in, remove_in, insert_son, drop_son, join_nodes}
use Rattle.reshaping.specs.declared.Neighbours.{Neighbours}

-- ---- one array

-- moved on by one from `i` on, and x put there
pub inserted : (a : List ℕ) (i x : ℕ) {b : List ℕ} → i < length a → b ≡ paste a (i + 1) (drop i a) (length a - 1 - i) → set b i x ≡ insert_in a i x
unfolding insert_in
inserted a i x {b} h e =
    let k : ℕ = length a - 1 - i in
    let front : length (take (i + 1) a) ≡ suc i = length-take-le (i + 1) a (omega arith) ∙ add-one i in
    let l : b ≡ take (i + 1) a ++ take k (drop i a) =
    e ∙ ap (λ (r : List ℕ). (take (i + 1) a ++ take k (drop i a)) ++ r) (drop_of_length-le a {i = i + 1 + k} (omega arith)) ∙ append-nil _ in
    let n : length a - i ≡ suc k = omega arith in
    ap (λ (c : List ℕ). set c i x) l
    ∙ set_split (take (i + 1) a ++ take k (drop i a)) i x (omega (arith, length-append (take (i + 1) a) (take k (drop i a)), front))
    ∙ ap₂ (λ (c d : List ℕ). c ++ x ∷ d) (take-append-le i (take (i + 1) a) (take k (drop i a)) (omega (arith, front)) ∙ take-take i (i + 1) a (omega arith))
    (drop_at (take (i + 1) a) (take k (drop i a)) (suc i) front)
    ∙ ap (λ (m : ℕ). take i a ++ take m (x ∷ drop i a)) (sym n)

-- at the end nothing is put
pub inserted_none : (a : List ℕ) (i x : ℕ) → length a ≤ i → a ≡ insert_in a i x
unfolding insert_in
inserted_none a i x h =
    let z : length a - i ≡ 0 = omega arith in
    sym (ap (λ (k : ℕ). take i a ++ take k (x ∷ drop i a)) z ∙ append-nil _ ∙ take_all i a h)

-- moved up by one from behind `i` on, and a 0 put last
pub removed : (a : List ℕ) (i : ℕ) {b : List ℕ} → i < length a → b ≡ paste a i (drop (i + 1) a) (length a - (i + 1)) → set b (length a - 1) 0 ≡ remove_in a i
unfolding remove_in
removed a i {b} h e =
    let k : ℕ = length a - (i + 1) in
    let d : List ℕ = drop (i + 1) a in
    let many : length d ≡ k = length-drop (i + 1) a in
    let last : length a - 1 ≡ i + k = omega arith in
    let all : length b ≡ length a = ap length e ∙ length-paste a i d k (omega arith) (omega (arith, many)) in
    set_split b (length a - 1) 0 (omega (arith, all))
    ∙ ap₂ (λ (c f : List ℕ). c ++ 0 ∷ f)
    (ap₂ take last e ∙ take-paste a i d k (omega arith) (omega (arith, many)) ∙ ap (λ (f : List ℕ). take i a ++ f) (take_all k d (omega (arith, many))))
    (drop_of_length-le b {i = suc (length a - 1)} (omega (arith, all)))
    ∙ append_assoc (take i a) d (0 ∷ [])
    ∙ ap (λ (m : ℕ). take i a ++ (drop m a ++ (0 ∷ []))) (add-one i)

-- the first n words of s written over d from `at` on
pub copied : (d : List ℕ) (at k : ℕ) (s : List ℕ) (n : ℕ) {c : List ℕ} → c ≡ take n s → n ≡ k → n ≤ length s → put_mid at k d c ≡ paste d at s n
copied d at k s n e q h =
    put_mid-paste at k d _ (take n s) n e q (sym (length-take-le n s h)) ∙ ap (λ (l : List ℕ). (take at d ++ l) ++ drop (at + n) d) (take-take n n s (omega arith))

-- ---- a node, from its two changed arrays: a son more, a son less
node_made : (latch count : ℕ) {b b₁ s s₁ : List ℕ} → b ≡ b₁ → s ≡ s₁
    → ◌≡◌ {A = Node} (record { latch = latch; count = count; bounds = b; sons = s }) (record { latch = latch; count = count; bounds = b₁; sons = s₁ })
node_made latch count e q = ap₂ (λ (x y : List ℕ). record { latch = latch; count = count; bounds = x; sons = y }) e q

pub insert-run : (n : Node) (i key j son : ℕ) {b s : List ℕ} → b ≡ insert_in n.bounds i key → s ≡ insert_in n.sons j son
    → record { latch = n.latch; count = n.count + 1; bounds = b; sons = s } ≡ insert_son n i key j son
unfolding insert_son
insert-run n i key j son e q = node_made n.latch (n.count + 1) e q

pub drop-run : (n : Node) (i j : ℕ) {b s : List ℕ} → b ≡ remove_in n.bounds i → s ≡ remove_in n.sons j
    → record { latch = n.latch; count = n.count - 1; bounds = b; sons = s } ≡ drop_son n i j
unfolding drop_son
drop-run n i j e q = node_made n.latch (n.count - 1) e q

-- ---- a join, from its two copies
pub join-run : (l : Node) (down : ℕ) (r : Node) {b s : List ℕ}
    → b ≡ paste (set l.bounds (l.count - 1) down) l.count r.bounds (r.count - 1)
    → s ≡ paste l.sons l.count r.sons r.count
    → record { latch = l.latch; count = l.count + r.count; bounds = b; sons = s } ≡ join_nodes l down r
unfolding join_nodes
join-run l down r e q = rw (e, q) refl

-- ---- two neighbours, from their parts
pub neighbours-same : {l m r s : Node} {b c : ℕ} → l ≡ m → b ≡ c → r ≡ s
    → ◌≡◌ {A = Neighbours} (record { left = l; up = b; right = r }) (record { left = m; up = c; right = s })
neighbours-same e p q = rw (e, p, q) refl

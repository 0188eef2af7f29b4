-- Lists of descriptors with one more, or one less: the members, and what is named.
use Rattle.std.specs.Prelude.{◌≡◌, refl, cond, List, [], ◌∷◌, ◌++◌, ℕ, zero, suc, ◌≤◌, eqb, length}
use Rattle.std.proofs.Common.{sym, ap, ap₂, ◌∙◌, append_assoc, inl, inr, eq-eqb, ne_eqb}
use Rattle.machine.specs.Tree.{map_e, leaves}
use Rattle.machine.specs.State.{State}
use Rattle.machine.specs.Sound.{Room}
use Rattle.meaning.specs.Reading.{Leaf, Mark}
use Rattle.meaning.specs.Sound.{All}
use Rattle.meaning.specs.Numbers as Nums
use Rattle.meaning.specs.Frame.{leaf_records}
use Rattle.meaning.specs.Around.{NCtx, fill, leaves-fill}
use Rattle.meaning.specs.Lens.{leaves_before, leaves_behind}
use Rattle.layout.specs.Layout.{firsts, members_of, Has}
use Rattle.arriving.specs.Lowest.{leaves_of, flat-leaves}
use Rattle.arriving.specs.LeafRow.{low_node}

pub snoc : {A : Type 0} (a : List A) (y : A) (b : List A) → a ++ y ∷ b ≡ (a ++ y ∷ []) ++ b
snoc a y b = sym (append_assoc a (y ∷ []) b)

pub map_e-length : {A B : Type 0} (f : A → B) (es : List (A × ℕ)) → length (map_e f es) ≡ length es
map_e-length f [] = refl
map_e-length f (e ∷ es) = ap suc (map_e-length f es)

-- ---- members

pub members-append : (g : ℕ → List (ℕ × ℕ)) (A B : List Leaf) → members_of g (A ++ B) ≡ members_of g A ++ members_of g B
members-append g [] B = refl
members-append g (l ∷ A) B = ap (λ k. firsts (g l.num) ++ k) (members-append g A B) ∙ sym (append_assoc (firsts (g l.num)) (members_of g A) (members_of g B))

pub members-same : (g g' : ℕ → List (ℕ × ℕ)) (ls : List Leaf) → All (λ l. g' l.num ≡ g l.num) ls → members_of g' ls ≡ members_of g ls
members-same g g' [] a = refl
members-same g g' (l ∷ ls) a = ap₂ (λ c k. firsts c ++ k) a.0 (members-same g g' ls a.1)

-- No members at record a.
abbrev pub without_at : ℕ → (ℕ → List (ℕ × ℕ)) → ℕ → List (ℕ × ℕ)
without_at a g d = cond (eqb d a) [] (g d)

pub without_other : (a : ℕ) (g : ℕ → List (ℕ × ℕ)) (d : ℕ) → ¬ (d ≡ a) → without_at a g d ≡ g d
without_other a g d n = ap (λ b. cond b [] (g d)) (ne_eqb d a n)

pub without-here : (a : ℕ) (g : ℕ → List (ℕ × ℕ)) → without_at a g a ≡ []
without-here a g = ap (λ b. cond b [] (g a)) (eq-eqb a a refl)

-- ---- what is named

pub has_more : (k d : ℕ) (A : List Leaf) (n : Leaf) (B : List Leaf) → Has k d (A ++ B) → Has k d (A ++ n ∷ B)
has_more k d [] n B h = inr h
has_more k d (a ∷ A) n B (inl h) = inl h
has_more k d (a ∷ A) n B (inr h) = inr (has_more k d A n B h)

pub has-less : (k d : ℕ) (A : List Leaf) (n : Leaf) (B : List Leaf) → ¬ (n.desc.key ≡ k) → Has k d (A ++ n ∷ B) → Has k d (A ++ B)
has-less k d [] n B ne (inl h) = absurd (ne h.0)
has-less k d [] n B ne (inr h) = h
has-less k d (a ∷ A) n B ne (inl h) = inl h
has-less k d (a ∷ A) n B ne (inr h) = inr (has-less k d A n B ne h)

pub in-front : (j : ℕ) (A B : List Leaf) → Nums.In j (leaf_records A) → Nums.In j (leaf_records (A ++ B))
in-front j [] B x' = elim x' [ ]
in-front j (a ∷ A) B (inl e) = inl e
in-front j (a ∷ A) B (inr i) = inr (in-front j A B i)

pub in-back : (j : ℕ) (A B : List Leaf) → Nums.In j (leaf_records B) → Nums.In j (leaf_records (A ++ B))
in-back j [] B i = i
in-back j (a ∷ A) B i = inr (in-back j A B i)

-- ---- leaves around a lowest node

low-leaves : (n w : ℕ) (es : List (Leaf × ℕ)) → leaves Leaf Mark 1 (low_node n w es) ≡ leaves_of es
unfolding leaves
low-leaves n w es = flat-leaves es

-- With the node's own in two parts.
pub leaves-parts : {h : ℕ} (c : NCtx 1 h) (n w : ℕ) (es : List (Leaf × ℕ)) (X Y : List Leaf) → leaves_of es ≡ X ++ Y
    → leaves Leaf Mark h (fill c (low_node n w es)) ≡ (leaves_before c ++ X) ++ (Y ++ leaves_behind c)
leaves-parts c n w es X Y e =
    leaves-fill c (low_node n w es)
    ∙ ap (λ k. leaves_before c ++ (k ++ leaves_behind c)) (low-leaves n w es ∙ e)
    ∙ ap (λ k. leaves_before c ++ k) (append_assoc X Y (leaves_behind c))
    ∙ sym (append_assoc (leaves_before c) X (Y ++ leaves_behind c))

-- A session's node has room.
pub session-room : (s : State) (p h n : ℕ) → ¬ (p ≡ 0) → Room s p h n → n ≤ 7
session-room s zero h n z r = absurd (z refl)
session-room s (suc p) h n z r = r

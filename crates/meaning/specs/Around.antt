-- A numbered tree with a hole: what lies around a node; and sons that are read, cut at one.
use Rattle.std.specs.Prelude.{◌≡◌, refl, List, [], ◌∷◌, ◌++◌, ℕ, zero, suc, ◌+◌, ◌≤◌, length, get_or, drop}
use Rattle.std.proofs.Math.Path.{sym, ap}
use Rattle.std.proofs.Common.{ap₂, ◌∙◌, append_assoc, append-nil, arith}
use Rattle.machine.specs.Tree.{flat, flat_append, map_e, map_e-append, Below, leaves}
use Rattle.machine.specs.Sound.{times}
use Rattle.machine.specs.Context.{Ctx, hole, down, plug, OnWay}
use Rattle.meaning.specs.Reading.{Leaf, Mark, Numbered, read_sons, read_tree, erase, numbers, node_numbers}
use Rattle.meaning.specs.Numbers.{times-append}

-- ---- contexts

-- Nodes on the way down: number and latch word, the sons before, what lies below with its bound, the sons behind. It is the machine's context with numbers.
pub data NCtx (k : ℕ) : ℕ → Type 0 where
  here : NCtx k k
  under : {h : ℕ} → Mark → List (Numbered h × ℕ) → NCtx k h → ℕ → List (Numbered h × ℕ) → NCtx k (suc h)

abbrev pub fill : {k h : ℕ} → NCtx k h → Numbered k → Numbered h
fill here u = u
fill (under w pre c b post) u = record { latch = w; sons = pre ++ ((fill c u, b) ∷ post) }

unfoldable pub erase_ctx : {k h : ℕ} → NCtx k h → Ctx k h
erase_ctx here = hole
erase_ctx (under {h = h} w pre c b post) = down w.word (map_e (erase h) pre) (erase_ctx c) b (map_e (erase h) post)

pub erase-fill : {k h : ℕ} (c : NCtx k h) (u : Numbered k) → erase h (fill c u) ≡ plug (erase_ctx c) (erase k u)
unfolding erase erase_ctx
erase-fill here u = refl
erase-fill (under {h = h} w pre c b post) u =
    ap (λ l. record { latch = w.word; sons = l })
    (map_e-append (erase h) pre ((fill c u, b) ∷ post) ∙ ap (λ a. map_e (erase h) pre ++ (a, b) ∷ map_e (erase h) post) (erase-fill c u))

-- The hole is on the path to x.
abbrev pub Way : {k h : ℕ} → ℕ → NCtx k h → Type 0
Way x here = Unit {0}
Way x (under w pre c b post) = Below x pre × (x ≤ b) × Way x c

pub below-erase : {A B : Type 0} (f : A → B) (x : ℕ) (es : List (A × ℕ)) → Below x es → Below x (map_e f es)
below-erase f x [] b = tt
below-erase f x (p ∷ es) b = (b.0, below-erase f x es b.1)

pub way-erase : {k h : ℕ} (x : ℕ) (c : NCtx k h) → Way x c → OnWay x (erase_ctx c)
unfolding erase_ctx
way-erase x here w = tt
way-erase x (under {h = h} v pre c b post) w = (below-erase (erase h) x pre w.0, w.1, way-erase x c w.2)

-- The upper bound in the hole of a tree with the upper bound hi.
unfoldable pub bound_in : {k h : ℕ} → NCtx k h → ℕ → ℕ
bound_in here hi = hi
bound_in (under w pre c b post) hi = bound_in c b

-- The record of a tree's root.
unfoldable pub num_of : (h : ℕ) → Numbered h → ℕ
num_of zero t = t.num
num_of (suc h) t = t.latch.num

pub num-read : (s : List ℕ) (m r h i hi : ℕ) → num_of h (read_tree s m r h i hi) ≡ i
unfolding num_of read_tree
num-read s m r zero i hi = refl
num-read s m r (suc h) i hi = refl

-- ---- a list over the tree: what lies before the hole and behind it

module _ {X : Type 0} (g : Mark → List X) (f : (h : ℕ) → Numbered h → List X) where
  unfoldable pub before : {k h : ℕ} → NCtx k h → List X
  before here = []
  before (under {h = h} w pre c b post) = g w ++ (flat (f h) pre ++ before c)

  unfoldable pub behind : {k h : ℕ} → NCtx k h → List X
  behind here = []
  behind (under {h = h} w pre c b post) = behind c ++ flat (f h) post

  pub list-fill : ((h : ℕ) (t : Numbered (suc h)) → f (suc h) t ≡ g t.latch ++ flat (f h) t.sons) → {k h : ℕ} (c : NCtx k h) (u : Numbered k)
      → f h (fill c u) ≡ before c ++ (f k u ++ behind c)
  unfolding before behind
  list-fill law {k} here u = sym (append-nil (f k u))
  list-fill law {k} (under {h = h} w pre c b post) u =
      law h (fill (under w pre c b post) u)
      ∙ ap (λ l. g w ++ l) (flat_append (f h) pre ((fill c u, b) ∷ post))
      ∙ rw (list-fill law c u) (simp append_assoc)

abbrev pub number_of : Mark → List ℕ
number_of w = w.num ∷ []

abbrev pub nothing : {X : Type 0} → Mark → List X
nothing w = []

pub numbers-fill : {k h : ℕ} (c : NCtx k h) (u : Numbered k) → numbers h (fill c u) ≡ before number_of numbers c ++ (numbers k u ++ behind number_of numbers c)
numbers-fill c u = list-fill number_of numbers (λ h t. unfold numbers in refl) c u

pub nodes-fill : {k h : ℕ} (c : NCtx k h) (u : Numbered k) → node_numbers h (fill c u) ≡ before number_of node_numbers c ++ (node_numbers k u ++ behind number_of node_numbers c)
nodes-fill c u = list-fill number_of node_numbers (λ h t. unfold node_numbers in refl) c u

pub leaves-fill : {k h : ℕ} (c : NCtx k h) (u : Numbered k) → leaves Leaf Mark h (fill c u) ≡ before nothing (leaves Leaf Mark) c ++ (leaves Leaf Mark k u ++ behind nothing (leaves Leaf Mark) c)
leaves-fill c u = list-fill nothing (leaves Leaf Mark) (λ h t. unfold leaves in refl) c u

-- The records around the hole, and how often one stands in the whole tree.
abbrev pub numbers_around : {k h : ℕ} → NCtx k h → List ℕ
numbers_around c = before number_of numbers c ++ behind number_of numbers c

pub times-fill : {k h : ℕ} (c : NCtx k h) (u : Numbered k) (j : ℕ) → times j (numbers h (fill c u)) ≡ times j (numbers_around c) + times j (numbers k u)
times-fill {k} c u j =
    let A = before number_of numbers c in
    let B = behind number_of numbers c in
    ap (times j) (numbers-fill c u)
    ∙ omega (arith, times-append j A (numbers k u ++ B), times-append j (numbers k u) B, times-append j A B)

-- ---- sons that are read, cut at one

pub record Cut {A : Type 0} (f : ℕ → ℕ → A) (es : List (ℕ × ℕ)) (pre : List (A × ℕ)) (a : A) (b : ℕ) (post : List (A × ℕ)) : Type 0 where
  pub left : List (ℕ × ℕ)
  pub son : ℕ
  pub right : List (ℕ × ℕ)
  pub is : es ≡ left ++ (son, b) ∷ right
  pub left_is : read_sons f left ≡ pre
  pub son_is : f son b ≡ a
  pub right_is : read_sons f right ≡ post

pub cut-sons : {A : Type 0} (f : ℕ → ℕ → A) (es : List (ℕ × ℕ)) (pre : List (A × ℕ)) (a : A) (b : ℕ) (post : List (A × ℕ)) → read_sons f es ≡ pre ++ (a, b) ∷ post → Cut f es pre a b post
cut-sons f [] [] a b post e = absurd (let z : ◌≡◌ {A = ℕ} 0 (suc (length post)) = ap length e in omega arith)
cut-sons f [] (q ∷ pre) a b post e = absurd (let z : ◌≡◌ {A = ℕ} 0 (suc (length (pre ++ (a, b) ∷ post))) = ap length e in omega arith)
cut-sons f (p ∷ es) [] a b post e =
    let q = ap (λ l. get_or l 0 (a, b)) e in
    let u : p.1 ≡ b = ap (λ x. x.1) q in
    record {
      left = [];
      son = p.0;
      right = es;
      is = ap (λ v. (p.0, v) ∷ es) u;
      left_is = refl;
      son_is = ap (f p.0) (sym u) ∙ ap (λ x. x.0) q;
      right_is = ap (λ l. drop 1 l) e;
    }
cut-sons f (p ∷ es) (q ∷ pre) a b post e =
    let r = cut-sons f es pre a b post (ap (λ l. drop 1 l) e) in
    record {
      left = p ∷ r.left;
      son = r.son;
      right = r.right;
      is = ap (λ l. p ∷ l) r.is;
      left_is = ap₂ (λ x l. x ∷ l) (ap (λ l. get_or l 0 (a, b)) e) r.left_is;
      son_is = r.son_is;
      right_is = r.right_is;
    }

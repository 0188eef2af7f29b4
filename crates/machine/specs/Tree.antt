-- The abstract tree. `T D N h`: a tree of height h with leaves D and a word N at each node. All leaves are at one depth by type.
-- A node's sons are entries (son, upper bound): the last entry's bound is the node's own upper bound (root: the upper infinity).
use Rattle.std.specs.Prelude.{◌≡◌, refl, Bool, true, false, cond, List, [], ◌∷◌, ◌++◌, suc, zero, ◌+◌, ◌≤◌, ◌<◌, ℕ, leb}
use Rattle.std.proofs.Common.{sym, ◌∙◌, ap, append_assoc, arith}
use Rattle.std.proofs.Math.Option.{Option, some, none}
use Rattle.machine.specs.Logic.{leb_yes, leb_no, leb-is, leb-not}

pub record Node (N A : Type 0) : Type 0 where
  pub latch : N
  pub sons : List (A × ℕ)

abbrev pub T : Type 0 → Type 0 → ℕ → Type 0
T D N zero = D
T D N (suc h) = Node N (T D N h)

-- ---- lists of entries, generic over the sons A

-- the entry on the path to x (the first whose bound is at least x), replaced by a list of entries
abbrev pub onp : {A : Type 0} → ℕ → (A → ℕ → List (A × ℕ)) → List (A × ℕ) → List (A × ℕ)
onp x g [] = []
onp x g (p ∷ es) = let here = g p.0 p.1 ++ es in let later = p ∷ onp x g es in cond (leb x p.1) here later

-- what the entry on the path answers
abbrev pub pick : {A B : Type 0} → ℕ → B → (A → B) → List (A × ℕ) → B
pick x z g [] = z
pick x z g (p ∷ es) = let here = g p.0 in let later = pick x z g es in cond (leb x p.1) here later

abbrev pub flat : {A B : Type 0} → (A → List B) → List (A × ℕ) → List B
flat g [] = []
flat g (p ∷ es) = g p.0 ++ flat g es

abbrev pub map_e : {A B : Type 0} → (A → B) → List (A × ℕ) → List (B × ℕ)
map_e g [] = []
map_e g (p ∷ es) = (g p.0, p.1) ∷ map_e g es

abbrev pub sum_e : {A : Type 0} → (A → ℕ) → List (A × ℕ) → ℕ
sum_e g [] = zero
sum_e g (p ∷ es) = g p.0 + sum_e g es

-- the entries' intervals follow one another from lo up to, not including, e; each son has Q in its own, lo to u with both ends
abbrev pub Seg : {A : Type 0} → (ℕ → ℕ → A → Type 0) → ℕ → ℕ → List (A × ℕ) → Type 0
Seg Q lo e [] = lo ≡ e
Seg Q lo e (p ∷ es) = Q lo p.1 p.0 × Seg Q (suc p.1) e es

-- every bound lies below x
abbrev pub Below : {A : Type 0} → ℕ → List (A × ℕ) → Type 0
Below x [] = Unit {0}
Below x (p ∷ es) = (p.1 < x) × Below x es

-- ---- trees

unfoldable pub leaves : (D N : Type 0) (h : ℕ) → T D N h → List D
leaves D N zero t = t ∷ []
leaves D N (suc h) t = flat (leaves D N h) t.sons

-- the leaf on the path to x
unfoldable pub leaf_at : (D N : Type 0) → ℕ → (h : ℕ) → T D N h → Option D
leaf_at D N x zero t = some t
leaf_at D N x (suc h) t = pick x none (leaf_at D N x h) t.sons

-- ---- lemmas on entries

pub flat_append : {A B : Type 0} (g : A → List B) (es fs : List (A × ℕ)) → flat g (es ++ fs) ≡ flat g es ++ flat g fs
flat_append g [] fs = refl
flat_append g (p ∷ es) fs = ap (λ l. g p.0 ++ l) (flat_append g es fs) ∙ sym (append_assoc (g p.0) (flat g es) (flat g fs))

pub map_e-append : {A B : Type 0} (g : A → B) (es fs : List (A × ℕ)) → map_e g (es ++ fs) ≡ map_e g es ++ map_e g fs
map_e-append g [] fs = refl
map_e-append g (p ∷ es) fs = ap (λ l. (g p.0, p.1) ∷ l) (map_e-append g es fs)

pub sum_e-append : {A : Type 0} (g : A → ℕ) (es fs : List (A × ℕ)) → sum_e g (es ++ fs) ≡ sum_e g es + sum_e g fs
sum_e-append g [] fs = omega arith
sum_e-append g (p ∷ es) fs = omega (arith, sum_e-append g es fs)

pub seg-append : {A : Type 0} (Q : ℕ → ℕ → A → Type 0) (lo m hi : ℕ) (es fs : List (A × ℕ)) → Seg Q lo m es → Seg Q m hi fs → Seg Q lo hi (es ++ fs)
seg-append Q lo m hi [] fs e s = rw e s
seg-append Q lo m hi (p ∷ es) fs (q, r) s = (q, seg-append Q (suc p.1) m hi es fs r s)

pub seg_cut : {A : Type 0} (Q : ℕ → ℕ → A → Type 0) (lo hi : ℕ) (es fs : List (A × ℕ)) → Seg Q lo hi (es ++ fs) → (m : ℕ) × Seg Q lo m es × Seg Q m hi fs
seg_cut Q lo hi [] fs s = (lo, refl, s)
seg_cut Q lo hi (p ∷ es) fs s = let r = seg_cut Q (suc p.1) hi es fs s.1 in (r.0, (s.0, r.1), r.2)

pub seg_below : {A : Type 0} (Q : ℕ → ℕ → A → Type 0) (x lo m : ℕ) (es : List (A × ℕ)) → Seg Q lo m es → Below x es → lo ≤ x → m ≤ x
seg_below Q x lo m [] s b p = omega (arith, s)
seg_below Q x lo m (p ∷ es) s b q = seg_below Q x (suc p.1) m es s.1 b.1 b.0

-- ---- the entry on the path

pub data Cmp (x b : ℕ) : Type 0 where
  low : x ≤ b → Cmp x b
  high : b < x → Cmp x b

pub cmp : (x b : ℕ) → Cmp x b
cmp x b = go (leb x b) refl
  where
    go : (c : Bool) → leb x b ≡ c → Cmp x b
    go true e = low (leb-is x b e)
    go false e = high (leb-not x b e)

-- the entries cut at the one on the path to x, with what Seg says of each part
pub record Hit {A : Type 0} (Q : ℕ → ℕ → A → Type 0) (x lo e : ℕ) (es : List (A × ℕ)) : Type 0 where
  pub pre : List (A × ℕ)
  pub a : A
  pub u : ℕ
  pub post : List (A × ℕ)
  pub eq : es ≡ pre ++ (a, u) ∷ post
  pub below : Below x pre
  pub upto : x ≤ u
  pub m : ℕ
  pub from : m ≤ x
  pub spre : Seg Q lo m pre
  pub here : Q m u a
  pub spost : Seg Q (suc u) e post

pub hit : {A : Type 0} (Q : ℕ → ℕ → A → Type 0) (x lo e : ℕ) (es : List (A × ℕ)) → Seg Q lo e es → lo ≤ x → x < e → Hit Q x lo e es
hit Q x lo e [] s p q = absurd (omega (arith, s))
hit Q x lo e (p ∷ es) s lx xe = go (cmp x p.1) (λ k. hit Q x (suc p.1) e es s.1 k xe)
  where
    go : Cmp x p.1 → (p.1 < x → Hit Q x (suc p.1) e es) → Hit Q x lo e (p ∷ es)
    go (low k) f = record { pre = []; a = p.0; u = p.1; post = es; eq = refl; below = tt; upto = k; m = lo; from = lx; spre = refl; here = s.0; spost = s.1 }
    go (high k) f = let r = f k in
        record {
          pre = p ∷ r.pre;
          a = r.a;
          u = r.u;
          post = r.post;
          eq = ap (λ l. p ∷ l) r.eq;
          below = (k, r.below);
          upto = r.upto;
          m = r.m;
          from = r.from;
          spre = (s.0, r.spre);
          here = r.here;
          spost = r.spost;
        }

pub onp-hit : {A : Type 0} (x : ℕ) (g : A → ℕ → List (A × ℕ)) (pre : List (A × ℕ)) (a : A) (u : ℕ) (post : List (A × ℕ)) → Below x pre → x ≤ u
    → onp x g (pre ++ (a, u) ∷ post) ≡ pre ++ (g a u ++ post)
onp-hit x g [] a u post b k = rw (leb_yes x u k)
onp-hit x g (p ∷ pre) a u post b k = rw (leb_no x p.1 b.0) (ap (λ l. p ∷ l) (onp-hit x g pre a u post b.1 k))

pub pick-hit : {A B : Type 0} (x : ℕ) (z : B) (g : A → B) (pre : List (A × ℕ)) (a : A) (u : ℕ) (post : List (A × ℕ)) → Below x pre → x ≤ u
    → pick x z g (pre ++ (a, u) ∷ post) ≡ g a
pick-hit x z g [] a u post b k = rw (leb_yes x u k)
pick-hit x z g (p ∷ pre) a u post b k = rw (leb_no x p.1 b.0) (pick-hit x z g pre a u post b.1 k)

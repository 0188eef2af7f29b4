-- Keys in order: the node where a party stands, and the descriptor on the path to a key, cut the stored descriptors in three.
use Rattle.std.specs.Prelude.{◌≡◌, refl, Bool, true, false, cond, List, [], ◌∷◌, ◌++◌, eqb}
use Rattle.std.proofs.Common.{sym, ◌∙◌, append_assoc, append-nil, arith}
use Rattle.std.proofs.Math.Path.{ap}
use Rattle.std.proofs.Math.Option.{none, some}
use Prim.Native.Nat.{zero, suc, ◌≤◌, ◌<◌, ℕ}
use Rattle.machine.specs.Tree.{onp, pick, flat, Seg, leaves, leaf_at, flat_append, Below, Hit, hit, onp-hit, pick-hit}
use Rattle.machine.specs.State.{Desc, Tree, on_leaf}
use Rattle.machine.specs.Descent.{Sons, at_latch, on_latch}

-- Every key of t lies from lo to hi, and its sons' intervals follow one another.
unfoldable pub Ord : (h lo hi : ℕ) → Tree h → Type 0
Ord zero lo hi d = (lo ≤ d.key) × (d.key ≤ hi)
Ord (suc h) lo hi t = Seg (Ord h) lo (suc hi) t.sons

-- Every key is from lo on and below e.
abbrev pub In : ℕ → ℕ → List Desc → Type 0
In lo e [] = Unit {0}
In lo e (d ∷ l) = ((lo ≤ d.key) × (d.key < e)) × In lo e l

pub in-append : (lo e : ℕ) (a b : List Desc) → In lo e a → In lo e b → In lo e (a ++ b)
in-append lo e [] b p q = q
in-append lo e (d ∷ a) b p q = (p.0, in-append lo e a b p.1 q)

pub in-wide : (lo e lo' e' : ℕ) (l : List Desc) → In lo e l → lo' ≤ lo → e ≤ e' → In lo' e' l
in-wide lo e lo' e' [] p a b = tt
in-wide lo e lo' e' (d ∷ l) p a b = ((omega (arith, p.0.0), omega (arith, p.0.1)), in-wide lo e lo' e' l p.1 a b)

pub seg-le : {A : Type 0} (Q : ℕ → ℕ → A → Type 0) → ((lo u : ℕ) (a : A) → Q lo u a → lo ≤ suc u) → (lo e : ℕ) (es : List (A × ℕ)) → Seg Q lo e es → lo ≤ e
seg-le Q f lo e [] s = omega (arith, s)
seg-le Q f lo e (p ∷ es) s = omega (arith, f lo p.1 p.0 s.0, seg-le Q f (suc p.1) e es s.1)

pub ord-le : (h lo hi : ℕ) (t : Tree h) → Ord h lo hi t → lo ≤ suc hi
unfolding Ord
ord-le zero lo hi t o = omega (arith, o.0, o.1)
ord-le (suc h) lo hi t o = seg-le (Ord h) (λ l u a. ord-le h l u a) lo (suc hi) t.sons o

pub seg_in : {A : Type 0} (Q : ℕ → ℕ → A → Type 0) (g : A → List Desc) → ((lo u : ℕ) (a : A) → Q lo u a → lo ≤ suc u) → ((lo u : ℕ) (a : A) → Q lo u a → In lo (suc u) (g a))
    → (lo e : ℕ) (es : List (A × ℕ)) → Seg Q lo e es → In lo e (flat g es)
seg_in Q g f k lo e [] s = tt
seg_in Q g f k lo e (p ∷ es) s =
    in-append lo e (g p.0) (flat g es)
    (in-wide lo (suc p.1) lo e (g p.0) (k lo p.1 p.0 s.0) (omega arith) (seg-le Q f (suc p.1) e es s.1))
    (in-wide (suc p.1) e lo e (flat g es) (seg_in Q g f k (suc p.1) e es s.1) (f lo p.1 p.0 s.0) (omega arith))

pub ord-in : (h lo hi : ℕ) (t : Tree h) → Ord h lo hi t → In lo (suc hi) (leaves Desc ℕ h t)
unfolding Ord leaves
ord-in zero lo hi t o = ((o.0, omega (arith, o.1)), tt)
ord-in (suc h) lo hi t o = seg_in (Ord h) (leaves Desc ℕ h) (ord-le h) (ord-in h) lo (suc hi) t.sons o

abbrev pub lv : (h : ℕ) → Tree h → List Desc
lv h t = leaves Desc ℕ h t

-- ---- the node where a party stands

pub record Found (w x h : ℕ) (t : Tree h) (k : ℕ) (u : Tree (suc k)) (from upto : ℕ) : Type 0 where
  pub A : List Desc
  pub B : List Desc
  pub lo : ℕ
  pub hi : ℕ
  pub at_least : lo ≤ x
  pub at_most : x ≤ hi
  pub from_lo : from ≤ lo
  pub hi_upto : suc hi ≤ upto
  pub ord : Ord (suc k) lo hi u
  pub low : In from lo A
  pub high : In (suc hi) upto B
  pub was : lv h t ≡ A ++ (lv (suc k) u ++ B)
  pub leaf : leaf_at Desc ℕ x h t ≡ leaf_at Desc ℕ x (suc k) u
  pub put : (f : (j : ℕ) → Tree (suc j) → Tree (suc j)) → lv h (on_latch w x f h t) ≡ A ++ (lv (suc k) (f k u) ++ B)

-- Three parts inside a part.
nest : {X : Type 0} (a A m B b : List X) → a ++ ((A ++ (m ++ B)) ++ b) ≡ (a ++ A) ++ (m ++ (B ++ b))
nest a A m B b =
    ap (λ l. a ++ l) (append_assoc A (m ++ B) b ∙ ap (λ l. A ++ l) (append_assoc m B b))
    ∙ sym (append_assoc a A (m ++ (B ++ b)))

flat-mid : {X Y : Type 0} (g : X → List Y) (pre : List (X × ℕ)) (a : X) (u : ℕ) (post : List (X × ℕ)) (A m B : List Y) → g a ≡ A ++ (m ++ B)
    → flat g (pre ++ (a, u) ∷ post) ≡ (flat g pre ++ A) ++ (m ++ (B ++ flat g post))
flat-mid g pre a u post A m B e = flat_append g pre ((a, u) ∷ post) ∙ ap (λ l. flat g pre ++ (l ++ flat g post)) e ∙ nest (flat g pre) A m B (flat g post)

on-latch-below : (w x : ℕ) (f : (j : ℕ) → Tree (suc j) → Tree (suc j)) (h : ℕ) (t : Tree (suc h)) (pre : Sons h) (a : Tree h) (u : ℕ) (post : Sons h)
    → eqb t.latch w ≡ false → t.sons ≡ pre ++ (a, u) ∷ post → Below x pre → x ≤ u
    → on_latch w x f (suc h) t ≡ record { latch = t.latch; sons = pre ++ (on_latch w x f h a, u) ∷ post }
unfolding on_latch
on-latch-below w x f h t pre a u post e q b le =
    rw e (ap (λ l. record { latch = t.latch; sons = l })
    (ap (onp x (λ c v. (on_latch w x f h c, v) ∷ [])) q ∙ onp-hit x (λ c v. (on_latch w x f h c, v) ∷ []) pre a u post b le))

-- The son on the path to x, with what lies before and behind it.
module _ (h : ℕ) {x from hi : ℕ} {es : Sons h} (H : Hit (Ord h) x from (suc hi) es) where
  abbrev hit_before : List Desc
  hit_before = flat (leaves Desc ℕ h) H.pre

  abbrev hit_behind : List Desc
  hit_behind = flat (leaves Desc ℕ h) H.post

  hit-from : from ≤ H.m
  hit-from = seg-le (Ord h) (ord-le h) from H.m H.pre H.spre

  hit-upto : suc H.u ≤ suc hi
  hit-upto = seg-le (Ord h) (ord-le h) (suc H.u) (suc hi) H.post H.spost

  hit-low : (lo : ℕ) (A : List Desc) → H.m ≤ lo → In H.m lo A → In from lo (hit_before ++ A)
  hit-low lo A le i = in-append from lo hit_before A
      (in-wide from H.m from lo hit_before (seg_in (Ord h) (leaves Desc ℕ h) (ord-le h) (ord-in h) from H.m H.pre H.spre) (omega arith) le)
      (in-wide H.m lo from lo A i hit-from (omega arith))

  hit-high : (up : ℕ) (B : List Desc) → suc up ≤ suc H.u → In (suc up) (suc H.u) B → In (suc up) (suc hi) (B ++ hit_behind)
  hit-high up B le i = in-append (suc up) (suc hi) B hit_behind
      (in-wide (suc up) (suc H.u) (suc up) (suc hi) B i (omega arith) hit-upto)
      (in-wide (suc H.u) (suc hi) (suc up) (suc hi) hit_behind (seg_in (Ord h) (leaves Desc ℕ h) (ord-le h) (ord-in h) (suc H.u) (suc hi) H.post H.spost) le (omega arith))

module _ (w x h : ℕ) (t : Tree (suc h)) (from hi : ℕ) (o : Ord (suc h) from hi t) (a : from ≤ x) (b : x ≤ hi) where
  found_here : eqb t.latch w ≡ true → Found w x (suc h) t h t from (suc hi)
  found_here e = record {
    A = [];
    B = [];
    lo = from;
    hi = hi;
    at_least = a;
    at_most = b;
    from_lo = omega arith;
    hi_upto = omega arith;
    ord = o;
    low = tt;
    high = tt;
    was = sym (append-nil (lv (suc h) t));
    leaf = refl;
    put = λ f. unfold on_latch in (rw e (sym (append-nil (lv (suc h) (f h t)))));
  }

  found_below : eqb t.latch w ≡ false → (H : Hit (Ord h) x from (suc hi) t.sons) (k : ℕ) (u : Tree (suc k)) → Found w x h H.a k u H.m (suc H.u) → Found w x (suc h) t k u from (suc hi)
  unfolding leaves leaf_at
  found_below e H k u F = record {
    A = hit_before h H ++ F.A;
    B = F.B ++ hit_behind h H;
    lo = F.lo;
    hi = F.hi;
    at_least = F.at_least;
    at_most = F.at_most;
    from_lo = omega (arith, hit-from h H, F.from_lo);
    hi_upto = omega (arith, hit-upto h H, F.hi_upto);
    ord = F.ord;
    low = hit-low h H F.lo F.A F.from_lo F.low;
    high = hit-high h H F.hi F.B F.hi_upto F.high;
    was = ap (flat (leaves Desc ℕ h)) H.eq ∙ flat-mid (leaves Desc ℕ h) H.pre H.a H.u H.post F.A (lv (suc k) u) F.B F.was;
    leaf = ap (pick x none (leaf_at Desc ℕ x h)) H.eq ∙ pick-hit x none (leaf_at Desc ℕ x h) H.pre H.a H.u H.post H.below H.upto ∙ F.leaf;
    put = λ f. ap (lv (suc h)) (on-latch-below w x f h t H.pre H.a H.u H.post e H.eq H.below H.upto)
        ∙ flat-mid (leaves Desc ℕ h) H.pre (on_latch w x f h H.a) H.u H.post F.A (lv (suc k) (f k u)) F.B (F.put f);
  }

pub found-cases : {Z : Type 0} (P : Z → Type 0) (w x : ℕ) (z : Z) (g : (k : ℕ) → Tree (suc k) → Z) (h : ℕ) (t : Tree h) (from hi : ℕ) → Ord h from hi t → from ≤ x → x ≤ hi
    → P z → ((k : ℕ) (u : Tree (suc k)) → Found w x h t k u from (suc hi) → P (g k u)) → P (at_latch w x z g h t)
unfolding at_latch Ord
found-cases P w x z g zero t from hi o a b pz pg = pz
found-cases P w x z g (suc h) t from hi o a b pz pg =
    let H = hit (Ord h) x from (suc hi) t.sons o a (omega (arith, b)) in
    go (eqb t.latch w) refl H (found-cases P w x z g h H.a H.m H.u H.here H.from H.upto pz)
  where
    go : (c : Bool) → eqb t.latch w ≡ c → (H : Hit (Ord h) x from (suc hi) t.sons)
        → (((k : ℕ) (u : Tree (suc k)) → Found w x h H.a k u H.m (suc H.u) → P (g k u)) → P (at_latch w x z g h H.a))
        → P (cond c (g h t) (pick x z (at_latch w x z g h) t.sons))
    go true e H ih = pg h t (found_here w x h t from hi o a b e)
    go false e H ih = rw (H.eq, pick-hit x z (at_latch w x z g h) H.pre H.a H.u H.post H.below H.upto) (ih (λ k u F. pg k u (found_below w x h t from hi o a b e H k u F)))

-- ---- the descriptor on the path to a key

pub record Cut (x h : ℕ) (t : Tree h) (from upto : ℕ) : Type 0 where
  pub A : List Desc
  pub d : Desc
  pub B : List Desc
  pub lo : ℕ
  pub hi : ℕ
  pub at_least : lo ≤ x
  pub at_most : x ≤ hi
  pub from_lo : from ≤ lo
  pub hi_upto : suc hi ≤ upto
  pub key_lo : lo ≤ d.key
  pub key_hi : d.key ≤ hi
  pub low : In from lo A
  pub high : In (suc hi) upto B
  pub was : lv h t ≡ A ++ d ∷ B
  pub leaf : leaf_at Desc ℕ x h t ≡ some d
  pub put : (f : Desc → Desc) → lv h (on_leaf x f h t) ≡ A ++ f d ∷ B

cut_below : (x h : ℕ) (t : Tree (suc h)) (from hi : ℕ) (H : Hit (Ord h) x from (suc hi) t.sons) → Cut x h H.a H.m (suc H.u) → Cut x (suc h) t from (suc hi)
unfolding leaves leaf_at on_leaf
cut_below x h t from hi H C = record {
  A = hit_before h H ++ C.A;
  d = C.d;
  B = C.B ++ hit_behind h H;
  lo = C.lo;
  hi = C.hi;
  at_least = C.at_least;
  at_most = C.at_most;
  from_lo = omega (arith, hit-from h H, C.from_lo);
  hi_upto = omega (arith, hit-upto h H, C.hi_upto);
  key_lo = C.key_lo;
  key_hi = C.key_hi;
  low = hit-low h H C.lo C.A C.from_lo C.low;
  high = hit-high h H C.hi C.B C.hi_upto C.high;
  was = ap (flat (leaves Desc ℕ h)) H.eq ∙ flat-mid (leaves Desc ℕ h) H.pre H.a H.u H.post C.A (C.d ∷ []) C.B C.was;
  leaf = ap (pick x none (leaf_at Desc ℕ x h)) H.eq ∙ pick-hit x none (leaf_at Desc ℕ x h) H.pre H.a H.u H.post H.below H.upto ∙ C.leaf;
  put = λ f. ap (flat (leaves Desc ℕ h)) (ap (onp x (λ c v. (on_leaf x f h c, v) ∷ [])) H.eq ∙ onp-hit x (λ c v. (on_leaf x f h c, v) ∷ []) H.pre H.a H.u H.post H.below H.upto)
      ∙ flat-mid (leaves Desc ℕ h) H.pre (on_leaf x f h H.a) H.u H.post C.A (f C.d ∷ []) C.B (C.put f);
}

pub cut : (x h : ℕ) (t : Tree h) (from hi : ℕ) → Ord h from hi t → from ≤ x → x ≤ hi → Cut x h t from (suc hi)
unfolding Ord leaves leaf_at on_leaf
cut x zero t from hi o a b = record {
  A = [];
  d = t;
  B = [];
  lo = from;
  hi = hi;
  at_least = a;
  at_most = b;
  from_lo = omega arith;
  hi_upto = omega arith;
  key_lo = o.0;
  key_hi = o.1;
  low = tt;
  high = tt;
  was = refl;
  leaf = refl;
  put = λ f. refl;
}
cut x (suc h) t from hi o a b =
    let H = hit (Ord h) x from (suc hi) t.sons o a (omega (arith, b)) in
    cut_below x h t from hi H (cut x h H.a H.m H.u H.here H.from H.upto)

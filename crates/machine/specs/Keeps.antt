-- Descents and housekeeping move no descriptor: what lies under the root, from left to right, stays through every split, join, move, drop and latch.
use Rattle.std.specs.Prelude.{◌≡◌, cond, leb, eqb, take, drop}
use Rattle.std.proofs.Math.Path.{refl, ap₂, sym, ap}
use Rattle.std.proofs.Common.{◌∙◌, take-append-drop}
use mathlib.Core.List.{List, [], ◌∷◌, ◌++◌, append_assoc, append-nil}
use Prim.Native.Nat.{zero, suc, ℕ}
use Rattle.machine.specs.Logic.{either}
use Rattle.machine.specs.Tree.{onp, flat, leaves, flat_append}
use Rattle.machine.specs.State.{Desc, Tree, Root, top, on_leaf}
use Rattle.machine.specs.Descent.{Sons, halves, down_to, on_last, last_of, but_last, joined, moved_right, moved_left, on_pair, joins, mended, on_latch, unlatched, lone_son, drop_lone, entered, split_root, node}
use Rattle.machine.specs.Steps.{small, fills, stepped, son-at, descended}

-- What is read of each descriptor, from left to right.
unfoldable pub under : {B : Type 0} → (Desc → List B) → (h : ℕ) → Tree h → List B
under f zero d = f d
under f (suc h) t = flat (under f h) t.sons

pub flat-same : {A B : Type 0} (g k : A → List B) → ((a : A) → g a ≡ k a) → (es : List (A × ℕ)) → flat g es ≡ flat k es
flat-same g k e [] = refl
flat-same g k e (p ∷ es) = ap₂ (λ a b. a ++ b) (e p.0) (flat-same g k e es)

pub leaves-under : (h : ℕ) (t : Tree h) → leaves Desc ℕ h t ≡ under (λ d. d ∷ []) h t
unfolding leaves under
leaves-under zero t = refl
leaves-under (suc h) t = flat-same (leaves Desc ℕ h) (under (λ d. d ∷ []) h) (leaves-under h) t.sons

pub leaves_kept : (h : ℕ) (t : Tree h) (j : ℕ) (u : Tree j) → under (λ d. d ∷ []) j u ≡ under (λ d. d ∷ []) h t → leaves Desc ℕ j u ≡ leaves Desc ℕ h t
leaves_kept h t j u e = leaves-under j u ∙ e ∙ sym (leaves-under h t)

-- ---- lists of sons

pub flat-onp : {A B : Type 0} (g : A → List B) (x : ℕ) (k : A → ℕ → List (A × ℕ)) → ((a : A) (u : ℕ) → flat g (k a u) ≡ g a) → (es : List (A × ℕ)) → flat g (onp x k es) ≡ flat g es
flat-onp g x k e [] = refl
flat-onp g x k e (p ∷ es) = either (λ l. flat g l ≡ g p.0 ++ flat g es) (leb x p.1) (k p.0 p.1 ++ es) (p ∷ onp x k es)
    (flat_append g (k p.0 p.1) es ∙ ap (λ l. l ++ flat g es) (e p.0 p.1))
    (ap (λ l. g p.0 ++ l) (flat-onp g x k e es))

pub flat-pair : {A B : Type 0} (g : A → List B) (x : ℕ) (k : (A × ℕ) → (A × ℕ) → List (A × ℕ)) → ((p q : A × ℕ) → flat g (k p q) ≡ g p.0 ++ g q.0)
    → (es : List (A × ℕ)) → flat g (on_pair x k es) ≡ flat g es
flat-pair g x k e [] = refl
flat-pair g x k e (p ∷ []) = refl
flat-pair g x k e (p ∷ q ∷ es) = either (λ l. flat g l ≡ g p.0 ++ (g q.0 ++ flat g es)) (leb x q.1) (k p q ++ es) (p ∷ on_pair x k (q ∷ es))
    (flat_append g (k p q) es ∙ ap (λ l. l ++ flat g es) (e p q) ∙ append_assoc (g p.0) (g q.0) (flat g es))
    (ap (λ l. g p.0 ++ l) (flat-pair g x k e (q ∷ es)))

pub flat-last : {A B : Type 0} (g : A → List B) (f : A → ℕ → ℕ) (es : List (A × ℕ)) → flat g (on_last f es) ≡ flat g es
flat-last g f [] = refl
flat-last g f (p ∷ []) = refl
flat-last g f (p ∷ q ∷ es) = ap (λ l. g p.0 ++ l) (flat-last g f (q ∷ es))

pub flat-cut : {A B : Type 0} (g : A → List B) (es : List (A × ℕ)) → flat g (but_last es) ++ flat g (last_of es) ≡ flat g es
flat-cut g [] = refl
flat-cut g (p ∷ []) = refl
flat-cut g (p ∷ q ∷ es) = append_assoc (g p.0) (flat g (but_last (q ∷ es))) (flat g (last_of (q ∷ es))) ∙ ap (λ l. g p.0 ++ l) (flat-cut g (q ∷ es))

pub flat-take-drop : {A B : Type 0} (g : A → List B) (n : ℕ) (es : List (A × ℕ)) → flat g (take n es) ++ flat g (drop n es) ≡ flat g es
flat-take-drop g n es = sym (flat_append g (take n es) (drop n es)) ∙ ap (flat g) (take-append-drop n es)

-- ---- at a node

module _ {B : Type 0} (f : Desc → List B) where
  pub under-halves : (w x h : ℕ) (t : Tree (suc h)) (u : ℕ) → flat (under f (suc h)) (halves w x h t u) ≡ under f (suc h) t
  unfolding under halves
  under-halves w x h t u = ap (λ l. flat (under f h) (take 4 t.sons) ++ l) (append-nil (flat (under f h) (drop 4 t.sons))) ∙ flat-take-drop (under f h) 4 t.sons

  pub under-joined : (w h : ℕ) (a b : Tree (suc h)) (v : ℕ) → flat (under f (suc h)) (joined w h a b v) ≡ under f (suc h) a ++ under f (suc h) b
  unfolding under joined
  under-joined w h a b v = append-nil (flat (under f h) (on_last (down_to h) a.sons ++ b.sons))
      ∙ flat_append (under f h) (on_last (down_to h) a.sons) b.sons ∙ ap (λ l. l ++ flat (under f h) b.sons) (flat-last (under f h) (down_to h) a.sons)

  pub under-right : (w h : ℕ) (a b : Tree (suc h)) (v : ℕ) → flat (under f (suc h)) (moved_right w h a b v) ≡ under f (suc h) a ++ under f (suc h) b
  unfolding under moved_right
  under-right w h a b v =
      ap (λ l. flat (under f h) (but_last a.sons) ++ l)
      (append-nil (flat (under f h) (on_last (down_to h) (last_of a.sons) ++ b.sons))
      ∙ flat_append (under f h) (on_last (down_to h) (last_of a.sons)) b.sons
      ∙ ap (λ l. l ++ flat (under f h) b.sons) (flat-last (under f h) (down_to h) (last_of a.sons)))
      ∙ sym (append_assoc (flat (under f h) (but_last a.sons)) (flat (under f h) (last_of a.sons)) (flat (under f h) b.sons))
      ∙ ap (λ l. l ++ flat (under f h) b.sons) (flat-cut (under f h) a.sons)

  pub under_left : (w h : ℕ) (a b : Tree (suc h)) (v : ℕ) → flat (under f (suc h)) (moved_left w h a b v) ≡ under f (suc h) a ++ under f (suc h) b
  unfolding under moved_left
  under_left w h a b v =
      ap₂ (λ l m. l ++ m)
      (flat_append (under f h) (on_last (down_to h) a.sons) (take 1 b.sons) ∙ ap (λ l. l ++ flat (under f h) (take 1 b.sons)) (flat-last (under f h) (down_to h) a.sons))
      (append-nil (flat (under f h) (drop 1 b.sons)))
      ∙ append_assoc (flat (under f h) a.sons) (flat (under f h) (take 1 b.sons)) (flat (under f h) (drop 1 b.sons))
      ∙ ap (λ l. flat (under f h) a.sons ++ l) (flat-take-drop (under f h) 1 b.sons)

  pub under-mended : (w x h : ℕ) (p q : Tree (suc h) × ℕ) → flat (under f (suc h)) (mended w x h p q) ≡ under f (suc h) p.0 ++ under f (suc h) q.0
  unfolding mended
  under-mended w x h p q =
      either (λ l. flat (under f (suc h)) l ≡ under f (suc h) p.0 ++ under f (suc h) q.0) (joins x h p q) (joined w h p.0 q.0 q.1)
      (cond (leb x p.1) (moved_left w h p.0 q.0 q.1) (moved_right w h p.0 q.0 q.1))
      (under-joined w h p.0 q.0 q.1)
      (either (λ l. flat (under f (suc h)) l ≡ under f (suc h) p.0 ++ under f (suc h) q.0) (leb x p.1)
      (moved_left w h p.0 q.0 q.1) (moved_right w h p.0 q.0 q.1)
      (under_left w h p.0 q.0 q.1) (under-right w h p.0 q.0 q.1))

  pub under-stepped : (p x h : ℕ) (t : Tree (suc h)) (es : Sons (suc h)) → flat (under f (suc h)) (stepped p x h t es) ≡ flat (under f (suc h)) es
  unfolding stepped under
  under-stepped p x h t es =
      let pair = on_pair x (mended (suc p) x h) es in
      let split = onp x (halves (suc p) x h) es in
      let plain = onp x (λ a u. (node (suc p) a.sons, u) ∷ []) es in
      either (λ l. flat (under f (suc h)) l ≡ flat (under f (suc h)) es) (small p h t) pair (cond (fills p h t) split plain)
      (flat-pair (under f (suc h)) x (mended (suc p) x h) (under-mended (suc p) x h) es)
      (either (λ l. flat (under f (suc h)) l ≡ flat (under f (suc h)) es) (fills p h t) split plain
      (flat-onp (under f (suc h)) x (halves (suc p) x h) (under-halves (suc p) x h) es)
      (flat-onp (under f (suc h)) x (λ a u. (node (suc p) a.sons, u) ∷ []) (λ a u. append-nil (flat (under f h) a.sons)) es))

  pub under-descended : (p x h : ℕ) (t : Tree (suc h)) → under f (suc h) (descended p x h t) ≡ under f (suc h) t
  unfolding under descended
  under-descended p x zero t = refl
  under-descended p x (suc h) t = under-stepped p x h (son-at x h t.sons) t.sons

  pub under-unlatched : (h : ℕ) (t : Tree (suc h)) → under f (suc h) (unlatched h t) ≡ under f (suc h) t
  unfolding under unlatched
  under-unlatched h t = refl

  -- ---- in the tree

  pub under-on-latch : (w x : ℕ) (k : (h : ℕ) → Tree (suc h) → Tree (suc h)) → ((h : ℕ) (t : Tree (suc h)) → under f (suc h) (k h t) ≡ under f (suc h) t)
      → (h : ℕ) (t : Tree h) → under f h (on_latch w x k h t) ≡ under f h t
  unfolding under on_latch
  under-on-latch w x k e zero t = refl
  under-on-latch w x k e (suc h) t =
      let below : Tree (suc h) = record { latch = t.latch; sons = onp x (λ a b. (on_latch w x k h a, b) ∷ []) t.sons } in
      either (λ l. under f (suc h) l ≡ under f (suc h) t) (eqb t.latch w) (k h t) below (e h t)
      (flat-onp (under f h) x (λ a b. (on_latch w x k h a, b) ∷ []) (λ a u. append-nil (under f h (on_latch w x k h a)) ∙ under-on-latch w x k e h a) t.sons)

  pub under-on-leaf : (x : ℕ) (k : Desc → Desc) → ((d : Desc) → f (k d) ≡ f d) → (h : ℕ) (t : Tree h) → under f h (on_leaf x k h t) ≡ under f h t
  unfolding under on_leaf
  under-on-leaf x k e zero t = e t
  under-on-leaf x k e (suc h) t =
      flat-onp (under f h) x (λ a b. (on_leaf x k h a, b) ∷ []) (λ a u. append-nil (under f h (on_leaf x k h a)) ∙ under-on-leaf x k e h a) t.sons

  abbrev pub under_root : Root → List B
  under_root r = under f (suc r.height) r.node

  under-lone : (h : ℕ) (es : Sons (suc h)) (t : Tree (suc (suc h))) → t.sons ≡ es → under_root (lone_son h es t) ≡ under f (suc (suc h)) t
  unfolding under
  under-lone h [] t e = refl
  under-lone h (p ∷ []) t e = sym (ap (flat (under f (suc h))) e ∙ append-nil (under f (suc h) p.0))
  under-lone h (p ∷ q ∷ es) t e = refl

  pub under_drop : (h : ℕ) (t : Tree (suc h)) → under_root (drop_lone h t) ≡ under f (suc h) t
  under_drop zero t = refl
  under_drop (suc h) t = under-lone h t.sons t refl

  pub under-entered : (w : ℕ) (r : Root) → under_root (entered w r) ≡ under_root r
  unfolding under
  under-entered w r = refl

  pub under-split-root : (w x : ℕ) (r : Root) → under_root (split_root w x r) ≡ under_root r
  unfolding under
  under-split-root w x r = under-halves w x r.height r.node top

-- Descriptors as leaves of a numbered tree: without their numbers, on both sides of a hole, and one of them replaced.
use Rattle.std.specs.Prelude.{◌≡◌, refl, List, [], ◌∷◌, ◌++◌, map, ℕ, zero, suc, ◌≤◌}
use Rattle.std.proofs.Common.{sym, ap, ap₂, subst, ◌∙◌, arith}
use Rattle.std.proofs.lemmas.List.{map-append}
use Rattle.machine.specs.Tree.{onp-hit, flat, map_e, map_e-append, Seg, seg_cut, seg_below, leaves}
use Rattle.machine.specs.State.{Desc, on_leaf}
use Rattle.machine.specs.Order.{Ord, In, in-append, in-wide, seg-le, ord-le, seg_in, ord-in}
use Rattle.machine.specs.Context.{Ctx, hole, down, plug, OnWay}
use Rattle.meaning.specs.Reading.{Leaf, Mark, Numbered, erase, numbers}
use Rattle.meaning.specs.Around.{NCtx, here, under, fill, Way, below-erase, before, behind, nothing}

-- ---- leaves without numbers

abbrev pub descs : List Leaf → List Desc
descs l = map (λ x. x.desc) l

sons-erase : {A B : Type 0} (f : A → B) (g : B → List Desc) (k : A → List Leaf) → ((a : A) → g (f a) ≡ descs (k a)) → (es : List (A × ℕ)) → flat g (map_e f es) ≡ descs (flat k es)
sons-erase f g k e [] = refl
sons-erase f g k e (p ∷ es) = ap₂ (λ a b. a ++ b) (e p.0) (sons-erase f g k e es) ∙ sym (map-append (λ x. x.desc) (k p.0) (flat k es))

pub leaves-erase : (h : ℕ) (t : Numbered h) → leaves Desc ℕ h (erase h t) ≡ descs (leaves Leaf Mark h t)
unfolding leaves erase
leaves-erase zero t = refl
leaves-erase (suc h) t = sons-erase (erase h) (leaves Desc ℕ h) (leaves Leaf Mark h) (leaves-erase h) t.sons

-- ---- keys on both sides of the hole

abbrev pub leaves_before : {k h : ℕ} → NCtx k h → List Leaf
leaves_before c = before nothing (leaves Leaf Mark) c

abbrev pub leaves_behind : {k h : ℕ} → NCtx k h → List Leaf
leaves_behind c = behind nothing (leaves Leaf Mark) c

-- The keys of sons that follow one another from lo to below e.
sons-in : (h lo e : ℕ) (es : List (Numbered h × ℕ)) → Seg (Ord h) lo e (map_e (erase h) es) → In lo e (descs (flat (leaves Leaf Mark h) es))
sons-in h lo e es q =
    subst (In lo e) (sons-erase (erase h) (leaves Desc ℕ h) (leaves Leaf Mark h) (leaves-erase h) es) (seg_in (Ord h) (leaves Desc ℕ h) (ord-le h) (ord-in h) lo e (map_e (erase h) es) q)

in-descs : (lo e : ℕ) (a b : List Leaf) → In lo e (descs a) → In lo e (descs b) → In lo e (descs (a ++ b))
in-descs lo e a b p q = subst (In lo e) (sym (map-append (λ x. x.desc) a b)) (in-append lo e (descs a) (descs b) p q)

pub keys-around : {k h : ℕ} (c : NCtx k h) (u : Numbered k) (x lo hi : ℕ) → Ord h lo hi (erase h (fill c u)) → lo ≤ x → x ≤ hi → Way x c
    → In lo x (descs (leaves_before c)) × In (suc x) (suc hi) (descs (leaves_behind c))
unfolding Ord erase before behind
keys-around here u x lo hi o a b w = (tt, tt)
keys-around (under {h = h} v pre c d post) u x lo hi o a b w =
    let z = seg_cut (Ord h) lo (suc hi) (map_e (erase h) pre) ((erase h (fill c u), d) ∷ map_e (erase h) post) (subst (Seg (Ord h) lo (suc hi)) (map_e-append (erase h) pre ((fill c u, d) ∷ post)) o) in
    let m = z.0 in
    let mx : m ≤ x = seg_below (Ord h) x lo m (map_e (erase h) pre) z.1 (below-erase (erase h) x pre w.0) a in
    let r = keys-around c u x m d z.2.0 mx w.1 w.2 in
    let lm : lo ≤ m = seg-le (Ord h) (ord-le h) lo m (map_e (erase h) pre) z.1 in
    let dh : suc d ≤ suc hi = seg-le (Ord h) (ord-le h) (suc d) (suc hi) (map_e (erase h) post) z.2.1 in (
      in-descs lo x (flat (leaves Leaf Mark h) pre) (leaves_before c) (in-wide lo m lo x (descs (flat (leaves Leaf Mark h) pre)) (sons-in h lo m pre z.1) (omega arith) mx)
          (in-wide m x lo x (descs (leaves_before c)) r.0 lm (omega arith)),
      in-descs (suc x) (suc hi) (leaves_behind c) (flat (leaves Leaf Mark h) post) (in-wide (suc x) (suc d) (suc x) (suc hi) (descs (leaves_behind c)) r.1 (omega arith) dh)
          (in-wide (suc d) (suc hi) (suc x) (suc hi) (descs (flat (leaves Leaf Mark h) post)) (sons-in h (suc d) (suc hi) post z.2.1) (let y = w.1 in omega arith) (omega arith)),
    )

-- ---- one of them replaced

-- What is done to the leaf on the path is done in the hole.
pub leaf-plug : (k : ℕ) (f : Desc → Desc) {h : ℕ} (c : Ctx 0 h) (d : Desc) → OnWay k c → on_leaf k f h (plug c d) ≡ plug c (f d)
unfolding on_leaf
leaf-plug k f hole d o = refl
leaf-plug k f (down {h = h} v pre c b post) d o =
    ap (λ l. record { latch = v; sons = l })
    (onp-hit k (λ a u. (on_leaf k f h a, u) ∷ []) pre (plug c d) b post o.0 o.1 ∙ ap (λ a. pre ++ (a, b) ∷ post) (leaf-plug k f c d o.2))

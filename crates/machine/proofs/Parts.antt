-- Theorems that rest on theorems of specs/: the rest of specs/Parts.antt.
use Rattle.std.specs.Prelude.{◌≡◌, Bool, cond, [], ◌∷◌, eqb, length}
use Rattle.std.proofs.Math.Path.{refl}
use Rattle.std.proofs.Common.{sym, ◌∙◌, subst, ap}
use Rattle.std.proofs.Math.Bool.{true, false}
use Rattle.std.proofs.lemmas.Bool.{false≢true}
use Prim.Native.Nat.{zero, suc, ◌≤◌, ℕ}
use native.Mathlib.Omega.{arith}
use Rattle.machine.specs.Logic.{eqb_yes, eqb_no, eqb_is}
use Rattle.machine.specs.Holders.{latch_word}
use Rattle.machine.specs.Tree.{onp, Seg}
use Rattle.machine.specs.State.{Tree}
use Rattle.machine.specs.Descent.{Sons, node, sons_of, halves, mended, on_pair}
use Rattle.machine.specs.Steps.{stepped, son-at, level_blockers, descended}
use Rattle.machine.specs.Sound.{Shaped}
use Rattle.machine.specs.InTheWay.{Free}
use Rattle.machine.proofs.Blocking.{son-free, pair-free}
use Rattle.machine.specs.Looks.{shaped-le}
use Rattle.machine.specs.Parts.{relatched-swap, halves-swap, Part, part-one, part_pair, hit-shaped, no-lone, Lowered, part-lowered}

-- ---- the step

pub part : (p x h lo hi : ℕ) (es : Sons (suc h)) → Seg (Shaped (suc h) 3) lo (suc hi) es → lo ≤ x → x ≤ hi → (p ≡ 0 → 2 ≤ length es) → level_blockers p x h es (son-at x h es) ≡ []
    → Part p x h es (stepped p x h (son-at x h es) es)
unfolding stepped
part zero x h lo hi es s lx xh n bs = go (eqb (sons_of t) 3) refl
  where
    t : Tree (suc h)
    t = son-at x h es

    go : (c : Bool) → eqb (sons_of t) 3 ≡ c → Part 0 x h es (cond c (on_pair x (mended 1 x h) es) (onp x (λ a u. (node 1 a.sons, u) ∷ []) es))
    go true e = part_pair x h lo hi es s lx xh (n refl) (eqb_is (sons_of t) 3 e)
        (pair-free (λ h. Shaped (suc h) 3) (λ h. shaped-le (suc h) 3) 0 x h lo (suc hi) es s (no-lone 0 es n) bs refl (eqb_is (sons_of t) 3 e))
    go false e = part-one 0 x h lo hi es s lx xh (λ a u. (node 1 a.sons, u) ∷ []) (son-free (λ h. Shaped (suc h) 3) (λ h. shaped-le (suc h) 3) 0 x h lo (suc hi) es s (no-lone 0 es n) bs)
        (λ m u a q S l. relatched-swap 0 x h m u a l S (subst (λ c. 4 ≤ sons_of c) q four))
      where
        four : 4 ≤ sons_of t
        four =
            let z = hit-shaped x h lo hi es s lx xh in
            let w : ¬ (sons_of t ≡ 3) = λ w. false≢true (sym e ∙ eqb_yes (sons_of t) 3 w) in
            omega (arith, z.0)
part (suc k) x h lo hi es s lx xh n bs =
    rw (eqb_no (suc k) 0 (omega arith)) (go (eqb (sons_of t) 8) refl (son-free (λ h. Shaped (suc h) 3) (λ h. shaped-le (suc h) 3) (suc k) x h lo (suc hi) es s (no-lone (suc k) es n) bs))
  where
    t : Tree (suc h)
    t = son-at x h es

    go : (c : Bool) → eqb (sons_of t) 8 ≡ c → Free (suc k) t.latch
        → Part (suc k) x h es (cond c (onp x (halves (latch_word (suc k)) x h) es) (onp x (λ a u. (node (latch_word (suc k)) a.sons, u) ∷ []) es))
    go true e b = part-one (suc k) x h lo hi es s lx xh (halves (latch_word (suc k)) x h) b
        (λ m u a q S l. halves-swap (suc k) x h m u a l 3 S (sym (ap (λ c. sons_of c) q) ∙ eqb_is (sons_of t) 8 e) (omega arith))
    go false e b = part-one (suc k) x h lo hi es s lx xh (λ a u. (node (latch_word (suc k)) a.sons, u) ∷ []) b
        (λ m u a q S l. relatched-swap (suc k) x h m u a l S (subst (λ c. sons_of c ≤ 7) q seven))
      where
        seven : sons_of t ≤ 7
        seven =
            let z = hit-shaped x h lo hi es s lx xh in
            let w : ¬ (sons_of t ≡ 8) = λ w. false≢true (sym e ∙ eqb_yes (sons_of t) 8 w) in
            omega (arith, z.1)

-- ---- the parent

-- A session goes down, or the housekeeper does, from a node with two sons or more.
pub lowered : (p x h least lo hi : ℕ) (t : Tree (suc (suc h))) → Shaped (suc (suc h)) least lo hi t → lo ≤ x → x ≤ hi → (p ≡ 0 → 2 ≤ sons_of t) → t.latch ≡ latch_word p
    → level_blockers p x h t.sons (son-at x h t.sons) ≡ [] → Lowered p x (suc h) t (descended p x (suc h) t)
unfolding Shaped descended
lowered p x h least lo hi t S lx xh n l b =
    part-lowered p x h (stepped p x h (son-at x h t.sons) t.sons) t l (part p x h lo hi t.sons S.3 lx xh n b)

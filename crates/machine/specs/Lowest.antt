-- At the lowest node: where a descriptor put in, or taken out, stands among the stored ones.
use Rattle.std.specs.Prelude.{◌≡◌, Bool}
use Rattle.std.proofs.Math.Path.{refl, ap}
use Rattle.std.proofs.Common.{sym, ◌∙◌, subst, arith}
use Rattle.std.proofs.Math.Bool.{true, false, cond}
use mathlib.Core.List.{List, [], ◌∷◌, ◌++◌, append_assoc}
use Rattle.std.proofs.Math.Option.{none, some}
use Prim.Native.Nat.{suc, ◌≤◌, ℕ}
use Rattle.std.proofs.Math.Dec.{leb}
use Rattle.machine.specs.Logic.{leb-is, leb-not}
use Rattle.machine.specs.Tree.{onp, pick, flat, leaves, leaf_at, flat_append, Hit, hit, onp-hit, pick-hit}
use Rattle.machine.specs.State.{Desc, Tree, no_desc, same}
use Rattle.machine.specs.Descent.{Sons, bound_of, put_in, taken_out, on_latch}
use Rattle.machine.specs.Steps.{made, on_lowest}
use Rattle.machine.specs.Keeps.{flat-last}
use Rattle.machine.specs.Order.{Ord, in-append, in-wide, ord-le, ord-in, seg-le, seg_in, Found, In, lv}

-- The stored descriptors are C ++ D, and then n stands between.
pub record Placed (from x upto : ℕ) (n : Desc) (without with_it : List Desc) : Type 0 where
  pub C : List Desc
  pub D : List Desc
  pub is_without : without ≡ C ++ D
  pub is_with : with_it ≡ C ++ n ∷ D
  pub low : In from x C
  pub high : In (suc x) upto D

around : {X : Type 0} (A p m B : List X) → A ++ ((p ++ m) ++ B) ≡ (A ++ p) ++ (m ++ B)
around A p m B = ap (λ l. A ++ l) (append_assoc p m B) ∙ sym (append_assoc A p (m ++ B))

snoc : {X : Type 0} (a : List X) (d : X) (b : List X) → a ++ d ∷ b ≡ (a ++ d ∷ []) ++ b
snoc a d b = sym (append_assoc a (d ∷ []) b)

module _ (w x h : ℕ) (t : Tree h) (u : Tree 1) (from upto : ℕ) (F : Found w x h t 0 u from upto) where
  abbrev fl : Sons 0 → List Desc
  fl es = flat (leaves Desc ℕ 0) es

  pub the-hit : Hit (Ord 0) x F.lo (suc F.hi) u.sons
  unfolding Ord
  the-hit = hit (Ord 0) x F.lo (suc F.hi) u.sons F.ord F.at_least (let z = F.at_most in omega arith)

  module _ (H : Hit (Ord 0) x F.lo (suc F.hi) u.sons) where
    pub key_is : pick x no_desc same u.sons ≡ H.a
    key_is = ap (pick x no_desc same) H.eq ∙ pick-hit x no_desc same H.pre H.a H.u H.post H.below H.upto

    leaf-is : leaf_at Desc ℕ x h t ≡ some H.a
    unfolding leaf_at
    leaf-is = F.leaf ∙ ap (pick x none some) H.eq ∙ pick-hit x none some H.pre H.a H.u H.post H.below H.upto

    pre_in : In from H.m (F.A ++ fl H.pre)
    pre_in =
        let a = seg-le (Ord 0) (ord-le 0) F.lo H.m H.pre H.spre in
        in-append from H.m F.A (fl H.pre) (in-wide from F.lo from H.m F.A F.low (omega arith) a)
        (in-wide F.lo H.m from H.m (fl H.pre) (seg_in (Ord 0) (leaves Desc ℕ 0) (ord-le 0) (ord-in 0) F.lo H.m H.pre H.spre) F.from_lo (omega arith))

    post_in : In (suc H.u) upto (fl H.post ++ F.B)
    post_in =
        let a = seg-le (Ord 0) (ord-le 0) (suc H.u) (suc F.hi) H.post H.spost in
        in-append (suc H.u) upto (fl H.post) F.B
        (in-wide (suc H.u) (suc F.hi) (suc H.u) upto (fl H.post) (seg_in (Ord 0) (leaves Desc ℕ 0) (ord-le 0) (ord-in 0) (suc H.u) (suc F.hi) H.post H.spost) (omega arith) F.hi_upto)
        (in-wide (suc F.hi) upto (suc H.u) upto F.B F.high a (omega arith))

    key_in : (H.m ≤ H.a.key) × (H.a.key ≤ H.u)
    unfolding Ord
    key_in = H.here

    -- The stored descriptors, with the one on the path in view.
    around-it : lv h t ≡ (F.A ++ fl H.pre) ++ H.a ∷ (fl H.post ++ F.B)
    unfolding leaves
    around-it = F.was ∙ ap (λ l. F.A ++ (l ++ F.B)) (ap fl H.eq ∙ flat_append (leaves Desc ℕ 0) H.pre ((H.a, H.u) ∷ H.post)) ∙ around F.A (fl H.pre) (H.a ∷ fl H.post) F.B

    -- The lowest node's sons, rewritten at the path.
    rewritten : (f : Sons 0 → Sons 0) (mid : Sons 0) → flat (leaves Desc ℕ 0) (f u.sons) ≡ fl H.pre ++ (fl mid ++ fl H.post)
        → lv h (on_latch w x (on_lowest f) h t) ≡ (F.A ++ fl H.pre) ++ (fl mid ++ (fl H.post ++ F.B))
    unfolding leaves
    rewritten f mid e =
        F.put (on_lowest f) ∙ ap (λ l. F.A ++ (l ++ F.B)) e ∙ around F.A (fl H.pre) (fl mid ++ fl H.post) F.B
        ∙ ap (λ l. (F.A ++ fl H.pre) ++ l) (append_assoc (fl mid) (fl H.post) F.B)

    put-mid : (g : ℕ) → flat (leaves Desc ℕ 0) (put_in (made x g) u.sons)
        ≡ fl H.pre ++ (fl (cond (leb x H.a.key) ((made x g, x) ∷ (H.a, H.u) ∷ []) ((H.a, H.a.key) ∷ (made x g, H.u) ∷ [])) ++ fl H.post)
    unfolding put_in
    put-mid w' =
        let n : Desc = made x w' in
        let g : Desc → ℕ → Sons 0 = λ d v. cond (leb x d.key) ((n, x) ∷ (d, v) ∷ []) ((d, d.key) ∷ (n, v) ∷ []) in
        (ap fl (ap (onp x g) H.eq ∙ onp-hit x g H.pre H.a H.u H.post H.below H.upto)
        ∙ flat_append (leaves Desc ℕ 0) H.pre (g H.a H.u ++ H.post)
        ∙ ap (λ l. fl H.pre ++ l) (flat_append (leaves Desc ℕ 0) (g H.a H.u) H.post))

    made-placed : (g : ℕ) → (H.a.key ≡ x → ⊥) → Placed from x upto (made x g) (lv h t) (lv h (on_latch w x (on_lowest (put_in (made x g))) h t))
    unfolding leaves
    made-placed g ne = go (leb x H.a.key) refl (rewritten (put_in (made x g)) (cond (leb x H.a.key) ((made x g, x) ∷ (H.a, H.u) ∷ []) ((H.a, H.a.key) ∷ (made x g, H.u) ∷ [])) (put-mid g))
      where
        go : (c : Bool) → leb x H.a.key ≡ c
            → lv h (on_latch w x (on_lowest (put_in (made x g))) h t) ≡ (F.A ++ fl H.pre) ++ (fl (cond c ((made x g, x) ∷ (H.a, H.u) ∷ []) ((H.a, H.a.key) ∷ (made x g, H.u) ∷ [])) ++ (fl H.post ++ F.B))
            → Placed from x upto (made x g) (lv h t) (lv h (on_latch w x (on_lowest (put_in (made x g))) h t))
        go true e q =
            let le = leb-is x H.a.key e in
            let up = H.upto in
            record {
              C = F.A ++ fl H.pre;
              D = H.a ∷ (fl H.post ++ F.B);
              is_without = around-it;
              is_with = q;
              low = in-wide from H.m from x (F.A ++ fl H.pre) pre_in (omega arith) H.from;
              high = (
                (omega (arith, le, ne), omega (arith, key_in.1, seg-le (Ord 0) (ord-le 0) (suc H.u) (suc F.hi) H.post H.spost, F.hi_upto)),
                in-wide (suc H.u) upto (suc x) upto (fl H.post ++ F.B) post_in (omega arith) (omega arith),
              );
            }
        go false e q =
            let lt = leb-not x H.a.key e in
            let up = H.upto in
            record {
              C = (F.A ++ fl H.pre) ++ H.a ∷ [];
              D = fl H.post ++ F.B;
              is_without = around-it ∙ snoc (F.A ++ fl H.pre) H.a (fl H.post ++ F.B);
              is_with = q ∙ snoc (F.A ++ fl H.pre) H.a (made x g ∷ (fl H.post ++ F.B));
              low = in-append from x (F.A ++ fl H.pre) (H.a ∷ []) (in-wide from H.m from x (F.A ++ fl H.pre) pre_in (omega arith) H.from)
                  ((omega (arith, key_in.0, seg-le (Ord 0) (ord-le 0) F.lo H.m H.pre H.spre, F.from_lo), lt), tt);
              high = in-wide (suc H.u) upto (suc x) upto (fl H.post ++ F.B) post_in (omega arith) (omega arith);
            }

    taken-placed : H.a.key ≡ x → Placed from x upto H.a (lv h (on_latch w x (on_lowest (taken_out x)) h t)) (lv h t)
    unfolding taken_out
    taken-placed e =
        let none_here : Desc → ℕ → Sons 0 = λ _ _. [] in
        let up = H.upto in
        record {
          C = F.A ++ fl H.pre;
          D = fl H.post ++ F.B;
          is_without = rewritten (taken_out x) []
              (flat-last (leaves Desc ℕ 0) (λ _ _. bound_of 0 u.sons) (onp x none_here u.sons)
              ∙ ap fl (ap (onp x none_here) H.eq ∙ onp-hit x none_here H.pre H.a H.u H.post H.below H.upto)
              ∙ flat_append (leaves Desc ℕ 0) H.pre H.post);
          is_with = around-it;
          low = in-wide from H.m from x (F.A ++ fl H.pre) pre_in (omega arith) H.from;
          high = in-wide (suc H.u) upto (suc x) upto (fl H.post ++ F.B) post_in (omega arith) (omega arith);
        }

  -- A descriptor made, where the one on the path has another key.
  pub made_at : (g : ℕ) → ((pick x no_desc same u.sons).key ≡ x → ⊥) → Placed from x upto (made x g) (lv h t) (lv h (on_latch w x (on_lowest (put_in (made x g))) h t))
  made_at g ne = made-placed the-hit g (λ e. ne (ap (λ d. d.key) (key_is the-hit) ∙ e))

  -- The descriptor on the path removed.
  pub taken_at : (pick x no_desc same u.sons).key ≡ x → Placed from x upto (pick x no_desc same u.sons) (lv h (on_latch w x (on_lowest (taken_out x)) h t)) (lv h t)
  taken_at e = subst (λ d. Placed from x upto d (lv h (on_latch w x (on_lowest (taken_out x)) h t)) (lv h t)) (sym (key_is the-hit)) (taken-placed the-hit (sym (ap (λ d. d.key) (key_is the-hit)) ∙ e))

  -- It is the one that a reader of the whole tree finds.
  pub same-leaf : leaf_at Desc ℕ x h t ≡ some (pick x no_desc same u.sons)
  same-leaf = leaf-is the-hit ∙ ap some (sym (key_is the-hit))

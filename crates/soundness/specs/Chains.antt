-- Chains of records, and what the walk along one finds: the walk goes well exactly if the chain ends, its records were not yet met, and each turn is in order.
use Rattle.std.specs.Prelude.{◌≡◌, Bool, false, length, set}
use Rattle.std.proofs.Math.Path.{refl, ap, subst}
use Rattle.std.proofs.Common.{sym, ◌∙◌, arith, length-set, eq-eqb, ne_eqb, eqb-true}
use Rattle.std.proofs.Math.Bool.{true, cond}
use mathlib.Core.List.{List, [], ◌∷◌}
use Prim.Native.Nat.{ℕ, zero, suc, ◌+◌, ◌-◌, ◌≤◌, ◌<◌}
use Rattle.std.proofs.Math.Decide.{ℕ_discrete}
use Rattle.words.specs.Store.{word_of}
use Rattle.meaning.specs.Reading.{chain, Chained}
use Rattle.marks.specs.Marks.{Visit, start, meet}
use Rattle.marks.specs.Steps.{no as never}
use Rattle.marks.specs.Trail.{Turn, Trail, ends, after, chain_of}
use Rattle.soundness.specs.Marking.{mark_all, Fresh, fresh-none, fresh-left, fresh-right, fresh-append, meet-new, meet-found, once-most}

-- ---- chains

-- The records of l, in this order, are a whole chain from i on: 0 ends it.
abbrev pub Along : (ℕ → ℕ) → ℕ → List ℕ → Type 0
Along next i [] = i ≡ 0
Along next i (j ∷ l) = (i ≡ j) × ¬ (i ≡ 0) × Along next (next i) l

pub along-same : (next : ℕ → ℕ) (i : ℕ) (l k : List ℕ) → Along next i l → Along next i k → l ≡ k
along-same next i [] [] a b = refl
along-same next i [] (j ∷ k) a b = absurd (b.1 a)
along-same next i (j ∷ l) [] a b = absurd (a.1 b)
along-same next i (j ∷ l) (x ∷ k) a b = ap (λ y. y ∷ l) (sym a.0 ∙ b.0) ∙ ap (λ y. x ∷ y) (along-same next (next i) l k a.2 b.2)

-- Word 0 of a record is the next.
abbrev pub next_in : List ℕ → ℕ → ℕ → ℕ
next_in s m j = word_of s m j 0

module _ (s : List ℕ) (m : ℕ) where
  pub chained-along : (i : ℕ) (l : List ℕ) → Chained s m i l → Along (next_in s m) i l
  chained-along i [] c = c
  chained-along i (j ∷ l) c = (c.0, c.1, chained-along (word_of s m i 0) l c.2)

  pub along-chained : (i : ℕ) (l : List ℕ) → Along (next_in s m) i l → Chained s m i l
  along-chained i [] c = c
  along-chained i (j ∷ l) c = (c.0, c.1, along-chained (word_of s m i 0) l c.2)

  chain-stops : (n i : ℕ) → i ≡ 0 → chain s m n i ≡ []
  unfolding chain
  chain-stops zero i e = refl
  chain-stops (suc n) i e = ap (λ (b : Bool). cond b [] (i ∷ chain s m n (word_of s m i 0))) (eq-eqb i 0 e)

  chain-goes : (n i : ℕ) → (i ≡ 0 → ⊥) → chain s m (suc n) i ≡ i ∷ chain s m n (word_of s m i 0)
  unfolding chain
  chain-goes n i ne = ap (λ (b : Bool). cond b [] (i ∷ chain s m n (word_of s m i 0))) (ne_eqb i 0 ne)

  -- A chain is read as it is, if so many records may be read.
  pub chain-is : (n i : ℕ) (l : List ℕ) → Chained s m i l → length l ≤ n → chain s m n i ≡ l
  chain-is n i [] c h = chain-stops n i c
  chain-is zero i (j ∷ l) c h = absurd (omega (arith, h))
  chain-is (suc n) i (j ∷ l) c h =
      chain-goes n i c.1 ∙ ap (λ x. x ∷ chain s m n (word_of s m i 0)) c.0 ∙ ap (λ x. j ∷ x) (chain-is n (word_of s m i 0) l c.2 (omega (arith, h)))

-- ---- the walk

-- Each turn on the way along l is in order, and after the last `held` is kept.
abbrev pub Turns : {A : Type 0} → (List ℕ → A → ℕ → Turn A) → ℕ → List ℕ → A → List ℕ → A → Type 0
Turns f kind seen a [] held = a ≡ held
Turns f kind seen a (i ∷ l) held = ((f (set seen i kind) a i).ok ≡ true) × Turns f kind (set seen i kind) (f (set seen i kind) a i).held l held

-- What a walk from record i on has found that ends as t, with all in order.
pub record Found (A : Type 0) (next : ℕ → ℕ) (r kind : ℕ) (f : List ℕ → A → ℕ → Turn A) (seen : List ℕ) (a : A) (i left : ℕ) (t : Trail A) : Type 0 where
  pub l : List ℕ
  pub along : Along next i l
  pub fresh : Fresh seen r l
  pub seen_is : t.seen ≡ mark_all seen l kind
  pub left_is : t.left + length l ≡ left
  pub turns : Turns f kind seen a l t.held

past-pick : {A : Type 0} (b : Bool) (x y : Trail A) → y.ok ≡ false → (cond b x y).ok ≡ true → (b ≡ true) × (x.ok ≡ true)
past-pick true x y n e = (refl, e)
past-pick false x y n e = never (sym n ∙ e)

suc-less : (n k : ℕ) → n - k ≡ suc n - suc k
suc-less n k = omega arith

module _ {A : Type 0} (next : ℕ → ℕ) (r kind : ℕ) (f : List ℕ → A → ℕ → Turn A) where
  chain-ends : (seen : List ℕ) (a : A) (i left : ℕ) → i ≡ 0 → chain_of next r kind f seen a i left ≡ ends true left seen a
  unfolding chain_of
  chain-ends seen a i zero e = simp (eq-eqb i 0 e)
  chain-ends seen a i (suc n) e = simp (eq-eqb i 0 e)

  chain-step : (seen : List ℕ) (a : A) (i n : ℕ) → (i ≡ 0 → ⊥) → Fresh seen r (i ∷ []) → (f (set seen i kind) a i).ok ≡ true
      → chain_of next r kind f seen a i (suc n) ≡ chain_of next r kind f (set seen i kind) (f (set seen i kind) a i).held (next i) n
  unfolding chain_of after
  chain-step seen a i n ne h o = simp (ne_eqb i 0 ne, meet-new r kind (start (suc n) seen) i (λ e. omega (arith, e)) h, o)

  record Steps (seen : List ℕ) (a : A) (i : ℕ) : Type 0 where
    fresh : Fresh seen r (i ∷ [])
    ok : (f (set seen i kind) a i).ok ≡ true

  chain_steps : (seen : List ℕ) (a : A) (i n : ℕ) → (i ≡ 0 → ⊥) → (chain_of next r kind f seen a i (suc n)).ok ≡ true → Steps seen a i
  unfolding chain_of after
  chain_steps seen a i n ne o =
      let v = meet r kind (start (suc n) seen) i in
      let rest = after f (λ s b. chain_of next r kind f s b (next i) n) v a i in
      let p : rest.ok ≡ true = subst (λ (b : Bool). (cond b (ends true (suc n) seen a) rest).ok ≡ true) (ne_eqb i 0 ne) o in
      let q = past-pick v.ok _ _ refl p in
      let k = meet-found r kind (start (suc n) seen) i q.0 in
      let t = past-pick (f v.seen a i).ok _ _ refl q.1 in
      record { fresh = k.fresh; ok = subst (λ (w : List ℕ). (f w a i).ok ≡ true) (ap (λ (w : Visit). w.seen) k.is) t.0 }

  at-end : (seen : List ℕ) (a : A) (i left : ℕ) → i ≡ 0 → Found A next r kind f seen a i left (chain_of next r kind f seen a i left)
  at-end seen a i left e =
      subst (λ (t : Trail A). Found A next r kind f seen a i left t) (sym (chain-ends seen a i left e))
      (record { l = []; along = e; fresh = fresh-none seen r; seen_is = refl; left_is = omega arith; turns = refl })

  not-empty : (seen : List ℕ) (a : A) (i : ℕ) → (i ≡ 0 → ⊥) → (chain_of next r kind f seen a i zero).ok ≡ true → ⊥
  unfolding chain_of
  not-empty seen a i ne o = ne (eqb-true i 0 o)

  at_more : (kind ≡ 0 → ⊥) → (seen : List ℕ) → r < length seen → (a : A) (i n : ℕ) → (i ≡ 0 → ⊥) → Steps seen a i → {t u : Trail A} → t ≡ u
      → Found A next r kind f (set seen i kind) (f (set seen i kind) a i).held (next i) n u → Found A next r kind f seen a i (suc n) t
  at_more nz seen h a i n ne k {t} {u} e d =
      subst (λ (t : Trail A). Found A next r kind f seen a i (suc n) t) (sym e)
      (record {
        l = i ∷ d.l;
        along = (refl, ne, d.along);
        fresh = fresh-append seen r (i ∷ []) d.l kind nz h k.fresh d.fresh;
        seen_is = d.seen_is;
        left_is = omega (arith, d.left_is);
        turns = (k.ok, d.turns);
      })

  -- A walk that goes well has gone along a whole chain.
  pub chain-found : (kind ≡ 0 → ⊥) → (seen : List ℕ) → r < length seen → (a : A) (i left : ℕ) → (chain_of next r kind f seen a i left).ok ≡ true
      → Found A next r kind f seen a i left (chain_of next r kind f seen a i left)
  chain-found nz seen h a i zero o = go (ℕ_discrete i 0)
    where
      go : Dec (i ≡ 0) → Found A next r kind f seen a i zero (chain_of next r kind f seen a i zero)
      go (yes e) = at-end seen a i zero e
      go (no ne) = absurd (not-empty seen a i ne o)
  chain-found nz seen h a i (suc n) o =
      go (ℕ_discrete i 0) (chain-found nz (set seen i kind) (subst (λ k. r < k) (sym (length-set seen i kind)) h) (f (set seen i kind) a i).held (next i) n)
    where
      go : Dec (i ≡ 0)
          → ((chain_of next r kind f (set seen i kind) (f (set seen i kind) a i).held (next i) n).ok ≡ true
          → Found A next r kind f (set seen i kind) (f (set seen i kind) a i).held (next i) n (chain_of next r kind f (set seen i kind) (f (set seen i kind) a i).held (next i) n))
          → Found A next r kind f seen a i (suc n) (chain_of next r kind f seen a i (suc n))
      go (yes e) ih = at-end seen a i (suc n) e
      go (no ne) ih =
          let k = chain_steps seen a i n ne o in
          let e = chain-step seen a i n ne k.fresh k.ok in
          at_more nz seen h a i n ne k e (ih (ap (λ (t : Trail A). t.ok) (sym e) ∙ o))

  -- And a whole chain of records not yet met, with every turn in order, is gone along.
  pub chain-walks : (l seen : List ℕ) (a : A) (i left : ℕ) (held : A) → Along next i l → Fresh seen r l → length l ≤ left → Turns f kind seen a l held
      → chain_of next r kind f seen a i left ≡ ends true (left - length l) (mark_all seen l kind) held
  chain-walks [] seen a i left held w c h t =
      chain-ends seen a i left w ∙ ap (λ (x : A). ends true left seen x) t ∙ ap (λ (n : ℕ). ends true n seen held) (omega arith)
  chain-walks (j ∷ l) seen a i zero held w c h t = absurd (omega (arith, h))
  chain-walks (j ∷ l) seen a i (suc n) held w c h t =
      let c' = subst (λ (x : ℕ). Fresh seen r (x ∷ l)) (sym w.0) c in
      let t' = subst (λ (x : ℕ). Turns f kind seen a (x ∷ l) held) (sym w.0) t in
      let go = chain-walks l (set seen i kind) (f (set seen i kind) a i).held (next i) n held w.2 (fresh-right seen r (i ∷ []) l kind c') (omega (arith, h)) t'.1 in
      chain-step seen a i n w.1 (fresh-left seen r (i ∷ []) l c') t'.0 ∙ go
      ∙ ap (λ (k : ℕ). ends true k (mark_all (set seen i kind) l kind) held) (suc-less n (length l)) ∙ ap (λ (x : ℕ). ends true (suc n - suc (length l)) (mark_all (set seen x kind) l kind) held) w.0

-- ---- the walk by word 0

-- The same of a walk by word 0, where the chain is the one that is read.
pub record Read (A : Type 0) (s : List ℕ) (m r kind : ℕ) (f : List ℕ → A → ℕ → Turn A) (seen : List ℕ) (a : A) (i left : ℕ) (t : Trail A) : Type 0 where
  pub chained : Chained s m i (chain s m r i)
  pub fresh : Fresh seen r (chain s m r i)
  pub seen_is : t.seen ≡ mark_all seen (chain s m r i) kind
  pub left_is : t.left + length (chain s m r i) ≡ left
  pub turns : Turns f kind seen a (chain s m r i) t.held

module _ {A : Type 0} (s : List ℕ) (m r kind : ℕ) (f : List ℕ → A → ℕ → Turn A) (seen : List ℕ) (a : A) (i left : ℕ) where
  pub found-chained : (t : Trail A) (d : Found A (next_in s m) r kind f seen a i left t) → Chained s m i d.l
  found-chained t d = along-chained s m i d.l d.along

  pub found-chain : (t : Trail A) (d : Found A (next_in s m) r kind f seen a i left t) → chain s m r i ≡ d.l
  found-chain t d = chain-is s m r i d.l (found-chained t d) (once-most r d.l d.fresh.inside d.fresh.once)

  pub chained-found : (kind ≡ 0 → ⊥) → r < length seen → (chain_of (next_in s m) r kind f seen a i left).ok ≡ true
      → Read A s m r kind f seen a i left (chain_of (next_in s m) r kind f seen a i left)
  chained-found nz h o = record {
    chained = subst (Chained s m i) e (found-chained t d);
    fresh = subst (Fresh seen r) e d.fresh;
    seen_is = subst (λ (l : List ℕ). t.seen ≡ mark_all seen l kind) e d.seen_is;
    left_is = subst (λ (l : List ℕ). t.left + length l ≡ left) e d.left_is;
    turns = subst (λ (l : List ℕ). Turns f kind seen a l t.held) e d.turns;
  }
    where
      t : Trail A
      t = chain_of (next_in s m) r kind f seen a i left

      d : Found A (next_in s m) r kind f seen a i left (chain_of (next_in s m) r kind f seen a i left)
      d = chain-found (next_in s m) r kind f nz seen h a i left o

      e : d.l ≡ chain s m r i
      e = sym (found-chain t d)

  pub chained-walks : (l : List ℕ) (held : A) → Chained s m i l → Fresh seen r l → length l ≤ left → Turns f kind seen a l held
      → chain_of (next_in s m) r kind f seen a i left ≡ ends true (left - length l) (mark_all seen l kind) held
  chained-walks l held c = chain-walks (next_in s m) r kind f l seen a i left held (chained-along s m i l c)

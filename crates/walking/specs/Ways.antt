-- Latches in the way: what the words' test answers, and the machine's list.
use Rattle.std.specs.Prelude.{◌≡◌, Bool, true, false, cond, ◌||◌, List, [], ◌∷◌, ◌⊎◌, ℕ, suc, ◌-◌, eqb}
use Rattle.std.proofs.Math.Path.{refl}
use Rattle.std.proofs.Common.{sym, ap, subst, ◌∙◌, inl, inr, add-one, arith, eq-eqb, ne_eqb}
use Rattle.std.proofs.Math.Decide.{ℕ_discrete}
use Rattle.machine.specs.Logic.{eqb_is}
use Rattle.machine.specs.Holders.{latch_word, elem, add_latch, latch_blockers}
use Rattle.descents.specs.Descents.{in_way, first_in_way}

-- No latch is in the way; or one is, whose party is the machine's first.
pub data Way (b : ℕ) (bs : List ℕ) : Type 0 where
  clear : b ≡ 0 → bs ≡ [] → Way b bs
  shut : ¬ (b ≡ 0) → (c : ℕ) (cs : List ℕ) → bs ≡ c ∷ cs → b - 1 ≡ c → Way b bs

-- One latch word: free for p, or another's.
pub data Mine (p w : ℕ) : Type 0 where
  none : w ≡ 0 → Mine p w
  own : w ≡ latch_word p → ¬ (w ≡ 0) → Mine p w
  others : ¬ (w ≡ 0) → ¬ (w ≡ latch_word p) → Mine p w

pub mine : (p w : ℕ) → Mine p w
mine p w = go (ℕ_discrete w 0) (ℕ_discrete w (latch_word p))
  where
    go : Dec (w ≡ 0) → Dec (w ≡ latch_word p) → Mine p w
    go (yes e) d = none e
    go (no n) (yes e) = own e n
    go (no n) (no k) = others n k

-- What is added to the machine's list by one word.
free_in : (p w : ℕ) → (w ≡ 0) ⊎ (w ≡ latch_word p) → (in_way p w ≡ 0) × ((ws : List ℕ) → latch_blockers p (w ∷ ws) ≡ latch_blockers p ws)
unfolding in_way latch_blockers
free_in p w (inl e) = (rw (eq-eqb w 0 e) refl, λ ws. rw (eq-eqb w 0 e) refl)
free_in p w (inr e) =
    let n : ¬ (w ≡ 0) = λ z. omega (arith, e, z) in
    (rw (ne_eqb w 0 n, add-one p, eq-eqb w (suc p) e) refl, λ ws. rw (ne_eqb w 0 n, eq-eqb w (latch_word p) e) refl)

shut-in : (p w : ℕ) → ¬ (w ≡ 0) → ¬ (w ≡ latch_word p) → in_way p w ≡ w
unfolding in_way
shut-in p w n k = rw (ne_eqb w 0 n, add-one p, ne_eqb w (suc p) k) refl

-- One word, another's: its party is the list.
shut_one : (p w : ℕ) → ¬ (w ≡ 0) → ¬ (w ≡ latch_word p) → latch_blockers p (w ∷ []) ≡ (w - 1) ∷ []
unfolding latch_blockers
shut_one p w n k = rw (ne_eqb w 0 n, ne_eqb w (latch_word p) k) refl

-- The first of two words is another's: its party is first, be the second word's the same one.
shut-two : (p v w : ℕ) → ¬ (v ≡ 0) → ¬ (v ≡ latch_word p) → (cs : List ℕ) × (latch_blockers p (v ∷ w ∷ []) ≡ (v - 1) ∷ cs)
unfolding latch_blockers
shut-two p v w n k = go (mine p w)
  where
    alone : latch_blockers p (w ∷ []) ≡ [] → (cs : List ℕ) × (latch_blockers p (v ∷ w ∷ []) ≡ (v - 1) ∷ cs)
    alone e = ([], ap (add_latch p v) e ∙ shut_one p v n k)

    both : (c : Bool) → elem (v - 1) ((w - 1) ∷ []) ≡ c → (cs : List ℕ) × (cond c ((w - 1) ∷ []) ((v - 1) ∷ (w - 1) ∷ []) ≡ (v - 1) ∷ cs)
    both true e = ([], ap (λ i. i ∷ []) (sym (eqb_is (v - 1) (w - 1) (one (eqb (v - 1) (w - 1)) e))))
      where
        one : (b : Bool) → (b || false) ≡ true → b ≡ true
        one true e = refl
        one false e = e
    both false e = ((w - 1) ∷ [], refl)

    go : Mine p w → (cs : List ℕ) × (latch_blockers p (v ∷ w ∷ []) ≡ (v - 1) ∷ cs)
    go (none e) = alone ((free_in p w (inl e)).1 [])
    go (own e m) = alone ((free_in p w (inr e)).1 [])
    go (others m j) =
        let b = both (elem (v - 1) ((w - 1) ∷ [])) refl in
        let f : add_latch p v ((w - 1) ∷ []) ≡ (v - 1) ∷ b.0 = rw (ne_eqb v 0 n, ne_eqb v (latch_word p) k) b.1 in
        (b.0, ap (add_latch p v) (shut_one p w m j) ∙ f)

pub way-one : (p w : ℕ) → Way (in_way p w) (latch_blockers p (w ∷ []))
way-one p w = go (mine p w)
  where
    empty : latch_blockers p [] ≡ []
    empty = unfold latch_blockers in refl

    free : (w ≡ 0) ⊎ (w ≡ latch_word p) → Way (in_way p w) (latch_blockers p (w ∷ []))
    free d = let q = free_in p w d in clear q.0 (q.1 [] ∙ empty)

    go : Mine p w → Way (in_way p w) (latch_blockers p (w ∷ []))
    go (none e) = free (inl e)
    go (own e n) = free (inr e)
    go (others n k) = subst (λ b. Way b (latch_blockers p (w ∷ []))) (sym (shut-in p w n k)) (shut n (w - 1) [] (shut_one p w n k) refl)

pub way-two : (p v w : ℕ) → Way (first_in_way p v w) (latch_blockers p (v ∷ w ∷ []))
unfolding first_in_way
way-two p v w = go (mine p v) (way-one p w)
  where
    free : (v ≡ 0) ⊎ (v ≡ latch_word p) → Way (in_way p w) (latch_blockers p (w ∷ [])) → Way (cond (eqb (in_way p v) 0) (in_way p w) (in_way p v)) (latch_blockers p (v ∷ w ∷ []))
    free d r = let q = free_in p v d in rw (eq-eqb (in_way p v) 0 q.0, q.1 (w ∷ [])) r

    go : Mine p v → Way (in_way p w) (latch_blockers p (w ∷ [])) → Way (cond (eqb (in_way p v) 0) (in_way p w) (in_way p v)) (latch_blockers p (v ∷ w ∷ []))
    go (none e) r = free (inl e) r
    go (own e n) r = free (inr e) r
    go (others n k) r =
        let s = shut-in p v n k in
        let h = shut-two p v w n k in
        rw (ne_eqb (in_way p v) 0 (λ z. n (sym s ∙ z))) (subst (λ b. Way b (latch_blockers p (v ∷ w ∷ []))) (sym s) (shut n (v - 1) h.0 h.1 refl))

-- Key 0 is stored and has no member exactly if the first descriptor of the chain says so, where the descriptors are chained in the order of their keys.
use Rattle.std.specs.Prelude.{◌≡◌, Bool, not, ◌&&◌, ◌↔◌, ltb}
use Rattle.std.proofs.Math.Path.{refl, sym, ap, subst}
use Rattle.std.proofs.Common.{◌∙◌, arith}
use Rattle.std.proofs.Math.Bool.{true, false, cond}
use mathlib.Core.List.{List, [], ◌∷◌, map}
use Prim.Native.Nat.{ℕ, zero, suc, ◌≤◌}
use Rattle.std.proofs.Math.Decide.{ℕ_discrete}
use Rattle.std.proofs.Math.Dec.{eqb, leb}
use Rattle.std.proofs.Math.ListN.{length}
use borrow.Author.Tests.{eq-eqb, ne_eqb, eqb-true, eqb-false, le-leb, leb-true, not-true}
use Rattle.words.specs.Store.{word_of}
use Rattle.words.specs.Header.{header_word, first_place}
use Rattle.groups.specs.Descriptor.{descriptor_at, decode_descriptor}
use Rattle.marks.specs.Steps.{no as never, both}
use Rattle.sound.specs.Sound.{lowest_ok}
use Rattle.machine.specs.State.{Desc, with_member}
use Rattle.machine.specs.Sound.{stored_in}
use Rattle.machine.specs.View.{group_in}
use Rattle.machine.specs.Groups.{Rises}
use Rattle.meaning.specs.Reading.{chain, Chained, gather, member_chain, member_entries, desc_at, Leaf, M-of, R-of}
use Rattle.meaning.specs.Sound.{All}
use Rattle.soundness.specs.Parts.{ZeroFirst}

module _ (s : List ℕ) where
  abbrev m : ℕ
  m = M-of s

  abbrev r : ℕ
  r = R-of s

  abbrev first : ℕ
  first = header_word s first_place

  abbrev descs : List Leaf → List Desc
  descs ls = map (λ l. l.desc) ls

  abbrev Reads : List Leaf → Type 0
  Reads ls = All (λ l. l.desc ≡ desc_at s m r l.num) ls

  no_members : (i : ℕ) → i ≡ 0 → chain s m r i ≡ []
  unfolding chain
  no_members i z = go r
    where
      go : (n : ℕ) → chain s m n i ≡ []
      go zero = refl
      go (suc n) = ap (λ (b : Bool). cond b [] (i ∷ chain s m n (word_of s m i 0))) (eq-eqb i 0 z)

  stored-first : (d : Desc) (ds : List Desc) → d.key ≡ 0 → stored_in 0 (d ∷ ds) ≡ true
  unfolding stored_in
  stored-first d ds e = ap (λ (b : Bool). cond b true (stored_in 0 ds)) (eq-eqb d.key 0 e)

  group-first : (d : Desc) (ds : List Desc) → d.key ≡ 0 → group_in 0 (d ∷ ds) ≡ d.members
  unfolding group_in
  group-first d ds e = ap (λ (b : Bool). cond b d.members (group_in 0 ds)) (eq-eqb d.key 0 e)

  -- The test of the first descriptor.
  pub zero-pass : (lowest_ok s (M-of s) (R-of s) ≡ true) ↔ ZeroFirst s
  unfolding lowest_ok decode_descriptor
  zero-pass = (
    λ o.
        let p = both (not (eqb first 0) && leb first r && eqb (descriptor_at s m first).key 0) (eqb (descriptor_at s m first).first 0) o in
        let q = both (not (eqb first 0) && leb first r) (eqb (descriptor_at s m first).key 0) p.0 in
        let u = both (not (eqb first 0)) (leb first r) q.0 in
        record {
          some = eqb-false first 0 (not-true _ u.0);
          inside = leb-true first r u.1;
          key = eqb-true (word_of s m first 1) 0 q.1;
          empty = eqb-true (word_of s m first 6) 0 p.1;
        },
    λ z. simp (ne_eqb first 0 z.some, le-leb first r z.inside, eq-eqb (word_of s m first 1) 0 z.key, eq-eqb (word_of s m first 6) 0 z.empty),
  )

  pub lowest-found : (ls : List Leaf) → Reads ls → Chained s m first (map (λ l. l.num) ls) → ZeroFirst s
      → (stored_in 0 (descs ls) ≡ true) × (group_in 0 (descs ls) ≡ [])
  lowest-found ls a c o = go ls a c o.some o.key o.empty
    where
      go : (ls : List Leaf) → Reads ls → Chained s m first (map (λ l. l.num) ls) → (first ≡ 0 → ⊥) → word_of s m first 1 ≡ 0 → word_of s m first 6 ≡ 0
          → (stored_in 0 (descs ls) ≡ true) × (group_in 0 (descs ls) ≡ [])
      go [] a c n k z = absurd (n c)
      go (l ∷ ls) a c n k z =
          let e : l.desc ≡ desc_at s m r first = a.0 ∙ ap (desc_at s m r) (sym c.0) in
          let w : l.desc.key ≡ 0 = ap (λ (d : Desc). d.key) e ∙ k in (
            stored-first l.desc (descs ls) w,
            group-first l.desc (descs ls) w ∙ ap (λ (d : Desc). d.members) e ∙ ap (λ (x : List ℕ). gather (member_entries s m x)) (no_members (word_of s m first 6) z),
          )

  not-below : (lo e : ℕ) (ds : List Desc) → Rises (suc lo) e ds → stored_in 0 ds ≡ false
  unfolding stored_in
  not-below lo e [] g = refl
  not-below lo e (d ∷ ds) g =
      ap (λ (b : Bool). cond b true (stored_in 0 ds)) (ne_eqb d.key 0 (λ z. omega (arith, z, g.0.0)))
      ∙ not-below d.key e ds g.1

  gathered_none : (l : List ℕ) → gather l ≡ [] → l ≡ []
  unfolding with_member
  gathered_none [] e = refl
  gathered_none (x ∷ l) e = absurd (some x (gather l) e)
    where
      one : (b c : Bool) (x y : ℕ) (l k : List ℕ) → cond b (x ∷ y ∷ l) (cond c (y ∷ l) (y ∷ k)) ≡ [] → ⊥
      one true c x y l k q = omega (arith, ap length q)
      one false true x y l k q = omega (arith, ap length q)
      one false false x y l k q = omega (arith, ap length q)

      some : (x : ℕ) (l : List ℕ) → with_member x l ≡ [] → ⊥
      some x [] q = omega (arith, ap length q)
      some x (y ∷ l) q = one (ltb x y) (eqb x y) x y l (with_member x l) q

  mapped-none : (l : List ℕ) → member_entries s m l ≡ [] → l ≡ []
  mapped-none [] e = refl
  mapped-none (x ∷ l) e = absurd (omega (arith, ap length e))

  pub lowest-walks : (ls : List Leaf) (e : ℕ) → Reads ls → Chained s m first (map (λ l. l.num) ls) → All (λ l. l.num ≤ r) ls → Rises 0 e (descs ls)
      → All (λ l. Chained s m (word_of s m l.num 6) (member_chain s m r l.num)) ls
      → stored_in 0 (descs ls) ≡ true → group_in 0 (descs ls) ≡ [] → ZeroFirst s
  unfolding stored_in
  lowest-walks [] e a c b g h o n = never o
  lowest-walks (l ∷ ls) e a c b g h o n =
      let z : first ≡ 0 → ⊥ = c.1 in
      let q : l.desc.key ≡ 0 = key (ℕ_discrete l.desc.key 0) in
      let w : l.desc ≡ desc_at s m r first = a.0 ∙ ap (desc_at s m r) (sym c.0) in
      let k : word_of s m first 1 ≡ 0 = sym (ap (λ (d : Desc). d.key) w) ∙ q in
      let none : member_chain s m r first ≡ [] = mapped-none _ (gathered_none _ (sym (group-first l.desc (descs ls) q ∙ ap (λ (d : Desc). d.members) w) ∙ n)) in
      let ends : Chained s m (word_of s m first 6) (member_chain s m r first) = subst (λ (i : ℕ). Chained s m (word_of s m i 6) (member_chain s m r i)) (sym c.0) h.0 in
      let f : word_of s m first 6 ≡ 0 = subst (Chained s m (word_of s m first 6)) none ends in
      record { some = z; inside = subst (λ (i : ℕ). i ≤ r) (sym c.0) b.0; key = k; empty = f }
    where
      key : Dec (l.desc.key ≡ 0) → l.desc.key ≡ 0
      key (yes e) = e
      key (no d) =
          never (sym (ap (λ (b : Bool). cond b true (stored_in 0 (descs ls))) (ne_eqb l.desc.key 0 d) ∙ not-below l.desc.key e (descs ls) g.1) ∙ o)

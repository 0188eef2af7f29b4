-- The pairs that are written are the memberships of the range.
use Rattle.std.specs.Prelude.{◌≡◌, Bool, true, false, cond, leb, eqb, ltb, length}
use Rattle.std.proofs.Math.Path.{refl, ap}
use Rattle.std.proofs.Common.{sym, ap₂, ◌∙◌, arith, eq-eqb, ne_eqb}
use mathlib.Core.List.{List, [], ◌∷◌, ◌++◌}
use Prim.Native.Nat.{ℕ, zero, suc, ◌≤◌, ◌<◌}
use Rattle.words.specs.Store.{word_of}
use Rattle.scans.specs.Scans.{entries_in, raise, rising, pair_words, range_words, range_count}
use Rattle.scans.specs.Rising.{length-range}
use Rattle.serial.specs.Model.{two_words}
use Rattle.serial.specs.Codes.{length-two-words}
use Rattle.machine.specs.Logic.{leb_yes, leb_no, leb-is, leb-not, eqb_no}
use Rattle.machine.specs.Order.{In}
use Rattle.machine.specs.Groups.{Rises, rises-in}
use Rattle.machine.specs.State.{Desc, with_member}
use Rattle.machine.specs.Steps.{pairs_of, memberships}
use Rattle.meaning.specs.Reading.{Chained, Leaf, gather}
use Rattle.meaning.specs.Sound.{All, Apart, Once}
use Rattle.meaning.specs.Lens.{descs}
use Rattle.layout.specs.Layout.{firsts, seconds, DescFits, GroupFits}
use Rattle.layout.specs.Chains.{nums}

-- ---- rising order

-- An entry that is not in a list is put in the same way.
raise-with : (e : ℕ) (l : List ℕ) → Apart e l → raise e l ≡ with_member e l
unfolding raise with_member
raise-with e [] a = refl
raise-with e (x ∷ l) a = go (leb e x) refl (raise-with e l a.1)
  where
    go : (b : Bool) → leb e x ≡ b → raise e l ≡ with_member e l → cond b (e ∷ x ∷ l) (x ∷ raise e l) ≡ cond (ltb e x) (e ∷ x ∷ l) (cond (eqb e x) (x ∷ l) (x ∷ with_member e l))
    go true q ih = rw (leb_yes (suc e) x (let z = leb-is e x q in let n = a.0 in omega arith)) refl
    go false q ih = rw (leb_no (suc e) x (let z = leb-not e x q in omega arith), eqb_no e x a.0) (ap (λ k. x ∷ k) ih)

apart-with : (e x : ℕ) (l : List ℕ) → ¬ (e ≡ x) → Apart e l → Apart e (with_member x l)
unfolding with_member
apart-with e x [] n a = (n, tt)
apart-with e x (y ∷ l) n a = go (ltb x y) (eqb x y) (apart-with e x l n a.1)
  where
    go : (b c : Bool) → Apart e (with_member x l) → Apart e (cond b (x ∷ y ∷ l) (cond c (y ∷ l) (y ∷ with_member x l)))
    go true c ih = (n, a)
    go false true ih = a
    go false false ih = (a.0, ih)

apart-gather : (e : ℕ) (l : List ℕ) → Apart e l → Apart e (gather l)
apart-gather e [] a = tt
apart-gather e (x ∷ l) a = apart-with e x (gather l) a.0 (apart-gather e l a.1)

pub rising-gather : (l : List ℕ) → Once l → rising l ≡ gather l
unfolding rising
rising-gather [] o = refl
rising-gather (e ∷ l) o = ap (raise e) (rising-gather l o.1) ∙ raise-with e (gather l) (apart-gather e l o.0)

-- ---- the members of a group

pub entries-in : (s : List ℕ) (m n i : ℕ) (c : List (ℕ × ℕ)) → Chained s m i (firsts c) → All (λ q. word_of s m q.0 2 ≡ q.1) c → length (firsts c) ≤ n → entries_in s m n i ≡ seconds c
unfolding entries_in
entries-in s m zero i [] h a b = refl
entries-in s m (suc n) i [] h a b = rw (eq-eqb i 0 h) refl
entries-in s m zero i (q ∷ c) h a b = absurd (omega (arith, b))
entries-in s m (suc n) i (q ∷ c) h a b =
    rw (ne_eqb i 0 h.1) (ap₂ (λ x l. x ∷ l) (ap (λ j. word_of s m j 2) h.0 ∙ a.0) (entries-in s m n (word_of s m i 0) c h.2 a.1 (omega (arith, b))))

-- ---- pairs

pairs-words : (k : ℕ) (es : List ℕ) (l : List (ℕ × ℕ)) → two_words (pairs_of k es l) ≡ pair_words k es ++ two_words l
unfolding pairs_of pair_words
pairs-words k [] l = refl
pairs-words k (e ∷ es) l = ap (λ w. k ∷ (e ∷ w)) (pairs-words k es l)

-- ---- memberships

pub memberships-here : (lo hi : ℕ) (d : Desc) (ds : List Desc) → lo ≤ d.key → d.key ≤ hi → memberships lo hi (d ∷ ds) ≡ pairs_of d.key d.members (memberships lo hi ds)
unfolding memberships
memberships-here lo hi d ds a b = rw (leb_yes lo d.key a, leb_yes d.key hi b) refl

pub memberships-low : (lo hi : ℕ) (d : Desc) (ds : List Desc) → d.key < lo → memberships lo hi (d ∷ ds) ≡ memberships lo hi ds
unfolding memberships
memberships-low lo hi d ds a = rw (leb_no lo d.key a) refl

pub memberships-high : (lo hi : ℕ) (d : Desc) (ds : List Desc) → lo ≤ d.key → hi < d.key → memberships lo hi (d ∷ ds) ≡ memberships lo hi ds
unfolding memberships
memberships-high lo hi d ds a b = rw (leb_yes lo d.key a, leb_no d.key hi b) refl

pub memberships-behind : (lo hi from e : ℕ) (A : List Desc) (l : List Desc) → In from e A → e ≤ lo → memberships lo hi (A ++ l) ≡ memberships lo hi l
memberships-behind lo hi from e [] l i h = refl
memberships-behind lo hi from e (a ∷ A) l i h = memberships-low lo hi a (A ++ l) (omega (arith, i.0.1, h)) ∙ memberships-behind lo hi from e A l i.1 h

memberships-none : (lo hi from e : ℕ) (l : List Desc) → In from e l → hi < from → lo ≤ from → memberships lo hi l ≡ []
unfolding memberships
memberships-none lo hi from e [] i h k = refl
memberships-none lo hi from e (d ∷ l) i h k = memberships-high lo hi d l (omega (arith, i.0.0, k)) (omega (arith, i.0.0, h)) ∙ memberships-none lo hi from e l i.1 h k

-- ---- the range

module _ (s : List ℕ) (m r : ℕ) (g : ℕ → List (ℕ × ℕ)) (lo hi : ℕ) where
  -- A descriptor with its members, not more than r.
  abbrev pub Listed : Leaf → Type 0
  Listed l = DescFits s m l × GroupFits s m (g l.num) l × (length (firsts (g l.num)) ≤ r)

  members_are : (l : Leaf) → Listed l → rising (entries_in s m r (word_of s m l.num 6)) ≡ l.desc.members
  members_are l G =
      ap rising (entries-in s m r (word_of s m l.num 6) (g l.num) G.1.chained G.1.entries G.2) ∙ rising-gather (seconds (g l.num)) G.1.once ∙ G.1.gathered

  pub range-words : (n i from e : ℕ) (ls : List Leaf) → Chained s m i (nums ls) → All Listed ls → Rises from e (descs ls) → lo ≤ from → length ls ≤ n
      → range_words s m r n i hi ≡ two_words (memberships lo hi (descs ls))
  unfolding range_words memberships
  range-words zero i from e [] c a o h b = refl
  range-words (suc n) i from e [] c a o h b = rw (eq-eqb i 0 c) refl
  range-words zero i from e (l ∷ ls) c a o h b = absurd (omega (arith, b))
  range-words (suc n) i from e (l ∷ ls) c a o h b =
      rw (ne_eqb i 0 c.1) (go (leb l.desc.key hi) refl
      (range-words n (word_of s m i 0) (suc l.desc.key) e ls c.2 a.1 o.1 (omega (arith, o.0.0, h)) (omega (arith, b))))
    where
      key : word_of s m i 1 ≡ l.desc.key
      key = ap (λ j. word_of s m j 1) c.0 ∙ a.0.0.key

      here : rising (entries_in s m r (word_of s m i 6)) ≡ l.desc.members
      here = ap (λ j. rising (entries_in s m r (word_of s m j 6))) c.0 ∙ members_are l a.0

      go : (q : Bool) → leb l.desc.key hi ≡ q → range_words s m r n (word_of s m i 0) hi ≡ two_words (memberships lo hi (descs ls))
          → cond (leb (word_of s m i 1) hi) (pair_words (word_of s m i 1) (rising (entries_in s m r (word_of s m i 6))) ++ range_words s m r n (word_of s m i 0) hi) []
          ≡ two_words (memberships lo hi (l.desc ∷ descs ls))
      go true q ih =
          ap (λ z. cond z (pair_words (word_of s m i 1) (rising (entries_in s m r (word_of s m i 6))) ++ range_words s m r n (word_of s m i 0) hi) []) (ap (λ k. leb k hi) key ∙ q)
          ∙ ap₂ (λ k es. pair_words k es ++ range_words s m r n (word_of s m i 0) hi) key here
          ∙ ap (λ w. pair_words l.desc.key l.desc.members ++ w) ih
          ∙ sym (pairs-words l.desc.key l.desc.members (memberships lo hi (descs ls)))
          ∙ ap two_words (sym (memberships-here lo hi l.desc (descs ls) (omega (arith, o.0.0, h)) (leb-is l.desc.key hi q)))
      go false q ih =
          let z = leb-not l.desc.key hi q in
          ap (λ z. cond z (pair_words (word_of s m i 1) (rising (entries_in s m r (word_of s m i 6))) ++ range_words s m r n (word_of s m i 0) hi) []) (ap (λ k. leb k hi) key ∙ q)
          ∙ ap two_words (sym (memberships-high lo hi l.desc (descs ls) (omega (arith, o.0.0, h)) z
          ∙ memberships-none lo hi (suc l.desc.key) e (descs ls) (rises-in (suc l.desc.key) e (descs ls) o.1) (omega (arith, z)) (omega (arith, o.0.0, h))))

  pub range-count : (n i from e : ℕ) (ls : List Leaf) → Chained s m i (nums ls) → All Listed ls → Rises from e (descs ls) → lo ≤ from → length ls ≤ n
      → range_count s m r n i hi ≡ length (memberships lo hi (descs ls))
  range-count n i from e ls c a o h b =
      let w = ap length (range-words n i from e ls c a o h b) in
      omega (arith, w, length-range s m r n i hi, length-two-words (memberships lo hi (descs ls)))

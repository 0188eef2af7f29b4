-- The descriptor before a key: where the walk finds it, and the gap's holders.
use Rattle.std.specs.Prelude.{◌≡◌, refl, List, [], ◌∷◌, ◌++◌, ℕ, suc, ◌-◌, ◌≤◌, ◌<◌}
use Rattle.std.proofs.Common.{sym, ap, subst, ◌∙◌, inl, inr, arith}
use Rattle.std.proofs.lemmas.List.{map-append}
use Rattle.std.proofs.Math.Decide.{ℕ_discrete}
use Rattle.groups.specs.Descriptor.{descriptor_at}
use Rattle.sessions.specs.declared.Session.{Session}
use Rattle.machine.specs.Logic.{leb_yes, leb_no}
use Rattle.machine.specs.State.{gap_below, stored, top}
use Rattle.machine.specs.Sound as S
use Rattle.machine.specs.Sound.{times}
use Rattle.machine.specs.Order.{In, in-append}
use Rattle.meaning.specs.Reading.{Leaf, M-of, R-of}
use Rattle.meaning.specs.Sound.{All, Apart}
use Rattle.meaning.specs.Numbers.{all_right, times-append, apart-times, one-is}
use Rattle.meaning.specs.Numbers as Nums
use Rattle.meaning.specs.Frame.{SameAt, SameWords, leaf_records, desc_words, numbers-times, same-words}
use Rattle.meaning.specs.Lens.{descs, leaves-erase}
use Rattle.layout.specs.Layout.{Lay, leaves_in, DescFits, Has, Holds, means}
use Rattle.layout.specs.Keep.{owned-most, records-times}
use Rattle.layout.specs.Chains.{upto}
use Rattle.layout.specs.Walks.{upto-found, descs-fit}
use Rattle.layout.specs.Puts.{desc-gap}
use Rattle.scans.specs.Scans.{last_upto}
use Rattle.arriving.specs.Arriving.{pred_of}
use Rattle.arriving.specs.Site.{has-at}

-- ---- lists with one in the middle

pub in-mid : (A : List Leaf) (l : Leaf) (B : List Leaf) → Nums.In l.num (leaf_records (A ++ l ∷ B))
in-mid [] l B = inl refl
in-mid (a ∷ A) l B = inr (in-mid A l B)

pub has-in-records : (k d : ℕ) (ls : List Leaf) → Has k d ls → Nums.In d (leaf_records ls)
has-in-records k d [] x' = elim x' [ ]
has-in-records k d (l ∷ ls) (inl h) = inl (sym h.1)
has-in-records k d (l ∷ ls) (inr h) = inr (has-in-records k d ls h)

-- No descriptor stands twice.
pub leaves-once : (s : List ℕ) (t : List Session) (L : Lay) → Holds s t L → (j : ℕ) → times j (leaf_records (leaves_in L)) ≤ 1
leaves-once s t L H j = omega (arith, owned-most L H.owned j, records-times L j, numbers-times j (suc L.height) L.tree)

pub once-around : (s : List ℕ) (t : List Session) (L : Lay) → Holds s t L → (A : List Leaf) (l : Leaf) (B : List Leaf) → leaves_in L ≡ A ++ l ∷ B
    → Apart l.num (leaf_records A) × Apart l.num (leaf_records B)
once-around s t L H A l B e =
    let j = l.num in
    let q = ap (λ z. times j (leaf_records z)) e ∙ ap (times j) (map-append (λ z. z.num) A (l ∷ B)) ∙ times-append j (leaf_records A) (leaf_records (l ∷ B)) in
    let o = one-is j j refl in
    let b = leaves-once s t L H j in
    (apart-times j (leaf_records A) (omega (arith, q, o, b)), apart-times j (leaf_records B) (omega (arith, q, o, b)))

-- ---- the gap before a key

gap-behind : (x g hi : ℕ) (B : List Leaf) → In x hi (descs B) → gap_below x g (descs B) ≡ g
unfolding gap_below
gap-behind x g hi [] b = refl
gap-behind x g hi (y ∷ B) b = rw (leb_no (suc y.desc.key) x (omega (arith, b.0.0))) refl

gap-last : (x g hi : ℕ) (A : List Leaf) (l : Leaf) (B : List Leaf) → In 0 x (descs A) → l.desc.key < x → In x hi (descs B) → gap_below x g (descs (A ++ l ∷ B)) ≡ l.desc.gap
unfolding gap_below
gap-last x g hi [] l B a c b = rw (leb_yes (suc l.desc.key) x c) (gap-behind x l.desc.gap hi B b)
gap-last x g hi (y ∷ A) l B a c b = rw (leb_yes (suc y.desc.key) x a.0.1) (gap-last x y.desc.gap hi A l B a.1 c b)

-- ---- the descriptor before a key

pub record Pred (s : List ℕ) (t : List Session) (L : Lay) (x : ℕ) : Type 0 where
  pub before : List Leaf
  pub leaf : Leaf
  pub behind : List Leaf
  pub is : leaves_in L ≡ before ++ leaf ∷ behind
  pub found : pred_of s (M-of s) (R-of s) x ≡ leaf.num
  pub low : In 0 x (descs (before ++ leaf ∷ []))
  pub high : In x (suc top) (descs behind)
  pub gap : gap_below x 0 (stored (means L t)) ≡ leaf.desc.gap
  pub gap_word : (descriptor_at s (M-of s) leaf.num).gap ≡ leaf.desc.gap
  pub fits : DescFits s (M-of s) leaf
  pub has : Has leaf.desc.key leaf.num (leaves_in L)

pub pred-at : (s : List ℕ) (t : List Session) (L : Lay) → Holds s t L → S.Sound (means L t) → (x : ℕ) → 1 ≤ x → Pred s t L x
unfolding pred_of last_upto stored means
pred-at s t L H A x n =
    let U = upto L t A (x - 1) in
    let m = M-of s in
    let e : suc (x - 1) ≡ x = omega (arith, n) in
    let a = subst (λ k. In 0 k (descs U.before)) e U.below in
    let b = subst (λ k. In k (suc top) (descs U.behind)) e U.above in
    let c : U.leaf.desc.key < x = omega (arith, U.at_most, n) in
    let D : DescFits s m U.leaf = (all_right (DescFits s m) U.before (U.leaf ∷ U.behind) (subst (All (DescFits s m)) U.is (descs-fit s t L H A))).0 in
    record {
      before = U.before;
      leaf = U.leaf;
      behind = U.behind;
      is = U.is;
      found = upto-found s t L H A (x - 1) (λ k i. last_upto s m k i (x - 1)) (record { stop = λ i. refl; next = λ k i. refl }) U;
      low = subst (In 0 x) (sym (map-append (λ z. z.desc) U.before (U.leaf ∷ []))) (in-append 0 x (descs U.before) (U.leaf.desc ∷ []) a ((omega arith, c), tt));
      high = b;
      gap = ap (gap_below x 0) (leaves-erase (suc L.height) L.tree ∙ ap descs U.is) ∙ gap-last x 0 (suc top) U.before U.leaf U.behind a c b;
      gap_word = desc-gap s m U.leaf.num ∙ D.gap;
      fits = D;
      has = subst (Has U.leaf.desc.key U.leaf.num) (sym U.is) (has-at U.leaf.desc.key U.leaf.num U.before U.leaf U.behind refl refl);
    }

-- ---- the words of descriptors that stay

-- Only the next one of the descriptor at b is another.
pub leaves_kept : (s s' : List ℕ) (m b : ℕ) (ls : List Leaf) → SameWords s s' m desc_words b → ((j : ℕ) → Nums.In j (leaf_records ls) → ¬ (j ≡ b) → SameAt s s' m j)
    → All (λ l. SameWords s s' m desc_words l.num) ls
leaves_kept s s' m b [] w f = tt
leaves_kept s s' m b (l ∷ ls) w f = (go (ℕ_discrete l.num b), leaves_kept s s' m b ls w (λ j i. f j (inr i)))
  where
    go : Dec (l.num ≡ b) → SameWords s s' m desc_words l.num
    go (yes e) = subst (SameWords s s' m desc_words) (sym e) w
    go (no n) = same-words s s' m desc_words l.num (f l.num (inl refl) n)

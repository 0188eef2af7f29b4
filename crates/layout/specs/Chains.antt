-- Chains of a layout: each can be walked, its records are in the store, and the descriptors' chain cut at a key.
use Rattle.std.specs.Prelude.{◌≡◌, refl, Bool, true, false, cond, List, [], ◌∷◌, ◌++◌, map, ℕ, zero, suc, ◌≤◌, eqb, leb, length}
use Rattle.std.proofs.Common.{sym, ap, subst, ◌∙◌, arith, eq-eqb, ne_eqb}
use Rattle.words.specs.Store.{HasRecord, word_of}
use Rattle.chain.specs.Walk.{Walk}
use Rattle.sessions.specs.declared.Session.{Session}
use Rattle.serial.specs.Serial.{true≢false}
use Rattle.machine.specs.Logic.{eqb_is, leb_yes, leb_no}
use Rattle.machine.specs.Tree.{flat, leaves, Cmp, low, high, cmp}
use Rattle.machine.specs.State.{top}
use Rattle.machine.specs.Sound as S
use Rattle.machine.specs.Sound.{stored_in}
use Rattle.machine.specs.Order.{In, in-wide}
use Rattle.machine.specs.Groups.{Rises, rises-in}
use Rattle.machine.specs.Looks.{sound-ordered, ordered-rises, stored-range}
use Rattle.meaning.specs.Reading.{Chained, Leaf, Mark, Numbered, M-of}
use Rattle.meaning.specs.Sound.{All}
use Rattle.meaning.specs.Numbers.{all_append, all-as}
use Rattle.meaning.specs.Lens.{descs, leaves-erase}
use Rattle.layout.specs.Layout.{Lay, leaves_in, all_records, Each, DescFits, TreeFits, Holds, means}

-- ---- walks

-- A whole chain of records of the store can be walked.
pub walk-chain : (s : List ℕ) (m i : ℕ) (l : List ℕ) → Chained s m i l → All (HasRecord s m) l → (n : ℕ) → length l ≤ n → Walk s m n i
unfolding Walk
walk-chain s m i [] c h zero b = c
walk-chain s m i [] c h (suc n) b = λ z. absurd (z c)
walk-chain s m i (j ∷ l) c h zero b = absurd (omega (arith, b))
walk-chain s m i (j ∷ l) c h (suc n) b = λ z. (subst (HasRecord s m) (sym c.0) h.0, walk-chain s m (word_of s m i 0) l c.2 h.1 n (omega (arith, b)))

-- Every record of a layout is in the store.
pub has-record : (s : List ℕ) (t : List Session) (L : Lay) → Holds s t L → M-of s ≤ 1024 → All (HasRecord s (M-of s)) (all_records L)
has-record s t L H few =
    let F = H.fits in
    all-as (λ i b. record { entries = few; first = b.0; last = omega (arith, b.1, F.sized, F.records); inside = omega (arith, b.0, b.1, F.sized, F.records) })
    (all_records L) H.owned.no_other

-- ---- the descriptors' chain

abbrev pub nums : List Leaf → List ℕ
nums ls = map (λ l. l.num) ls

sons-fit : {A : Type 0} (P : ℕ → A → Type 0) (g : A → List Leaf) (Q : Leaf → Type 0) → ((hi : ℕ) (a : A) → P hi a → All Q (g a)) → (es : List (A × ℕ)) → Each P es → All Q (flat g es)
sons-fit P g Q f [] e = tt
sons-fit P g Q f (p ∷ es) e = all_append Q (g p.0) (flat g es) (f p.1 p.0 e.0) (sons-fit P g Q f es e.1)

pub leaves-fit : (s : List ℕ) (m h hi : ℕ) (t : Numbered h) → TreeFits s m h hi t → All (DescFits s m) (leaves Leaf Mark h t)
unfolding TreeFits leaves
leaves-fit s m zero hi t f = (f, tt)
leaves-fit s m (suc h) hi t f = sons-fit (TreeFits s m h) (leaves Leaf Mark h) (DescFits s m) (leaves-fit s m h) t.sons f.1

-- From a descriptor on, and behind it.
pub chain_from : (s : List ℕ) (m i : ℕ) (A : List Leaf) (l : Leaf) (B : List Leaf) → Chained s m i (nums (A ++ l ∷ B)) → Chained s m l.num (nums (l ∷ B))
chain_from s m i [] l B c = subst (λ j. Chained s m j (nums (l ∷ B))) c.0 c
chain_from s m i (a ∷ A) l B c = chain_from s m (word_of s m i 0) A l B c.2

pub chain_next : (s : List ℕ) (m i : ℕ) (A : List Leaf) (l : Leaf) (B : List Leaf) → Chained s m i (nums (A ++ l ∷ B)) → Chained s m (word_of s m l.num 0) (nums B)
chain_next s m i A l B c = (chain_from s m i A l B c).2

-- A walk with fuel that goes on while word 1 of the next record is at most k.
pub record Scan (s : List ℕ) (m k : ℕ) (f : ℕ → ℕ → ℕ) : Type 0 where
  pub stop : (i : ℕ) → f 0 i ≡ i
  pub next : (n i : ℕ) → f (suc n) i ≡ cond (eqb (word_of s m i 0) 0) i (cond (leb (word_of s m (word_of s m i 0) 1) k) (f n (word_of s m i 0)) i)

module _ (s : List ℕ) (m k : ℕ) where
  -- There is a first descriptor, and its key is at most k.
  first-upto : (lo j : ℕ) (A : List Leaf) (l : Leaf) (B : List Leaf) → Chained s m j (nums (A ++ l ∷ B)) → All (DescFits s m) (A ++ l ∷ B) → In lo (suc k) (descs A) → l.desc.key ≤ k
      → ¬ (j ≡ 0) × (word_of s m j 1 ≤ k)
  first-upto lo j [] l B c w a b = let e : word_of s m j 1 ≡ l.desc.key = ap (λ z. word_of s m z 1) c.0 ∙ w.0.key in (c.1, omega (arith, e, b))
  first-upto lo j (x ∷ A) l B c w a b = let e : word_of s m j 1 ≡ x.desc.key = ap (λ z. word_of s m z 1) c.0 ∙ w.0.key in (c.1, omega (arith, e, a.0.1))

  module _ (f : ℕ → ℕ → ℕ) (F : Scan s m k f) (hi : ℕ) where
    last-here : (l : Leaf) (B : List Leaf) (n i : ℕ) → Chained s m i (nums (l ∷ B)) → All (DescFits s m) B → In (suc k) hi (descs B) → f n i ≡ l.num
    last-here l B zero i c w b = F.stop i ∙ c.0
    last-here l [] (suc n) i c w b =
        F.next n i ∙ ap (λ z. cond z i (cond (leb (word_of s m (word_of s m i 0) 1) k) (f n (word_of s m i 0)) i)) (eq-eqb (word_of s m i 0) 0 c.2) ∙ c.0
    last-here l (x ∷ B) (suc n) i c w b =
        let j = word_of s m i 0 in
        let e : word_of s m j 1 ≡ x.desc.key = ap (λ z. word_of s m z 1) c.2.0 ∙ w.0.key in
        F.next n i
        ∙ ap (λ z. cond z i (cond (leb (word_of s m j 1) k) (f n j) i)) (ne_eqb j 0 c.2.1)
        ∙ ap (λ z. cond z (f n j) i) (leb_no (word_of s m j 1) k (omega (arith, e, b.0.0)))
        ∙ c.0

    -- On the descriptors A, l, B, those of A and l at most k, those of B above k, such a walk ends at l.
    pub last-upto : (lo : ℕ) (A : List Leaf) (l : Leaf) (B : List Leaf) (n i : ℕ) → Chained s m i (nums (A ++ l ∷ B)) → All (DescFits s m) (A ++ l ∷ B)
        → In lo (suc k) (descs A) → l.desc.key ≤ k → In (suc k) hi (descs B) → length A ≤ n → f n i ≡ l.num
    last-upto lo [] l B n i c w a le b q = last-here l B n i c w.1 b
    last-upto lo (x ∷ A) l B zero i c w a le b q = absurd (omega (arith, q))
    last-upto lo (x ∷ A) l B (suc n) i c w a le b q =
        let j = word_of s m i 0 in
        let h = first-upto lo j A l B c.2 w.1 a.1 le in
        F.next n i
        ∙ ap (λ z. cond z i (cond (leb (word_of s m j 1) k) (f n j) i)) (ne_eqb j 0 h.0)
        ∙ ap (λ z. cond z (f n j) i) (leb_yes (word_of s m j 1) k h.1)
        ∙ last-upto lo A l B n j c.2 w.1 a.1 le b (omega (arith, q))

-- ---- the descriptors cut at a key

-- The last descriptor whose key is at most k.
pub record Upto (ls : List Leaf) (k lo e : ℕ) : Type 0 where
  pub before : List Leaf
  pub leaf : Leaf
  pub behind : List Leaf
  pub is : ls ≡ before ++ leaf ∷ behind
  pub below : In lo (suc k) (descs before)
  pub at_most : leaf.desc.key ≤ k
  pub above : In (suc k) e (descs behind)

pub cut-upto : (k lo e : ℕ) (x : Leaf) (ls : List Leaf) → Rises lo e (descs (x ∷ ls)) → x.desc.key ≤ k → Upto (x ∷ ls) k lo e
cut-upto k lo e x [] r a = record { before = []; leaf = x; behind = []; is = refl; below = tt; at_most = a; above = tt }
cut-upto k lo e x (y ∷ ls) r a = go (cmp y.desc.key k) (cut-upto k (suc x.desc.key) e y ls r.1)
  where
    go : Cmp y.desc.key k → (y.desc.key ≤ k → Upto (y ∷ ls) k (suc x.desc.key) e) → Upto (x ∷ y ∷ ls) k lo e
    go (low p) ih = let U = ih p in
        record {
          before = x ∷ U.before;
          leaf = U.leaf;
          behind = U.behind;
          is = ap (λ l. x ∷ l) U.is;
          below = ((r.0.0, omega (arith, a)), in-wide (suc x.desc.key) (suc k) lo (suc k) (descs U.before) U.below (omega (arith, r.0.0)) (omega arith));
          at_most = U.at_most;
          above = U.above;
        }
    go (high p) ih = record { before = []; leaf = x; behind = y ∷ ls; is = refl; below = tt; at_most = a; above = rises-in (suc k) e (descs (y ∷ ls)) ((p, r.1.0.1), r.1.1) }

zero-upto : (k : ℕ) (ls : List Leaf) → Rises 0 (suc top) (descs ls) → stored_in 0 (descs ls) ≡ true → Upto ls k 0 (suc top)
unfolding stored_in
zero-upto k [] r z = absurd (true≢false z refl)
zero-upto k (x ∷ ls) r z = cut-upto k 0 (suc top) x ls r (go (eqb x.desc.key 0) refl z)
  where
    go : (c : Bool) → eqb x.desc.key 0 ≡ c → cond c true (stored_in 0 (descs ls)) ≡ true → x.desc.key ≤ k
    go true e z = omega (arith, eqb_is x.desc.key 0 e)
    go false e z = absurd (omega (arith, (stored-range 0 (suc x.desc.key) (suc top) (descs ls) (rises-in (suc x.desc.key) (suc top) (descs ls) r.1) z).0))

-- In a sound state there is one for every key: 0 is stored.
pub upto : (L : Lay) (t : List Session) → S.Sound (means L t) → (k : ℕ) → Upto (leaves_in L) k 0 (suc top)
unfolding means
upto L t A k =
    let e = leaves-erase (suc L.height) L.tree in
    zero-upto k (leaves_in L) (subst (Rises 0 (suc top)) e (ordered-rises (means L t) (sound-ordered A))) (subst (λ l. stored_in 0 l ≡ true) e A.zero_stored)

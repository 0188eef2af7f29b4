-- Where a locate's next descriptor is: behind the last one along the chain whose key was taken.
use Rattle.std.specs.Prelude.{◌≡◌, refl, Bool, true, false, cond, List, [], ◌∷◌, ◌++◌, ◌⊎◌, ℕ, zero, suc, ◌≤◌, ◌<◌, leb, eqb, length}
use Rattle.std.proofs.Common.{ap, subst, ◌∙◌, inl, inr, arith, eq-eqb, ne_eqb}
use Rattle.std.proofs.Math.Option.{some, some-injective, none-ne-some}
use Rattle.words.specs.Store.{word_of}
use Rattle.sessions.specs.declared.Session.{Session}
use Rattle.scans.specs.Scans.{last_upto}
use Rattle.machine.specs.Logic.{leb_yes, leb_no, leb-is, leb-not}
use Rattle.machine.specs.Order.{In}
use Rattle.machine.specs.State.{Desc, lowest_from}
use Rattle.meaning.specs.Reading.{Chained, Leaf}
use Rattle.meaning.specs.Sound.{All}
use Rattle.meaning.specs.Lens.{descs}
use Rattle.layout.specs.Layout.{Has, DescFits}
use Rattle.layout.specs.Chains.{nums}

-- ---- definitions

-- The record of the descriptor that is next: first's own, or the one behind the last key taken.
unfoldable pub next_taken : List ℕ → ℕ → ℕ → Session → ℕ
next_taken s m r x = cond (eqb x.last 0) x.low (word_of s m (last_upto s m r x.low x.last) 0)

-- The record of the lowest of some descriptors from a key on, 0 if there is none.
unfoldable pub num_from : ℕ → List Leaf → ℕ
num_from k [] = 0
num_from k (l ∷ ls) = let rest = num_from k ls in cond (leb k l.desc.key) l.num rest

-- The descriptor d is at record n.
abbrev pub Keeps : Desc → ℕ → List Leaf → Type 0
Keeps d n [] = ⊥
Keeps d n (l ∷ ls) = ((l.desc ≡ d) × (l.num ≡ n)) ⊎ Keeps d n ls

-- ---- lists

pub keeps-has : (d : Desc) (n : ℕ) (ls : List Leaf) → Keeps d n ls → Has d.key n ls
keeps-has d n [] h = absurd h
keeps-has d n (l ∷ ls) (inl e) = inl (ap (λ z. z.key) e.0, e.1)
keeps-has d n (l ∷ ls) (inr h) = inr (keeps-has d n ls h)

pub keeps-behind : (d : Desc) (n : ℕ) (A B : List Leaf) → Keeps d n B → Keeps d n (A ++ B)
keeps-behind d n [] B h = h
keeps-behind d n (a ∷ A) B h = inr (keeps-behind d n A B h)

keeps-in : (d : Desc) (n lo e : ℕ) (ls : List Leaf) → In lo e (descs ls) → Keeps d n ls → (lo ≤ d.key) × (d.key < e)
keeps-in d n lo e [] i h = absurd h
keeps-in d n lo e (l ∷ ls) i (inl h) = let z = ap (λ y. y.key) h.0 in (omega (arith, z, i.0.0), omega (arith, z, i.0.1))
keeps-in d n lo e (l ∷ ls) i (inr h) = keeps-in d n lo e ls i.1 h

-- Between lower and higher keys it is the one.
pub keeps-mid : (d : Desc) (n lo hi : ℕ) (A : List Leaf) (l : Leaf) (B : List Leaf) → In lo d.key (descs A) → In (suc d.key) hi (descs B) → Keeps d n (A ++ l ∷ B)
    → (l.desc ≡ d) × (l.num ≡ n)
keeps-mid d n lo hi [] l B a b (inl h) = h
keeps-mid d n lo hi [] l B a b (inr h) = absurd (omega (arith, (keeps-in d n (suc d.key) hi B b h).0))
keeps-mid d n lo hi (x ∷ A) l B a b (inl h) = absurd (omega (arith, ap (λ y. y.key) h.0, a.0.1))
keeps-mid d n lo hi (x ∷ A) l B a b (inr h) = keeps-mid d n lo hi A l B a.1 b h

pub lowest-head : (x : ℕ) (a : Desc) (l : List Desc) → x ≤ a.key → lowest_from x (a ∷ l) ≡ some a
unfolding lowest_from
lowest-head x a l h = ap (λ o. cond o (some a) (lowest_from x l)) (leb_yes x a.key h)

pub lowest-past : (x : ℕ) (a : Desc) (l : List Desc) → a.key < x → lowest_from x (a ∷ l) ≡ lowest_from x l
unfolding lowest_from
lowest-past x a l h = ap (λ o. cond o (some a) (lowest_from x l)) (leb_no x a.key h)

-- Lower keys count for nothing.
pub lowest-behind : (x lo e : ℕ) (A : List Desc) (l : List Desc) → In lo e A → e ≤ x → lowest_from x (A ++ l) ≡ lowest_from x l
lowest-behind x lo e [] l i h = refl
lowest-behind x lo e (a ∷ A) l i h = lowest-past x a (A ++ l) (omega (arith, i.0.1, h)) ∙ lowest-behind x lo e A l i.1 h

-- The record found is that of the lowest.
pub num-keeps : (k : ℕ) (ls : List Leaf) (d : Desc) → lowest_from k (descs ls) ≡ some d → Keeps d (num_from k ls) ls
unfolding lowest_from num_from
num-keeps k [] d e = absurd (none-ne-some d e)
num-keeps k (l ∷ ls) d e = go (leb k l.desc.key) e (num-keeps k ls d)
  where
    go : (b : Bool) → cond b (some l.desc) (lowest_from k (descs ls)) ≡ some d → (lowest_from k (descs ls) ≡ some d → Keeps d (num_from k ls) ls)
        → Keeps d (cond b l.num (num_from k ls)) (l ∷ ls)
    go true q ih = inl (some-injective l.desc d q, refl)
    go false q ih = inr (ih q)

-- ---- chains of descriptors

-- Behind the last one whose key is at most k comes the lowest one above k.
pub next-behind : (s : List ℕ) (m n k : ℕ) (l : Leaf) (B : List Leaf) → Chained s m l.num (nums (l ∷ B)) → All (DescFits s m) B → length B ≤ n
    → word_of s m (last_upto s m n l.num k) 0 ≡ num_from (suc k) B
unfolding last_upto num_from
next-behind s m zero k l [] c f h = c.2
next-behind s m (suc n) k l [] c f h = rw (eq-eqb (word_of s m l.num 0) 0 c.2) c.2
next-behind s m zero k l (b ∷ B) c f h = absurd (omega (arith, h))
next-behind s m (suc n) k l (b ∷ B) c f h =
    let j = c.2.0 in
    go (leb b.desc.key k) refl
    (next-behind s m n k b B (subst (λ i. Chained s m i (nums (b ∷ B))) j c.2) f.1 (omega (arith, h)))
  where
    J : word_of s m l.num 0 ≡ b.num
    J = c.2.0

    K : word_of s m (word_of s m l.num 0) 1 ≡ b.desc.key
    K = ap (λ i. word_of s m i 1) J ∙ f.0.key

    go : (o : Bool) → leb b.desc.key k ≡ o → word_of s m (last_upto s m n b.num k) 0 ≡ num_from (suc k) B
        → word_of s m (last_upto s m (suc n) l.num k) 0 ≡ num_from (suc k) (b ∷ B)
    go true e ih =
        rw (ne_eqb (word_of s m l.num 0) 0 c.2.1, ap (λ q. leb q k) K ∙ e, leb_no (suc k) b.desc.key (let z = leb-is b.desc.key k e in omega arith))
        (ap (λ i. word_of s m (last_upto s m n i k) 0) J ∙ ih)
    go false e ih =
        rw (ne_eqb (word_of s m l.num 0) 0 c.2.1, ap (λ q. leb q k) K ∙ e, leb_yes (suc k) b.desc.key (let z = leb-not b.desc.key k e in omega arith)) J

-- Document 01's logical model: a value for each entry, at first 0, and a set of memberships (key, entry), at first empty.
-- Fed a request, it answers and changes as codes 1 to 5 say. It knows no locks, no sessions and no tree.
use Rattle.std.specs.Prelude.{◌≡◌, List, [], ◌∷◌, ◌⊎◌, cond, ℕ, ◌-◌, ◌≤◌, ◌<◌, eqb, length}
use Rattle.std.proofs.Common.{sym, inl, inr, arith}
use Rattle.std.proofs.Math.Option.{Option, none, some}
use Rattle.std.proofs.Math.Decide.{ℕ_discrete, dec_lt, dec_le}
use Rattle.serial.specs.Serial.{pick}
use Rattle.serial.specs.Rising.{Order, Tri, less, equal, greater, has, ins, del, only}

-- ---- memberships, by key and then by entry

abbrev pub Pair : Type 0
Pair = ℕ × ℕ

abbrev pub Before : Pair → Pair → Type 0
Before p q = (p.0 < q.0) ⊎ ((p.0 ≡ q.0) × (p.1 < q.1))

unfoldable pub ℕ-tri : (m n : ℕ) → Tri ◌<◌ m n
ℕ-tri m n = at (dec_lt m n) (dec_lt n m)
  where
    at : Dec (m < n) → Dec (n < m) → Tri ◌<◌ m n
    at (yes h) d = less h
    at (no h) (yes k) = greater k
    at (no h) (no k) = equal (omega arith)

unfoldable pub pair_tri : (p q : Pair) → Tri Before p q
pair_tri p q = at (ℕ-tri p.0 q.0) (ℕ-tri p.1 q.1)
  where
    at : Tri ◌<◌ p.0 q.0 → Tri ◌<◌ p.1 q.1 → Tri Before p q
    at (less h) t = less (inl h)
    at (greater h) t = greater (inl h)
    at (equal e) (less h) = less (inr (e, h))
    at (equal e) (greater h) = greater (inr (sym e, h))
    at (equal e) (equal f) = equal (λ i. (e i, f i))

pub pair-irrefl : (p : Pair) → Before p p → ⊥
pair-irrefl p (inl h) = omega arith
pair-irrefl p (inr h) = omega arith

pub pair-trans : (p q r : Pair) → Before p q → Before q r → Before p r
pair-trans p q r (inl h) (inl k) = inl (omega arith)
pair-trans p q r (inl h) (inr k) = inl (omega arith)
pair-trans p q r (inr h) (inl k) = inl (omega arith)
pair-trans p q r (inr h) (inr k) = inr (omega arith)

abbrev pub by_key : Order
by_key = record { A = Pair; Lt = Before; tri = pair_tri; irrefl = pair-irrefl; trans = pair-trans }

-- ---- the model

-- The memberships rise by key, then by entry.
pub record Db : Type 0 where
  pub values : ℕ → ℕ
  pub members : List Pair

abbrev pub empty : Db
empty = record { values = λ e. 0; members = [] }

-- read entry; write entry value; insert entry key; remove entry key; locate first second.
pub data Req : Type 0 where
  read : ℕ → Req
  write insert remove locate : ℕ → ℕ → Req

-- The numbers beside done, all of them, and a locate's written words.
pub record Ans : Type 0 where
  pub numbers : List ℕ
  pub words : List ℕ

abbrev pub just : ℕ → Ans
just n = record { numbers = n ∷ []; words = [] }

abbrev pub InRange : ℕ → ℕ → Pair → Type 0
InRange lo hi p = (lo ≤ p.0) × (p.0 ≤ hi)

abbrev pub both : {A B : Type 0} → Dec A → Dec B → Dec (A × B)
both (yes a) (yes b) = yes (a, b)
both (yes a) (no n) = no (λ h. n h.1)
both (no n) d = no (λ h. n h.0)

abbrev pub in_range : (lo hi : ℕ) (p : Pair) → Dec (InRange lo hi p)
in_range lo hi p = both (dec_le lo p.0) (dec_le p.0 hi)

-- The memberships from lo to hi, both ends included.
abbrev pub located : ℕ → ℕ → Db → List Pair
located lo hi d = only by_key (in_range lo hi) d.members

-- Each membership as two words, key and entry.
abbrev pub two_words : List Pair → List ℕ
two_words [] = []
two_words (p ∷ l) = p.0 ∷ (p.1 ∷ two_words l)

-- One request fed: the answer, and the model after it.
abbrev pub feed : Req → Db → Ans × Db
feed (read e) d = (just (d.values e), d)
feed (write e v) d = (just 0, record { values = λ x. pick (ℕ_discrete e x) v (d.values x); members = d.members })
feed (insert e k) d = (just (1 - has by_key (k, e) d.members), record { values = d.values; members = ins by_key (k, e) d.members })
feed (remove e k) d = (just (has by_key (k, e) d.members), record { values = d.values; members = del by_key (k, e) d.members })
feed (locate lo hi) d = (record { numbers = length (located lo hi d) ∷ []; words = two_words (located lo hi d) }, d)

abbrev pub ans : Req → Db → Ans
ans r d = (feed r d).0

abbrev pub eff : Req → Db → Db
eff r d = (feed r d).1

-- The request of a code with its arguments entry, first and second; unused ones are ignored. No other code feeds the model.
abbrev pub request_of : ℕ → ℕ → ℕ → ℕ → Option Req
request_of code entry first second =
    cond (eqb code 1) (some (read entry))
    (cond (eqb code 2) (some (write entry first))
    (cond (eqb code 3) (some (insert entry first)) (cond (eqb code 4) (some (remove entry first)) (cond (eqb code 5) (some (locate first second)) none))))

-- ---- what the model holds, item by item

-- The value of an entry; whether an entry is in the group of a key.
pub data Item : Type 0 where
  value : ℕ → Item
  cell : ℕ → ℕ → Item
  deriving Discrete as Item-discrete

abbrev pub get : Db → Item → ℕ
get d (value e) = d.values e
get d (cell k e) = has by_key (k, e) d.members

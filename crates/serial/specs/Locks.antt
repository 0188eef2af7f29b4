-- The long locks of document 01, and document 02's M-104: the lock rule as two tables, what a session may depend on and change under its locks, what each request needs,
-- and what a finished request adds to its session's undo log.
use Rattle.std.specs.Prelude.{◌≡◌, refl, Bool, true, false, ◌&&◌, ◌||◌, [], ◌∷◌, ◌⊎◌, ℕ, ◌≤◌}
use Rattle.std.proofs.Common.{sym, ◌∙◌, ap, subst, inl, inr}
use Rattle.std.proofs.Math.Decide.{ℕ_discrete}
use Rattle.serial.specs.Serial.{pick, true≢false, Within, undo, Log}
use Rattle.serial.specs.Rising.{has, has-cases}
use Rattle.serial.specs.Model.{by_key, Db, Req, read, write, insert, remove, locate, eff, Item, value, cell, Item-discrete, get}
use Rattle.serial.specs.Footprints.{Rd, Wr, Good, frame, store, cell-inserted, cell-removed}

-- The kind of a lock: on an entry, or on the group of a key. Its mode: weak is share or locate, strong is exclusive or update.
pub data Kind : Type 0 where
  entry group : Kind

pub data Mode : Type 0 where
  weak strong : Mode

-- A lock rule: does the mode held agree with the mode asked?
abbrev pub Table : Type 0
Table = Kind → Mode → Mode → Bool

-- The lock rule: two tables, entries and groups, two rows (held) by two columns (asked).
abbrev pub lock_rule : Table
lock_rule entry weak weak = true
lock_rule entry weak strong = false
lock_rule entry strong weak = false
lock_rule entry strong strong = false
lock_rule group weak weak = true
lock_rule group weak strong = false
lock_rule group strong weak = false
lock_rule group strong strong = true

-- What the serial-run theorem asks of a lock rule: exclusive agrees with nothing, and update disagrees with locate.
pub record Strict (T : Table) : Type 0 where
  pub exclusive_alone : (m : Mode) → T entry strong m ≡ false
  pub update_apart : T group strong weak ≡ false

pub lock-rule-strict : Strict lock_rule
lock-rule-strict = record { exclusive_alone = alone; update_apart = refl }
  where
    alone : (m : Mode) → lock_rule entry strong m ≡ false
    alone weak = refl
    alone strong = refl

-- holds kind mode session x: x is an entry or a key.
abbrev pub Holds : Type 0
Holds = Kind → Mode → ℕ → ℕ → Bool

-- No two different sessions hold in conflict.
abbrev pub Agree : Table → Holds → Type 0
Agree T H = (k : Kind) (m n : Mode) (s t x : ℕ) → H k m s x ≡ true → H k n t x ≡ true → (s ≡ t) ⊎ (T k m n ≡ true)

-- What a session may depend on, and what it may change.
abbrev pub touches : Holds → ℕ → Item → Bool
touches H s (value e) = H entry weak s e || H entry strong s e
touches H s (cell k e) = H group weak s k || (H group strong s k && H entry strong s e)

abbrev pub changes : Holds → ℕ → Item → Bool
changes H s (value e) = H entry strong s e
changes H s (cell k e) = H group strong s k && H entry strong s e

and_left : (a b : Bool) → (a && b) ≡ true → a ≡ true
and_left true b h = refl
and_left false b h = h

and_right : (a b : Bool) → (a && b) ≡ true → b ≡ true
and_right true b h = h
and_right false b h = absurd (true≢false h refl)

and_intro : (a b : Bool) → a ≡ true → b ≡ true → (a && b) ≡ true
and_intro a b p q = rw (p, q) refl

or_cases : (a b : Bool) → (a || b) ≡ true → (a ≡ true) ⊎ (b ≡ true)
or_cases true b h = inl refl
or_cases false b h = inr h

or_left : (a b : Bool) → a ≡ true → (a || b) ≡ true
or_left a b p = rw p refl

or_right : (a b : Bool) → b ≡ true → (a || b) ≡ true
or_right true b p = refl
or_right false b p = p

-- What the holders are is all that matters.
pub touches_same : (H G : Holds) (s : ℕ) → ((k : Kind) (m : Mode) (x : ℕ) → H k m s x ≡ G k m s x) → (i : Item) → touches H s i ≡ touches G s i
touches_same H G s h (value e) = let p = h entry weak e in let q = h entry strong e in cc
touches_same H G s h (cell k e) = let p = h group weak k in let q = h group strong k in let r = h entry strong e in cc

pub changes_same : (H G : Holds) (s : ℕ) → ((k : Kind) (m : Mode) (x : ℕ) → H k m s x ≡ G k m s x) → (i : Item) → changes H s i ≡ changes G s i
changes_same H G s h (value e) = h entry strong e
changes_same H G s h (cell k e) = let q = h group strong k in let r = h entry strong e in cc

pub touches-grow : (H G : Holds) (s : ℕ) → ((k : Kind) (m : Mode) (x : ℕ) → H k m s x ≡ true → G k m s x ≡ true) → (i : Item) → touches H s i ≡ true → touches G s i ≡ true
touches-grow H G s h (value e) t = at (or_cases (H entry weak s e) (H entry strong s e) t)
  where
    at : (H entry weak s e ≡ true) ⊎ (H entry strong s e ≡ true) → (G entry weak s e || G entry strong s e) ≡ true
    at (inl p) = or_left (G entry weak s e) (G entry strong s e) (h entry weak e p)
    at (inr p) = or_right (G entry weak s e) (G entry strong s e) (h entry strong e p)
touches-grow H G s h (cell k e) t = at (or_cases (H group weak s k) (H group strong s k && H entry strong s e) t)
  where
    at : (H group weak s k ≡ true) ⊎ ((H group strong s k && H entry strong s e) ≡ true) → (G group weak s k || (G group strong s k && G entry strong s e)) ≡ true
    at (inl p) = or_left (G group weak s k) (G group strong s k && G entry strong s e) (h group weak k p)
    at (inr p) = or_right (G group weak s k) (G group strong s k && G entry strong s e)
        (and_intro (G group strong s k) (G entry strong s e)
        (h group strong k (and_left (H group strong s k) (H entry strong s e) p)) (h entry strong e (and_right (H group strong s k) (H entry strong s e) p)))

pub changes-grow : (H G : Holds) (s : ℕ) → ((k : Kind) (m : Mode) (x : ℕ) → H k m s x ≡ true → G k m s x ≡ true) → (i : Item) → changes H s i ≡ true → changes G s i ≡ true
changes-grow H G s h (value e) p = h entry strong e p
changes-grow H G s h (cell k e) p = and_intro (G group strong s k) (G entry strong s e)
    (h group strong k (and_left (H group strong s k) (H entry strong s e) p)) (h entry strong e (and_right (H group strong s k) (H entry strong s e) p))

pub changes-touches : (H : Holds) (s : ℕ) (i : Item) → changes H s i ≡ true → touches H s i ≡ true
changes-touches H s (value e) p = or_right (H entry weak s e) (H entry strong s e) p
changes-touches H s (cell k e) p = or_right (H group weak s k) (H group strong s k && H entry strong s e) p

-- A conflict in the table keeps two sessions apart.
pub apart : {A : Type 0} {b : Bool} → A ⊎ (b ≡ true) → b ≡ false → A
apart (inl a) n = a
apart (inr p) n = absurd (true≢false p n)

pub changes-alone : (T : Table) → Strict T → (H : Holds) → Agree T H → (s t : ℕ) (i : Item) → changes H s i ≡ true → touches H t i ≡ true → s ≡ t
changes-alone T S H A s t (value e) p q = at (or_cases (H entry weak t e) (H entry strong t e) q)
  where
    at : (H entry weak t e ≡ true) ⊎ (H entry strong t e ≡ true) → s ≡ t
    at (inl r) = apart (A entry strong weak s t e p r) (S.exclusive_alone weak)
    at (inr r) = apart (A entry strong strong s t e p r) (S.exclusive_alone strong)
changes-alone T S H A s t (cell k e) p q = at (or_cases (H group weak t k) (H group strong t k && H entry strong t e) q)
  where
    at : (H group weak t k ≡ true) ⊎ ((H group strong t k && H entry strong t e) ≡ true) → s ≡ t
    at (inl r) = apart (A group strong weak s t k (and_left (H group strong s k) (H entry strong s e) p) r) S.update_apart
    at (inr r) = apart (A entry strong strong s t e (and_right (H group strong s k) (H entry strong s e) p) (and_right (H group strong t k) (H entry strong t e) r)) (S.exclusive_alone strong)

-- The long locks that each request needs.
abbrev pub Needs : Holds → ℕ → Req → Type 0
Needs H s (read e) = (H entry weak s e || H entry strong s e) ≡ true
Needs H s (write e v) = H entry strong s e ≡ true
Needs H s (insert e k) = (H group strong s k ≡ true) × (H entry strong s e ≡ true)
Needs H s (remove e k) = (H group strong s k ≡ true) × (H entry strong s e ≡ true)
Needs H s (locate lo hi) = (k : ℕ) → lo ≤ k → k ≤ hi → H group weak s k ≡ true

pub needs-reads : (H : Holds) (s : ℕ) (r : Req) → Needs H s r → (i : Item) → Rd r i → touches H s i ≡ true
needs-reads H s (read e) n i p = subst (λ j. touches H s j ≡ true) (sym p) n
needs-reads H s (write e v) n i p = absurd p
needs-reads H s (insert e k) n i p = subst (λ j. touches H s j ≡ true) (sym p)
    (or_right (H group weak s k) (H group strong s k && H entry strong s e) (and_intro (H group strong s k) (H entry strong s e) n.0 n.1))
needs-reads H s (remove e k) n i p = subst (λ j. touches H s j ≡ true) (sym p)
    (or_right (H group weak s k) (H group strong s k && H entry strong s e) (and_intro (H group strong s k) (H entry strong s e) n.0 n.1))
needs-reads H s (locate lo hi) n (value e) p = absurd p
needs-reads H s (locate lo hi) n (cell k e) p = or_left (H group weak s k) (H group strong s k && H entry strong s e) (n k p.0 p.1)

pub needs-writes : (H : Holds) (s : ℕ) (r : Req) → Needs H s r → (i : Item) → Wr r i → changes H s i ≡ true
needs-writes H s (read e) n i p = absurd p
needs-writes H s (write e v) n i p = subst (λ j. changes H s j ≡ true) (sym p) n
needs-writes H s (insert e k) n i p = subst (λ j. changes H s j ≡ true) (sym p) (and_intro (H group strong s k) (H entry strong s e) n.0 n.1)
needs-writes H s (remove e k) n i p = subst (λ j. changes H s j ≡ true) (sym p) (and_intro (H group strong s k) (H entry strong s e) n.0 n.1)
needs-writes H s (locate lo hi) n i p = absurd p

-- What a finished request adds to its session's undo log (document 01: take-back): 0-answers and readers add nothing.
abbrev pub undo_of : Req → Db → Log store
undo_of (read e) d = []
undo_of (write e v) d = (value e, d.values e) ∷ []
undo_of (insert e k) d = pick (ℕ_discrete (has by_key (k, e) d.members) 0) ((cell k e, 0) ∷ []) []
undo_of (remove e k) d = pick (ℕ_discrete (has by_key (k, e) d.members) 0) [] ((cell k e, 1) ∷ [])
undo_of (locate lo hi) d = []

pub undo-of-within : (w : Item → Bool) (r : Req) (d : Db) → ((i : Item) → Wr r i → w i ≡ true) → Within store w (undo_of r d)
undo-of-within w (read e) d h = tt
undo-of-within w (write e v) d h = (h (value e) refl, tt)
undo-of-within w (insert e k) d h = at (ℕ_discrete (has by_key (k, e) d.members) 0)
  where
    at : (t : Dec (has by_key (k, e) d.members ≡ 0)) → Within store w (pick t ((cell k e, 0) ∷ []) [])
    at (yes p) = (h (cell k e) refl, tt)
    at (no n) = tt
undo-of-within w (remove e k) d h = at (ℕ_discrete (has by_key (k, e) d.members) 0)
  where
    at : (t : Dec (has by_key (k, e) d.members ≡ 0)) → Within store w (pick t [] ((cell k e, 1) ∷ []))
    at (yes p) = tt
    at (no n) = (h (cell k e) refl, tt)
undo-of-within w (locate lo hi) d h = tt

-- One entry of the log puts one item back.
undo-one : (j : Item) (v : ℕ) (f g : Item → ℕ) (i : Item) → g j ≡ v → (¬ (i ≡ j) → f i ≡ g i) → undo store ((j, v) ∷ []) f i ≡ g i
undo-one j v f g i p q = at (Item-discrete ℕ_discrete j i)
  where
    at : (t : Dec (j ≡ i)) → pick t v (f i) ≡ g i
    at (yes e) = sym p ∙ ap g e
    at (no n) = q (λ e. n (sym e))

pub undo-of-undoes : (r : Req) (d : Db) → Good d → (i : Item) → undo store (undo_of r d) (get (eff r d)) i ≡ get d i
undo-of-undoes (read e) d g i = refl
undo-of-undoes (write e v) d g i = undo-one (value e) (d.values e) (get (eff (write e v) d)) (get d) i refl (frame (write e v) d g i)
undo-of-undoes (insert e k) d g i = at (ℕ_discrete (has by_key (k, e) d.members) 0) (has-cases by_key (k, e) d.members)
  where
    kept : has by_key (k, e) d.members ≡ 1 → Dec (i ≡ cell k e) → get (eff (insert e k) d) i ≡ get d i
    kept p (yes q) = ap (get (eff (insert e k) d)) q ∙ cell-inserted e k d ∙ sym (ap (get d) q ∙ p)
    kept p (no n) = frame (insert e k) d g i n

    at : (t : Dec (has by_key (k, e) d.members ≡ 0)) → (has by_key (k, e) d.members ≡ 0) ⊎ (has by_key (k, e) d.members ≡ 1)
        → undo store (pick t ((cell k e, 0) ∷ []) []) (get (eff (insert e k) d)) i ≡ get d i
    at (yes p) c = undo-one (cell k e) 0 (get (eff (insert e k) d)) (get d) i p (frame (insert e k) d g i)
    at (no n) (inl p) = absurd (n p)
    at (no n) (inr p) = kept p (Item-discrete ℕ_discrete i (cell k e))
undo-of-undoes (remove e k) d g i = at (ℕ_discrete (has by_key (k, e) d.members) 0) (has-cases by_key (k, e) d.members)
  where
    kept : has by_key (k, e) d.members ≡ 0 → Dec (i ≡ cell k e) → get (eff (remove e k) d) i ≡ get d i
    kept p (yes q) = ap (get (eff (remove e k) d)) q ∙ cell-removed e k d ∙ sym (ap (get d) q ∙ p)
    kept p (no n) = frame (remove e k) d g i n

    at : (t : Dec (has by_key (k, e) d.members ≡ 0)) → (has by_key (k, e) d.members ≡ 0) ⊎ (has by_key (k, e) d.members ≡ 1)
        → undo store (pick t [] ((cell k e, 1) ∷ [])) (get (eff (remove e k) d)) i ≡ get d i
    at (yes p) c = kept p (Item-discrete ℕ_discrete i (cell k e))
    at (no n) (inl p) = absurd (n p)
    at (no n) (inr p) = undo-one (cell k e) 1 (get (eff (remove e k) d)) (get d) i p (frame (remove e k) d g i)
undo-of-undoes (locate lo hi) d g i = refl

-- ---- the lock rule in words

-- Whoever has an entry exclusive is its only holder; whoever has a key to update is the only one to hold it to locate.
abbrev pub Apart : Holds → Type 0
Apart H = ((m : Mode) (s t e : ℕ) → H entry strong s e ≡ true → H entry m t e ≡ true → s ≡ t) × ((s t k : ℕ) → H group strong s k ≡ true → H group weak t k ≡ true → s ≡ t)

-- The lowest stored descriptor from a key on: tidy's choice, and what a locate takes next; and what the locate holds below it.
use Rattle.std.specs.Prelude.{◌≡◌, refl, Bool, true, false, cond, List, [], ◌∷◌, suc, ◌≤◌, ◌<◌, ℕ, eqb, leb}
use Rattle.std.proofs.Common.{sym, ◌∙◌, subst, ap, inl, inr, arith}
use Rattle.std.proofs.Math.Option.{some, none-ne-some, some-injective}
use Rattle.serial.specs.Locks.{weak}
use Rattle.serial.specs.Locks as L
use Rattle.machine.specs.Logic.{leb_yes, leb_no, eqb_is, leb-is, eqb_yes}
use Rattle.machine.specs.State.{Desc, Request, State, lowest_from}
use Rattle.machine.specs.Gaps.{locators, gaps, Stored, locators-gap}
use Rattle.machine.specs.View.{seen, locate_word, holders}
use Rattle.machine.specs.Sound.{gap_word, stored_in, Passing}
use Rattle.machine.specs.Groups.{words, Rises, rises-in, rising-words}
use Rattle.machine.specs.Housekeeping.{Ordered, lvs, seen-words}
use Rattle.machine.specs.Keys.{Kept}
use Rattle.machine.specs.Looks.{stored-range, stored-behind, stored_here, ordered-rises}

-- ---- lists

-- It is the head, or behind it.
pub lowest-head : (x : ℕ) (a : Desc) (l : List Desc) → x ≤ a.key → lowest_from x (a ∷ l) ≡ some a
unfolding lowest_from
lowest-head x a l h = ap (λ o. cond o (some a) (lowest_from x l)) (leb_yes x a.key h)

pub lowest-past : (x : ℕ) (a : Desc) (l : List Desc) → a.key < x → lowest_from x (a ∷ l) ≡ lowest_from x l
unfolding lowest_from
lowest-past x a l h = ap (λ o. cond o (some a) (lowest_from x l)) (leb_no x a.key h)

-- The lowest stored descriptor from a key on is stored.
pub lowest-stored : (k : ℕ) (l : List Desc) (d : Desc) → lowest_from k l ≡ some d → (k ≤ d.key) × (stored_in d.key l ≡ true)
unfolding lowest_from stored_in
lowest-stored k [] d e = absurd (none-ne-some d e)
lowest-stored k (x ∷ l) d e = go (leb k x.key) refl e (lowest-stored k l d)
  where
    either_way : (b c : Bool) → c ≡ true → cond b true c ≡ true
    either_way true c e = refl
    either_way false c e = e

    go : (o : Bool) → leb k x.key ≡ o → cond o (some x) (lowest_from k l) ≡ some d → (lowest_from k l ≡ some d → (k ≤ d.key) × (stored_in d.key l ≡ true))
        → (k ≤ d.key) × (cond (eqb x.key d.key) true (stored_in d.key l) ≡ true)
    go true q e ih =
        let z = ap (λ y. y.key) (some-injective x d e) in
        (subst (λ n. k ≤ n) z (leb-is k x.key q), ap (λ b. cond b true (stored_in d.key l)) (eqb_yes x.key d.key z))
    go false q e ih = ((ih e).0, either_way (eqb x.key d.key) (stored_in d.key l) (ih e).1)

pub record Nearest (x : ℕ) (l : List Desc) : Type 0 where
  pub d : Desc
  pub is : lowest_from x l ≡ some d
  pub from : x ≤ d.key
  pub again : lowest_from d.key l ≡ some d
  pub here : stored_in d.key l ≡ true
  pub least : (y : ℕ) → stored_in y l ≡ true → x ≤ y → d.key ≤ y

-- The list begins with a: a key below x is passed over, and every stored key is at least a's.
pub stored_past : (x y : ℕ) (a : Desc) (l : List Desc) → a.key < x → x ≤ y → stored_in y (a ∷ l) ≡ true → stored_in y l ≡ true
unfolding stored_in
stored_past x y a l b c i = at (eqb a.key y) refl i
  where
    at : (o : Bool) → eqb a.key y ≡ o → cond o true (stored_in y l) ≡ true → stored_in y l ≡ true
    at true z w = absurd (omega (arith, eqb_is a.key y z, b, c))
    at false z w = w

pub head-least : (y lo e : ℕ) (a : Desc) (l : List Desc) → Rises lo e (a ∷ l) → stored_in y (a ∷ l) ≡ true → a.key ≤ y
unfolding stored_in
head-least y lo e a l r i = at (eqb a.key y) refl i
  where
    at : (o : Bool) → eqb a.key y ≡ o → cond o true (stored_in y l) ≡ true → a.key ≤ y
    at true z w = omega (arith, eqb_is a.key y z)
    at false z w = omega (arith, (stored-range y (suc a.key) e l (rises-in (suc a.key) e l r.1) w).0)

-- ---- states

pub record Next (x : ℕ) (s : State) (d : Desc) : Type 0 where
  pub K : Kept d.key s
  pub same : K.d ≡ d
  pub from : x ≤ d.key
  pub least : (y : ℕ) → stored_in y (lvs s) ≡ true → x ≤ y → d.key ≤ y

words-stored : (y : ℕ) (l : List Desc) → Stored y (words l) → stored_in y l ≡ true
words-stored y [] x' = elim x' [ ]
words-stored y (d ∷ l) (inl e) = stored_here y d (sym e) [] l
words-stored y (d ∷ l) (inr h) = stored-behind y d l (words-stored y l h)

-- Where nothing is stored above m up to z, the gap at m holds z.
pub gap-holds : (m z : ℕ) (s : State) → Ordered s → m < z → ((y : ℕ) → stored_in y (lvs s) ≡ true → m < y → y ≤ z → ⊥) → locate_word z (seen s) ≡ gap_word m (seen s)
unfolding locate_word gap_word
gap-holds m z s o h n =
    ap (λ w. locators 0 w z) (seen-words s)
    ∙ locators-gap 0 m (words (lvs s)) (rising-words 0 4294967296 (lvs s) (ordered-rises s o)) z h (λ y i. n y (words-stored y (lvs s) i))
    ∙ sym (ap (λ w. gaps 0 w m) (seen-words s))

-- ---- a locate at its next descriptor

pub record Takes (p : ℕ) (s : State) (r : Request) (x : ℕ) (d : Desc) : Type 0 where
  pub passing : Passing p s r x
  pub next : Next x s d
  pub to-second : d.key ≤ r.second
  pub below : (z : ℕ) → r.first ≤ z → z < d.key → holders s L.group weak p z ≡ true

-- Entry locks, reads and writes are events of the lock machine.
use Rattle.std.specs.Prelude.{◌≡◌, ◌⊎◌, length, get_or}
use Rattle.std.proofs.Math.Path.{refl, sym}
use Rattle.std.proofs.Common.{◌∙◌, subst, ap, get_or-set_same, get_or-set_other}
use Rattle.std.proofs.Math.Bool.{true}
use Rattle.std.proofs.Math.Logic.{inl, inr}
use Prim.Native.Nat.{zero, suc, ◌≤◌, ◌<◌, ℕ}
use Rattle.std.proofs.Math.Decide.{ℕ_discrete}
use Rattle.serial.specs.Model.{Item}
use Rattle.serial.specs.Model as R
use Rattle.serial.specs.Locks.{Kind, Mode, weak, strong, Agree}
use Rattle.serial.specs.Locks as L
use Rattle.machine.specs.Holders.{width, holds}
use Rattle.machine.specs.State.{Entry, State, no_entry, entry_of, on_entry}
use Rattle.machine.specs.Steps.{rule, share_by, exclude_by}
use Rattle.machine.specs.View.{items, holders}
use Rattle.machine.specs.Model.{Listed}
use Rattle.machine.specs.Bits.{held_same, held-other, held_more}
use Rattle.machine.specs.Groups.{Rises}
use Rattle.machine.specs.Housekeeping.{Ordered, lvs}

-- What the events ask of a state.
pub record Fit (s : State) : Type 0 where
  pub ordered : Ordered s
  pub rises : Rises 0 4294967296 (lvs s)
  pub listed : Listed (lvs s)
  pub agree : Agree rule (holders s)
  pub few : (k : Kind) (m : Mode) (p z : ℕ) → holders s k m p z ≡ true → (1 ≤ p) × (p ≤ width)
  pub seats : length s.table ≡ suc width

-- ---- one entry changed

pub entry-put : (i : ℕ) (f : Entry → Entry) (s : State) → i < length s.entries → entry_of (suc i) (on_entry (suc i) f s) ≡ f (entry_of (suc i) s)
unfolding entry_of on_entry
entry-put i f s h = get_or-set_same s.entries i (f (get_or s.entries i no_entry)) no_entry h

pub entry_other : (i z : ℕ) (f : Entry → Entry) (s : State) → ¬ (suc i ≡ z) → entry_of z (on_entry (suc i) f s) ≡ entry_of z s
unfolding entry_of on_entry
entry_other i zero f s n = refl
entry_other i (suc j) f s n = get_or-set_other s.entries i j (f (get_or s.entries i no_entry)) no_entry (λ e. n (ap suc (sym e)))

-- What holds of the changed entry, and of every other as it was, holds of each.
pub entry-cases : (i : ℕ) (f : Entry → Entry) (s : State) → i < length s.entries → (P : ℕ → Entry → Type 0) → P (suc i) (f (entry_of (suc i) s))
    → ((z : ℕ) → ¬ (suc i ≡ z) → P z (entry_of z s)) → (z : ℕ) → P z (entry_of z (on_entry (suc i) f s))
entry-cases i f s h P a b z = at (ℕ_discrete (suc i) z)
  where
    at : Dec (suc i ≡ z) → P z (entry_of z (on_entry (suc i) f s))
    at (yes e) = subst (λ y. P y (entry_of y (on_entry (suc i) f s))) e (subst (P (suc i)) (sym (entry-put i f s h)) a)
    at (no n) = subst (P z) (sym (entry_other i z f s n)) (b z n)

-- ---- an entry's words by mode

abbrev pub word : Mode → Entry → ℕ
word weak e = e.share
word strong e = e.exclusive

abbrev pub grant : Mode → ℕ → Entry → Entry
grant weak p e = share_by p e
grant strong p e = exclude_by p e.value e

pub holders_word : (s : State) (n : Mode) (q z : ℕ) → holders s L.entry n q z ≡ holds (word n (entry_of z s)) q
holders_word s weak q z = refl
holders_word s strong q z = refl

grant-other : (m n : Mode) (p q : ℕ) (e : Entry) → ¬ (p ≡ q) → holds (word n (grant m p e)) q ≡ holds (word n e) q
grant-other weak weak p q e n = held-other p q e.share n
grant-other weak strong p q e n = refl
grant-other strong weak p q e n = refl
grant-other strong strong p q e n = held-other p q e.exclusive n

grant-more : (m n : Mode) (p q : ℕ) (e : Entry) → holds (word n e) q ≡ true → holds (word n (grant m p e)) q ≡ true
grant-more weak weak p q e h = held_more p q e.share (ℕ_discrete p q) h
grant-more weak strong p q e h = h
grant-more strong weak p q e h = h
grant-more strong strong p q e h = held_more p q e.exclusive (ℕ_discrete p q) h

grant-new : (m n : Mode) (p q : ℕ) (e : Entry) → holds (word n (grant m p e)) q ≡ true → Dec (p ≡ q) → (holds (word n e) q ≡ true) ⊎ ((p ≡ q) × (m ≡ n))
grant-new m n p q e h (no z) = inl (sym (grant-other m n p q e z) ∙ h)
grant-new weak weak p q e h (yes z) = inr (z, refl)
grant-new weak strong p q e h (yes z) = inl h
grant-new strong weak p q e h (yes z) = inl h
grant-new strong strong p q e h (yes z) = inr (z, refl)

pub granted : (m : Mode) (k : ℕ) (e : Entry) → holds (word m (grant m (suc k) e)) (suc k) ≡ true
granted weak k e = held_same k e.share
granted strong k e = held_same k e.exclusive

grant-value : (m : Mode) (p : ℕ) (e : Entry) → (grant m p e).value ≡ e.value
grant-value weak p e = refl
grant-value strong p e = refl

-- Functions of an entry that differ in the value alone leave the same holders.
pub entry_words : (i : ℕ) (f g : Entry → Entry) (s : State) → i < length s.entries → ((n : Mode) (e : Entry) → word n (f e) ≡ word n (g e))
    → (l : Kind) (n : Mode) (q z : ℕ) → holders (on_entry (suc i) f s) l n q z ≡ holders (on_entry (suc i) g s) l n q z
unfolding on_entry
entry_words i f g s h w L.entry n q z = holders_word (on_entry (suc i) f s) n q z
    ∙ entry-cases i f s h (λ y x. holds (word n x) q ≡ holds (word n (entry_of y (on_entry (suc i) g s))) q)
    (ap (λ x. holds x q) (w n (entry_of (suc i) s) ∙ sym (ap (word n) (entry-put i g s h)))) (λ y e. sym (ap (λ x. holds (word n x) q) (entry_other i y g s e))) z
    ∙ sym (holders_word (on_entry (suc i) g s) n q z)
entry_words i f g s h w L.group weak q z = refl
entry_words i f g s h w L.group strong q z = refl

pub exclude-words : (p v : ℕ) (n : Mode) (e : Entry) → word n (exclude_by p v e) ≡ word n (grant strong p e)
exclude-words p v weak e = refl
exclude-words p v strong e = refl

-- ---- the lock of entry i + 1 in mode m for session p

module _ (m : Mode) (p i : ℕ) (s : State) (r : i < length s.entries) where
  abbrev pub locked_state : State
  locked_state = on_entry (suc i) (grant m p) s

  pub lock-old : (l : Kind) (n : Mode) (q z : ℕ) → holders s l n q z ≡ true → holders locked_state l n q z ≡ true
  unfolding on_entry
  lock-old L.entry n q z h = holders_word locked_state n q z
      ∙ entry-cases i (grant m p) s r (λ y x. holds (word n (entry_of y s)) q ≡ true → holds (word n x) q ≡ true) (grant-more m n p q (entry_of (suc i) s)) (λ y e b. b) z (sym (holders_word s n q z) ∙ h)
  lock-old L.group weak q z h = h
  lock-old L.group strong q z h = h

  pub lock-others : (l : Kind) (n : Mode) (q z : ℕ) → ¬ (p ≡ q) → holders locked_state l n q z ≡ holders s l n q z
  unfolding on_entry
  lock-others L.entry n q z ne = holders_word locked_state n q z
      ∙ entry-cases i (grant m p) s r (λ y x. holds (word n x) q ≡ holds (word n (entry_of y s)) q) (grant-other m n p q (entry_of (suc i) s) ne) (λ y e. refl) z ∙ sym (holders_word s n q z)
  lock-others L.group weak q z ne = refl
  lock-others L.group strong q z ne = refl

  pub lock_new : (l : Kind) (n : Mode) (q z : ℕ) → holders locked_state l n q z ≡ true → (holders s l n q z ≡ true) ⊎ ((p ≡ q) × (L.entry ≡ l) × (m ≡ n) × (suc i ≡ z))
  unfolding on_entry
  lock_new L.entry n q z h =
      entry-cases i (grant m p) s r (λ y x. holds (word n x) q ≡ true → (holders s L.entry n q y ≡ true) ⊎ ((p ≡ q) × (L.entry ≡ L.entry) × (m ≡ n) × (suc i ≡ y)))
      (λ b. sort (grant-new m n p q (entry_of (suc i) s) b (ℕ_discrete p q))) (λ y e b. inl (holders_word s n q y ∙ b)) z (sym (holders_word locked_state n q z) ∙ h)
    where
      sort : (holds (word n (entry_of (suc i) s)) q ≡ true) ⊎ ((p ≡ q) × (m ≡ n)) → (holders s L.entry n q (suc i) ≡ true) ⊎ ((p ≡ q) × (L.entry ≡ L.entry) × (m ≡ n) × (suc i ≡ suc i))
      sort (inl y) = inl (holders_word s n q (suc i) ∙ y)
      sort (inr y) = inr (y.0, refl, y.1, refl)
  lock_new L.group weak q z h = inl h
  lock_new L.group strong q z h = inl h

  pub lock-items : (x : Item) → items locked_state x ≡ items s x
  unfolding on_entry
  lock-items (R.value z) = entry-cases i (grant m p) s r (λ y x. x.value ≡ (entry_of y s).value) (grant-value m p (entry_of (suc i) s)) (λ y e. refl) z
  lock-items (R.cell k e) = refl

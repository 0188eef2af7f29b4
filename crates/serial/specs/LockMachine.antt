-- The lock machine of the entry store: each event by what it does to values, memberships, long locks and undo logs. Demand 3 for every list of
-- its events, under any lock rule in which exclusive agrees with nothing and update disagrees with locate.
use Rattle.std.specs.Prelude.{◌≡◌, refl, Bool, true, false, List, [], ◌∷◌, ◌++◌, ℕ}
use Rattle.std.proofs.Common.{sym, ◌∙◌}
use Rattle.serial.specs.Serial.{State, Held, Ends, Event, begin, grow, commit, abort, finish, quiet, Fresh, undo, Log}
use Rattle.serial.specs.Model.{Item, value, cell, Db, Req, Ans, get, eff, ans, empty}
use Rattle.serial.specs.Footprints.{Good, store}
use Rattle.serial.specs.Locks.{Kind, Mode, Table, Holds, Agree, touches, changes, touches_same, changes_same, Needs, undo_of}

-- What a store means: values and memberships, unfinished sessions, who holds which long lock on which entry or key, and undo logs (document 01: take-back).
pub record Store : Type 0 where
  pub db : Item → ℕ
  pub begun : ℕ → Bool
  pub holds : Holds
  pub log : ℕ → Log store

abbrev pub view : Store → State store
view x = record { db = x.db; begun = x.begun; touches = touches x.holds; changes = changes x.holds; log = x.log }

-- What a session holds stays.
pub record Stays (t : ℕ) (x y : Store) : Type 0 where
  pub holds_kept : (k : Kind) (m : Mode) (z : ℕ) → y.holds k m t z ≡ x.holds k m t z
  pub log_kept : y.log t ≡ x.log t

pub record Opened (s : ℕ) (x y : Store) : Type 0 where
  pub was : x.begun s ≡ false
  pub now : y.begun s ≡ true
  pub begun_others : (t : ℕ) → ¬ (s ≡ t) → y.begun t ≡ x.begun t
  pub stays : (t : ℕ) → Stays t x y
  pub db_kept : (i : Item) → y.db i ≡ x.db i

pub record Finished (s : ℕ) (r : Req) (a : Ans) (x y : Store) : Type 0 where
  pub was : x.begun s ≡ true
  pub needs : Needs x.holds s r
  pub model : Db
  pub model_good : Good model
  pub is_model : (i : Item) → get model i ≡ x.db i
  pub answer : a ≡ ans r model
  pub change : (i : Item) → y.db i ≡ get (eff r model) i
  pub log_now : y.log s ≡ undo_of r model ++ x.log s
  pub log_others : (t : ℕ) → ¬ (s ≡ t) → y.log t ≡ x.log t
  pub holds_same : (k : Kind) (m : Mode) (t z : ℕ) → y.holds k m t z ≡ x.holds k m t z
  pub begun_same : (t : ℕ) → y.begun t ≡ x.begun t

pub record Locked (T : Table) (s : ℕ) (x y : Store) : Type 0 where
  pub was : x.begun s ≡ true
  pub more : (k : Kind) (m : Mode) (z : ℕ) → x.holds k m s z ≡ true → y.holds k m s z ≡ true
  pub log_same : y.log s ≡ x.log s
  pub others : (t : ℕ) → ¬ (s ≡ t) → Stays t x y
  pub begun_same : (t : ℕ) → y.begun t ≡ x.begun t
  pub db_kept : (i : Item) → y.db i ≡ x.db i
  pub agree : Agree T y.holds

pub record Unseen (x y : Store) : Type 0 where
  pub stays : (t : ℕ) → Stays t x y
  pub begun_same : (t : ℕ) → y.begun t ≡ x.begun t
  pub db_kept : (i : Item) → y.db i ≡ x.db i

pub record Ended (s : ℕ) (x y : Store) : Type 0 where
  pub was : x.begun s ≡ true
  pub now : y.begun s ≡ false
  pub holds_off : (k : Kind) (m : Mode) (z : ℕ) → y.holds k m s z ≡ false
  pub log_off : y.log s ≡ []
  pub others : (t : ℕ) → ¬ (s ≡ t) → Stays t x y
  pub begun_others : (t : ℕ) → ¬ (s ≡ t) → y.begun t ≡ x.begun t

pub record Committed (s : ℕ) (x y : Store) : Type 0 where
  pub ended : Ended s x y
  pub db_kept : (i : Item) → y.db i ≡ x.db i

pub record Aborted (s : ℕ) (x y : Store) : Type 0 where
  pub ended : Ended s x y
  pub db_undone : (i : Item) → y.db i ≡ undo store (x.log s) x.db i

abbrev pub Act : Table → Event store → Store → Store → Type 0
Act T (begin s) = Opened s
Act T (grow s) = Locked T s
Act T (commit s) = Committed s
Act T (abort s) = Aborted s
Act T (finish s r a) = Finished s r a
Act T quiet = Unseen

pub stays-held : (t : ℕ) (x y : Store) → Stays t x y → Held store t (view x) (view y)
stays-held t x y h = record {
  touches_kept = touches_same y.holds x.holds t h.holds_kept;
  changes_kept = changes_same y.holds x.holds t h.holds_kept;
  log_kept = h.log_kept;
}

none : Holds
none k m s z = false

touches_off : (H : Holds) (s : ℕ) → ((k : Kind) (m : Mode) (z : ℕ) → H k m s z ≡ false) → (i : Item) → touches H s i ≡ false
unfolding none
touches_off H s h (value e) = touches_same H none s h (value e)
touches_off H s h (cell k e) = touches_same H none s h (cell k e)

changes_off : (H : Holds) (s : ℕ) → ((k : Kind) (m : Mode) (z : ℕ) → H k m s z ≡ false) → (i : Item) → changes H s i ≡ false
unfolding none
changes_off H s h (value e) = changes_same H none s h (value e)
changes_off H s h (cell k e) = changes_same H none s h (cell k e)

pub ended-ends : (s : ℕ) (x y : Store) → Ended s x y → Ends store s (view x) (view y)
ended-ends s x y e = record {
  was = e.was;
  now = e.now;
  touches_off = touches_off y.holds s e.holds_off;
  changes_off = changes_off y.holds s e.holds_off;
  log_off = e.log_off;
  others = λ t n. stays-held t x y (e.others t n);
  begun_others = e.begun_others;
}

pub data Acts (T : Table) : Store → List (Event store) → Store → Type 0 where
  still : {x : Store} → Acts T x [] x
  more : {x y z : Store} {e : Event store} {es : List (Event store)} → Act T e x y → Acts T y es z → Acts T x (e ∷ es) z

-- A fresh store: all values 0, no memberships, no holders, no undo log.
pub record Formatted (x : Store) : Type 0 where
  pub no_values : (i : Item) → x.db i ≡ 0
  pub no_holds : (k : Kind) (m : Mode) (s z : ℕ) → x.holds k m s z ≡ false
  pub no_log : (s : ℕ) → x.log s ≡ []

pub get-empty : (i : Item) → get empty i ≡ 0
get-empty (value e) = refl
get-empty (cell k e) = refl

pub formatted-fresh : (x : Store) → Formatted x → Fresh store empty (view x)
formatted-fresh x f = record {
  stored = λ i. f.no_values i ∙ sym (get-empty i);
  no_touches = λ s. touches_off x.holds s (λ k m z. f.no_holds k m s z);
  no_changes = λ s. changes_off x.holds s (λ k m z. f.no_holds k m s z);
  no_log = f.no_log;
}

-- The last step of an insert or remove, on words: the update lock, and the change.
use Rattle.std.specs.Prelude.{◌≡◌, Bool, true, false, cond, List, ℕ, ◌≤◌, eqb}
use Rattle.words.specs.Store.{HasRecord, word_of}
use Rattle.words.specs.Header.{header_word, free_place}
use Rattle.groups.specs.Descriptor.{descriptor_at}
use Rattle.chain.specs.Free.{Poppable, pop_free}
use Rattle.chain.specs.Walk.{Walk}
use Rattle.locks.specs.Holders.{word_bits, blockers, first_of}
use Rattle.sessions.specs.declared.Session.{Session}
use Rattle.outcomes.specs.declared.Answer.TheVariants.{Wait, Done, Refused}
use Rattle.outcomes.specs.Said.{Stepped}
use Rattle.members.specs.Members.{Pinned, Holdable, Puttable, Takeable, put_member, take_member, update_at, unpin_at}
use Rattle.undo_log.specs.Undoing.{Loggable, log_added, log_taken}
use Rattle.endings.specs.Table.{logged_by, idled}
use Rattle.scans.specs.Scans.{membership_of}

-- Session p holds the key of descriptor d in update mode, and its request pins d no more.
unfoldable pub hold_and_end : List ℕ → ℕ → ℕ → ℕ → List ℕ
hold_and_end s m d p = unpin_at (update_at s m d p) m d

-- The lowest session in the way of the update lock, 0 for none.
unfoldable pub change_blocker : List ℕ → ℕ → ℕ → ℕ → ℕ
change_blocker s m d p = first_of (blockers word_bits 1 1 p (descriptor_at s m d).locate (descriptor_at s m d).update)

-- Nothing is changed: an insert of a member, a remove of none.
unfoldable pub keep_step : List ℕ → ℕ → ℕ → Session → ℕ → Stepped
keep_step s m p x d = record { words = hold_and_end s m d p; session = idled x; answer = Done 0 }

-- The entry is added: the first free record is its membership, the second one the undo record.
unfoldable pub added_words : List ℕ → ℕ → Session → ℕ → List ℕ
added_words s m x d =
    log_added (put_member (pop_free s m) m d (header_word s free_place) x.entry) m x.entry (header_word s free_place) d x.undo

unfoldable pub add_step : List ℕ → ℕ → ℕ → Session → ℕ → Stepped
add_step s m p x d = record {
  words = hold_and_end (added_words s m x d) m d p;
  session = logged_by x (header_word (put_member (pop_free s m) m d (header_word s free_place) x.entry) free_place);
  answer = Done 1;
}

-- The entry is taken out: its membership i becomes the undo record.
unfoldable pub taken_words : List ℕ → ℕ → Session → ℕ → ℕ → List ℕ
taken_words s m x d i = log_taken (take_member s m d i) m i x.entry d x.undo

unfoldable pub take_step_of : List ℕ → ℕ → ℕ → Session → ℕ → ℕ → Stepped
take_step_of s m p x d i = record { words = hold_and_end (taken_words s m x d i) m d p; session = logged_by x i; answer = Done 1 }

-- Too few records are free.
unfoldable pub refuse_step : List ℕ → ℕ → Session → ℕ → Stepped
refuse_step s m x d = record { words = unpin_at s m d; session = idled x; answer = Refused 11 0 }

unfoldable pub wait_step : List ℕ → Session → ℕ → Stepped
wait_step s x q = record { words = s; session = x; answer = Wait q }

-- At least two records are free.
unfoldable pub has_two : List ℕ → ℕ → Bool
has_two s m = cond (eqb (header_word s free_place) 0) false (cond (eqb (word_of s m (header_word s free_place) 0) 0) false true)

-- i is the entry's membership in the group of descriptor d, 0 for none.
unfoldable pub room_step : List ℕ → ℕ → ℕ → Session → ℕ → Stepped
room_step s m p x d = cond (has_two s m) (add_step s m p x d) (refuse_step s m x d)

unfoldable pub insert_step : List ℕ → ℕ → ℕ → Session → ℕ → ℕ → Stepped
insert_step s m p x d i = cond (eqb i 0) (room_step s m p x d) (keep_step s m p x d)

unfoldable pub remove_step : List ℕ → ℕ → ℕ → Session → ℕ → ℕ → Stepped
remove_step s m p x d i = cond (eqb i 0) (keep_step s m p x d) (take_step_of s m p x d i)

unfoldable pub code_step : List ℕ → ℕ → ℕ → Session → ℕ → ℕ → Stepped
code_step s m p x d i = cond (eqb x.code 3) (insert_step s m p x d i) (remove_step s m p x d i)

-- The step at descriptor d, of at most r records in a chain.
unfoldable pub change_at : List ℕ → ℕ → ℕ → ℕ → Session → ℕ → Stepped
change_at s m r p x d =
    let q : ℕ = change_blocker s m d p in
    cond (eqb q 0) (code_step s m p x d (membership_of s m r (descriptor_at s m d).first x.entry)) (wait_step s x q)

unfoldable pub change_step : List ℕ → ℕ → ℕ → ℕ → Session → Stepped
change_step s m r p x = change_at s m r p x x.low

-- ---- what the words must have

pub record BlockerReady (s : List ℕ) (m d p : ℕ) : Type 0 where
  pub has : HasRecord s m d
  pub first : 1 ≤ p
  pub last : p ≤ 32

pub record Ends (s : List ℕ) (m d p : ℕ) : Type 0 where
  pub held : Holdable s m d p
  pub pinned : Pinned (update_at s m d p) m d

pub record AddReady (s : List ℕ) (m : ℕ) (x : Session) (d : ℕ) : Type 0 where
  pub pop : Poppable s m
  pub put : Puttable (pop_free s m) m d (header_word s free_place)
  pub log : Loggable (put_member (pop_free s m) m d (header_word s free_place) x.entry) m

pub record AddsReady (s : List ℕ) (m p : ℕ) (x : Session) (d : ℕ) : Type 0 where
  pub add : AddReady s m x d
  pub ends : Ends (added_words s m x d) m d p

pub record TakesReady (s : List ℕ) (m p : ℕ) (x : Session) (d i : ℕ) : Type 0 where
  pub take : Takeable s m d i
  pub ends : Ends (taken_words s m x d i) m d p

pub record RoomReady (s : List ℕ) (m p : ℕ) (x : Session) (d : ℕ) : Type 0 where
  pub pop : Poppable s m
  pub pinned : Pinned s m d
  pub adds : has_two s m ≡ true → AddsReady s m p x d

pub record InsertReady (s : List ℕ) (m p : ℕ) (x : Session) (d i : ℕ) : Type 0 where
  pub ends : Ends s m d p
  pub room : i ≡ 0 → RoomReady s m p x d

pub record RemoveReady (s : List ℕ) (m p : ℕ) (x : Session) (d i : ℕ) : Type 0 where
  pub ends : Ends s m d p
  pub takes : ¬ (i ≡ 0) → TakesReady s m p x d i

pub record CodeReady (s : List ℕ) (m p : ℕ) (x : Session) (d i : ℕ) : Type 0 where
  pub insert : InsertReady s m p x d i
  pub remove : RemoveReady s m p x d i

pub record ChangeReady (s : List ℕ) (m r p : ℕ) (x : Session) : Type 0 where
  pub has : HasRecord s m x.low
  pub first : 1 ≤ p
  pub last : p ≤ 32
  pub walk : Walk s m r (descriptor_at s m x.low).first
  pub code : CodeReady s m p x x.low (membership_of s m r (descriptor_at s m x.low).first x.entry)

-- The step of a locate that takes a descriptor, on words.
use Rattle.std.specs.Prelude.{◌≡◌, cond, List, [], ◌++◌, ℕ, ◌*◌, ◌≤◌, eqb, leb, ltb, length, drop}
use Rattle.words.specs.Store.{HasRecord, word_of}
use Rattle.locks.specs.Holders.{word_bits, blockers, first_of}
use Rattle.sessions.specs.declared.Session.{Session}
use Rattle.outcomes.specs.declared.Answer.TheVariants.{More, Wait, Done, Refused}
use Rattle.outcomes.specs.Said.{Stepped}
use Rattle.scans.specs.Scans.{last_upto, range_words, range_count, CanFollow, CanCount}
use Rattle.members.specs.Members.{Holdable, pass_at, locate_at}
use Rattle.endings.specs.Table.{idled}
use Rattle.finishing.specs.Finishing.{Endable, end_request}
use Rattle.taking.specs.Place.{next_taken}
use Rattle.taking.specs.Pass.{took_key}

-- The lowest session in the way of p at descriptor d, 0 for none: the kind is groups, the mode asked locate.
unfoldable pub in_way_of : List ℕ → ℕ → ℕ → ℕ → ℕ
in_way_of s m d p = first_of (blockers word_bits 1 0 p (word_of s m d 2) (word_of s m d 3))

-- How many pairs the range has.
unfoldable pub found_in : List ℕ → ℕ → ℕ → Session → ℕ
found_in s m r x = range_count s m r r x.low x.second

unfoldable pub wait_step : List ℕ → ℕ → Session → Stepped
wait_step s b x = record { words = s; session = x; answer = Wait b }

-- Below second.
unfoldable pub pass_step : List ℕ → ℕ → ℕ → ℕ → Session → Stepped
pass_step s m d p x = record { words = pass_at s m d p; session = took_key x (word_of s m d 1); answer = More }

-- At second, n pairs: with room in the list; with a list that is too short.
unfoldable pub done_step : List ℕ → ℕ → ℕ → ℕ → Session → ℕ → Stepped
done_step s m d p x n = record { words = end_request (locate_at s m d p) m x; session = idled x; answer = Done n }

unfoldable pub short_step : List ℕ → ℕ → Session → ℕ → Stepped
short_step s m x n = record { words = end_request s m x; session = idled x; answer = Refused 12 n }

-- n words of list are lent.
unfoldable pub last_step : List ℕ → ℕ → ℕ → ℕ → ℕ → ℕ → Session → Stepped
last_step s m r n d p x = cond (leb (2 * found_in s m r x) n) (done_step s m d p x (found_in s m r x)) (short_step s m x (found_in s m r x))

unfoldable pub free_step : List ℕ → ℕ → ℕ → ℕ → ℕ → ℕ → Session → Stepped
free_step s m r n d p x = cond (ltb (word_of s m d 1) x.second) (pass_step s m d p x) (last_step s m r n d p x)

unfoldable pub take_step_of : List ℕ → ℕ → ℕ → ℕ → ℕ → Session → Stepped
take_step_of s m r n p x =
    let d = next_taken s m r x in
    cond (eqb (in_way_of s m d p) 0) (free_step s m r n d p x) (wait_step s (in_way_of s m d p) x)

-- The words that are written at the start of the list.
unfoldable pub last_written : List ℕ → ℕ → ℕ → ℕ → Session → List ℕ
last_written s m r n x = cond (leb (2 * found_in s m r x) n) (range_words s m r r x.low x.second) []

unfoldable pub free_written : List ℕ → ℕ → ℕ → ℕ → ℕ → Session → List ℕ
free_written s m r n d x = cond (ltb (word_of s m d 1) x.second) [] (last_written s m r n x)

unfoldable pub take_written : List ℕ → ℕ → ℕ → ℕ → ℕ → Session → List ℕ
take_written s m r n p x =
    let d = next_taken s m r x in
    cond (eqb (in_way_of s m d p) 0) (free_written s m r n d x) []

-- The list with w written at its start, later words as they were.
abbrev pub over : List ℕ → List ℕ → List ℕ
over w l = w ++ drop (length w) l

-- ---- what the words must have

-- The record that is next can be found.
pub record CanFind (s : List ℕ) (m r : ℕ) (x : Session) : Type 0 where
  pub follow : ¬ (x.last ≡ 0) → CanFollow s m r x.low
  pub behind : ¬ (x.last ≡ 0) → HasRecord s m (last_upto s m r x.low x.last)

-- The lock can be granted, and the request ended with it.
pub record DoneReady (s : List ℕ) (m d p : ℕ) (x : Session) : Type 0 where
  pub hold : Holdable s m d p
  pub ends : Endable (locate_at s m d p) m x

-- The step at second can be done: the range counted and written, and the request ended, with its lock or without.
pub record LastReady (s : List ℕ) (m r d p : ℕ) (x : Session) : Type 0 where
  pub done : DoneReady s m d p x
  pub count : CanCount s m r x.low
  pub few : found_in s m r x ≤ 4096
  pub ends : Endable s m x

pub record TakeReady (s : List ℕ) (m r p : ℕ) (x : Session) : Type 0 where
  pub find : CanFind s m r x
  pub last : LastReady s m r (next_taken s m r x) p x

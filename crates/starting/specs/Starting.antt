-- What the first step of a request does to the words, by its code (document 01, "Steps"): read, write, the entry lock of insert and remove, and a tidy that
-- chose nothing. p is the party, x its session record.
use Rattle.std.specs.Prelude.{◌≡◌, cond, List, ℕ, ◌≤◌, eqb, leb, length}
use Rattle.words.specs.Store.{HasRecord}
use Rattle.words.specs.Header.{header_word, free_place}
use Rattle.words.specs.Entries.{HasEntry, entry_word, put_entry_word}
use Rattle.locks.specs.Holders.{word_bits, held_by, blockers, first_of}
use Rattle.sessions.specs.declared.Session.{Session}
use Rattle.outcomes.specs.declared.Answer.TheVariants.{More, Wait, Done, Tidied, Refused}
use Rattle.outcomes.specs.declared.Moved.{Moved}
use Rattle.outcomes.specs.Said.{Stepped}
use Rattle.undo_log.specs.Undoing.{Loggable, log_value}
use Rattle.endings.specs.Table.{logged_by, idled}

-- ---- what every first step shares

-- The lowest session in the way of p's lock on entry e, 0 if none is: share is asked by 0, exclusive by 1.
unfoldable pub entry_blocker : List ℕ → ℕ → ℕ → ℕ → ℕ
entry_blocker s e asked p = first_of (blockers word_bits 0 asked p (entry_word s e 1) (entry_word s e 2))

-- A step that waits for session q; one that is refused for want of a record; one that finishes the request.
unfoldable pub waits : List ℕ → Session → ℕ → Stepped
waits s x q = record { words = s; session = x; answer = Wait q }

unfoldable pub refuses : List ℕ → Session → Stepped
refuses s x = record { words = s; session = idled x; answer = Refused 11 0 }

unfoldable pub unless_held : ℕ → List ℕ → Session → Stepped → Stepped
unless_held q s x z = cond (eqb q 0) z (waits s x q)

-- ---- read

unfoldable pub shared_words : List ℕ → ℕ → ℕ → List ℕ
shared_words s p e = put_entry_word s e 1 (held_by p (entry_word s e 1))

unfoldable pub read_done_of : List ℕ → ℕ → Session → Stepped
read_done_of s p x = record { words = shared_words s p x.entry; session = idled x; answer = Done (entry_word s x.entry 0) }

unfoldable pub read_step : List ℕ → ℕ → Session → Stepped
read_step s p x = unless_held (entry_blocker s x.entry 0 p) s x (read_done_of s p x)

-- ---- write

unfoldable pub excluded_words : List ℕ → ℕ → ℕ → List ℕ
excluded_words s p e = put_entry_word s e 2 (held_by p (entry_word s e 2))

-- The old value is logged in the first free record; the entry has the new one and the lock.
unfoldable pub written_words : List ℕ → ℕ → ℕ → Session → List ℕ
written_words s m p x = excluded_words (put_entry_word (log_value s m x.entry (entry_word s x.entry 0) x.undo) x.entry 0 x.first) p x.entry

unfoldable pub write_done_of : List ℕ → ℕ → ℕ → Session → Stepped
write_done_of s m p x = record { words = written_words s m p x; session = logged_by x (header_word s free_place); answer = Done 0 }

unfoldable pub write_free : List ℕ → ℕ → ℕ → Session → Stepped
write_free s m p x = cond (eqb (header_word s free_place) 0) (refuses s x) (write_done_of s m p x)

unfoldable pub write_step_of : List ℕ → ℕ → ℕ → Session → Stepped
write_step_of s m p x = unless_held (entry_blocker s x.entry 1 p) s x (write_free s m p x)

-- ---- insert, remove

-- The descent to first begins.
unfoldable pub to_first : Session → Session
to_first x =
    record {
      begun = x.begun;
      code = x.code;
      entry = x.entry;
      first = x.first;
      second = x.second;
      stage = 2;
      target = x.first;
      at = x.at;
      level = x.level;
      low = x.low;
      high = x.high;
      last = x.last;
      undo = x.undo;
      order = x.order;
      asked = x.asked;
    }

unfoldable pub entry_done_of : List ℕ → ℕ → Session → Stepped
entry_done_of s p x = record { words = excluded_words s p x.entry; session = to_first x; answer = More }

unfoldable pub entry_step : List ℕ → ℕ → Session → Stepped
entry_step s p x = unless_held (entry_blocker s x.entry 1 p) s x (entry_done_of s p x)

-- ---- a tidy that chose nothing

unfoldable pub none_chosen : Session → Moved
none_chosen x = record { answer = Tidied 0 0; session = idled x }

unfoldable pub tidied_none : List ℕ → Session → Stepped
tidied_none s x = record { words = s; session = idled x; answer = Tidied 0 0 }

-- ---- by code

unfoldable pub first_step_of : List ℕ → ℕ → ℕ → Session → Stepped
first_step_of s m p x =
    cond (eqb x.code 1) (read_step s p x) (cond (eqb x.code 2) (write_step_of s m p x) (cond (leb x.code 4) (entry_step s p x) (tidied_none s x)))

-- ---- what the words must have

-- The entry is there, and the party is a session.
pub record EntryReady (s : List ℕ) (p e : ℕ) : Type 0 where
  pub entry : HasEntry s e
  pub first : 1 ≤ p
  pub last : p ≤ word_bits

-- There is a free record too.
pub record LogReady (s : List ℕ) (m p e : ℕ) : Type 0 where
  pub held : EntryReady s p e
  pub log : Loggable s m

-- There may be one.
pub record WriteReady (s : List ℕ) (m p e : ℕ) : Type 0 where
  pub held : EntryReady s p e
  pub header : 16 ≤ length s
  pub free : ¬ (header_word s free_place ≡ 0) → HasRecord s m (header_word s free_place)

pub record FirstReady (s : List ℕ) (m p : ℕ) (x : Session) : Type 0 where
  pub least : 1 ≤ x.code
  pub held : x.code ≤ 4 → EntryReady s p x.entry
  pub header : 16 ≤ length s
  pub free : ¬ (header_word s free_place ≡ 0) → HasRecord s m (header_word s free_place)

-- What the rows at a lowest node leave: words, session record and answer. x is the session record of the party; everything is read of the words at entry.
use Rattle.std.specs.Prelude.{cond, List, ℕ, ◌-◌, eqb}
use Rattle.words.specs.Store.{word_of}
use Rattle.words.specs.Header.{header_word, first_place, free_place}
use Rattle.groups.specs.Descriptor.{descriptor_at, put_descriptor, made_in, with_next_descriptor, removable}
use Rattle.chain.specs.Free.{pop_free, push_free}
use Rattle.scans.specs.Scans.{last_upto}
use Rattle.nodes.specs.Paths.{son_toward}
use Rattle.nodes.specs.Ops.{latch_at}
use Rattle.descents.specs.Descents.{insert_leaf, remove_leaf}
use Rattle.members.specs.Members.{pin_at}
use Rattle.sessions.specs.declared.Session.{Session}
use Rattle.endings.specs.Table.{idled}
use Rattle.finishing.specs.Finishing.{end_request}
use Rattle.outcomes.specs.Said.{Stepped}
use Rattle.outcomes.specs.declared.Answer.TheVariants.{More, Tidied, Refused}

-- ---- the session record after a descent, whose descriptor is at record d

abbrev pub staged : Session → ℕ → ℕ → ℕ → ℕ → ℕ → Session
staged x stage target low high last =
    record {
      begun = x.begun;
      code = x.code;
      entry = x.entry;
      first = x.first;
      second = x.second;
      stage = stage;
      target = target;
      at = x.at;
      level = x.level;
      low = low;
      high = high;
      last = last;
      undo = x.undo;
      order = x.order;
      asked = x.asked;
    }

-- An insert or remove changes the group.
unfoldable pub to_change : Session → ℕ → Session
to_change x d = staged x 4 x.target d x.high x.last

-- A locate goes on to second.
unfoldable pub to_second : Session → ℕ → Session
to_second x d = staged x 2 x.second d x.high x.last

-- A locate takes its range: d is first's own, or second's.
unfoldable pub to_take : Session → ℕ → Session
to_take x d = cond (eqb x.first x.second) (staged x 5 x.target d x.high 0) (staged x 5 x.target x.low d 0)

unfoldable pub arrived_at : Session → ℕ → Session
arrived_at x d = cond (eqb x.code 5) (cond (eqb x.target x.second) (to_take x d) (to_second x d)) (to_change x d)

-- ---- a stored key

unfoldable pub pin_words : List ℕ → ℕ → Session → List ℕ
pin_words s m x = pin_at (latch_at s m x.at 0) m (son_toward s m x.at x.target)

unfoldable pub pin_step : List ℕ → ℕ → Session → Stepped
pin_step s m x = record { words = pin_words s m x; session = arrived_at x (son_toward s m x.at x.target); answer = More }

-- ---- a key that is not stored

-- The descriptor before a key, of r records.
unfoldable pub pred_of : List ℕ → ℕ → ℕ → ℕ → ℕ
pred_of s m r key = last_upto s m r (header_word s first_place) (key - 1)

-- A free record becomes the key's descriptor, behind the one before it, at record b, and beside the one on the path.
unfoldable pub make_at : List ℕ → ℕ → ℕ → ℕ → ℕ → List ℕ
make_at s m at key b =
    let a = header_word s free_place in
    let d = descriptor_at s m b in
    insert_leaf (put_descriptor (put_descriptor (pop_free s m) m a (made_in d.gap key d.next)) m b (with_next_descriptor d a)) m at key a

unfoldable pub make_words : List ℕ → ℕ → ℕ → Session → List ℕ
make_words s m r x = make_at s m x.at x.target (pred_of s m r x.target)

unfoldable pub made_step : List ℕ → ℕ → ℕ → Session → Stepped
made_step s m r x = record { words = make_words s m r x; session = arrived_at x (header_word s free_place); answer = More }

-- No record is free.
unfoldable pub full_step : List ℕ → ℕ → Session → Stepped
full_step s m x = record { words = end_request s m x; session = idled x; answer = Refused 11 0 }

unfoldable pub make_step : List ℕ → ℕ → ℕ → Session → Stepped
make_step s m r x = cond (eqb (header_word s free_place) 0) (full_step s m x) (made_step s m r x)

-- ---- tidy

-- The descriptor d on the path goes, and its record is free; b is the one before it.
unfoldable pub tidy_at : List ℕ → ℕ → ℕ → ℕ → ℕ → ℕ → List ℕ
tidy_at s m at key b d = push_free (remove_leaf (put_descriptor s m b (with_next_descriptor (descriptor_at s m b) (descriptor_at s m d).next)) m at key) m d

unfoldable pub gone_step : List ℕ → ℕ → ℕ → ℕ → Session → Stepped
gone_step s m b d x = record { words = tidy_at s m x.at x.target b d; session = idled x; answer = Tidied x.target 1 }

unfoldable pub left_step : List ℕ → ℕ → Session → Stepped
left_step s m x = record { words = latch_at s m x.at 0; session = idled x; answer = Tidied x.target 0 }

unfoldable pub tidy_step : List ℕ → ℕ → ℕ → Session → Stepped
tidy_step s m r x =
    let b = pred_of s m r x.target in
    let d = son_toward s m x.at x.target in
    cond (removable (descriptor_at s m d) (descriptor_at s m b).gap) (gone_step s m b d x) (left_step s m x)

-- ---- the row of party p

unfoldable pub session_step : List ℕ → ℕ → ℕ → Session → Stepped
session_step s m r x = cond (eqb (word_of s m (son_toward s m x.at x.target) 1) x.target) (pin_step s m x) (make_step s m r x)

unfoldable pub lowest_step_of : List ℕ → ℕ → ℕ → ℕ → Session → Stepped
lowest_step_of s m r p x = cond (eqb p 0) (tidy_step s m r x) (session_step s m r x)

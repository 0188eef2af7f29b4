-- A session's record by value: a request or the session ends, the session begins, a request comes to hand.
use Rattle.std.specs.Prelude.{ℕ}
use Rattle.sessions.specs.declared.Session.{Session}

-- no request in hand
unfoldable pub idled : Session → Session
idled x =
    record {
      begun = x.begun;
      code = x.code;
      entry = x.entry;
      first = x.first;
      second = x.second;
      stage = 0;
      target = x.target;
      at = x.at;
      level = x.level;
      low = x.low;
      high = x.high;
      last = x.last;
      undo = x.undo;
      order = x.order;
      asked = x.asked;
    }

-- no request in hand, and record i the newest undo record
unfoldable pub logged_by : Session → ℕ → Session
logged_by x i =
    record {
      begun = x.begun;
      code = x.code;
      entry = x.entry;
      first = x.first;
      second = x.second;
      stage = 0;
      target = x.target;
      at = x.at;
      level = x.level;
      low = x.low;
      high = x.high;
      last = x.last;
      undo = i;
      order = x.order;
      asked = x.asked;
    }

-- as begun and order say, with no request in hand, no undo record, and not asked
abbrev pub marked : ℕ → ℕ → Session → Session
marked begun order x =
    record {
      begun = begun;
      code = x.code;
      entry = x.entry;
      first = x.first;
      second = x.second;
      stage = 0;
      target = x.target;
      at = x.at;
      level = x.level;
      low = x.low;
      high = x.high;
      last = x.last;
      undo = 0;
      order = order;
      asked = 0;
    }

-- asked
unfoldable pub asked_now : Session → Session
asked_now x =
    record {
      begun = x.begun;
      code = x.code;
      entry = x.entry;
      first = x.first;
      second = x.second;
      stage = x.stage;
      target = x.target;
      at = x.at;
      level = x.level;
      low = x.low;
      high = x.high;
      last = x.last;
      undo = x.undo;
      order = x.order;
      asked = 1;
    }

unfoldable pub unbegun : Session → Session
unbegun x = marked 0 0 x

-- with its place in the order of begins
unfoldable pub newly_begun : Session → ℕ → Session
newly_begun x number = marked 1 number x

-- the request, its first stage, and the key that its descent goes to
unfoldable pub requested : Session → ℕ → ℕ → ℕ → ℕ → ℕ → ℕ → Session
requested x code entry first second stage target =
    record {
      begun = x.begun;
      code = code;
      entry = entry;
      first = first;
      second = second;
      stage = stage;
      target = target;
      at = 0;
      level = 0;
      low = 0;
      high = 0;
      last = 0;
      undo = x.undo;
      order = x.order;
      asked = x.asked;
    }

-- The session table: a list of session records, party p's at place p.
use Rattle.std.specs.Prelude.{List, Bool, not, ℕ, suc, eqb, get_or}
use Rattle.locks.specs.Holders.{width}
use Rattle.sessions.specs.declared.Session.{Session}

-- how many parties there are: the sessions and the housekeeper
abbrev pub parties : ℕ
parties = suc width

-- not begun, no request in hand, no undo record
abbrev pub idle_session : Session
idle_session =
    record {
      begun = 0;
      code = 0;
      entry = 0;
      first = 0;
      second = 0;
      stage = 0;
      target = 0;
      at = 0;
      level = 0;
      low = 0;
      high = 0;
      last = 0;
      undo = 0;
      order = 0;
      asked = 0;
    }

-- party p's record
abbrev pub session_at : List Session → ℕ → Session
session_at t p = get_or t p idle_session

unfoldable pub is_begun : Session → Bool
is_begun x = not (eqb x.begun 0)

-- whether a session is begun, its place in the order of begins, and whether it is asked: what no step changes
abbrev pub tenure : Session → ℕ × ℕ × ℕ
tenure x = (x.begun, x.order, x.asked)

-- at another place in the order of begins
abbrev pub numbered : ℕ → Session → Session
numbered n x =
    record {
      begun = x.begun;
      code = x.code;
      entry = x.entry;
      first = x.first;
      second = x.second;
      stage = x.stage;
      target = x.target;
      at = x.at;
      level = x.level;
      low = x.low;
      high = x.high;
      last = x.last;
      undo = x.undo;
      order = n;
      asked = x.asked;
    }

-- Requests in hand: the checks that put makes on code and arguments, and the stages that a code has: 1 start, 2 enter the root, 3 at a node,
-- 4 change, 5 take.
use Rattle.std.specs.Prelude.{Bool, false, cond, not, ◌&&◌, ◌||◌, ℕ, eqb, ltb, leb}
use Rattle.sessions.specs.declared.Session.{Session}
use Rattle.marks.specs.Marks.{entry_ok, key_ok}

-- a read or a write
unfoldable pub value_ok : Session → ℕ → Bool
value_ok s m = entry_ok s.entry m && eqb s.stage 1

-- an insert or a remove: at its start, at its change, or on its way to first
unfoldable pub change_ok : Session → ℕ → Bool
change_ok s m =
    entry_ok s.entry m && key_ok s.first && leb s.stage 4
    && (eqb s.stage 1 || eqb s.stage 4 || eqb s.target s.first)

-- a locate takes, its last key being 0 for none or in [first, second); or it is on its way to first or to second
unfoldable pub locate_stage : Session → Bool
locate_stage s =
    cond (eqb s.stage 5)
    (eqb s.last 0 || (leb s.first s.last && ltb s.last s.second))
    (leb 2 s.stage && leb s.stage 3 && (eqb s.target s.first || eqb s.target s.second))

unfoldable pub locate_ok : Session → Bool
locate_ok s = key_ok s.first && key_ok s.second && leb s.first s.second && locate_stage s

-- a tidy: with nothing to choose, or on its way to a choice above first
unfoldable pub tidy_ok : Session → Bool
tidy_ok s = eqb s.code 6 && (eqb s.stage 1 || (leb s.stage 3 && ltb s.first s.target))

-- a session's request by its code
unfoldable pub code_ok : Session → ℕ → Bool
code_ok s m =
    cond (eqb s.code 0) false
    (cond (leb s.code 2) (value_ok s m) (cond (leb s.code 4) (change_ok s m) (cond (eqb s.code 5) (locate_ok s) false)))

-- party p's request, if it has one; a session that is not begun has none
unfoldable pub request_ok : ℕ → Session → ℕ → Bool
request_ok p s m = eqb s.stage 0 || cond (eqb p 0) (tidy_ok s) (not (eqb s.begun 0) && code_ok s m)

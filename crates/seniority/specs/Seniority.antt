-- The order of begins (document 02, M-101): each session record has a number, and of two begun sessions the one with the lower number began
-- first. All is of the sessions 1 to `width`: the number of record 0 is free.
use Rattle.std.specs.Prelude.{List, [], ◌∷◌, map, Bool, true, false, cond, not, ◌&&◌, ◌||◌, ℕ, zero, suc, ◌+◌, eqb, ltb}
use Rattle.locks.specs.Holders.{width, holders}
use Rattle.sessions.specs.declared.Session.{Session}
use Rattle.sessions.specs.Sessions.{session_at, is_begun, numbered}

-- ---- ranks

-- how many sessions from p on, of n of them, have a property
unfoldable pub many_from : (Session → Bool) → List Session → ℕ → ℕ → ℕ
many_from f t p zero = 0
many_from f t p (suc n) = let rest = many_from f t (p + 1) n in cond (f (session_at t p)) (suc rest) rest

-- begun, with a number below n
unfoldable pub is_earlier : ℕ → Session → Bool
is_earlier n x = is_begun x && ltb x.order n

-- how many begun sessions have a number below n
unfoldable pub earlier_in : List Session → ℕ → ℕ
earlier_in t n = many_from (is_earlier n) t 1 width

-- how many sessions are begun
unfoldable pub begun_in : List Session → ℕ
begun_in t = many_from is_begun t 1 width

-- a begun session's number becomes its rank: 1 and how many have a lower one
unfoldable pub ranked_in : List Session → Session → Session
ranked_in t x = cond (is_begun x) (numbered (suc (earlier_in t x.order)) x) x

-- every record but the first, changed
unfoldable pub but_first : (Session → Session) → List Session → List Session
but_first f [] = []
but_first f (x ∷ t) = x ∷ map f t

-- the table with every session ranked
unfoldable pub renumbered_in : List Session → List Session
renumbered_in t = but_first (ranked_in t) t

-- ---- no two share a number

-- begun, with number n
unfoldable pub is_numbered : ℕ → Session → Bool
is_numbered n x = is_begun x && eqb x.order n

-- some session from p on, of k of them, is begun and has number n
unfoldable pub shared_from : List Session → ℕ → ℕ → ℕ → Bool
shared_from t n p zero = false
shared_from t n p (suc k) = is_numbered n (session_at t p) || shared_from t n (p + 1) k

-- no two begun sessions from p on, of n of them, share a number
unfoldable pub distinct_from : List Session → ℕ → ℕ → Bool
distinct_from t p zero = true
distinct_from t p (suc n) = not (is_begun (session_at t p) && shared_from t (session_at t p).order (p + 1) n) && distinct_from t (p + 1) n

-- no two begun sessions share a number
unfoldable pub distinct_in : List Session → Bool
distinct_in t = distinct_from t 1 width

-- ---- who began first

-- of two sessions the one with the lower number, the first where they are equal
unfoldable pub elder_of : List Session → ℕ → ℕ → ℕ
elder_of t b c = cond (ltb (session_at t c).order (session_at t b).order) c b

-- of b and the sessions of a list, each held against the best so far
unfoldable pub eldest_from : List Session → ℕ → List ℕ → ℕ
eldest_from t b [] = b
eldest_from t b (c ∷ cs) = eldest_from t (elder_of t b c) cs

-- of the sessions of a list, 0 for none
unfoldable pub eldest_of : List Session → List ℕ → ℕ
eldest_of t [] = 0
eldest_of t (b ∷ cs) = eldest_from t b cs

-- of the sessions of a holders word
unfoldable pub eldest_in : List Session → ℕ → ℕ
eldest_in t w = eldest_of t (holders width w)

-- of what is found so far, 0 for none, and session c
unfoldable pub best_of : List Session → ℕ → ℕ → ℕ
best_of t b c = cond (eqb b 0) c (elder_of t b c)

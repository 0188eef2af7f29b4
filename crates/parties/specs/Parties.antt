-- The whole session table: every party stands right, how many are at a node, and every chain of undo records is in order.
use Rattle.std.specs.Prelude.{List, Bool, true, false, cond, not, ◌||◌, ℕ, zero, suc, ◌+◌, ◌-◌, eqb}
use Rattle.sessions.specs.declared.Session.{Session}
use Rattle.sessions.specs.Sessions.{parties, session_at}
use Rattle.marks.specs.Trail.{Turn, turn, then_turn, Trail, ends, then_trail}
use Rattle.undo_chains.specs.UndoChains.{undos_from}
use Rattle.standing.specs.Standing.{party_ok}

-- the parties from p on, n of them; their pins are counted
unfoldable pub parties_from : List ℕ → List ℕ → ℕ → ℕ → List Session → List ℕ → ℕ → ℕ → Turn (List ℕ)
parties_from s seen m r t tally p zero = turn true tally
parties_from s seen m r t tally p (suc n) =
    then_turn (party_ok s seen m r p (session_at t p) tally) (λ k. parties_from s seen m r t k (p + 1) n)

unfoldable pub parties_ok : List ℕ → List ℕ → ℕ → ℕ → List Session → List ℕ → Turn (List ℕ)
parties_ok s seen m r t tally = parties_from s seen m r t tally 0 parties

-- party p is asked only if it is a begun session with no request in hand
unfoldable pub mark_ok : ℕ → Session → Bool
mark_ok p x = cond (eqb x.asked 0) true (cond (eqb p 0) false (cond (eqb x.begun 0) false (eqb x.stage 0)))

-- the parties from p on, n of them
unfoldable pub marks_from : List Session → ℕ → ℕ → Bool
marks_from t p zero = true
marks_from t p (suc n) = cond (mark_ok p (session_at t p)) (marks_from t (p + 1) n) false

unfoldable pub marks_ok : List Session → Bool
marks_ok t = marks_from t 0 parties

-- one for a party at a node
unfoldable pub one_at_node : Session → ℕ
one_at_node s = cond (eqb s.stage 3) 1 0

-- how many parties are at a node, from p on, n of them
unfoldable pub standing_from : List Session → ℕ → ℕ → ℕ
standing_from t p zero = 0
standing_from t p (suc n) = one_at_node (session_at t p) + standing_from t (p + 1) n

unfoldable pub standing_at_nodes : List Session → ℕ
standing_at_nodes t = standing_from t 0 parties

-- some session from p on, of n of them, has an undo record
unfoldable pub some_undo : List Session → ℕ → ℕ → Bool
some_undo t p zero = false
some_undo t p (suc n) = not (eqb (session_at t p).undo 0) || some_undo t (p + 1) n

unfoldable pub has_undos : List Session → Bool
has_undos t = some_undo t 1 (parties - 1)

-- the chains of the sessions from p on, n of them
unfoldable pub undos_of : List ℕ → ℕ → ℕ → List Session → List ℕ → List ℕ → ℕ → ℕ → ℕ → Trail (List ℕ)
undos_of s m r t seen f left p zero = ends true left seen f
undos_of s m r t seen f left p (suc n) =
    then_trail (undos_from s m r p seen f (session_at t p).undo left) (λ v. undos_of s m r t v.seen v.held v.left (p + 1) n)

unfoldable pub all_undos : List ℕ → ℕ → ℕ → List Session → List ℕ → List ℕ → ℕ → Trail (List ℕ)
all_undos s m r t seen f left = undos_of s m r t seen f left 1 (parties - 1)

-- Where the requests in hand stand: descents (document 01's walks), latches (its short locks) and pins (its seizures).
use Rattle.std.specs.Prelude.{List, Bool, true, false, cond, not, ◌&&◌, ◌||◌, ℕ, zero, suc, ◌+◌, ◌-◌, eqb, leb, get_or, set}
use Rattle.words.specs.Entries.{entry_word}
use Rattle.words.specs.Header.{header_word, root_place, height_place}
use Rattle.nodes.specs.Node.{node_at}
use Rattle.nodes.specs.Ops.{son_for}
use Rattle.nodes.specs.declared.Node.{Node}
use Rattle.groups.specs.Descriptor.{descriptor_at}
use Rattle.locks.specs.Holders.{holds}
use Rattle.sessions.specs.declared.Session.{Session}
use Rattle.marks.specs.Marks.{entry_ok, is_met, descriptor_mark}
use Rattle.marks.specs.Trail.{Turn, turn, then_turn}
use Rattle.requests.specs.Requests.{request_ok}

-- ---- descents

-- the son of a node on the path to a key; 0 where the node has no son or more than 8
unfoldable pub son_on : Node → ℕ → ℕ
son_on n key = cond (not (eqb n.count 0) && leb n.count 8) (get_or n.sons (son_for n key) 0) 0

-- so many levels below record i on the path to a key; 0 where a record on it is none of the store's
unfoldable pub descend_from : List ℕ → ℕ → ℕ → ℕ → ℕ → ℕ → ℕ
descend_from s m r key i zero = i
descend_from s m r key i (suc n) = cond (not (eqb i 0) && leb i r) (descend_from s m r key (son_on (node_at s m i) key) n) 0

-- ---- latches

-- a node that party p may stand at: a session one of at most 7 sons, the housekeeper one of at least 4, or the root, with no lone
-- node for a son
unfoldable pub may_stand : ℕ → Node → ℕ → ℕ → Bool
may_stand p n level height =
    cond (eqb p 0) (leb 4 n.count || (eqb level height && (eqb level 1 || leb 2 n.count))) (leb n.count 7)

-- record i, reached on the path, is the party's node and has its latch
unfoldable pub at_node : List ℕ → ℕ → ℕ → ℕ → Session → ℕ → Bool
at_node s m r p t i =
    eqb i t.at && not (eqb i 0) && leb i r
    && eqb (node_at s m i).latch (p + 1)
    && may_stand p (node_at s m i) t.level (header_word s height_place)

-- the party's node is on the path to its target, at its level
unfoldable pub descent_ok : List ℕ → ℕ → ℕ → ℕ → Session → Bool
descent_ok s m r p t =
    not (eqb t.level 0) && leb t.level (header_word s height_place)
    && at_node s m r p t (descend_from s m r t.target (header_word s root_place) (header_word s height_place - t.level))

-- a party at a node has its latch there; any other has none
unfoldable pub latch_ok : List ℕ → ℕ → ℕ → ℕ → Session → Bool
latch_ok s m r p t = not (eqb t.stage 3) || descent_ok s m r p t

-- ---- keys

unfoldable pub has_key : List ℕ → ℕ → ℕ → ℕ → ℕ → Bool
has_key s m r key i = not (eqb i 0) && leb i r && eqb (descriptor_at s m i).key key

-- the key is stored: the path to it ends at its descriptor
unfoldable pub is_stored : List ℕ → ℕ → ℕ → ℕ → Bool
is_stored s m r key = has_key s m r key (descend_from s m r key (header_word s root_place) (header_word s height_place))

-- ---- pins

-- one more, to 255
unfoldable pub one_more_of : ℕ → ℕ
one_more_of x = cond (eqb x 255) 255 (x + 1)

-- record i is the descriptor of the key; its pin is counted
unfoldable pub pins_in : List ℕ → List ℕ → ℕ → ℕ → ℕ → ℕ → List ℕ → Turn (List ℕ)
pins_in s seen m r i key tally =
    cond (is_met seen r i descriptor_mark && eqb (descriptor_at s m i).key key)
    (turn true (set tally i (one_more_of (get_or tally i 0))))
    (turn false tally)

-- ---- requests

-- an insert or remove past its start has its entry's exclusive lock, and at its change has pinned its group
unfoldable pub change_stands : List ℕ → List ℕ → ℕ → ℕ → ℕ → Session → List ℕ → Turn (List ℕ)
change_stands s seen m r p t tally =
    cond (eqb t.stage 1) (turn true tally)
    (cond (not (eqb p 0) && entry_ok t.entry m && holds (entry_word s t.entry 2) p)
    (cond (eqb t.stage 4) (pins_in s seen m r t.low t.first tally) (turn true tally))
    (turn false tally))

-- a locate that takes has pinned both ends, and on its second descent the first
unfoldable pub locate_stands : List ℕ → List ℕ → ℕ → ℕ → Session → List ℕ → Turn (List ℕ)
locate_stands s seen m r t tally =
    cond (eqb t.stage 5)
    (then_turn (pins_in s seen m r t.low t.first tally)
    (λ k. cond (eqb t.first t.second) (turn true k) (pins_in s seen m r t.high t.second k)))
    (cond (eqb t.target t.first) (turn true tally) (pins_in s seen m r t.low t.first tally))

-- a tidy on its way has a stored choice
unfoldable pub tidy_stands : List ℕ → ℕ → ℕ → Session → Bool
tidy_stands s m r t = eqb t.stage 1 || is_stored s m r t.target

-- a request in hand stands where its own steps can bring it
unfoldable pub stands_at : List ℕ → List ℕ → ℕ → ℕ → ℕ → Session → List ℕ → Turn (List ℕ)
stands_at s seen m r p t tally =
    cond (latch_ok s m r p t)
    (cond (leb t.code 2) (turn true tally)
    (cond (leb t.code 4) (change_stands s seen m r p t tally)
    (cond (eqb t.code 5) (locate_stands s seen m r t tally)
    (turn (tidy_stands s m r t) tally))))
    (turn false tally)

-- party p: its request, if it has one, passes put's checks and stands where its steps can bring it
unfoldable pub party_ok : List ℕ → List ℕ → ℕ → ℕ → ℕ → Session → List ℕ → Turn (List ℕ)
party_ok s seen m r p t tally =
    cond (request_ok p t m)
    (cond (eqb t.stage 0) (turn true tally) (stands_at s seen m r p t tally))
    (turn false tally)

-- The eight calls: the refusals of each in order, and what an accepted call does (document 01, "Refusals", "Steps").
-- Refusals 1 and 2 are of the words of store and table: a state is sound and has all its sessions.
use Rattle.std.specs.Prelude.{Bool, true, false, cond, not, ◌&&◌, ◌||◌, List, [], ◌∷◌, map, suc, ◌+◌, ℕ, leb, ltb, eqb, length}
use Rattle.std.proofs.Math.Option.{Option, none, some}
-- R by the length of the store: the crate words'.
pub use Rattle.words.specs.Sizes.{records_for}
use Rattle.serial.specs.Recovery.{each}
use Rattle.machine.specs.Holders.{width, left_by}
use Rattle.machine.specs.State.{Entry, Desc, Stage, start, enter, Request, Undo, added, taken, Session, State, more, refused, Outcome, top, idle, session_of, stored, lowest_from, with_entries, with_free, with_table, on_entry, on_session, on_tree, on_leaves, on_desc, hold_desc, group_desc, with_member, without_member, set_hand, fresh, value, ok}
use Rattle.machine.specs.Steps.{ended, next_step, answer, settled}

pub data Call : Type 0 where
  -- M, and how many words the store has.
  format : ℕ → ℕ → Call
  begin : ℕ → Call
  -- The party, code, entry, first, second.
  put : ℕ → ℕ → ℕ → ℕ → ℕ → Call
  -- The party, and how many words of list are lent.
  step : ℕ → ℕ → Call
  commit abort ask : ℕ → Call
  recover : Call

-- ---- refusals

-- The first number whose test is true, with 0 beside it; else the outcome.
unfoldable pub refusing : List (ℕ × Bool) → State → Outcome → Outcome
refusing [] s o = o
refusing (c ∷ cs) s o = let rest = refusing cs s o in cond c.1 (answer (refused c.0 0) s) rest

abbrev pub has_begun : ℕ → State → Bool
has_begun p s = eqb p 0 || (session_of p s).begun

abbrev pub is_some : {A : Type 0} → Option A → Bool
is_some none = false
is_some (some a) = true

abbrev pub in_hand : ℕ → State → Bool
in_hand p s = is_some (session_of p s).hand

-- The two infinities; no word is above the upper one.
abbrev pub infinite : ℕ → Bool
infinite k = eqb k 0 || leb top k

abbrev pub no_party : ℕ → Bool
no_party p = ltb width p

abbrev pub no_session : ℕ → Bool
no_session p = eqb p 0 || ltb width p

abbrev pub bad_code : ℕ → ℕ → Bool
bad_code p c = eqb c 0 || ltb 6 c || (eqb c 6 && not (eqb p 0)) || (ltb c 6 && eqb p 0)

abbrev pub bad_entry : ℕ → ℕ → State → Bool
bad_entry c e s = leb c 4 && (eqb e 0 || ltb (length s.entries) e)

abbrev pub bad_key : ℕ → ℕ → ℕ → Bool
bad_key c f g = (leb 3 c && leb c 5 && infinite f) || (eqb c 5 && infinite g)

-- The checks of put on code and arguments.
abbrev pub request_checks : ℕ → ℕ → ℕ → ℕ → ℕ → State → List (ℕ × Bool)
request_checks p c e f g s = (6, bad_code p c) ∷ (8, bad_entry c e s) ∷ (9, bad_key c f g) ∷ (10, eqb c 5 && ltb g f) ∷ []

abbrev pub is_asked : ℕ → State → Bool
is_asked p s = (session_of p s).asked

abbrev pub put_checks : ℕ → ℕ → ℕ → ℕ → ℕ → State → List (ℕ × Bool)
put_checks p c e f g s = (4, no_party p) ∷ (5, not (has_begun p s)) ∷ (21, is_asked p s) ∷ (7, in_hand p s) ∷ request_checks p c e f g s

abbrev pub step_checks : ℕ → State → List (ℕ × Bool)
step_checks p s = (4, no_party p) ∷ (5, not (has_begun p s)) ∷ (7, not (in_hand p s)) ∷ []

abbrev pub begin_checks : ℕ → State → List (ℕ × Bool)
begin_checks p s = (4, no_session p) ∷ (5, has_begun p s) ∷ []

abbrev pub commit_checks : ℕ → State → List (ℕ × Bool)
commit_checks p s = (4, no_session p) ∷ (5, not (has_begun p s)) ∷ (7, in_hand p s) ∷ []

abbrev pub abort_checks : ℕ → State → List (ℕ × Bool)
abort_checks p s = (4, no_session p) ∷ (5, not (has_begun p s)) ∷ []

abbrev pub ask_checks : ℕ → State → List (ℕ × Bool)
ask_checks p s = (4, no_session p) ∷ (5, not (has_begun p s)) ∷ (21, is_asked p s) ∷ (7, in_hand p s) ∷ []

abbrev pub format_checks : ℕ → ℕ → List (ℕ × Bool)
format_checks m words = (3, eqb m 0 || ltb 1024 m || ltb (records_for m words) 8) ∷ []

-- ---- what an accepted call does

-- The first stage of a request: tidy's choice is the lowest stored descriptor above first.
abbrev pub tidy_from : Option Desc → Stage
tidy_from none = start
tidy_from (some d) = enter d.key

unfoldable pub first_stage : ℕ → ℕ → State → Stage
first_stage c f s = cond (eqb c 5) (enter f) (cond (eqb c 6) (tidy_from (lowest_from (suc f) (stored s))) start)

unfoldable pub accepted : ℕ → ℕ → ℕ → ℕ → ℕ → State → State
accepted p c e f g s = set_hand p (some (record { code = c; entry = e; first = f; second = g; stage = first_stage c f s })) s

-- A session holds nothing any more, and is not begun.
abbrev pub entry_left : ℕ → Entry → Entry
entry_left p e = record { value = e.value; share = left_by p e.share; exclusive = left_by p e.exclusive }

unfoldable pub leave : ℕ → State → State
leave p s =
    on_session p (λ _. idle)
    (on_tree (on_leaves (hold_desc (left_by p) (left_by p) (left_by p))) (with_entries (map (entry_left p) s.entries) s))

-- One undo record undone: the value again; the added one out; the one taken out in again.
unfoldable pub undo : Undo → State → State
undo (value e v) s = with_free (s.free + 1) (on_entry e (λ x. record { value = v; share = x.share; exclusive = x.exclusive }) s)
undo (added e k) s = with_free (s.free + 2) (on_desc k (group_desc (without_member e)) s)
undo (taken e k) s = on_desc k (group_desc (with_member e)) s

unfoldable pub undo-all : List Undo → State → State
undo-all [] s = s
undo-all (b ∷ bs) s = undo-all bs (undo b s)

unfoldable pub end_hand : ℕ → Option Request → State → State
end_hand p none s = s
end_hand p (some r) s = ended p r s

-- How many begun sessions have a lower number.
unfoldable pub earlier : ℕ → List Session → ℕ
earlier n [] = 0
earlier n (t ∷ ts) = let rest = earlier n ts in cond (t.begun && ltb t.order n) (suc rest) rest

-- How many are begun.
unfoldable pub begun_many : List Session → ℕ
begun_many [] = 0
begun_many (t ∷ ts) = let rest = begun_many ts in cond t.begun (suc rest) rest

-- The rank of a begun session: 1 and how many began before it; and of one that begins: 1 and how many are begun.
abbrev pub rank : List Session → Session → ℕ
rank ts t = suc (earlier t.order ts)

abbrev pub last_rank : List Session → ℕ
last_rank ts = suc (begun_many ts)

-- A begun session's number becomes its rank.
abbrev pub ranked : List Session → Session → Session
ranked ts t = cond t.begun (record { begun = t.begun; order = rank ts t; hand = t.hand; undos = t.undos; asked = t.asked }) t

unfoldable pub renumbered : State → State
renumbered s = with_table (map (ranked s.table) s.table) s

-- The begun sessions are numbered anew, and the one that begins is the last of them.
unfoldable pub begins : ℕ → State → State
begins p s = on_session p (λ t. record { begun = true; order = last_rank s.table; hand = t.hand; undos = t.undos; asked = t.asked }) (renumbered s)

unfoldable pub commits : ℕ → State → State
commits p s = leave p (with_free (s.free + length (session_of p s).undos) s)

unfoldable pub aborts : ℕ → State → State
aborts p s = leave p (undo-all (session_of p s).undos (end_hand p (session_of p s).hand s))

unfoldable pub asks : ℕ → State → State
asks p s = on_session p (λ t. record { begun = t.begun; order = t.order; hand = t.hand; undos = t.undos; asked = true }) s

-- A begun session that is not asked is aborted, any other is left.
unfoldable pub lapse : ℕ → State → State
lapse p s = cond ((session_of p s).begun && not (is_asked p s)) (aborts p s) s

-- Housekeeping ends, and then every session that is not asked.
unfoldable pub recovers : State → State
recovers s = each lapse width 1 (end_hand 0 (session_of 0 s).hand s)

unfoldable pub steps : ℕ → ℕ → Option Request → State → Outcome
steps p n none s = answer more s
steps p n (some r) s = settled s r.stage (next_step n p r s r.stage)

-- ---- the calls

unfoldable pub call : Call → State → Outcome
call (format m words) s = refusing (format_checks m words) s (answer ok (fresh m (records_for m words)))
call (begin p) s = refusing (begin_checks p s) s (answer ok (begins p s))
call (put p c e f g) s = refusing (put_checks p c e f g s) s (answer ok (accepted p c e f g s))
call (step p n) s = refusing (step_checks p s) s (steps p n (session_of p s).hand s)
call (commit p) s = refusing (commit_checks p s) s (answer ok (commits p s))
call (abort p) s = refusing (abort_checks p s) s (answer ok (aborts p s))
call (ask p) s = refusing (ask_checks p s) s (answer ok (asks p s))
call recover s = answer ok (recovers s)

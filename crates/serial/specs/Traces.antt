-- Runs, computed: the logical model alone, and the small machine of Example with sessions side by side.
use Rattle.std.specs.Prelude.{◌≡◌, refl, Bool, true, List, [], ◌∷◌, ◌++◌, map, ℕ}
use Rattle.std.proofs.Math.Decide.{ℕ_discrete, dec_lt, dec_le}
use Rattle.serial.specs.Serial.{serial_answers, requests}
use Rattle.serial.specs.Model.{Pair, Db, Req, read, write, insert, remove, locate, Ans, just, empty, ℕ-tri, pair_tri}
use Rattle.serial.specs.Footprints.{store}
use Rattle.serial.specs.Calls.{Call, format, begin, commit, abort, ask, recover, put, step, Answer, ok, wait, done, refused, Turn, Run, stop, next, nothing, told, committed_db}
use Rattle.serial.specs.Example.{State, blank, call, kind?, mode?, example}

-- ---- the model alone

-- Insert twice, then a locate over all keys; a session that removes; and one that finds one member, then none.
abbrev three_sessions : List (List Req)
three_sessions = (insert 5 500 ∷ insert 5 500 ∷ insert 3 500 ∷ write 5 77 ∷ locate 1 4294967294 ∷ [])
    ∷ (remove 5 500 ∷ remove 5 500 ∷ read 5 ∷ [])
    ∷ (locate 500 500 ∷ locate 501 600 ∷ [])
    ∷ []

abbrev three_answers : List (List Ans)
three_answers = (just 1 ∷ just 0 ∷ just 1 ∷ just 0 ∷ record { numbers = 2 ∷ []; words = 500 ∷ 3 ∷ 500 ∷ 5 ∷ [] } ∷ [])
    ∷ (just 1 ∷ just 0 ∷ just 77 ∷ [])
    ∷ (record { numbers = 1 ∷ []; words = 500 ∷ 3 ∷ [] } ∷ just 0 ∷ [])
    ∷ []

model-run : serial_answers store three_sessions empty ≡ three_answers
unfolding pair_tri ℕ-tri ℕ_discrete dec_lt dec_le
model-run = refl

-- ---- the machine

abbrev turns : List Call → State → List Turn
turns [] x = []
turns (c ∷ cs) x = record { call = c; answer = (call c x).0; list = (call c x).1 } ∷ turns cs (call c x).2

abbrev last : List Call → State → State
last [] x = x
last (c ∷ cs) x = last cs (call c x).2

-- What is computed is a run of the machine.
pub played : (cs : List Call) (x : State) → Run example x (turns cs x) (last cs x)
played [] x = stop
played (c ∷ cs) x = next refl (played cs (call c x).2)

-- Calls from a fresh state, each with the answer that it gets.
abbrev Script : Type 0
Script = List (Call × Answer)

abbrev pub turns_of : Script → List Turn
turns_of l = turns (map (λ p. p.0) l) blank

abbrev pub after : Script → State
after l = last (map (λ p. p.0) l) blank

abbrev Plays : Script → Type 0
Plays l = map (λ k. k.answer) (turns_of l) ≡ map (λ p. p.1) l

-- Requests by name, and a step that is lent an empty list.
abbrev read_by : ℕ → ℕ → Call
read_by s e = put s 1 e 0 0

abbrev write_by : ℕ → ℕ → ℕ → Call
write_by s e v = put s 2 e v 0

abbrev insert_by : ℕ → ℕ → ℕ → Call
insert_by s e k = put s 3 e k 0

abbrev remove_by : ℕ → ℕ → ℕ → Call
remove_by s e k = put s 4 e k 0

abbrev locate_by : ℕ → ℕ → ℕ → Call
locate_by s lo hi = put s 5 0 lo hi

abbrev go : ℕ → Call
go s = step s []

-- Two sessions have uncommitted work at the same time.
abbrev side_by_side : Script
side_by_side = (begin 1, ok) ∷ (begin 2, ok)
    ∷ (insert_by 1 3 500, ok) ∷ (insert_by 2 4 501, ok) ∷ (go 1, done (1 ∷ [])) ∷ (go 2, done (1 ∷ [])) ∷ []

side-by-side-plays : Plays side_by_side
unfolding pair_tri ℕ-tri ℕ_discrete dec_lt dec_le kind? mode?
side-by-side-plays = refl

both_stored : (after side_by_side).now.members ≡ (500, 3) ∷ (501, 4) ∷ []
unfolding pair_tri ℕ-tri ℕ_discrete dec_lt dec_le kind? mode?
both_stored = refl

both-begun : ◌≡◌ {A = Bool × Bool} ((after side_by_side).begun 1, (after side_by_side).begun 2) (true, true)
unfolding pair_tri ℕ-tri ℕ_discrete dec_lt dec_le kind? mode?
both-begun = refl

-- Session 1 located 400 to 600. Inserts by others at 400, 500 and 600 wait for it; at 399 and 601 they do not.
abbrev located : Script
located = (begin 1, ok) ∷ (locate_by 1 400 600, ok) ∷ (go 1, done (0 ∷ []))
    ∷ (begin 2, ok) ∷ (insert_by 2 5 500, ok) ∷ (go 2, wait 1)
    ∷ (begin 3, ok) ∷ (insert_by 3 6 601, ok) ∷ (go 3, done (1 ∷ [])) ∷ (insert_by 3 7 600, ok) ∷ (go 3, wait 1)
    ∷ (begin 4, ok) ∷ (insert_by 4 8 399, ok) ∷ (go 4, done (1 ∷ [])) ∷ (insert_by 4 9 400, ok) ∷ (go 4, wait 1) ∷ []

located-plays : Plays located
unfolding pair_tri ℕ-tri ℕ_discrete dec_lt dec_le kind? mode?
located-plays = refl

-- After its commit the waiting ones go on.
abbrev goes_on : Script
goes_on = located ++ ((commit 1, ok) ∷ (go 2, done (1 ∷ [])) ∷ (go 3, done (1 ∷ [])) ∷ (go 4, done (1 ∷ [])) ∷ [])

goes-on-plays : Plays goes_on
unfolding pair_tri ℕ-tri ℕ_discrete dec_lt dec_le kind? mode?
goes-on-plays = refl

-- Two shares on entry 5: a write by either waits for the other. A session's own share is not in its way.
abbrev shares : Script
shares = (begin 1, ok) ∷ (begin 2, ok) ∷ (read_by 1 5, ok) ∷ (go 1, done (0 ∷ [])) ∷ (read_by 2 5, ok) ∷ (go 2, done (0 ∷ []))
    ∷ (write_by 1 5 9, ok) ∷ (go 1, wait 2) ∷ (write_by 2 5 8, ok) ∷ (go 2, wait 1) ∷ (abort 2, ok) ∷ (go 1, done (0 ∷ [])) ∷ []

shares-plays : Plays shares
unfolding pair_tri ℕ-tri ℕ_discrete dec_lt dec_le kind? mode?
shares-plays = refl

-- Sessions 3 and 4 work side by side, and 4 commits before 3.
abbrev committed : Script
committed = (begin 3, ok) ∷ (begin 4, ok) ∷ (insert_by 3 5 500, ok) ∷ (go 3, done (1 ∷ [])) ∷ (write_by 4 7 42, ok) ∷ (go 4, done (0 ∷ [])) ∷ (commit 4, ok)
    ∷ (write_by 3 6 41, ok) ∷ (go 3, done (0 ∷ [])) ∷ (commit 3, ok) ∷ []

committed-plays : Plays committed
unfolding pair_tri ℕ-tri ℕ_discrete dec_lt dec_le kind? mode?
committed-plays = refl

-- Then 1 and 2 change what these stored, some of it more than once.
abbrev pub unfinished : Script
unfinished = committed ++ ((begin 1, ok) ∷ (begin 2, ok) ∷ (remove_by 1 5 500, ok) ∷ (go 1, done (1 ∷ [])) ∷ (write_by 2 7 43, ok) ∷ (go 2, done (0 ∷ []))
    ∷ (insert_by 1 5 500, ok) ∷ (go 1, done (1 ∷ [])) ∷ (write_by 2 7 44, ok) ∷ (go 2, done (0 ∷ []))
    ∷ (insert_by 2 8 600, ok) ∷ (go 2, done (1 ∷ [])) ∷ (remove_by 1 5 500, ok) ∷ (go 1, done (1 ∷ [])) ∷ [])

unfinished-plays : Plays unfinished
unfolding pair_tri ℕ-tri ℕ_discrete dec_lt dec_le kind? mode?
unfinished-plays = refl

-- The committed sessions in order of commit.
commit-order : map (requests store) (told nothing (turns_of unfinished)).past.closed ≡ (write 7 42 ∷ []) ∷ (insert 5 500 ∷ write 6 41 ∷ []) ∷ []
unfolding pair_tri ℕ-tri ℕ_discrete dec_lt dec_le kind? mode?
commit-order = refl

-- Both are aborted, in both orders.
abbrev aborts_1_2 : Script
aborts_1_2 = unfinished ++ ((abort 1, ok) ∷ (abort 2, ok) ∷ [])

aborts-1-2-plays : Plays aborts_1_2
unfolding pair_tri ℕ-tri ℕ_discrete dec_lt dec_le kind? mode?
aborts-1-2-plays = refl

abbrev aborts_2_1 : Script
aborts_2_1 = unfinished ++ ((abort 2, ok) ∷ (abort 1, ok) ∷ [])

aborts-2-1-plays : Plays aborts_2_1
unfolding pair_tri ℕ-tri ℕ_discrete dec_lt dec_le kind? mode?
aborts-2-1-plays = refl

-- The members and the value of entry 7: before the aborts, as the committed sessions left them, as the model has them, and after aborts in both orders.
abbrev stored : Db → List Pair × ℕ
stored d = (d.members, d.values 7)

before-aborts : stored (after unfinished).now ≡ ((600, 8) ∷ [], 44)
unfolding pair_tri ℕ-tri ℕ_discrete dec_lt dec_le kind? mode?
before-aborts = refl

as-committed : stored (after committed).now ≡ ((500, 5) ∷ [], 42)
unfolding pair_tri ℕ-tri ℕ_discrete dec_lt dec_le kind? mode?
as-committed = refl

as_told : stored (committed_db (told nothing (turns_of unfinished))) ≡ ((500, 5) ∷ [], 42)
unfolding pair_tri ℕ-tri ℕ_discrete dec_lt dec_le kind? mode?
as_told = refl

aborts-1-2-stored : stored (after aborts_1_2).now ≡ ((500, 5) ∷ [], 42)
unfolding pair_tri ℕ-tri ℕ_discrete dec_lt dec_le kind? mode?
aborts-1-2-stored = refl

aborts-2-1-stored : stored (after aborts_2_1).now ≡ ((500, 5) ∷ [], 42)
unfolding pair_tri ℕ-tri ℕ_discrete dec_lt dec_le kind? mode?
aborts-2-1-stored = refl

-- Any numbers: codes that are none, a tidy by a session, a read by the housekeeper; parties that are none; 7, 5 and 3.
abbrev raw : Script
raw = (begin 3, ok) ∷ (put 3 9 1 1 1, refused 6 0) ∷ (put 3 0 1 1 1, refused 6 0) ∷ (put 3 6 0 0 0, refused 6 0) ∷ (put 0 1 5 0 0, refused 6 0)
    ∷ (begin 17, refused 4 0) ∷ (put 17 1 5 0 0, refused 4 0) ∷ (go 17, refused 4 0) ∷ (abort 17, refused 4 0) ∷ (begin 0, refused 4 0) ∷ (commit 0, refused 4 0)
    ∷ (go 3, refused 7 0) ∷ (begin 3, refused 5 0) ∷ (go 2, refused 5 0) ∷ (format 0, refused 3 0) ∷ (format 1025, refused 3 0) ∷ []

raw-plays : Plays raw
unfolding pair_tri ℕ-tri ℕ_discrete dec_lt dec_le kind? mode?
raw-plays = refl

-- The housekeeper's tidy, in one step; then a format.
abbrev tidied : Script
tidied = (put 0 6 0 0 0, ok) ∷ (put 0 6 0 0 0, refused 7 0) ∷ (go 0, done (0 ∷ 0 ∷ [])) ∷ (go 0, refused 7 0) ∷ (format 1024, ok) ∷ []

tidied-plays : Plays tidied
unfolding pair_tri ℕ-tri ℕ_discrete dec_lt dec_le kind? mode?
tidied-plays = refl

-- A locate writes two words a membership into a list that has room, whose later words stay; else it is refused with the count, and ends.
abbrev lists : Script
lists = (begin 1, ok) ∷ (insert_by 1 4 501, ok) ∷ (go 1, done (1 ∷ [])) ∷ (insert_by 1 3 500, ok) ∷ (go 1, done (1 ∷ []))
    ∷ (locate_by 1 500 501, ok) ∷ (step 1 (9 ∷ 9 ∷ 9 ∷ []), refused 12 2) ∷ (go 1, refused 7 0)
    ∷ (locate_by 1 1 4294967294, ok) ∷ (step 1 (9 ∷ 9 ∷ 9 ∷ 9 ∷ 9 ∷ []), done (2 ∷ [])) ∷ []

lists-plays : Plays lists
unfolding pair_tri ℕ-tri ℕ_discrete dec_lt dec_le kind? mode?
lists-plays = refl

lists-left : map (λ k. k.list) (turns_of lists) ≡ [] ∷ [] ∷ [] ∷ [] ∷ [] ∷ [] ∷ (9 ∷ 9 ∷ 9 ∷ []) ∷ [] ∷ [] ∷ (500 ∷ 3 ∷ 501 ∷ 4 ∷ 9 ∷ []) ∷ []
unfolding pair_tri ℕ-tri ℕ_discrete dec_lt dec_le kind? mode?
lists-left = refl

-- ---- ask and recover

-- Session 1 is asked: a put or another ask of it is 21, a step 7, a begin 5. Session 2 is not asked, and has a request in hand. Recover aborts 2 alone;
-- 1 still holds its entry, and its commit is accepted.
abbrev pub recovery : Script
recovery = (begin 1, ok) ∷ (write_by 1 5 9, ok) ∷ (ask 1, refused 7 0) ∷ (go 1, done (0 ∷ [])) ∷ (ask 1, ok) ∷ (ask 1, refused 21 0) ∷ (read_by 1 5, refused 21 0)
    ∷ (go 1, refused 7 0) ∷ (begin 1, refused 5 0) ∷ (ask 2, refused 5 0) ∷ (ask 0, refused 4 0)
    ∷ (begin 2, ok) ∷ (write_by 2 6 8, ok) ∷ (go 2, done (0 ∷ [])) ∷ (write_by 2 5 7, ok) ∷ (go 2, wait 1) ∷ (recover, ok) ∷ (go 2, refused 5 0)
    ∷ (begin 2, ok) ∷ (read_by 2 6, ok) ∷ (go 2, done (0 ∷ [])) ∷ (read_by 2 5, ok) ∷ (go 2, wait 1) ∷ (commit 1, ok) ∷ (go 2, done (9 ∷ [])) ∷ (recover, ok) ∷ (recover, ok) ∷ []

recovery-plays : Plays recovery
unfolding pair_tri ℕ-tri ℕ_discrete dec_lt dec_le kind? mode?
recovery-plays = refl

-- What is told: one committed session, with one request; nothing is unfinished, nobody is asked.
recovery-told : map (requests store) (told nothing (turns_of recovery)).past.closed ≡ (write 5 9 ∷ []) ∷ []
unfolding pair_tri ℕ-tri ℕ_discrete dec_lt dec_le kind? mode?
recovery-told = refl

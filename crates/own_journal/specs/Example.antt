-- A run of the machine, its journal, and a file that has it for its lines: there are such files.
use Rattle.std.specs.Prelude.{◌≡◌, refl, List, [], ◌∷◌, ◌++◌, ℕ, replicate}
use Rattle.std.proofs.Common.{sym, ◌∙◌, ap, arith}
use Rattle.std.proofs.Math.Option.{some}
use Rattle.std.proofs.Math.Decide.{ℕ_discrete}
use Rattle.serial.specs.Model.{Pair}
use Rattle.serial.specs.Calls.{Turn, Run}
use Rattle.serial.specs.Calls as C
use Rattle.machine.specs.Tree.{leaves, leaf_at}
use Rattle.machine.specs.Holders.{bit_of, including, without, blockers, latch_blockers}
use Rattle.machine.specs.State.{Answer, ok, more, wait, done, refused, Outcome, entry_of, session_of, stored, lowest_from, gap_below, desc_of, on_entry, on_session, on_tree, on_leaf, on_leaves, with_member, without_member, set_hand, add_undo, fresh}
use Rattle.machine.specs.Descent.{halves, joined, moved_right, moved_left, mended, put_in, taken_out, at_latch, on_latch, unlatched}
use Rattle.machine.specs.Steps.{pinned, unpin, unlatch, ended, goes_on, finished, guarded, entry_blockers, group_blockers, read-step, written, write_step, entry-step, insert-step, remove-step, change-step, pairs_of, memberships, last_take, take_desc, take_step, arrived, enter_step, stepped, taking_part, descended, level-step, pin-step, make-step, removable, tidy-step, lowest_step, stand_step, at_step, first_step, next_step, oldest, settled}
use Rattle.machine.specs.Calls.{refusing, first_stage, accepted, leave, undo, undo-all, end_hand, earlier, begun_many, renumbered, begins, commits, aborts, steps, call}
use Rattle.machine.specs.Demand.{Lent, call_of, Tells, list_after, machine}
use Rattle.machine.specs.Demand3.{Somebody, call-named, fresh_lent}
use Rattle.machine.specs.Logic.{eqb_yes}
use Rattle.journal_reader.specs.Record.{word_at, in_file, record_from, record_at}
use Rattle.journal_lines.specs.Journal.{Line, chain, list_of, lines_of, whole, lines, verdict_of}
use Rattle.journal_lines.specs.Written.{word_bytes, words_bytes}
use Rattle.own_journal.specs.Diary.{journal_of}
use Rattle.own_journal.specs.Machine.{machine-journal}

-- ---- calls made one after another

abbrev pub says : Answer → C.Answer
says ok = C.ok
says more = C.more
says (wait []) = C.more
says (wait (p ∷ ps)) = C.wait p
says (done ns) = C.done ns
says (refused n k) = C.refused n k

says_so : (a : Answer) → Somebody a → Tells a (says a)
says_so ok h = refl
says_so more h = refl
says_so (wait []) h = absurd h
says_so (wait (p ∷ ps)) h = (p, rw (eqb_yes p p refl) refl, refl)
says_so (done ns) h = refl
says_so (refused n k) h = refl

abbrev pub outcome : C.Call → Lent → Outcome
outcome c x = call (call_of c x.words) x.state

abbrev pub after : C.Call → Lent → Lent
after c x = record { state = (outcome c x).next; words = x.words }

unfoldable pub turns : List C.Call → Lent → List Turn
turns [] x = []
turns (c ∷ cs) x = record { call = c; answer = says (outcome c x).answer; list = list_after c (outcome c x).written } ∷ turns cs (after c x)

unfoldable pub last : List C.Call → Lent → Lent
last [] x = x
last (c ∷ cs) x = last cs (after c x)

pub made : (cs : List C.Call) (x : Lent) → Run machine x (turns cs x) (last cs x)
unfolding turns last
made [] x = C.stop
made (c ∷ cs) x =
    C.next (record { tells = says_so (outcome c x).answer (call-named (call_of c x.words) x.state); list_is = refl; state_is = refl; words_same = refl }) (made cs (after c x))

-- ---- the example

-- Session 1 puts entry 1 in the group of 10 while session 2 writes 7 at entry 2 and commits first; session 3 reads that and is aborted; session 2 begins again and
-- locates 5 to 20.
abbrev pub calls : List C.Call
calls =
    C.begin 1 ∷ C.put 1 3 1 10 0 ∷ C.step 1 [] ∷ C.begin 2 ∷ C.step 1 [] ∷ C.put 2 2 2 7 0 ∷ C.step 1 [] ∷ C.step 2 [] ∷ C.step 1 [] ∷ C.commit 2 ∷ C.commit 1
    ∷ C.begin 3 ∷ C.put 3 1 2 0 0 ∷ C.step 3 [] ∷ C.abort 3
    ∷ C.begin 2 ∷ C.put 2 5 0 5 20 ∷ (replicate 7 (C.step 2 (0 ∷ 0 ∷ 0 ∷ 0 ∷ [])) ++ (C.commit 2 ∷ []))

abbrev pub start : Lent
start = fresh_lent 2 8 182

abbrev line : (run code entry first second answer : ℕ) → List Pair → Line
line run code entry first second answer ps = record { run = run; code = code; entry = entry; first = first; second = second; answer = answer; pairs = ps }

abbrev pub journal : List Line
journal =
    line 2 2 2 7 0 0 []
    ∷ line 1 3 1 10 0 1 []
    ∷ line 2 255 0 0 0 0 []
    ∷ line 1 255 0 0 0 0 []
    ∷ line 3 1 2 0 0 7 []
    ∷ line 4 5 0 5 20 1 ((10, 1) ∷ [])
    ∷ line 4 255 0 0 0 0 []
    ∷ []

-- It is what the machine's calls write down.
pub written-down : journal_of (turns calls start) ≡ journal
unfolding turns leaves leaf_at bit_of including without blockers latch_blockers entry_of session_of stored lowest_from gap_below desc_of on_entry on_session on_tree on_leaf on_leaves with_member without_member set_hand add_undo fresh halves joined moved_right moved_left mended put_in taken_out at_latch on_latch unlatched pinned unpin unlatch ended goes_on finished guarded entry_blockers group_blockers read-step written write_step entry-step insert-step remove-step change-step pairs_of memberships last_take take_desc take_step arrived enter_step stepped taking_part descended level-step pin-step make-step removable tidy-step lowest_step stand_step at_step first_step next_step oldest settled refusing first_stage accepted leave undo undo-all end_hand earlier begun_many renumbered begins commits aborts steps call ℕ_discrete
written-down = refl

-- Eight records, the seventh the list of the sixth.
abbrev file_words : List ℕ
file_words =
    (2 ∷ 2 ∷ 2 ∷ 2 ∷ 7 ∷ 0 ∷ 0 ∷ 0 ∷ [])
    ++ (3 ∷ 1 ∷ 3 ∷ 1 ∷ 10 ∷ 0 ∷ 1 ∷ 0 ∷ [])
    ++ (4 ∷ 2 ∷ 255 ∷ 0 ∷ 0 ∷ 0 ∷ 0 ∷ 0 ∷ [])
    ++ (5 ∷ 1 ∷ 255 ∷ 0 ∷ 0 ∷ 0 ∷ 0 ∷ 0 ∷ [])
    ++ (6 ∷ 3 ∷ 1 ∷ 2 ∷ 0 ∷ 0 ∷ 7 ∷ 0 ∷ [])
    ++ (8 ∷ 4 ∷ 5 ∷ 0 ∷ 5 ∷ 20 ∷ 1 ∷ 7 ∷ [])
    ++ (0 ∷ 10 ∷ 1 ∷ 0 ∷ 0 ∷ 0 ∷ 0 ∷ 0 ∷ [])
    ++ (0 ∷ 4 ∷ 255 ∷ 0 ∷ 0 ∷ 0 ∷ 0 ∷ 0 ∷ [])

abbrev pub file : List ℕ
file = words_bytes file_words

-- The file has these lines,
pub says-it : lines file ≡ some journal
unfolding lines whole lines_of list_of chain record_at record_from in_file word_at words_bytes word_bytes
says-it = refl

-- and is accepted, for it is the machine's.
pub accepted-file : verdict_of file ≡ 0
accepted-file =
    (machine-journal 2 8 182 (omega arith) (omega arith) (omega arith) (omega arith) (turns calls start) (last calls start) (made calls start)).accepted file
    (says-it ∙ ap some (sym written-down))

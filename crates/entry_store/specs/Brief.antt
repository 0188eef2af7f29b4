-- Every answer of a call is brief: it has at most two numbers, and the second of them is below 256.
use Rattle.std.specs.Prelude.{◌≡◌, refl, Bool, true, false, cond, List, [], ◌∷◌, ℕ, suc, zero, ◌*◌, eqb, leb, ltb, length}
use Rattle.std.proofs.Common.{ap, ◌∙◌}
use Rattle.std.proofs.Math.Option.{Option, none, some}
use Rattle.serial.specs.Calls as C
use Rattle.serial.specs.Serial.{true≢false}
use Rattle.serial.specs.Locks.{weak, strong}
use Rattle.machine.specs.Logic.{either}
use Rattle.machine.specs.Holders.{elem, latch_word}
use Rattle.machine.specs.Tree.{pick}
use Rattle.machine.specs.Descent.{Sons}
use Rattle.machine.specs.State.{Answer, ok, more, wait, done, refused, Outcome, Request, Stage, start, enter, at, change, take, State, Desc, Tree, entry_of, desc_of, stored, lowest_from, gap_below, or_none, no_desc, same, session_of, fresh}
use Rattle.machine.specs.Steps.{answer, ended, goes_on, finished, guarded, entry_blockers, group_blockers, shared_state, read-step, written, write_step, excluded_state, entry-step, updating_state, inserted_state, removed_state, insert-step, remove-step, change-step, memberships, passed_state, located_state, last_take, take_desc, take_step, arrived, root_blockers, root_need, root_splits, halved_root, whole_root, enter_step, son-at, level_blockers, level_need, level_state, level-step, pin-step, made_state, make-step, removable, tidied_state, tidy-step, lowest_step, stand_step, at_step, first_step, next_step}
use Rattle.machine.specs.Calls.{Call, format, begin, put, step, commit, abort, ask, recover, call, steps, records_for, format_checks, begin_checks, put_checks, step_checks, commit_checks, abort_checks, ask_checks, accepted, begins, commits, aborts, asks, recovers}
use Rattle.machine.specs.Checks.{refusing-numbers}
use Rattle.machine.specs.Descents.{guard-cases, latch-cases}
use Rattle.machine.specs.Waits.{settled-step}
use Rattle.machine.specs.Demand.{Tells, call_of}
use Rattle.meaning.specs.Reading.{meaning}
use Rattle.meaning.specs.Sound.{Sound}
use Rattle.sessions.specs.declared.Session.{Session}
use Rattle.promises.specs.Relations.{Calls, Formats}

abbrev pub brief_numbers : List ℕ → Bool
brief_numbers [] = true
brief_numbers (n ∷ []) = true
brief_numbers (k ∷ b ∷ []) = ltb b 256
brief_numbers (k ∷ b ∷ n ∷ ns) = false

abbrev pub brief : C.Answer → Bool
brief C.ok = true
brief C.more = true
brief (C.wait p) = true
brief (C.done ns) = brief_numbers ns
brief (C.refused n k) = ltb n 256

-- ---- the machine's answers

abbrev brief_machine : Answer → Bool
brief_machine ok = true
brief_machine more = true
brief_machine (wait ps) = true
brief_machine (done ns) = brief_numbers ns
brief_machine (refused n k) = ltb n 256

abbrev Brief : Outcome → Type 0
Brief o = brief_machine o.answer ≡ true

guarded-brief : (bs : List ℕ) (need p : ℕ) (r : Request) (s : State) (o : Outcome) → Brief o → Brief (guarded bs need p r s o)
guarded-brief bs need p r s o h = guard-cases Brief bs need p r s o (λ b l. refl) refl h

first-brief : (p : ℕ) (r : Request) (s : State) → Brief (first_step p r s)
unfolding first_step read-step write_step entry-step finished goes_on
first-brief p r s =
    either Brief (eqb r.code 1) (read-step p r s) (cond (eqb r.code 2) (write_step p r s) (cond (leb r.code 4) (entry-step p r s) (finished p r (0 ∷ 0 ∷ []) s)))
    (guarded-brief (entry_blockers weak p r s) 0 p r s (finished p r ((entry_of r.entry s).value ∷ []) (shared_state p r s)) refl)
    (either Brief (eqb r.code 2) (write_step p r s) (cond (leb r.code 4) (entry-step p r s) (finished p r (0 ∷ 0 ∷ []) s))
    (guarded-brief (entry_blockers strong p r s) 1 p r s (finished p r (0 ∷ []) (written p r s)) refl)
    (either Brief (leb r.code 4) (entry-step p r s) (finished p r (0 ∷ 0 ∷ []) s)
    (guarded-brief (entry_blockers strong p r s) 0 p r s (goes_on p r (enter r.first) (excluded_state p r s)) refl) refl))

insert-brief : (p : ℕ) (r : Request) (d : Desc) (s : State) → Brief (insert-step p r d s)
unfolding insert-step finished
insert-brief p r d s =
    let again = finished p r (0 ∷ []) (updating_state p r s) in
    let new = finished p r (1 ∷ []) (inserted_state p r s) in
    either Brief (elem r.entry d.members) (guarded (group_blockers strong p d) 0 p r s again) (guarded (group_blockers strong p d) 2 p r s new)
    (guarded-brief (group_blockers strong p d) 0 p r s again refl) (guarded-brief (group_blockers strong p d) 2 p r s new refl)

remove-brief : (p : ℕ) (r : Request) (d : Desc) (s : State) → Brief (remove-step p r d s)
unfolding remove-step finished
remove-brief p r d s =
    let out = finished p r (1 ∷ []) (removed_state p r s) in
    let none-there = finished p r (0 ∷ []) (updating_state p r s) in
    guarded-brief (group_blockers strong p d) 0 p r s (cond (elem r.entry d.members) out none-there) (either Brief (elem r.entry d.members) out none-there refl refl)

change-brief : (p : ℕ) (r : Request) (s : State) → Brief (change-step p r s)
unfolding change-step
change-brief p r s =
    either Brief (eqb r.code 3) (insert-step p r (desc_of r.first s) s) (remove-step p r (desc_of r.first s) s) (insert-brief p r (desc_of r.first s) s) (remove-brief p r (desc_of r.first s) s)

last-brief : (n p : ℕ) (r : Request) (l : List (ℕ × ℕ)) (d : Desc) (s : State) → Brief (last_take n p r l d s)
unfolding last_take
last-brief n p r l d s =
    either Brief (leb (2 * length l) n) (record { answer = done (length l ∷ []); next = ended p r (located_state p d s); written = l }) (answer (refused 12 (length l)) (ended p r s)) refl refl

take-brief : (n p : ℕ) (r : Request) (d : Desc) (s : State) → Brief (take_desc n p r d s)
unfolding take_desc goes_on
take-brief n p r d s =
    let pass = goes_on p r (take (suc d.key)) (passed_state p d s) in
    let last = last_take n p r (memberships r.first r.second (stored s)) d s in
    guarded-brief (group_blockers weak p d) 0 p r s (cond (ltb d.key r.second) pass last)
    (either Brief (ltb d.key r.second) pass last refl (last-brief n p r (memberships r.first r.second (stored s)) d s))

level-brief : (p : ℕ) (r : Request) (x : ℕ) (s : State) (h : ℕ) (es : Sons (suc h)) (t : Tree (suc h)) → Brief (level-step p r x s h es t)
unfolding level-step goes_on
level-brief p r x s h es t = guarded-brief (level_blockers p x h es t) (level_need p h t) p r s (goes_on p r (at x) (level_state p x s h es t)) refl

lowest-brief : (p : ℕ) (r : Request) (x : ℕ) (s : State) (d : Desc) → Brief (lowest_step p r x s d)
unfolding lowest_step tidy-step pin-step make-step finished goes_on
lowest-brief p r x s d =
    either Brief (eqb p 0) (tidy-step p r x d s) (cond (eqb d.key x) (pin-step p r x s) (make-step p r x s))
    (either Brief (removable (gap_below x 0 (stored s)) d) (finished p r (x ∷ 1 ∷ []) (tidied_state p x s)) (finished p r (x ∷ 0 ∷ []) s) refl refl)
    (either Brief (eqb d.key x) (pin-step p r x s) (make-step p r x s) refl (guarded-brief [] 1 p r s (goes_on p r (arrived r x) (made_state p x s)) refl))

stand-brief : (p : ℕ) (r : Request) (x : ℕ) (s : State) (h : ℕ) (t : Tree (suc h)) → Brief (stand_step p r x s h t)
unfolding stand_step
stand-brief p r x s zero t = lowest-brief p r x s (pick x no_desc same t.sons)
stand-brief p r x s (suc h) t = level-brief p r x s h t.sons (son-at x h t.sons)

next-brief : (n p : ℕ) (r : Request) (s : State) (g : Stage) → Brief (next_step n p r s g)
unfolding next_step enter_step at_step take_step goes_on
next-brief n p r s start = first-brief p r s
next-brief n p r s (enter x) = guarded-brief (root_blockers p s) (root_need p s) p r s (goes_on p r (at x) (cond (root_splits p s) (halved_root p x s) (whole_root p s))) refl
next-brief n p r s (at x) = latch-cases Brief (latch_word p) x (answer more s) (stand_step p r x s) (suc s.root.height) s.root.node refl (stand-brief p r x s)
next-brief n p r s change = change-brief p r s
next-brief n p r s (take x) = take-brief n p r (or_none (lowest_from x (stored s))) s

steps-brief : (p n : ℕ) (o : Option Request) (s : State) → Brief (steps p n o s)
unfolding steps
steps-brief p n none s = refl
steps-brief p n (some r) s = settled-step Brief n p r s (next-brief n p r s r.stage) (λ b e. refl)

call-brief : (c : Call) (s : State) → Brief (call c s)
unfolding call
call-brief (format m w) s = refusing-numbers Brief (format_checks m w) s (answer ok (fresh m (records_for m w))) (refl, tt) (λ h. refl)
call-brief (begin p) s = refusing-numbers Brief (begin_checks p s) s (answer ok (begins p s)) (refl, (refl, tt)) (λ h. refl)
call-brief (put p c e f g) s = refusing-numbers Brief (put_checks p c e f g s) s (answer ok (accepted p c e f g s)) (refl, (refl, (refl, (refl, (refl, (refl, (refl, (refl, tt)))))))) (λ h. refl)
call-brief (step p n) s = refusing-numbers Brief (step_checks p s) s (steps p n (session_of p s).hand s) (refl, (refl, (refl, tt))) (λ h. steps-brief p n (session_of p s).hand s)
call-brief (commit p) s = refusing-numbers Brief (commit_checks p s) s (answer ok (commits p s)) (refl, (refl, (refl, tt))) (λ h. refl)
call-brief (abort p) s = refusing-numbers Brief (abort_checks p s) s (answer ok (aborts p s)) (refl, (refl, tt)) (λ h. refl)
call-brief (ask p) s = refusing-numbers Brief (ask_checks p s) s (answer ok (asks p s)) (refl, (refl, (refl, (refl, tt)))) (λ h. refl)
call-brief recover s = refl

tells-brief : (a : Answer) (b : C.Answer) → Tells a b → brief b ≡ brief_machine a
tells-brief ok b e = ap brief e
tells-brief more b e = ap brief e
tells-brief (wait ps) b e = ap brief e.2
tells-brief (done ns) b e = ap brief e
tells-brief (refused n k) b e = ap brief e

told-brief : (c : Call) (s : State) (b : C.Answer) → Tells (call c s).answer b → brief b ≡ true
told-brief c s b h = tells-brief (call c s).answer b h ∙ call-brief c s

-- ---- the answers of the calls

-- A call is refused 2 where store and table are not sound, else its answer is the machine's: in neither case can it be other than brief.
pub calls-brief : (c : C.Call) (s : List ℕ) (t : List Session) (a : C.Answer) (l s' : List ℕ) (t' : List Session) → Calls c s t a l s' t' → brief a ≡ true
calls-brief c s t a l s' t' P = go (brief a) refl
  where
    sound-brief : Sound s t → brief a ≡ true
    sound-brief S = told-brief (call_of c (length s)) (meaning s t) a (P.answers S).0.tells

    go : (b : Bool) → brief a ≡ b → brief a ≡ true
    go true e = e
    go false e = absurd (true≢false (ap brief (P.refuses (λ S. true≢false (sound-brief S) e)).answer) e)

pub formats-brief : (m : ℕ) (s : List ℕ) (t : List Session) (a : C.Answer) (s' : List ℕ) (t' : List Session) → Formats m s t a s' t' → brief a ≡ true
formats-brief m s t a s' t' F = told-brief (call_of (C.format m) (length s)) (meaning s t) a F.tells

-- The steps of a request in hand, one definition for each (document 01, "Steps"). p is the party, r its request, s the state.
use Rattle.std.specs.Prelude.{Bool, true, false, cond, not, ◌&&◌, List, [], ◌∷◌, zero, suc, ◌+◌, ◌-◌, ◌*◌, ℕ, leb, ltb, eqb, length}
use Rattle.std.proofs.Math.Option.{none, some}
use Rattle.serial.specs.Locks.{Mode, weak, strong, Table, lock_rule}
use Rattle.serial.specs.Locks as L
use Rattle.machine.specs.Holders.{held_by, blockers, latch_word, elem, latch_blockers}
use Rattle.machine.specs.Tree.{onp, pick}
use Rattle.machine.specs.State.{Entry, Desc, Tree, Root, Stage, start, enter, change, take, Request, added, taken, State, Answer, more, wait, done, refused, Outcome, entry_of, session_of, stored, lowest_from, gap_below, or_none, no_desc, desc_of, with_root, with_free, on_entry, on_tree, on_desc, hold_desc, pin_desc, group_desc, same, with_member, without_member, set_hand, in_stage, add_undo, at}
use Rattle.machine.specs.State as State
use Rattle.machine.specs.Descent.{Sons, halves, pick_pair, on_pair, joins, mended, put_in, taken_out, at_latch, on_latch, unlatched, sons_of, lone, drop_lone, entered, split_root, node}

-- The lock rule: entries and groups, the mode held and the mode asked.
abbrev pub rule : Table
rule = lock_rule

-- ---- what every step shares

abbrev pub answer : Answer → State → Outcome
answer a s = record { answer = a; next = s; written = [] }

-- The keys that a request pins.
unfoldable pub pinned : Request → Stage → List ℕ
pinned r start = []
pinned r (enter x) = cond (eqb r.code 5 && not (eqb x r.first)) (r.first ∷ []) []
pinned r (at x) = cond (eqb r.code 5 && not (eqb x r.first)) (r.first ∷ []) []
pinned r change = r.first ∷ []
pinned r (take x) = cond (eqb r.first r.second) (r.first ∷ []) (r.first ∷ r.second ∷ [])

unfoldable pub unpin : List ℕ → State → State
unpin [] s = s
unpin (k ∷ ks) s = unpin ks (on_desc k (pin_desc (λ n. n - 1)) s)

-- A party's latch ends.
unfoldable pub unlatch : ℕ → Stage → State → State
unlatch p start s = s
unlatch p (enter x) s = s
unlatch p (at x) s = on_tree (on_latch (latch_word p) x unlatched) s
unlatch p change s = s
unlatch p (take x) s = s

-- The request in hand, its latch and its pins end.
unfoldable pub ended : ℕ → Request → State → State
ended p r s = set_hand p none (unpin (pinned r r.stage) (unlatch p r.stage s))

-- A step that goes on to another stage; one that finishes the request.
unfoldable pub goes_on : ℕ → Request → Stage → State → Outcome
goes_on p r g s = answer more (set_hand p (some (in_stage g r)) s)

unfoldable pub finished : ℕ → Request → List ℕ → State → Outcome
finished p r ns s = answer (done ns) (ended p r s)

-- A step waits if others are in the way; else it is refused if it needs more records than are free; else it is done whole.
unfoldable pub guarded : List ℕ → ℕ → ℕ → Request → State → Outcome → Outcome
guarded [] need p r s o = cond (leb need s.free) o (answer (refused 11 0) (ended p r s))
guarded (b ∷ bs) need p r s o = answer (wait (b ∷ bs)) s

-- ---- long locks

abbrev pub share_by : ℕ → Entry → Entry
share_by p e = record { value = e.value; share = held_by p e.share; exclusive = e.exclusive }

abbrev pub exclude_by : ℕ → ℕ → Entry → Entry
exclude_by p v e = record { value = v; share = e.share; exclusive = held_by p e.exclusive }

unfoldable pub entry_blockers : Mode → ℕ → Request → State → List ℕ
entry_blockers m p r s = let e = entry_of r.entry s in blockers rule L.entry m p e.share e.exclusive

unfoldable pub group_blockers : Mode → ℕ → Desc → List ℕ
group_blockers m p d = blockers rule L.group m p d.locate d.update

-- ---- read, write

abbrev pub shared_state : ℕ → Request → State → State
shared_state p r s = on_entry r.entry (share_by p) s

unfoldable pub read-step : ℕ → Request → State → Outcome
read-step p r s = guarded (entry_blockers weak p r s) 0 p r s (finished p r ((entry_of r.entry s).value ∷ []) (shared_state p r s))

unfoldable pub written : ℕ → Request → State → State
written p r s =
    let v = (entry_of r.entry s).value in
    add_undo p (State.value r.entry v) (with_free (s.free - 1) (on_entry r.entry (exclude_by p r.first) s))

unfoldable pub write_step : ℕ → Request → State → Outcome
write_step p r s = guarded (entry_blockers strong p r s) 1 p r s (finished p r (0 ∷ []) (written p r s))

-- ---- insert, remove

-- The entry's lock, and the descent begins.
abbrev pub excluded_state : ℕ → Request → State → State
excluded_state p r s = on_entry r.entry (λ e. exclude_by p e.value e) s

unfoldable pub entry-step : ℕ → Request → State → Outcome
entry-step p r s = guarded (entry_blockers strong p r s) 0 p r s (goes_on p r (enter r.first) (excluded_state p r s))

-- The group's lock and the change together. Adding takes 2 records; taking out makes the membership's record the undo record.
abbrev pub updating_state : ℕ → Request → State → State
updating_state p r s = on_desc r.first (hold_desc same (held_by p) same) s

abbrev pub inserted_state : ℕ → Request → State → State
inserted_state p r s =
    add_undo p (added r.entry r.first)
    (with_free (s.free - 2) (on_desc r.first (λ e. group_desc (with_member r.entry) (hold_desc same (held_by p) same e)) s))

abbrev pub removed_state : ℕ → Request → State → State
removed_state p r s =
    add_undo p (taken r.entry r.first) (on_desc r.first (λ e. group_desc (without_member r.entry) (hold_desc same (held_by p) same e)) s)

unfoldable pub insert-step : ℕ → Request → Desc → State → Outcome
insert-step p r d s =
    cond (elem r.entry d.members)
    (guarded (group_blockers strong p d) 0 p r s (finished p r (0 ∷ []) (updating_state p r s)))
    (guarded (group_blockers strong p d) 2 p r s (finished p r (1 ∷ []) (inserted_state p r s)))

unfoldable pub remove-step : ℕ → Request → Desc → State → Outcome
remove-step p r d s =
    guarded (group_blockers strong p d) 0 p r s
    (cond (elem r.entry d.members) (finished p r (1 ∷ []) (removed_state p r s)) (finished p r (0 ∷ []) (updating_state p r s)))

unfoldable pub change-step : ℕ → Request → State → Outcome
change-step p r s = cond (eqb r.code 3) (insert-step p r (desc_of r.first s) s) (remove-step p r (desc_of r.first s) s)

-- ---- locate

unfoldable pub pairs_of : ℕ → List ℕ → List (ℕ × ℕ) → List (ℕ × ℕ)
pairs_of k [] l = l
pairs_of k (e ∷ es) l = (k, e) ∷ pairs_of k es l

-- The memberships of a range, rising by key then entry.
unfoldable pub memberships : ℕ → ℕ → List Desc → List (ℕ × ℕ)
memberships lo hi [] = []
memberships lo hi (d ∷ ds) =
    let rest = memberships lo hi ds in
    cond (leb lo d.key && leb d.key hi) (pairs_of d.key d.members rest) rest

-- The lock of a descriptor and its gap; the lock alone.
abbrev pub passed_state : ℕ → Desc → State → State
passed_state p d s = on_desc d.key (hold_desc (held_by p) same (held_by p)) s

abbrev pub located_state : ℕ → Desc → State → State
located_state p d s = on_desc d.key (hold_desc (held_by p) same same) s

-- The step at second answers, or is refused 12 if the list of n words is too short.
unfoldable pub last_take : ℕ → ℕ → Request → List (ℕ × ℕ) → Desc → State → Outcome
last_take n p r l d s =
    cond (leb (2 * length l) n)
    (record { answer = done (length l ∷ []); next = ended p r (located_state p d s); written = l })
    (answer (refused 12 (length l)) (ended p r s))

-- The descriptor's lock and, below second, its gap.
unfoldable pub take_desc : ℕ → ℕ → Request → Desc → State → Outcome
take_desc n p r d s =
    let pass = goes_on p r (take (suc d.key)) (passed_state p d s) in
    let last = last_take n p r (memberships r.first r.second (stored s)) d s in
    guarded (group_blockers weak p d) 0 p r s (cond (ltb d.key r.second) pass last)

unfoldable pub take_step : ℕ → ℕ → Request → ℕ → State → Outcome
take_step n p r x s = take_desc n p r (or_none (lowest_from x (stored s))) s

-- ---- the descent to x

-- What follows a descent: a locate goes to second, then takes; an insert or remove changes.
unfoldable pub arrived : Request → ℕ → Stage
arrived r x = cond (eqb r.code 5) (cond (eqb x r.second) (take r.first) (enter r.second)) change

-- A node that the housekeeper must mend; one that a session must split.
abbrev pub small : ℕ → (h : ℕ) → Tree (suc h) → Bool
small p h t = eqb p 0 && eqb (sons_of t) 3

abbrev pub fills : ℕ → (h : ℕ) → Tree (suc h) → Bool
fills p h t = not (eqb p 0) && eqb (sons_of t) 8

-- (i) Enter the root: dropped if its lone son is a node; split four and four if full, unless by the housekeeper.
abbrev pub root_left : State → Root
root_left s = drop_lone s.root.height s.root.node

abbrev pub root_gain : State → ℕ
root_gain s = cond (lone s.root.height s.root.node) 1 0

abbrev pub root_splits : ℕ → State → Bool
root_splits p s = fills p (root_left s).height (root_left s).node

abbrev pub root_need : ℕ → State → ℕ
root_need p s = cond (root_splits p s) (2 - root_gain s) 0

-- The root latched whole; the root split, and its proper half latched.
abbrev pub whole_root : ℕ → State → State
whole_root p s = with_free (s.free + root_gain s) (with_root (entered (latch_word p) (root_left s)) s)

abbrev pub halved_root : ℕ → ℕ → State → State
halved_root p x s = with_free (s.free + root_gain s - 2) (with_root (split_root (latch_word p) x (root_left s)) s)

abbrev pub root_blockers : ℕ → State → List ℕ
root_blockers p s = latch_blockers p (s.root.node.latch ∷ (root_left s).node.latch ∷ [])

unfoldable pub enter_step : ℕ → Request → ℕ → State → Outcome
enter_step p r x s =
    let split = halved_root p x s in
    let whole = whole_root p s in
    guarded (root_blockers p s) (root_need p s) p r s (goes_on p r (at x) (cond (root_splits p s) split whole))

-- (ii) One level down, from a parent with sons es to the son t on the path.
-- The parent's sons after the step: where the housekeeper finds 3 sons in t, its neighbour takes part.
unfoldable pub stepped : ℕ → ℕ → (h : ℕ) → Tree (suc h) → Sons (suc h) → Sons (suc h)
stepped p x h t es =
    let pair = on_pair x (mended (latch_word p) x h) es in
    let split = onp x (halves (latch_word p) x h) es in
    let plain = onp x (λ a u. (node (latch_word p) a.sons, u) ∷ []) es in
    cond (small p h t) pair (cond (fills p h t) split plain)

-- The latch words of the nodes that take part.
unfoldable pub taking_part : ℕ → ℕ → (h : ℕ) → Tree (suc h) → Sons (suc h) → List ℕ
taking_part p x h t es = cond (small p h t) (pick_pair x [] (λ a b. a.0.latch ∷ b.0.latch ∷ []) es) (t.latch ∷ [])

abbrev pub son-at : ℕ → (h : ℕ) → Sons (suc h) → Tree (suc h)
son-at x h es = pick x (node 0 []) same es

-- The parent, unlatched.
unfoldable pub descended : ℕ → ℕ → (h : ℕ) → Tree (suc h) → Tree (suc h)
descended p x zero t = t
descended p x (suc h) t = node 0 (stepped p x h (son-at x h t.sons) t.sons)

-- Records that a level takes or gives back.
abbrev pub level_need : ℕ → (h : ℕ) → Tree (suc h) → ℕ
level_need p h t = cond (fills p h t) 1 0

abbrev pub level_gain : ℕ → ℕ → (h : ℕ) → Sons (suc h) → Tree (suc h) → ℕ
level_gain p x h es t = cond (small p h t && pick_pair x false (joins x h) es) 1 0

abbrev pub level_state : ℕ → ℕ → State → (h : ℕ) → Sons (suc h) → Tree (suc h) → State
level_state p x s h es t = with_free (s.free + level_gain p x h es t - level_need p h t) (on_tree (on_latch (latch_word p) x (descended p x)) s)

abbrev pub level_blockers : ℕ → ℕ → (h : ℕ) → Sons (suc h) → Tree (suc h) → List ℕ
level_blockers p x h es t = latch_blockers p (taking_part p x h t es)

unfoldable pub level-step : ℕ → Request → ℕ → State → (h : ℕ) → Sons (suc h) → Tree (suc h) → Outcome
level-step p r x s h es t = guarded (level_blockers p x h es t) (level_need p h t) p r s (goes_on p r (at x) (level_state p x s h es t))

-- (iii) At the lowest node: pin the descriptor, or make it in its gap, and end the latch.
abbrev pub pinned_state : ℕ → ℕ → State → State
pinned_state p x s = unlatch p (at x) (on_desc x (pin_desc suc) s)

unfoldable pub pin-step : ℕ → Request → ℕ → State → Outcome
pin-step p r x s = goes_on p r (arrived r x) (pinned_state p x s)

-- A descriptor newly made takes the gap's holders as both its locate and its gap holders.
abbrev pub made : ℕ → ℕ → Desc
made x g = record { key = x; locate = g; update = 0; gap = g; pins = 1; members = [] }

abbrev pub on_lowest : (Sons 0 → Sons 0) → (h : ℕ) → Tree (suc h) → Tree (suc h)
on_lowest f zero t = node t.latch (f t.sons)
on_lowest f (suc h) t = t

abbrev pub made_state : ℕ → ℕ → State → State
made_state p x s =
    let new = made x (gap_below x 0 (stored s)) in
    unlatch p (at x) (with_free (s.free - 1) (on_tree (on_latch (latch_word p) x (on_lowest (put_in new))) s))

unfoldable pub make-step : ℕ → Request → ℕ → State → Outcome
make-step p r x s = guarded [] 1 p r s (goes_on p r (arrived r x) (made_state p x s))

-- ---- tidy's last step

abbrev pub is_empty : {A : Type 0} → List A → Bool
is_empty [] = true
is_empty (x ∷ l) = false

-- The descriptor d may go; g is the gap holders of the descriptor before it.
unfoldable pub removable : ℕ → Desc → Bool
removable g d = not (eqb d.key 0) && eqb d.pins 0 && is_empty d.members && eqb d.update 0 && eqb d.locate g && eqb d.gap g

abbrev pub tidied_state : ℕ → ℕ → State → State
tidied_state p x s = with_free (s.free + 1) (on_tree (on_latch (latch_word p) x (on_lowest (taken_out x))) s)

unfoldable pub tidy-step : ℕ → Request → ℕ → Desc → State → Outcome
tidy-step p r x d s =
    cond (removable (gap_below x 0 (stored s)) d)
    (finished p r (x ∷ 1 ∷ []) (tidied_state p x s))
    (finished p r (x ∷ 0 ∷ []) s)

-- ---- where the descent stands

unfoldable pub lowest_step : ℕ → Request → ℕ → State → Desc → Outcome
lowest_step p r x s d = cond (eqb p 0) (tidy-step p r x d s) (cond (eqb d.key x) (pin-step p r x s) (make-step p r x s))

unfoldable pub stand_step : ℕ → Request → ℕ → State → (h : ℕ) → Tree (suc h) → Outcome
stand_step p r x s zero t = lowest_step p r x s (pick x no_desc same t.sons)
stand_step p r x s (suc h) t = level-step p r x s h t.sons (son-at x h t.sons)

unfoldable pub at_step : ℕ → Request → ℕ → State → Outcome
at_step p r x s = at_latch (latch_word p) x (answer more s) (stand_step p r x s) (suc s.root.height) s.root.node

-- ---- the step that is next

unfoldable pub first_step : ℕ → Request → State → Outcome
first_step p r s =
    cond (eqb r.code 1) (read-step p r s)
    (cond (eqb r.code 2) (write_step p r s)
    (cond (leb r.code 4) (entry-step p r s) (finished p r (0 ∷ 0 ∷ []) s)))

-- n is how many words of list are lent.
unfoldable pub next_step : ℕ → ℕ → Request → State → Stage → Outcome
next_step n p r s start = first_step p r s
next_step n p r s (enter x) = enter_step p r x s
next_step n p r s (at x) = at_step p r x s
next_step n p r s change = change-step p r s
next_step n p r s (take x) = take_step n p r x s

-- ---- a wait names one party

-- Of sessions the one that began first: b, or one of the rest with a lower number.
unfoldable pub oldest : State → ℕ → List ℕ → ℕ
oldest s b [] = b
oldest s b (c ∷ cs) = oldest s (cond (ltb (session_of c s).order (session_of b s).order) c b) cs

-- Whom a wait names: of long locks the session that began first; of latches the first, since they are listed highest node first, then from left to right.
abbrev pub named : State → Stage → ℕ → List ℕ → ℕ
named s start b bs = oldest s b bs
named s (enter x) b bs = b
named s (at x) b bs = b
named s change b bs = oldest s b bs
named s (take x) b bs = oldest s b bs

abbrev pub settle : State → Stage → Answer → Outcome → Outcome
settle s g State.ok o = o
settle s g more o = o
settle s g (wait []) o = o
settle s g (wait (b ∷ bs)) o = record { answer = wait (named s g b bs ∷ []); next = o.next; written = o.written }
settle s g (done ns) o = o
settle s g (refused n k) o = o

-- A step at stage g, its wait named.
unfoldable pub settled : State → Stage → Outcome → Outcome
settled s g o = settle s g o.answer o

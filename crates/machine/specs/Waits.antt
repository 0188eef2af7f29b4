-- Demand 2, waiting, by the guards of the steps: a step waits exactly if they find somebody, and then changes nothing. Whom they find is said in Conflicts.
-- A wait as it is settled names one of them, which one is said in Naming.
use Rattle.std.specs.Prelude.{◌≡◌, refl, Bool, true, false, cond, ◌||◌, List, [], ◌∷◌, ◌↔◌, zero, suc, ◌*◌, ℕ, leb, ltb, eqb, length}
use Rattle.std.proofs.Common.{sym, ◌∙◌, subst, ap}
use Rattle.serial.specs.Serial.{true≢false}
use Rattle.serial.specs.Locks.{weak, strong}
use Rattle.machine.specs.Logic.{eqb_yes, eqb_is, either}
use Rattle.machine.specs.Holders.{latch_word, elem}
use Rattle.machine.specs.Tree.{pick}
use Rattle.machine.specs.State.{Desc, Tree, Stage, start, enter, change, take, Request, State, Answer, more, wait, done, refused, no_desc, same, or_none, session_of, stored, lowest_from, gap_below, desc_of, at, ok, Outcome}
use Rattle.machine.specs.Descent.{Sons, at_latch}
use Rattle.machine.specs.Steps.{ended, goes_on, finished, guarded, entry_blockers, group_blockers, read-step, write_step, entry-step, insert-step, remove-step, change-step, memberships, last_take, take_desc, take_step, root_blockers, root_need, enter_step, level_blockers, level-step, son-at, pin-step, make-step, removable, tidied_state, tidy-step, lowest_step, stand_step, at_step, first_step, next_step, updating_state, removed_state, answer, oldest, named, settle, settled}

-- ---- the parties in the way of the next step

unfoldable pub stand_blockers : ℕ → ℕ → (h : ℕ) → Tree (suc h) → List ℕ
stand_blockers p x zero t = []
stand_blockers p x (suc h) t = level_blockers p x h t.sons (son-at x h t.sons)

-- Long locks on the entry or the descriptor that the step asks for; latches on the nodes that it locks, drops, joins or takes from.
unfoldable pub step_blockers : ℕ → Request → State → Stage → List ℕ
step_blockers p r s start = cond (eqb r.code 1) (entry_blockers weak p r s) (cond (leb r.code 4) (entry_blockers strong p r s) [])
step_blockers p r s (enter x) = root_blockers p s
step_blockers p r s (at x) = at_latch (latch_word p) x [] (stand_blockers p x) (suc s.root.height) s.root.node
step_blockers p r s change = group_blockers strong p (desc_of r.first s)
step_blockers p r s (take x) = group_blockers weak p (or_none (lowest_from x (stored s)))

-- ---- a step waits exactly if these are not none

abbrev pub waiting : Answer → Bool
waiting ok = false
waiting more = false
waiting (wait ps) = true
waiting (done ns) = false
waiting (refused n b) = false

-- With nobody in the way an outcome is no wait; else it is the wait for them, and the state is as it was.
abbrev pub WaitsFor : State → List ℕ → Outcome → Type 0
WaitsFor s [] o = waiting o.answer ≡ false
WaitsFor s (b ∷ bs) o = o ≡ answer (wait (b ∷ bs)) s

guard-waits : (bs : List ℕ) (need p : ℕ) (r : Request) (s : State) (o : Outcome) → waiting o.answer ≡ false → WaitsFor s bs (guarded bs need p r s o)
unfolding guarded
guard-waits [] need p r s o h = either (λ x. waiting x.answer ≡ false) (leb need s.free) o (answer (refused 11 0) (ended p r s)) h refl
guard-waits (b ∷ bs) need p r s o h = refl

if-waits : (b : Bool) (s : State) (ws bs : List ℕ) (o q : Outcome) → WaitsFor s ws o → WaitsFor s bs q → WaitsFor s (cond b ws bs) (cond b o q)
if-waits true s ws bs o q f g = f
if-waits false s ws bs o q f g = g

-- Writes, inserts and removes ask for the same lock on the entry.
same_test : (c : ℕ) (s : State) (ws : List ℕ) (o q z : Outcome) → WaitsFor s ws o → WaitsFor s ws q → WaitsFor s [] z
    → WaitsFor s (cond (leb c 4) ws []) (cond (eqb c 2) o (cond (leb c 4) q z))
same_test c s ws o q z f g k = go (leb c 4) refl (eqb c 2) refl
  where
    go : (b : Bool) → leb c 4 ≡ b → (d : Bool) → eqb c 2 ≡ d → WaitsFor s (cond b ws []) (cond d o (cond b q z))
    go true e true u = f
    go true e false u = g
    go false e true u = absurd (true≢false (subst (λ n. leb n 4 ≡ true) (sym (eqb_is c 2 u)) refl) e)
    go false e false u = k

first-waits : (p : ℕ) (r : Request) (s : State) → WaitsFor s (step_blockers p r s start) (first_step p r s)
unfolding step_blockers first_step read-step write_step entry-step goes_on finished
first-waits p r s =
    if-waits (eqb r.code 1) s (entry_blockers weak p r s) (cond (leb r.code 4) (entry_blockers strong p r s) []) (read-step p r s)
    (cond (eqb r.code 2) (write_step p r s) (cond (leb r.code 4) (entry-step p r s) (finished p r (0 ∷ 0 ∷ []) s)))
    (guard-waits (entry_blockers weak p r s) 0 p r s _ refl)
    (same_test r.code s (entry_blockers strong p r s) (write_step p r s) (entry-step p r s) (finished p r (0 ∷ 0 ∷ []) s)
    (guard-waits (entry_blockers strong p r s) 1 p r s _ refl) (guard-waits (entry_blockers strong p r s) 0 p r s _ refl) refl)

enter-waits : (p : ℕ) (r : Request) (x : ℕ) (s : State) → WaitsFor s (step_blockers p r s (enter x)) (enter_step p r x s)
unfolding step_blockers enter_step goes_on
enter-waits p r x s = guard-waits (root_blockers p s) (root_need p s) p r s _ refl

tidy-waits : (p : ℕ) (r : Request) (x : ℕ) (d : Desc) (s : State) → WaitsFor s [] (tidy-step p r x d s)
unfolding tidy-step finished
tidy-waits p r x d s =
    either (λ o. waiting o.answer ≡ false) (removable (gap_below x 0 (stored s)) d) (finished p r (x ∷ 1 ∷ []) (tidied_state p x s)) (finished p r (x ∷ 0 ∷ []) s) refl refl

stand-waits : (p : ℕ) (r : Request) (x : ℕ) (s : State) (h : ℕ) (t : Tree (suc h)) → WaitsFor s (stand_blockers p x h t) (stand_step p r x s h t)
unfolding stand_blockers stand_step lowest_step level-step pin-step make-step goes_on
stand-waits p r x s zero t =
    let d = pick x no_desc same t.sons in
    either (λ o. waiting o.answer ≡ false) (eqb p 0) (tidy-step p r x d s) (cond (eqb d.key x) (pin-step p r x s) (make-step p r x s)) (tidy-waits p r x d s)
    (either (λ o. waiting o.answer ≡ false) (eqb d.key x) (pin-step p r x s) (make-step p r x s) refl (guard-waits [] 1 p r s _ refl))
stand-waits p r x s (suc h) t = guard-waits (level_blockers p x h t.sons (son-at x h t.sons)) _ p r s _ refl

latch-waits : (p : ℕ) (r : Request) (x : ℕ) (s : State) (h : ℕ) (t : Tree h)
    → WaitsFor s (at_latch (latch_word p) x [] (stand_blockers p x) h t) (at_latch (latch_word p) x (answer more s) (stand_step p r x s) h t)
unfolding at_latch
latch-waits p r x s zero t = refl
latch-waits p r x s (suc h) t =
    if-waits (eqb t.latch (latch_word p)) s (stand_blockers p x h t) (pick x [] (at_latch (latch_word p) x [] (stand_blockers p x) h) t.sons)
    (stand_step p r x s h t) (pick x (answer more s) (at_latch (latch_word p) x (answer more s) (stand_step p r x s) h) t.sons)
    (stand-waits p r x s h t) (go t.sons (latch-waits p r x s h))
  where
    go : (es : Sons h) → ((a : Tree h) → WaitsFor s (at_latch (latch_word p) x [] (stand_blockers p x) h a) (at_latch (latch_word p) x (answer more s) (stand_step p r x s) h a))
        → WaitsFor s (pick x [] (at_latch (latch_word p) x [] (stand_blockers p x) h) es) (pick x (answer more s) (at_latch (latch_word p) x (answer more s) (stand_step p r x s) h) es)
    go [] f = refl
    go (e ∷ es) f = if-waits (leb x e.1) s (at_latch (latch_word p) x [] (stand_blockers p x) h e.0) (pick x [] (at_latch (latch_word p) x [] (stand_blockers p x) h) es)
        (at_latch (latch_word p) x (answer more s) (stand_step p r x s) h e.0) (pick x (answer more s) (at_latch (latch_word p) x (answer more s) (stand_step p r x s) h) es) (f e.0) (go es f)

at-waits : (p : ℕ) (r : Request) (x : ℕ) (s : State) → WaitsFor s (step_blockers p r s (at x)) (at_step p r x s)
unfolding step_blockers at_step
at-waits p r x s = latch-waits p r x s (suc s.root.height) s.root.node

change-waits : (p : ℕ) (r : Request) (s : State) → WaitsFor s (step_blockers p r s change) (change-step p r s)
unfolding step_blockers change-step insert-step remove-step finished
change-waits p r s =
    let d = desc_of r.first s in
    either (WaitsFor s (group_blockers strong p d)) (eqb r.code 3) (insert-step p r d s) (remove-step p r d s)
    (either (WaitsFor s (group_blockers strong p d)) (elem r.entry d.members) _ _
    (guard-waits (group_blockers strong p d) 0 p r s _ refl) (guard-waits (group_blockers strong p d) 2 p r s _ refl))
    (guard-waits (group_blockers strong p d) 0 p r s _
    (either (λ o. waiting o.answer ≡ false) (elem r.entry d.members) (finished p r (1 ∷ []) (removed_state p r s)) (finished p r (0 ∷ []) (updating_state p r s)) refl refl))

take-waits : (n p : ℕ) (r : Request) (x : ℕ) (s : State) → WaitsFor s (step_blockers p r s (take x)) (take_step n p r x s)
unfolding step_blockers take_step take_desc last_take goes_on
take-waits n p r x s =
    let d = or_none (lowest_from x (stored s)) in
    guard-waits (group_blockers weak p d) 0 p r s _
    (either (λ (o : Outcome). waiting o.answer ≡ false) (ltb d.key r.second) _ _ refl
    (either (λ (o : Outcome). waiting o.answer ≡ false) (leb (2 * length (memberships r.first r.second (stored s))) n) _ _ refl refl))

-- Every step of every party.
pub step_waits : (n p : ℕ) (r : Request) (s : State) (g : Stage) → WaitsFor s (step_blockers p r s g) (next_step n p r s g)
unfolding next_step
step_waits n p r s start = first-waits p r s
step_waits n p r s (enter x) = enter-waits p r x s
step_waits n p r s (at x) = at-waits p r x s
step_waits n p r s change = change-waits p r s
step_waits n p r s (take x) = take-waits n p r x s

-- ---- a wait names one of them

pub elem-first : (b : ℕ) (bs : List ℕ) → elem b (b ∷ bs) ≡ true
elem-first b bs = rw (eqb_yes b b refl) refl

pub elem-later : (q b : ℕ) (bs : List ℕ) → elem q bs ≡ true → elem q (b ∷ bs) ≡ true
elem-later q b bs e = go (eqb q b)
  where
    go : (d : Bool) → (d || elem q bs) ≡ true
    go true = refl
    go false = e

elem_past : (q b c : ℕ) (cs : List ℕ) → elem q (b ∷ cs) ≡ true → elem q (b ∷ c ∷ cs) ≡ true
elem_past q b c cs e = go (eqb q b) e
  where
    go : (d : Bool) → (d || elem q cs) ≡ true → (d || elem q (c ∷ cs)) ≡ true
    go true i = refl
    go false i = elem-later q c cs i

oldest-member : (s : State) (b : ℕ) (bs : List ℕ) → elem (oldest s b bs) (b ∷ bs) ≡ true
unfolding oldest
oldest-member s b [] = elem-first b []
oldest-member s b (c ∷ cs) = either (λ z. elem (oldest s z cs) (b ∷ c ∷ cs) ≡ true) (ltb (session_of c s).order (session_of b s).order) c b
    (elem-later (oldest s c cs) b (c ∷ cs) (oldest-member s c cs)) (elem_past (oldest s b cs) b c cs (oldest-member s b cs))

pub named-member : (s : State) (g : Stage) (b : ℕ) (bs : List ℕ) → elem (named s g b bs) (b ∷ bs) ≡ true
named-member s start b bs = oldest-member s b bs
named-member s (enter x) b bs = elem-first b bs
named-member s (at x) b bs = elem-first b bs
named-member s change b bs = oldest-member s b bs
named-member s (take x) b bs = oldest-member s b bs

-- The one that is named, alone.
abbrev pub only_named : State → Stage → List ℕ → List ℕ
only_named s g [] = []
only_named s g (b ∷ bs) = named s g b bs ∷ []

-- The party that a wait of p's next step names; 0 where nobody is in the way.
abbrev pub named_of : State → Stage → List ℕ → ℕ
named_of s g [] = 0
named_of s g (b ∷ bs) = named s g b bs

unfoldable pub whom : ℕ → Request → State → ℕ
whom p r s = named_of s r.stage (step_blockers p r s r.stage)

-- ---- a step as it is settled

settle-calm : (s : State) (g : Stage) (o : Outcome) (a : Answer) → waiting a ≡ false → settle s g a o ≡ o
settle-calm s g o ok h = refl
settle-calm s g o more h = refl
settle-calm s g o (wait bs) h = absurd (true≢false {b = true} refl h)
settle-calm s g o (done ns) h = refl
settle-calm s g o (refused n k) h = refl

-- What does not wait stays as it is.
pub settled-calm : (s : State) (g : Stage) (o : Outcome) → waiting o.answer ≡ false → settled s g o ≡ o
unfolding settled
settled-calm s g o h = settle-calm s g o o.answer h

-- State and list are never touched.
settled-keeps : {A : Type 0} (f : Outcome → A) → ((a : Answer) (o : Outcome) → f (record { answer = a; next = o.next; written = o.written }) ≡ f o)
    → (s : State) (g : Stage) (o : Outcome) → f (settled s g o) ≡ f o
unfolding settled
settled-keeps f h s g o = go o.answer
  where
    go : (a : Answer) → f (settle s g a o) ≡ f o
    go ok = refl
    go more = refl
    go (wait []) = refl
    go (wait (b ∷ bs)) = h (wait (named s g b bs ∷ [])) o
    go (done ns) = refl
    go (refused n k) = refl

pub settled-next : (s : State) (g : Stage) (o : Outcome) → (settled s g o).next ≡ o.next
settled-next = settled-keeps (λ o. o.next) (λ a o. refl)

pub settled-written : (s : State) (g : Stage) (o : Outcome) → (settled s g o).written ≡ o.written
settled-written = settled-keeps (λ o. o.written) (λ a o. refl)

-- No other answer comes or goes.
pub settled_says : (s : State) (g : Stage) (o : Outcome) (a : Answer) → waiting a ≡ false → ((settled s g o).answer ≡ a) ↔ (o.answer ≡ a)
unfolding settled
settled_says s g o a h = go o.answer refl
  where
    go : (z : Answer) → o.answer ≡ z → ((settle s g z o).answer ≡ a) ↔ (o.answer ≡ a)
    go ok e = ((λ i. i), λ i. i)
    go more e = ((λ i. i), λ i. i)
    go (wait []) e = ((λ i. i), λ i. i)
    go (wait (b ∷ bs)) e = ((λ i. absurd (true≢false (ap waiting (sym i)) h)), λ i. absurd (true≢false (ap waiting (sym i ∙ e)) h))
    go (done ns) e = ((λ i. i), λ i. i)
    go (refused n k) e = ((λ i. i), λ i. i)

-- With nobody in the way it is no wait; else it is the wait for the one that is named.
pub settled-waits : (s : State) (g : Stage) (bs : List ℕ) (o : Outcome) → WaitsFor s bs o → WaitsFor s (only_named s g bs) (settled s g o)
unfolding settled
settled-waits s g [] o w = ap (λ z. waiting z.answer) (settle-calm s g o o.answer w) ∙ w
settled-waits s g (b ∷ bs) o w = ap (λ z. settle s g z.answer z) w

-- The party that a wait names: an equation, whatever the state.
pub settled-whom : (n p : ℕ) (r : Request) (s : State) (ps : List ℕ) → (settled s r.stage (next_step n p r s r.stage)).answer ≡ wait ps → ps ≡ whom p r s ∷ []
unfolding whom
settled-whom n p r s ps = go (step_blockers p r s r.stage) (settled-waits s r.stage (step_blockers p r s r.stage) (next_step n p r s r.stage) (step_waits n p r s r.stage))
  where
    o : Outcome
    o = settled s r.stage (next_step n p r s r.stage)

    listed : (l m : List ℕ) → wait l ≡ wait m → l ≡ m
    listed l m e = cc

    go : (bs : List ℕ) → WaitsFor s (only_named s r.stage bs) o → o.answer ≡ wait ps → ps ≡ named_of s r.stage bs ∷ []
    go [] w i = absurd (true≢false (ap waiting i) w)
    go (b ∷ bs) w i = listed ps (named s r.stage b bs ∷ []) (sym i ∙ ap (λ z. z.answer) w)

-- A fact of a step as it was, and of the wait for any one of those in the way, is one of the step as it is settled.
pub settled-cases : (P : Outcome → Type 0) (s : State) (g : Stage) (bs : List ℕ) (o : Outcome) → WaitsFor s bs o
    → P o → ((b : ℕ) → elem b bs ≡ true → P (answer (wait (b ∷ [])) s)) → P (settled s g o)
settled-cases P s g [] o w x f = subst P (sym (settled-calm s g o w)) x
settled-cases P s g (b ∷ bs) o w x f = subst P (sym (settled-waits s g (b ∷ bs) o w)) (f (named s g b bs) (named-member s g b bs))

pub settled-step : (P : Outcome → Type 0) (n p : ℕ) (r : Request) (s : State) → P (next_step n p r s r.stage)
    → ((b : ℕ) → elem b (step_blockers p r s r.stage) ≡ true → P (answer (wait (b ∷ [])) s)) → P (settled s r.stage (next_step n p r s r.stage))
settled-step P n p r s = settled-cases P s r.stage (step_blockers p r s r.stage) (next_step n p r s r.stage) (step_waits n p r s r.stage)

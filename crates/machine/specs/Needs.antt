-- Demand 1, refusals 11 and 12: a step is refused 11 exactly if nobody is in its way and fewer records are free than it needs, and 12 exactly if it is a locate's last,
-- nobody is in its way and the lent list is shorter than twice the number of memberships in the range, which comes back.
use Rattle.std.specs.Prelude.{◌≡◌, refl, Bool, true, false, cond, not, ◌&&◌, List, [], ◌∷◌, ◌↔◌, zero, suc, ◌-◌, ◌*◌, ◌<◌, ℕ, leb, ltb, eqb, length}
use Rattle.std.proofs.Common.{sym, subst, ap, arith}
use Rattle.serial.specs.Serial.{true≢false}
use Rattle.serial.specs.Locks.{weak, strong}
use Rattle.machine.specs.Logic.{eqb_is, leb-is, leb-not, leb_yes, either}
use Rattle.machine.specs.Holders.{latch_word, elem}
use Rattle.machine.specs.Tree.{Node, pick}
use Rattle.machine.specs.State.{Tree, Stage, start, enter, change, take, Request, State, Answer, more, wait, done, refused, Outcome, no_desc, same, or_none, stored, lowest_from, gap_below, desc_of, at, ok}
use Rattle.machine.specs.Descent.{Sons, node, sons_of, at_latch, lone, drop_lone}
use Rattle.machine.specs.Steps.{ended, goes_on, finished, guarded, entry_blockers, group_blockers, read-step, write_step, entry-step, insert-step, remove-step, change-step, memberships, last_take, take_desc, take_step, fills, root_blockers, root_need, root_splits, enter_step, level_blockers, level-step, son-at, pin-step, make-step, removable, tidied_state, tidy-step, lowest_step, stand_step, at_step, first_step, updating_state, inserted_state, removed_state, answer, is_empty}
use Rattle.machine.specs.InTheWay.{LowestFrom}
use Rattle.machine.specs.Waits.{stand_blockers, step_blockers}
use Rattle.machine.specs.Answers.{ordinary}

-- ---- the records that the next step needs; nothing here is read of the guards of the steps

-- A full node has 8 sons; "the housekeeper doesn't split".
abbrev pub splits : ℕ → {A : Type 0} → Node ℕ A → Bool
splits p t = not (eqb p 0) && eqb (sons_of t) 8

-- "Lock the son, split it if full (1 record)"; "seize the descriptor, or make it (1 record)". Tidy's last step makes nothing.
unfoldable pub stand_needs : ℕ → ℕ → (h : ℕ) → Tree (suc h) → ℕ
stand_needs p x zero t = cond (eqb p 0) 0 (cond (eqb (pick x no_desc same t.sons).key x) 0 1)
stand_needs p x (suc h) t = cond (splits p (pick x (node 0 []) same t.sons)) 1 0

-- "A write takes 1 record"; "a full root is split four and four under a new root (2 records)", of which a root dropped in this step gives one, "its record counting as free";
-- "adding takes 2 records; taking out reuses the membership's record, and 0-answers take none".
unfoldable pub step_needs : ℕ → Request → State → Stage → ℕ
step_needs p r s start = cond (eqb r.code 2) 1 0
step_needs p r s (enter x) = cond (splits p (drop_lone s.root.height s.root.node).node) (cond (lone s.root.height s.root.node) 1 2) 0
step_needs p r s (at x) = at_latch (latch_word p) x 0 (stand_needs p x) (suc s.root.height) s.root.node
step_needs p r s change = cond (eqb r.code 3) (cond (elem r.entry (desc_of r.first s).members) 0 2) 0
step_needs p r s (take x) = 0

-- ---- 11

-- Refused 11, with 0 beside it, exactly if nobody is in the way and fewer records are free than needed.
abbrev pub Lacks : State → List ℕ → ℕ → Outcome → Type 0
Lacks s bs need o = (k : ℕ) → (o.answer ≡ refused 11 k) ↔ ((k ≡ 0) × (bs ≡ []) × (s.free < need))

abbrev lacking : Answer → Bool
lacking ok = false
lacking more = false
lacking (wait ps) = false
lacking (done ns) = false
lacking (refused n k) = eqb n 11

abbrev Enough : Outcome → Type 0
Enough o = lacking o.answer ≡ false

pub beside_same : (n i j : ℕ) → refused n i ≡ refused n j → i ≡ j
beside_same n i j e = cc

-- An outcome that needs none.
no-need : (s : State) (bs : List ℕ) (o : Outcome) → Enough o → Lacks s bs 0 o
no-need s bs o h k = ((λ e. absurd (true≢false (ap lacking e) h)), λ f. absurd (omega (arith, f.2)))

guard-lacks : (bs : List ℕ) (need p : ℕ) (r : Request) (s : State) (o : Outcome) → Enough o → Lacks s bs need (guarded bs need p r s o)
unfolding guarded
guard-lacks [] need p r s o h = go (leb need s.free) refl
  where
    go : (b : Bool) → leb need s.free ≡ b → Lacks s [] need (cond b o (answer (refused 11 0) (ended p r s)))
    go true e k = ((λ u. absurd (true≢false (ap lacking u) h)), λ f. absurd (omega (arith, f.2, leb-is need s.free e)))
    go false e k = ((λ u. (sym (beside_same 11 0 k u), refl, leb-not need s.free e)), λ f. ap (refused 11) (sym f.0))
guard-lacks (b ∷ bs) need p r s o h = λ k. ((λ u. absurd (true≢false (ap lacking u) refl)), λ f. absurd (true≢false (ap is_empty f.1) refl))

if-lacks : (b : Bool) (s : State) (ws bs : List ℕ) (m n : ℕ) (o q : Outcome) → Lacks s ws m o → Lacks s bs n q → Lacks s (cond b ws bs) (cond b m n) (cond b o q)
if-lacks true s ws bs m n o q f g = f
if-lacks false s ws bs m n o q f g = g

pub first-lacks : (p : ℕ) (r : Request) (s : State) → Lacks s (step_blockers p r s start) (step_needs p r s start) (first_step p r s)
unfolding step_blockers step_needs first_step read-step write_step entry-step goes_on finished
first-lacks p r s = go (eqb r.code 1) refl (eqb r.code 2) refl (leb r.code 4) refl
  where
    reads : Lacks s (entry_blockers weak p r s) 0 (read-step p r s)
    reads = guard-lacks (entry_blockers weak p r s) 0 p r s _ refl

    writes : Lacks s (entry_blockers strong p r s) 1 (write_step p r s)
    writes = guard-lacks (entry_blockers strong p r s) 1 p r s _ refl

    starts : Lacks s (entry_blockers strong p r s) 0 (entry-step p r s)
    starts = guard-lacks (entry_blockers strong p r s) 0 p r s _ refl

    go : (a : Bool) → eqb r.code 1 ≡ a → (b : Bool) → eqb r.code 2 ≡ b → (c : Bool) → leb r.code 4 ≡ c
        → Lacks s (cond a (entry_blockers weak p r s) (cond c (entry_blockers strong p r s) [])) (cond b 1 0)
        (cond a (read-step p r s) (cond b (write_step p r s) (cond c (entry-step p r s) (finished p r (0 ∷ 0 ∷ []) s))))
    go true e true u c v = absurd (omega (arith, eqb_is r.code 1 e, eqb_is r.code 2 u))
    go true e false u c v = reads
    go false e true u true v = writes
    go false e true u false v = absurd (omega (arith, eqb_is r.code 2 u, leb-not r.code 4 v))
    go false e false u true v = starts
    go false e false u false v = no-need s [] (finished p r (0 ∷ 0 ∷ []) s) refl

pub enter-lacks : (p : ℕ) (r : Request) (x : ℕ) (s : State) → Lacks s (step_blockers p r s (enter x)) (step_needs p r s (enter x)) (enter_step p r x s)
unfolding step_blockers step_needs enter_step goes_on
enter-lacks p r x s = subst (λ n. Lacks s (root_blockers p s) n (enter_step p r x s)) (ap (λ n. cond (root_splits p s) n 0) (gain (lone s.root.height s.root.node)))
    (guard-lacks (root_blockers p s) (root_need p s) p r s _ refl)
  where
    gain : (b : Bool) → 2 - cond b 1 0 ≡ cond b 1 2
    gain true = refl
    gain false = refl

stand-lacks : (p : ℕ) (r : Request) (x : ℕ) (s : State) (h : ℕ) (t : Tree (suc h)) → Lacks s (stand_blockers p x h t) (stand_needs p x h t) (stand_step p r x s h t)
unfolding stand_blockers stand_needs stand_step lowest_step level-step tidy-step pin-step make-step goes_on finished
stand-lacks p r x s zero t =
    let d = pick x no_desc same t.sons in
    go (eqb p 0) (eqb d.key x)
    (either Enough (removable (gap_below x 0 (stored s)) d) (finished p r (x ∷ 1 ∷ []) (tidied_state p x s)) (finished p r (x ∷ 0 ∷ []) s) refl refl)
  where
    go : (a b : Bool) → Enough (tidy-step p r x (pick x no_desc same t.sons) s)
        → Lacks s [] (cond a 0 (cond b 0 1)) (cond a (tidy-step p r x (pick x no_desc same t.sons) s) (cond b (pin-step p r x s) (make-step p r x s)))
    go true b h = no-need s [] (tidy-step p r x (pick x no_desc same t.sons) s) h
    go false true h = no-need s [] (pin-step p r x s) refl
    go false false h = guard-lacks [] 1 p r s _ refl
stand-lacks p r x s (suc h) t = guard-lacks (level_blockers p x h t.sons (son-at x h t.sons)) (cond (fills p h (son-at x h t.sons)) 1 0) p r s _ refl

latch-lacks : (p : ℕ) (r : Request) (x : ℕ) (s : State) (h : ℕ) (t : Tree h)
    → Lacks s (at_latch (latch_word p) x [] (stand_blockers p x) h t) (at_latch (latch_word p) x 0 (stand_needs p x) h t) (at_latch (latch_word p) x (answer more s) (stand_step p r x s) h t)
unfolding at_latch
latch-lacks p r x s zero t = no-need s [] (answer more s) refl
latch-lacks p r x s (suc h) t =
    if-lacks (eqb t.latch (latch_word p)) s (stand_blockers p x h t) (pick x [] (at_latch (latch_word p) x [] (stand_blockers p x) h) t.sons)
    (stand_needs p x h t) (pick x 0 (at_latch (latch_word p) x 0 (stand_needs p x) h) t.sons)
    (stand_step p r x s h t) (pick x (answer more s) (at_latch (latch_word p) x (answer more s) (stand_step p r x s) h) t.sons)
    (stand-lacks p r x s h t) (go t.sons (latch-lacks p r x s h))
  where
    go : (es : Sons h)
        → ((a : Tree h) → Lacks s (at_latch (latch_word p) x [] (stand_blockers p x) h a) (at_latch (latch_word p) x 0 (stand_needs p x) h a) (at_latch (latch_word p) x (answer more s) (stand_step p r x s) h a))
        → Lacks s (pick x [] (at_latch (latch_word p) x [] (stand_blockers p x) h) es) (pick x 0 (at_latch (latch_word p) x 0 (stand_needs p x) h) es)
        (pick x (answer more s) (at_latch (latch_word p) x (answer more s) (stand_step p r x s) h) es)
    go [] f = no-need s [] (answer more s) refl
    go (e ∷ es) f = if-lacks (leb x e.1) s (at_latch (latch_word p) x [] (stand_blockers p x) h e.0) (pick x [] (at_latch (latch_word p) x [] (stand_blockers p x) h) es)
        (at_latch (latch_word p) x 0 (stand_needs p x) h e.0) (pick x 0 (at_latch (latch_word p) x 0 (stand_needs p x) h) es)
        (at_latch (latch_word p) x (answer more s) (stand_step p r x s) h e.0) (pick x (answer more s) (at_latch (latch_word p) x (answer more s) (stand_step p r x s) h) es) (f e.0) (go es f)

pub at-lacks : (p : ℕ) (r : Request) (x : ℕ) (s : State) → Lacks s (step_blockers p r s (at x)) (step_needs p r s (at x)) (at_step p r x s)
unfolding step_blockers step_needs at_step
at-lacks p r x s = latch-lacks p r x s (suc s.root.height) s.root.node

pub change-lacks : (p : ℕ) (r : Request) (s : State) → Lacks s (step_blockers p r s change) (step_needs p r s change) (change-step p r s)
unfolding step_blockers step_needs change-step insert-step remove-step finished
change-lacks p r s = go (eqb r.code 3) (elem r.entry (desc_of r.first s).members)
  where
    go : (a b : Bool) → Lacks s (group_blockers strong p (desc_of r.first s)) (cond a (cond b 0 2) 0) (cond a
        (cond b (guarded (group_blockers strong p (desc_of r.first s)) 0 p r s (finished p r (0 ∷ []) (updating_state p r s)))
        (guarded (group_blockers strong p (desc_of r.first s)) 2 p r s (finished p r (1 ∷ []) (inserted_state p r s))))
        (guarded (group_blockers strong p (desc_of r.first s)) 0 p r s (cond b (finished p r (1 ∷ []) (removed_state p r s)) (finished p r (0 ∷ []) (updating_state p r s)))))
    go true true = guard-lacks (group_blockers strong p (desc_of r.first s)) 0 p r s _ refl
    go true false = guard-lacks (group_blockers strong p (desc_of r.first s)) 2 p r s _ refl
    go false b = guard-lacks (group_blockers strong p (desc_of r.first s)) 0 p r s _ (either Enough b (finished p r (1 ∷ []) (removed_state p r s)) (finished p r (0 ∷ []) (updating_state p r s)) refl refl)

pub take-lacks : (n p : ℕ) (r : Request) (x : ℕ) (s : State) → Lacks s (step_blockers p r s (take x)) (step_needs p r s (take x)) (take_step n p r x s)
unfolding step_blockers step_needs take_step take_desc last_take goes_on
take-lacks n p r x s =
    let d = or_none (lowest_from x (stored s)) in
    guard-lacks (group_blockers weak p d) 0 p r s _
    (either Enough (ltb d.key r.second) _ _ refl (either Enough (leb (2 * length (memberships r.first r.second (stored s))) n) _ _ refl refl))

-- Nobody in the way, by the guards and by document 01's words.
pub in_words : {X A N B D : Type 0} → N ↔ B → X ↔ (A × N × D) → X ↔ (A × B × D)
in_words f h = ((λ x. let z = h.0 x in (z.0, f.0 z.1, z.2)), λ z. h.1 (z.0, f.1 z.1, z.2))

-- ---- 12

-- The step is a locate's last: the lowest stored key from its place on is second.
abbrev pub AtSecond : Request → State → Stage → Type 0
AtSecond r s start = ⊥
AtSecond r s (enter x) = ⊥
AtSecond r s (at x) = ⊥
AtSecond r s change = ⊥
AtSecond r s (take x) = LowestFrom x s r.second

-- Every other step answers ordinarily.
abbrev pub Plain : Outcome → Type 0
Plain o = ordinary o.answer ≡ true

pub never : (A B : Type 0) (o : Outcome) (k : ℕ) → Plain o → (o.answer ≡ refused 12 k) ↔ (⊥ × A × B)
never A B o k h = ((λ e. absurd (true≢false h (ap ordinary e))), λ f. absurd f.0)

abbrev pub nobody : List ℕ
nobody = []

pub none_needed : (p : ℕ) (r : Request) (s : State) (o : Outcome) → guarded [] 0 p r s o ≡ o
unfolding guarded
none_needed p r s o = ap (λ b. cond b o (answer (refused 11 0) (ended p r s))) (leb_yes 0 s.free (omega arith))

-- Guarded steps by cases; and the steps of a descent that make and remove no descriptor, waits and refusals: they leave values, memberships, holders of every
-- entry and key, and undo records.
use Rattle.std.specs.Prelude.{◌≡◌, cond, List, [], ◌∷◌, suc, ◌+◌, ◌-◌, zero, ℕ, leb, eqb}
use Rattle.std.proofs.Common.{◌∙◌}
use Rattle.std.proofs.Math.Option.{some}
use Rattle.machine.specs.Logic.{either}
use Rattle.machine.specs.Holders.{latch_word}
use Rattle.machine.specs.Tree.{pick}
use Rattle.machine.specs.State.{Tree, Stage, Request, State, wait, refused, Outcome, with_root, on_tree, on_desc, pin_desc, in_stage, at}
use Rattle.machine.specs.Descent.{Sons, on_latch, entered, split_root, at_latch}
use Rattle.machine.specs.Steps.{answer, unlatch, ended, goes_on, finished, guarded, arrived, enter_step, descended, level-step, pin-step, root_left, root_gain, root_splits, root_need, whole_root, halved_root, root_blockers, level_blockers, level_need, level_state, level_gain}
use Rattle.machine.specs.View.{plains, seen, seen_under, Same, same_refl, same-trans, set-hand-same, free_same, root_same, pin-same, latch-same, unlatch-same, ended_same}
use Rattle.machine.specs.Keeps.{under-descended, under_drop, under-entered, under-split-root}

-- What the son on the path answers, or, if there is none, z.
pub pick-cases : {A B : Type 0} (P : B → Type 0) (x : ℕ) (z : B) (g : A → B) (es : List (A × ℕ)) → P z → ((a : A) → P (g a)) → P (pick x z g es)
pick-cases P x z g [] h f = h
pick-cases P x z g (e ∷ es) h f = either P (leb x e.1) (g e.0) (pick x z g es) (f e.0) (pick-cases P x z g es h f)

-- What a party's latched node answers, or, if there is none, z.
pub latch-cases : {Z : Type 0} (P : Z → Type 0) (w x : ℕ) (z : Z) (g : (k : ℕ) → Tree (suc k) → Z) (h : ℕ) (t : Tree h) → P z → ((k : ℕ) (u : Tree (suc k)) → P (g k u))
    → P (at_latch w x z g h t)
unfolding at_latch
latch-cases P w x z g zero t a f = a
latch-cases P w x z g (suc h) t a f = either P (eqb t.latch w) (g h t) (pick x z (at_latch w x z g h) t.sons) (f h t)
    (pick-cases P x z (at_latch w x z g h) t.sons a (λ u. latch-cases P w x z g h u a f))

-- A guarded step waits, is refused, or is done.
pub guard-cases : (P : Outcome → Type 0) (bs : List ℕ) (need p : ℕ) (r : Request) (s : State) (o : Outcome)
    → ((b : ℕ) (l : List ℕ) → P (answer (wait (b ∷ l)) s)) → P (answer (refused 11 0) (ended p r s)) → P o → P (guarded bs need p r s o)
unfolding guarded
guard-cases P [] need p r s o w f d = either P (leb need s.free) o (answer (refused 11 0) (ended p r s)) d f
guard-cases P (b ∷ l) need p r s o w f d = w b l

-- A guarded step whose effect looks the same.
pub guard-same : (bs : List ℕ) (need p : ℕ) (r : Request) (s : State) (o : Outcome) → Same s o.next → Same s (guarded bs need p r s o).next
guard-same bs need p r s o h = guard-cases (λ x. Same s x.next) bs need p r s o (λ b l. same_refl s) (ended_same p r s) h

pub goes_same : (p : ℕ) (r : Request) (g : Stage) (s t : State) → Same s t → Same s (goes_on p r g t).next
unfolding goes_on
goes_same p r g s t h = same-trans h (set-hand-same p (some (in_stage g r)) t)

pub finished-same : (p : ℕ) (r : Request) (ns : List ℕ) (s t : State) → Same s t → Same s (finished p r ns t).next
unfolding finished
finished-same p r ns s t h = same-trans h (ended_same p r t)

-- (i)
pub enter-same : (p : ℕ) (r : Request) (x : ℕ) (s : State) → Same s (enter_step p r x s).next
unfolding enter_step seen_under
enter-same p r x s =
    let new = root_left s in
    let whole = with_root (entered (latch_word p) new) s in
    let split = with_root (split_root (latch_word p) x new) s in
    let there : seen_under new ≡ seen s = under_drop plains s.root.height s.root.node in
    guard-same (root_blockers p s) (root_need p s) p r s (goes_on p r (at x) (cond (root_splits p s) (halved_root p x s) (whole_root p s)))
    (goes_same p r (at x) s (cond (root_splits p s) (halved_root p x s) (whole_root p s))
    (either (Same s) (root_splits p s) (halved_root p x s) (whole_root p s)
    (same-trans (root_same (split_root (latch_word p) x new) s (under-split-root plains (latch_word p) x new ∙ there)) (free_same (s.free + root_gain s - 2) split))
    (same-trans (root_same (entered (latch_word p) new) s (under-entered plains (latch_word p) new ∙ there)) (free_same (s.free + root_gain s) whole))))

-- (ii)
pub level-same : (p : ℕ) (r : Request) (x : ℕ) (s : State) (h : ℕ) (es : Sons (suc h)) (t : Tree (suc h)) → Same s (level-step p r x s h es t).next
unfolding level-step
level-same p r x s h es t =
    let u = on_tree (on_latch (latch_word p) x (descended p x)) s in
    guard-same (level_blockers p x h es t) (level_need p h t) p r s (goes_on p r (at x) (level_state p x s h es t))
    (goes_same p r (at x) s (level_state p x s h es t)
    (same-trans (latch-same (latch_word p) x (descended p x) s (under-descended plains p x)) (free_same (s.free + level_gain p x h es t - level_need p h t) u)))

-- (iii), where the descriptor is stored
pub pin-step-same : (p : ℕ) (r : Request) (x : ℕ) (s : State) → Same s (pin-step p r x s).next
unfolding pin-step
pin-step-same p r x s =
    let u = on_desc x (pin_desc suc) s in
    goes_same p r (arrived r x) s (unlatch p (at x) u) (same-trans (pin-same x suc s) (unlatch-same p (at x) u))

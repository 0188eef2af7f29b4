-- Demand 2, going forward: after more the request in hand is strictly ahead: in a later stage, or at a lower level of the tree, or at a higher key.
use Rattle.std.specs.Prelude.{◌≡◌, Bool, not, ◌&&◌, ◌⊎◌, leb, eqb}
use Rattle.std.proofs.Math.Path.{refl, subst}
use Rattle.std.proofs.Common.{sym, ◌∙◌, ap}
use Rattle.std.proofs.Math.Bool.{true, false, cond}
use mathlib.Core.List.{List, [], ◌∷◌}
use Rattle.std.proofs.Math.Logic.{inl, inr}
use Rattle.std.proofs.Math.Option.{some}
use Prim.Native.Nat.{zero, suc, ◌≤◌, ◌<◌, ℕ}
use Rattle.std.proofs.Math.Decide.{ℕ_discrete}
use native.Mathlib.Omega.{arith}
use Rattle.std.proofs.Math.ListN.{length}
use Rattle.machine.specs.Logic.{eqb_yes, eqb_no, eqb_is, either}
use Rattle.machine.specs.Holders.{latch_word, elem}
use Rattle.machine.specs.Tree.{pick, pick-hit}
use Rattle.machine.specs.State.{Entry, Desc, Tree, Stage, start, enter, change, take, Request, State, Answer, more, wait, done, refused, Outcome, no_desc, same, session_of, stored, desc_of, gap_below, on_entry, on_tree, in_stage, set_hand, on_session, at, ok}
use Rattle.machine.specs.Descent.{Sons, at_latch, on_latch}
use Rattle.machine.specs.Steps.{ended, goes_on, finished, guarded, read-step, write_step, excluded_state, unlatch, updating_state, removed_state, entry-step, insert-step, remove-step, change-step, arrived, root_blockers, root_need, root_splits, whole_root, halved_root, enter_step, level_state, level-step, descended, son-at, pinned_state, pin-step, made_state, make-step, removable, tidied_state, tidy-step, lowest_step, stand_step, at_step, first_step, answer}
use Rattle.machine.specs.Sound.{Sound, Descends, to-change, to_first, to-second, to_choice, Stands}
use Rattle.machine.specs.Context.{Ctx, hole, down, plug, OnWay, Clear, Focus, Focused}
use Rattle.machine.specs.Table.{hand-seat, hand_put}
use Rattle.machine.specs.Descents.{pick-cases}
use Rattle.machine.specs.Focus.{focused}

-- ---- how far a request is

-- A locate on its way to second, having reached first.
abbrev pub returning : Request → ℕ → Bool
returning r x = eqb r.code 5 && not (eqb x r.first)

-- The stages in turn.
abbrev pub rank : Request → Stage → ℕ
rank r start = 0
rank r (enter x) = cond (returning r x) 3 1
rank r (at x) = cond (returning r x) 4 2
rank r change = 5
rank r (take x) = 5

-- The level, counted from below, of the node at which the party stands.
unfoldable pub level_of : ℕ → State → Stage → ℕ
level_of p s start = 0
level_of p s (enter x) = 0
level_of p s (at x) = at_latch (latch_word p) x 0 (λ h t. suc h) (suc s.root.height) s.root.node
level_of p s change = 0
level_of p s (take x) = 0

-- The next key of a scan.
abbrev pub place_of : Stage → ℕ
place_of start = 0
place_of (enter x) = 0
place_of (at x) = 0
place_of change = 0
place_of (take x) = x

-- Stage g' in state t is ahead of stage g in state s.
abbrev pub Ahead : ℕ → Request → State → Stage → State → Stage → Type 0
Ahead p r s g t g' = (rank r g < rank r g') ⊎ ((rank r g ≡ rank r g') × ((level_of p t g' < level_of p s g) ⊎ (place_of g < place_of g')))

-- What more means.
abbrev pub Onward : ℕ → Request → State → Stage → Answer → State → Type 0
Onward p r s g ok t = Unit {0}
Onward p r s g more t = (g' : Stage) × ((session_of p t).hand ≡ some (in_stage g' r)) × Ahead p r s g t g'
Onward p r s g (wait ps) t = Unit {0}
Onward p r s g (done ns) t = Unit {0}
Onward p r s g (refused n k) t = Unit {0}

-- ---- levels through a context

latch-low : (w x h : ℕ) (t : Tree h) → at_latch w x 0 (λ k u. suc k) h t ≤ h
unfolding at_latch
latch-low w x zero t = omega arith
latch-low w x (suc h) t = either (λ n. n ≤ suc h) (eqb t.latch w) (suc h) (pick x 0 (at_latch w x 0 (λ k u. suc k) h) t.sons) (omega arith)
    (pick-cases (λ n. n ≤ suc h) x 0 (at_latch w x 0 (λ k u. suc k) h) t.sons (omega arith) (λ a. omega (arith, latch-low w x h a)))

pick_low : (w x h : ℕ) (es : Sons h) → pick x 0 (at_latch w x 0 (λ k u. suc k) h) es ≤ h
pick_low w x h es = pick-cases (λ n. n ≤ h) x 0 (at_latch w x 0 (λ k u. suc k) h) es (omega arith) (latch-low w x h)

-- The latch is sought below a context that has none on its way.
latch-through : {k h : ℕ} (w x : ℕ) (c : Ctx k h) (u : Tree k) → Clear w c → OnWay x c → at_latch w x 0 (λ j v. suc j) h (plug c u) ≡ at_latch w x 0 (λ j v. suc j) k u
unfolding at_latch
latch-through w x hole u cl ow = refl
latch-through w x (down {h} v pre c b post) u cl ow =
    rw (eqb_no v w cl.0) (pick-hit x 0 (at_latch w x 0 (λ j v. suc j) h) pre (plug c u) b post ow.0 ow.1 ∙ latch-through w x c u cl.1 ow.2)

latch-here : (w x h : ℕ) (u : Tree (suc h)) → u.latch ≡ w → at_latch w x 0 (λ j v. suc j) (suc h) u ≡ suc h
unfolding at_latch
latch-here w x h u e = rw (eqb_yes u.latch w e) refl

latch-gone : (w x h : ℕ) (u : Tree (suc h)) → ¬ (u.latch ≡ w) → at_latch w x 0 (λ j v. suc j) (suc h) u ≤ h
unfolding at_latch
latch-gone w x h u n = rw (eqb_no u.latch w n) (pick_low w x h u.sons)

-- The parent is released, so the party stands lower.
level-ahead : (p x : ℕ) (s : State) (h : ℕ) (u : Tree (suc (suc h))) (F : Focus p x s (suc h) u)
    → at_latch (latch_word p) x 0 (λ j v. suc j) (suc s.root.height) (on_latch (latch_word p) x (descended p x) (suc s.root.height) s.root.node)
    < at_latch (latch_word p) x 0 (λ j v. suc j) (suc s.root.height) s.root.node
unfolding descended
level-ahead p x s h u F =
    let w = latch_word p in
    let b : at_latch w x 0 (λ j v. suc j) (suc s.root.height) s.root.node ≡ suc (suc h)
    = ap (at_latch w x 0 (λ j v. suc j) (suc s.root.height)) F.is ∙ latch-through w x F.around u F.clear F.way ∙ latch-here w x (suc h) u F.latch in
    let n : Tree (suc (suc h)) = descended p x (suc h) u in
    let a : at_latch w x 0 (λ j v. suc j) (suc s.root.height) (on_latch w x (descended p x) (suc s.root.height) s.root.node) ≡ at_latch w x 0 (λ j v. suc j) (suc (suc h)) n
    = ap (at_latch w x 0 (λ j v. suc j) (suc s.root.height)) (F.changes (descended p x)) ∙ latch-through w x F.around n F.clear F.way in
    let g : at_latch w x 0 (λ j v. suc j) (suc (suc h)) n ≤ suc h = latch-gone w x (suc h) n (λ e. zero-latch p e) in
    omega arith
  where
    zero-latch : (q : ℕ) → 0 ≡ latch_word q → ⊥
    zero-latch q e = omega arith

-- ---- each step

entry-table : (i : ℕ) (f : Entry → Entry) (s : State) → length (on_entry i f s).table ≡ length s.table
unfolding on_entry
entry-table zero f s = refl
entry-table (suc i) f s = refl

module _ (p : ℕ) (r : Request) (s : State) (S : Sound s) (e : (session_of p s).hand ≡ some r) where
  -- The hand after more is in the stage that the step says.
  abbrev pub StepsOn : Stage → Outcome → Type 0
  StepsOn g o = Onward p r s g o.answer o.next

  pub to-stage : (g g' : Stage) (t : State) → (session_of p (set_hand p (some (in_stage g' r)) t)).hand ≡ some (in_stage g' r) → Ahead p r s g (set_hand p (some (in_stage g' r)) t) g' → StepsOn g (goes_on p r g' t)
  unfolding goes_on
  to-stage g g' t h a = (g', h, a)

  pub on-guard : (g : Stage) (bs : List ℕ) (need : ℕ) (o : Outcome) → StepsOn g o → StepsOn g (guarded bs need p r s o)
  unfolding guarded
  on-guard g [] need o h = either (StepsOn g) (leb need s.free) o (answer (refused 11 0) (ended p r s)) h tt
  on-guard g (b ∷ bs) need o h = tt

  pub held : (g : Stage) (t : State) → length t.table ≡ length s.table → (session_of p (set_hand p (some (in_stage g r)) t)).hand ≡ some (in_stage g r)
  held g t l = ap (λ x. x.hand) (hand_put p (some (in_stage g r)) t (let q = hand-seat p r s e in omega arith))

  pub first_on : r.stage ≡ start → StepsOn start (first_step p r s)
  unfolding first_step read-step write_step entry-step finished
  first_on q =
      either (StepsOn start) (eqb r.code 1) (read-step p r s) (cond (eqb r.code 2) (write_step p r s) (cond (leb r.code 4) (entry-step p r s) (finished p r (0 ∷ 0 ∷ []) s)))
      (on-guard start _ 0 _ tt)
      (either (StepsOn start) (eqb r.code 2) (write_step p r s) (cond (leb r.code 4) (entry-step p r s) (finished p r (0 ∷ 0 ∷ []) s))
      (on-guard start _ 1 _ tt)
      (either (StepsOn start) (leb r.code 4) (entry-step p r s) (finished p r (0 ∷ 0 ∷ []) s)
      (on-guard start _ 0 _ (to-stage start (enter r.first) (excluded_state p r s) (held (enter r.first) (excluded_state p r s) (entry-table r.entry _ s)) (inl (later (returning r r.first)))))
      tt))
    where
      later : (b : Bool) → 0 < cond {A = ℕ} b 3 1
      later true = omega arith
      later false = omega arith

  pub enter-on : (x : ℕ) → StepsOn (enter x) (enter_step p r x s)
  unfolding enter_step
  enter-on x = on-guard (enter x) (root_blockers p s) (root_need p s) _
      (to-stage (enter x) (at x) (cond (root_splits p s) (halved_root p x s) (whole_root p s)) (held (at x) _ (either (λ t. length t.table ≡ length s.table) (root_splits p s) (halved_root p x s) (whole_root p s) refl refl))
      (inl (later (returning r x))))
    where
      later : (b : Bool) → cond {A = ℕ} b 3 1 < cond {A = ℕ} b 4 2
      later true = omega arith
      later false = omega arith

  level-on : (x h : ℕ) (u : Tree (suc (suc h))) → Focus p x s (suc h) u → StepsOn (at x) (level-step p r x s h u.sons (son-at x h u.sons))
  unfolding level-step level_of on_tree set_hand on_session
  level-on x h u F = on-guard (at x) _ _ _
      (to-stage (at x) (at x) (level_state p x s h u.sons (son-at x h u.sons)) (held (at x) (level_state p x s h u.sons (son-at x h u.sons)) refl) (inr (refl, inl (level-ahead p x s h u F))))

  -- What follows a descent is a later stage.
  arrived-on : (x : ℕ) → Descends p s r x → (t : State) → Ahead p r s (at x) t (arrived r x)
  unfolding arrived
  arrived-on x d t = code (eqb r.code 5) refl (ℕ_discrete x r.second)
    where
      low : (b : Bool) → cond {A = ℕ} b 4 2 < 5
      low true = omega arith
      low false = omega arith

      first_of : Descends p s r x → ¬ (x ≡ r.second) → r.code ≡ 5 → x ≡ r.first
      first_of (to-change c q) n i = q
      first_of (to_first i q) n j = q
      first_of (to-second i q) n j = absurd (n q)
      first_of (to_choice c) n j = absurd (let w = c.code_6 in omega arith)

      code : (b : Bool) → eqb r.code 5 ≡ b → Dec (x ≡ r.second) → Ahead p r s (at x) t (cond b (cond (eqb x r.second) (take r.first) (enter r.second)) change)
      code false i w = inl (low (returning r x))
      code true i (yes w) = rw (eqb_yes x r.second w) (inl (low (returning r x)))
      code true i (no w) = rw (eqb_no x r.second w) (inl (back (first_of d w (eqb_is r.code 5 i))))
        where
          back : x ≡ r.first → rank r (at x) < rank r (enter r.second)
          back q = rw (i, eqb_yes x r.first q, eqb_no r.second r.first (λ z. w (q ∙ sym z))) (omega arith)

  lowest-on : (x : ℕ) (d : Desc) → Descends p s r x → StepsOn (at x) (lowest_step p r x s d)
  unfolding lowest_step tidy-step pin-step make-step finished unlatch on_tree
  lowest-on x d g =
      either (StepsOn (at x)) (eqb p 0) (tidy-step p r x d s) (cond (eqb d.key x) (pin-step p r x s) (make-step p r x s))
      (either (StepsOn (at x)) (removable (gap_below x 0 (stored s)) d) (finished p r (x ∷ 1 ∷ []) (tidied_state p x s)) (finished p r (x ∷ 0 ∷ []) s) tt tt)
      (either (StepsOn (at x)) (eqb d.key x) (pin-step p r x s) (make-step p r x s)
      (to-stage (at x) (arrived r x) (pinned_state p x s) (held (arrived r x) (pinned_state p x s) refl) (arrived-on x g _))
      (on-guard (at x) [] 1 _ (to-stage (at x) (arrived r x) (made_state p x s) (held (arrived r x) (made_state p x s) refl) (arrived-on x g _))))

  stand-on : (x : ℕ) → Descends p s r x → (k : ℕ) (u : Tree (suc k)) → Focus p x s k u → StepsOn (at x) (stand_step p r x s k u)
  unfolding stand_step
  stand-on x d zero u F = lowest-on x (pick x no_desc same u.sons) d
  stand-on x d (suc h) u F = level-on x h u F

  pub at_on : (x : ℕ) → r.stage ≡ at x → StepsOn (at x) (at_step p r x s)
  unfolding at_step
  at_on x q = go (focused p x s (S.placed p r x e q)) (subst (Stands p s r) q (S.standing p r e))
    where
      go : Focused p x s → Descends p s r x → StepsOn (at x) (at_latch (latch_word p) x (answer more s) (stand_step p r x s) (suc s.root.height) s.root.node)
      go f d = subst (StepsOn (at x)) (sym (f.focus.answers (answer more s) (stand_step p r x s))) (stand-on x d f.level f.node f.focus)

  pub change-on : StepsOn change (change-step p r s)
  unfolding change-step insert-step remove-step finished
  change-on =
      let d = desc_of r.first s in
      either (StepsOn change) (eqb r.code 3) (insert-step p r d s) (remove-step p r d s)
      (either (StepsOn change) (elem r.entry d.members) _ _ (on-guard change _ 0 _ tt) (on-guard change _ 2 _ tt))
      (on-guard change _ 0 _ (either (StepsOn change) (elem r.entry d.members) (finished p r (1 ∷ []) (removed_state p r s)) (finished p r (0 ∷ []) (updating_state p r s)) tt tt))

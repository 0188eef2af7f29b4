-- The request in hand after each step is what the answers tell: the same request after more and wait, none after done and after 11 or 12.
use Rattle.std.specs.Prelude.{◌≡◌, true, cond, leb, ltb, eqb}
use Rattle.std.proofs.Math.Path.{refl, ap}
use Rattle.std.proofs.Common.{◌∙◌, arith}
use mathlib.Core.List.{List, [], ◌∷◌}
use Rattle.std.proofs.Math.Option.{none, some}
use Prim.Native.Nat.{zero, suc, ◌*◌, ◌<◌, ℕ}
use Rattle.std.proofs.Math.ListN.{length}
use Rattle.serial.specs.Calls.{ends_request}
use Rattle.machine.specs.Logic.{either}
use Rattle.machine.specs.Holders.{held_by, latch_word, elem}
use Rattle.machine.specs.Tree.{pick}
use Rattle.machine.specs.State.{Entry, Desc, Tree, Stage, start, enter, change, take, Request, Undo, State, Answer, more, wait, done, refused, Outcome, no_desc, or_none, session_of, stored, lowest_from, gap_below, desc_of, on_entry, on_tree, on_desc, hold_desc, same, in_stage, add_undo, at, ok}
use Rattle.machine.specs.Steps.{unlatch, ended, goes_on, finished, guarded, read-step, written, write_step, entry-step, insert-step, remove-step, change-step, last_take, take_desc, take_step, enter_step, level-step, pin-step, make-step, tidy-step, lowest_step, stand_step, at_step, first_step, next_step, memberships, removable, halved_root, whole_root, root_blockers, root_need, root_splits, tidied_state, answer, settled}
use Rattle.machine.specs.Table.{tenure, hand-tenure, ended-tenure, session-same, session-kept, with_undo, undo-many, hand_put, hand-other, hand-many, unlatch-root, ended-own, ended-other, ended-many}
use Rattle.machine.specs.Descents.{guard-cases, latch-cases}
use Rattle.machine.specs.Waits.{settled-step}

-- Requests in hand, marks and numbers of begun sessions, and how many sessions there are, are the same.
pub record Kin (s t : State) : Type 0 where
  pub hands : (q : ℕ) → (session_of q t).hand ≡ (session_of q s).hand
  pub tenures : (q : ℕ) → tenure (session_of q t) ≡ tenure (session_of q s)
  pub many : length t.table ≡ length s.table

pub kin-table : (s t : State) → t.table ≡ s.table → Kin s t
kin-table s t e = record { hands = λ q. ap (λ x. x.hand) (session-same s t e q); tenures = λ q. ap tenure (session-same s t e q); many = ap length e }

pub kin-trans : {s t u : State} → Kin s t → Kin t u → Kin s u
kin-trans a b = record { hands = λ q. b.hands q ∙ a.hands q; tenures = λ q. b.tenures q ∙ a.tenures q; many = b.many ∙ a.many }

kin-tree : (f : (h : ℕ) → Tree h → Tree h) (s : State) → Kin s (on_tree f s)
unfolding on_tree
kin-tree f s = kin-table s (on_tree f s) refl

kin-entry : (e : ℕ) (f : Entry → Entry) (s : State) → Kin s (on_entry e f s)
unfolding on_entry
kin-entry zero f s = kin-table s s refl
kin-entry (suc i) f s = kin-table s (on_entry (suc i) f s) refl

pub kin-undo : (p : ℕ) (b : Undo) (s : State) → Kin s (add_undo p b s)
unfolding add_undo
kin-undo p b s = record { hands = session-kept (λ x. x.hand) p (with_undo b) s (λ x. refl); tenures = session-kept tenure p (with_undo b) s (λ x. refl); many = undo-many p b s }

kin-unlatch : (p : ℕ) (g : Stage) (s : State) → Kin s (unlatch p g s)
kin-unlatch p g s = kin-table s (unlatch p g s) (ap (λ t. t.table) (unlatch-root p g s))

-- ---- what a step leaves in hand

abbrev pub Own : ℕ → Request → State → Answer → State → Type 0
Own p r s ok t = ⊥
Own p r s more t = (g : Stage) × ((session_of p t).hand ≡ some (in_stage g r))
Own p r s (wait ps) t = (session_of p t).hand ≡ some r
Own p r s (done ns) t = (session_of p t).hand ≡ none
Own p r s (refused n b) t = (ends_request n ≡ true) × ((session_of p t).hand ≡ none)

pub record Handed (p : ℕ) (r : Request) (s : State) (o : Outcome) : Type 0 where
  pub own : Own p r s o.answer o.next
  pub others : (q : ℕ) → ¬ (p ≡ q) → (session_of q o.next).hand ≡ (session_of q s).hand
  -- No step begins or ends a session, or numbers it.
  pub tenures : (q : ℕ) → tenure (session_of q o.next) ≡ tenure (session_of q s)
  pub many : length o.next.table ≡ length s.table

module _ (p : ℕ) (r : Request) (s : State) (l : p < length s.table) (e : (session_of p s).hand ≡ some r) where
  in_table : (t : State) → Kin s t → p < length t.table
  in_table t k = let q = k.many in omega arith

  goes : (g : Stage) (t : State) → Kin s t → Handed p r s (goes_on p r g t)
  unfolding goes_on
  goes g t k = record {
    own = (g, ap (λ x. x.hand) (hand_put p (some (in_stage g r)) t (in_table t k)));
    others = λ q n. ap (λ x. x.hand) (hand-other p q (some (in_stage g r)) t n) ∙ k.hands q;
    tenures = λ q. hand-tenure p q (some (in_stage g r)) t ∙ k.tenures q;
    many = hand-many p (some (in_stage g r)) t ∙ k.many;
  }

  record Emptied (t : State) : Type 0 where
    pub gone : (session_of p t).hand ≡ none
    pub rest : (q : ℕ) → ¬ (p ≡ q) → (session_of q t).hand ≡ (session_of q s).hand
    pub tenures : (q : ℕ) → tenure (session_of q t) ≡ tenure (session_of q s)
    pub many : length t.table ≡ length s.table

  emptied : (t : State) → Kin s t → Emptied (ended p r t)
  emptied t k = record {
    gone = ap (λ x. x.hand) (ended-own p r t (in_table t k));
    rest = λ q n. ap (λ x. x.hand) (ended-other p q r t n) ∙ k.hands q;
    tenures = λ q. ended-tenure p q r t ∙ k.tenures q;
    many = ended-many p r t ∙ k.many;
  }

  ends : (ns : List ℕ) (t : State) → Kin s t → Handed p r s (finished p r ns t)
  unfolding finished
  ends ns t k = let m = emptied t k in record { own = m.gone; others = m.rest; tenures = m.tenures; many = m.many }

  no_more : (n b : ℕ) → ends_request n ≡ true → Handed p r s (answer (refused n b) (ended p r s))
  no_more n b w = let m = emptied s (kin-table s s refl) in record { own = (w, m.gone); others = m.rest; tenures = m.tenures; many = m.many }

  stays : (ps : List ℕ) → Handed p r s (answer (wait ps) s)
  stays ps = record { own = e; others = λ q n. refl; tenures = λ q. refl; many = refl }

  guard : (bs : List ℕ) (need : ℕ) (o : Outcome) → Handed p r s o → Handed p r s (guarded bs need p r s o)
  guard bs need o h = guard-cases (Handed p r s) bs need p r s o (λ b w. stays (b ∷ w)) (no_more 11 0 refl) h

  -- ---- the rows

  first-handed : Handed p r s (first_step p r s)
  unfolding first_step read-step write_step written entry-step
  first-handed =
      either (Handed p r s) (eqb r.code 1) (read-step p r s) (cond (eqb r.code 2) (write_step p r s) (cond (leb r.code 4) (entry-step p r s) (finished p r (0 ∷ 0 ∷ []) s)))
      (guard _ 0 _ (ends _ _ (kin-entry r.entry _ s)))
      (either (Handed p r s) (eqb r.code 2) (write_step p r s) (cond (leb r.code 4) (entry-step p r s) (finished p r (0 ∷ 0 ∷ []) s))
      (guard _ 1 _ (ends _ _ (kin-trans (kin-trans (kin-entry r.entry _ s) (kin-table _ _ refl)) (kin-undo p _ _))))
      (either (Handed p r s) (leb r.code 4) (entry-step p r s) (finished p r (0 ∷ 0 ∷ []) s)
      (guard _ 0 _ (goes _ _ (kin-entry r.entry _ s)))
      (ends _ s (kin-table s s refl))))

  change-handed : Handed p r s (change-step p r s)
  unfolding change-step insert-step remove-step
  change-handed =
      let d = desc_of r.first s in
      either (Handed p r s) (eqb r.code 3) (insert-step p r d s) (remove-step p r d s)
      (either (Handed p r s) (elem r.entry d.members) _ _
      (guard _ 0 _ (ends _ _ (kin-tree _ s)))
      (guard _ 2 _ (ends _ _ (kin-trans (kin-trans (kin-tree _ s) (kin-table _ _ refl)) (kin-undo p _ _)))))
      (guard _ 0 _ (either (Handed p r s) (elem r.entry d.members) _ _
      (ends _ _ (kin-trans (kin-tree _ s) (kin-undo p _ _)))
      (ends _ _ (kin-tree _ s))))

  take-handed : (n x : ℕ) → Handed p r s (take_step n p r x s)
  unfolding take_step take_desc last_take
  take-handed n x =
      let d = or_none (lowest_from x (stored s)) in
      guard _ 0 _ (either (Handed p r s) (ltb d.key r.second) _ _
      (goes _ _ (kin-tree _ s))
      (either (Handed p r s) (leb (2 * length (memberships r.first r.second (stored s))) n) _ _
      (let m = emptied (on_desc d.key (hold_desc (held_by p) same same) s) (kin-tree _ s) in record { own = m.gone; others = m.rest; tenures = m.tenures; many = m.many })
      (no_more 12 _ refl)))

  enter-handed : (x : ℕ) → Handed p r s (enter_step p r x s)
  unfolding enter_step
  enter-handed x =
      let split = halved_root p x s in
      let whole = whole_root p s in
      guard (root_blockers p s) (root_need p s) (goes_on p r (at x) (cond (root_splits p s) split whole))
      (goes (at x) (cond (root_splits p s) split whole) (either (Kin s) (root_splits p s) split whole (kin-table s split refl) (kin-table s whole refl)))

  tidy-handed : (x : ℕ) (d : Desc) → Handed p r s (tidy-step p r x d s)
  unfolding tidy-step on_tree
  tidy-handed x d =
      either (Handed p r s) (removable (gap_below x 0 (stored s)) d) (finished p r (x ∷ 1 ∷ []) (tidied_state p x s)) (finished p r (x ∷ 0 ∷ []) s)
      (ends (x ∷ 1 ∷ []) (tidied_state p x s) (kin-table s (tidied_state p x s) refl))
      (ends (x ∷ 0 ∷ []) s (kin-table s s refl))

  stand-handed : (x h : ℕ) (t : Tree (suc h)) → Handed p r s (stand_step p r x s h t)
  unfolding stand_step lowest_step level-step pin-step make-step
  stand-handed x zero t =
      either (Handed p r s) (eqb p 0) (tidy-step p r x (pick x no_desc same t.sons) s) (cond (eqb (pick x no_desc same t.sons).key x) (pin-step p r x s) (make-step p r x s))
      (tidy-handed x (pick x no_desc same t.sons))
      (either (Handed p r s) (eqb (pick x no_desc same t.sons).key x) (pin-step p r x s) (make-step p r x s)
      (goes _ _ (kin-trans (kin-tree _ s) (kin-unlatch p (at x) _)))
      (guard [] 1 _ (goes _ _ (kin-trans (kin-trans (kin-tree _ s) (kin-table _ _ refl)) (kin-unlatch p (at x) _)))))
  stand-handed x (suc h) t = guard _ _ _ (goes _ _ (kin-trans (kin-tree _ s) (kin-table _ _ refl)))

  at-handed : (x : ℕ) → Handed p r s (at_step p r x s)
  unfolding at_step
  at-handed x = latch-cases (Handed p r s) (latch_word p) x (answer more s) (stand_step p r x s) (suc s.root.height) s.root.node
      (record { own = (r.stage, e); others = λ q n. refl; tenures = λ q. refl; many = refl }) (stand-handed x)

  stage-handed : (n : ℕ) (g : Stage) → Handed p r s (next_step n p r s g)
  unfolding next_step
  stage-handed n start = first-handed
  stage-handed n (enter x) = enter-handed x
  stage-handed n (at x) = at-handed x
  stage-handed n change = change-handed
  stage-handed n (take x) = take-handed n x

  -- Every step.
  pub step-handed : (n : ℕ) → Handed p r s (settled s r.stage (next_step n p r s r.stage))
  step-handed n = settled-step (Handed p r s) n p r s (stage-handed n r.stage) (λ b _. stays (b ∷ []))

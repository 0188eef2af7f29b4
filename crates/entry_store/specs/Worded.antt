-- The value of every answer is a word, where the values that were written are: it fits the number that C gets. Of the machine, from every sound state.
use Rattle.std.specs.Prelude.{◌≡◌, Bool, cond, ◌&&◌, ◌⊎◌, leb, ltb}
use Rattle.std.proofs.Math.Path.{refl, subst}
use Rattle.std.proofs.Common.{sym, ap, ◌∙◌, inl, inr, arith, lit<}
use Rattle.std.proofs.Math.Bool.{true, false, or-false}
use mathlib.Core.List.{List, [], ◌∷◌, ◌++◌}
use Rattle.std.proofs.Math.Option.{Option, none, some}
use Prim.Native.Nat.{ℕ, suc, zero, ◌+◌, ◌*◌, ◌≤◌, ◌<◌}
use Rattle.std.proofs.Math.Decide.{dec_lt}
use Rattle.std.proofs.Math.Dec.{eqb}
use Rattle.std.proofs.Math.ListN.{length}
use Rattle.serial.specs.Calls as C
use Rattle.serial.specs.Locks.{weak, strong}
use Rattle.machine.specs.Logic.{either, eqb_yes, eqb_is}
use Rattle.machine.specs.Holders.{width, elem, latch_word}
use Rattle.machine.specs.Tree.{pick, sum_e, sum_e-append}
use Rattle.machine.specs.Descent.{Sons}
use Rattle.machine.specs.State.{Answer, ok, more, wait, done, refused, Outcome, Request, Stage, start, enter, at, change, take, State, Desc, Tree, entry_of, desc_of, stored, lowest_from, gap_below, or_none, no_desc, same, session_of, fresh}
use Rattle.machine.specs.Steps.{answer, ended, goes_on, finished, guarded, entry_blockers, group_blockers, shared_state, read-step, written, write_step, excluded_state, entry-step, updating_state, inserted_state, removed_state, insert-step, remove-step, change-step, pairs_of, memberships, passed_state, located_state, last_take, take_desc, take_step, arrived, root_blockers, root_need, root_splits, halved_root, whole_root, enter_step, son-at, level_blockers, level_need, level_state, level-step, pin-step, made_state, make-step, removable, tidied_state, tidy-step, lowest_step, stand_step, at_step, first_step, next_step}
use Rattle.machine.specs.Calls.{Call, format, begin, put, step, commit, abort, ask, recover, call, steps, records_for, format_checks, begin_checks, put_checks, step_checks, commit_checks, abort_checks, ask_checks, accepted, begins, commits, aborts, asks, recovers}
use Rattle.machine.specs.Sound.{Sound, Stands, Descends, to-change, to_first, to-second, to_choice, members_many, latch_count, of_hand, stands}
use Rattle.machine.specs.Checks.{refusing-cases, keeper-code}
use Rattle.machine.specs.Table.{hand-seat}
use Rattle.machine.specs.Looks.{begun-party, sound-ordered, stored-most}
use Rattle.machine.specs.Descents.{guard-cases, latch-cases}
use Rattle.machine.specs.Focus.{latches-plug}
use Rattle.machine.specs.InTheWay.{LongLock, ShortLock, LoneLatched, Son, Neighbour, Involved, InTheWay}
use Rattle.machine.specs.Waits.{settled-step}
use Rattle.machine.proofs.Conflicts.{waits-exactly, blockers-exactly}
use Rattle.machine.specs.Housekeeping.{lvs}
use Rattle.machine.specs.Demand.{Tells}
use Rattle.packing.specs.Packed.{Worded}

abbrev pub Word : ℕ → Type 0
Word n = n < 4294967296

pub zero_word : Word 0
zero_word = lit< tt

pub word-or-not : (n : ℕ) → Dec (Word n)
word-or-not n = dec_lt n 4294967296

one_word : Word 1
one_word = lit< tt

-- ---- a wait names a party

-- A latch in a tree is counted there.
own_count : (w h : ℕ) (t : Tree (suc h)) → t.latch ≡ w → 1 ≤ latch_count w (suc h) t
unfolding latch_count
own_count w h t e = omega (arith, ap {B = ℕ} (λ b. cond b 1 0) (eqb_yes t.latch w e))

below-count : (w h : ℕ) (t : Tree (suc h)) → 1 ≤ sum_e (latch_count w h) t.sons → 1 ≤ latch_count w (suc h) t
unfolding latch_count
below-count w h t e = omega (arith, e)

son-count : (w h : ℕ) (es before : Sons (suc h)) (t : Tree (suc h)) (b : ℕ) (behind : Sons (suc h)) → es ≡ before ++ (t, b) ∷ behind → t.latch ≡ w → 1 ≤ sum_e (latch_count w (suc h)) es
son-count w h es before t b behind e l =
    omega (arith, ap (sum_e (latch_count w (suc h))) e, sum_e-append (latch_count w (suc h)) before ((t, b) ∷ behind), own_count w h t l)

module _ (s : State) (S : Sound s) where
  -- Each latch is a party's.
  latch-party : (q : ℕ) → 1 ≤ latch_count (latch_word q) (suc s.root.height) s.root.node → q ≤ width
  latch-party q h = go (session_of q s).hand refl
    where
      go : (o : Option Request) → (session_of q s).hand ≡ o → q ≤ width
      go none e = absurd (omega (arith, h, S.latches_match q, ap (of_hand 0 (λ r. stands r.stage)) e))
      go (some r) e = omega (arith, hand-seat q r s e, S.seats)

  long-party : (r : Request) (g : Stage) (q : ℕ) → LongLock r s g q → q ≤ width
  long-party r g q L = (begun-party S q (S.only_begun L.kind L.held q L.what L.holding)).1

  lone-party : (q h : ℕ) (t : Tree (suc h)) → LoneLatched h t q → 1 ≤ latch_count (latch_word q) (suc h) t
  lone-party q zero t l = absurd l
  lone-party q (suc h) t l = below-count (latch_word q) (suc h) t (son-count (latch_word q) h t.sons [] l.0 l.1 [] l.2 l.3)

  involved-party : (p x q h : ℕ) (es : Sons (suc h)) (t : Tree (suc h)) → Involved p x h es t → t.latch ≡ latch_word q → 1 ≤ sum_e (latch_count (latch_word q) (suc h)) es
  involved-party p x q h es t I l = go I.0 I.1
    where
      near : (N : Son x es) → Neighbour N t → 1 ≤ sum_e (latch_count (latch_word q) (suc h)) es
      near N (inl k) =
          omega (
            arith,
            ap (sum_e (latch_count (latch_word q) (suc h))) N.among,
            sum_e-append (latch_count (latch_word q) (suc h)) N.before ((N.son, N.bound) ∷ N.behind),
            son-count (latch_word q) h N.before k.0 t k.1 [] k.2 l,
          )
      near N (inr k) =
          omega (
            arith,
            ap (sum_e (latch_count (latch_word q) (suc h))) N.among,
            sum_e-append (latch_count (latch_word q) (suc h)) N.before ((N.son, N.bound) ∷ N.behind),
            son-count (latch_word q) h N.behind [] t k.1.0 k.1.1 k.1.2 l,
          )

      go : (N : Son x es) → (t ≡ N.son) ⊎ ((p ≡ 0) × (length N.son.sons ≡ 3) × Neighbour N t) → 1 ≤ sum_e (latch_count (latch_word q) (suc h)) es
      go N (inl e) = son-count (latch_word q) h es N.before N.son N.bound N.behind N.among (ap (λ z. z.latch) (sym e) ∙ l)
      go N (inr k) = near N k.2

  short-party : (p : ℕ) (g : Stage) (q : ℕ) → ShortLock p s g q → q ≤ width
  short-party p start q l = absurd l
  short-party p (enter x) q (inl e) = latch-party q (own_count (latch_word q) s.root.height s.root.node e)
  short-party p (enter x) q (inr l) = latch-party q (lone-party q s.root.height s.root.node l)
  short-party p (at x) q l =
      let u = l.1 in
      let A = l.2 in
      let w = latch_word q in
      let inside = below-count w (suc l.0) u (involved-party p x q l.0 u.sons l.3.0 l.3.1 l.3.2) in
      latch-party q (omega (arith, ap (latch_count w (suc s.root.height)) A.is, latches-plug w A.around u, inside))
  short-party p change q l = absurd l
  short-party p (take x) q l = absurd l

  way-party : (p : ℕ) (r : Request) (g : Stage) (q : ℕ) → InTheWay p r s g q → q ≤ width
  way-party p r g q W = go W.lock
    where
      go : LongLock r s g q ⊎ ShortLock p s g q → q ≤ width
      go (inl l) = long-party r g q l
      go (inr l) = short-party p g q l

-- ---- the number beside done and beside a refusal

-- Waits aside.
abbrev WordyAnswer : Answer → Type 0
WordyAnswer ok = Unit {0}
WordyAnswer more = Unit {0}
WordyAnswer (wait ps) = Unit {0}
WordyAnswer (done []) = Unit {0}
WordyAnswer (done (n ∷ ns)) = Word n
WordyAnswer (refused n k) = Word k

abbrev Wordy : Outcome → Type 0
Wordy o = WordyAnswer o.answer

-- A range has no more memberships than there are.
pairs-many : (k : ℕ) (es : List ℕ) (l : List (ℕ × ℕ)) → length (pairs_of k es l) ≡ length es + length l
unfolding pairs_of
pairs-many k [] l = omega arith
pairs-many k (e ∷ es) l = omega (arith, pairs-many k es l)

memberships-few : (lo hi : ℕ) (l : List Desc) → length (memberships lo hi l) ≤ members_many l
unfolding memberships
memberships-few lo hi [] = omega arith
memberships-few lo hi (d ∷ ds) =
    let rest = memberships lo hi ds in
    either (λ r. length r ≤ length d.members + members_many ds) (leb lo d.key && leb d.key hi) (pairs_of d.key d.members rest) rest
    (omega (arith, pairs-many d.key d.members rest, memberships-few lo hi ds)) (omega (arith, memberships-few lo hi ds))

module _ (s : State) (S : Sound s) (values : (e : ℕ) → Word (entry_of e s).value) where
  guarded-wordy : (bs : List ℕ) (need p : ℕ) (r : Request) (o : Outcome) → Wordy o → Wordy (guarded bs need p r s o)
  guarded-wordy bs need p r o h = guard-cases Wordy bs need p r s o (λ b l. tt) zero_word h

  first-wordy : (p : ℕ) (r : Request) → Wordy (first_step p r s)
  unfolding first_step read-step write_step entry-step finished goes_on
  first-wordy p r =
      either Wordy (eqb r.code 1) (read-step p r s) (cond (eqb r.code 2) (write_step p r s) (cond (leb r.code 4) (entry-step p r s) (finished p r (0 ∷ 0 ∷ []) s)))
      (guarded-wordy (entry_blockers weak p r s) 0 p r (finished p r ((entry_of r.entry s).value ∷ []) (shared_state p r s)) (values r.entry))
      (either Wordy (eqb r.code 2) (write_step p r s) (cond (leb r.code 4) (entry-step p r s) (finished p r (0 ∷ 0 ∷ []) s))
      (guarded-wordy (entry_blockers strong p r s) 1 p r (finished p r (0 ∷ []) (written p r s)) zero_word)
      (either Wordy (leb r.code 4) (entry-step p r s) (finished p r (0 ∷ 0 ∷ []) s)
      (guarded-wordy (entry_blockers strong p r s) 0 p r (goes_on p r (enter r.first) (excluded_state p r s)) tt) zero_word))

  change-wordy : (p : ℕ) (r : Request) → Wordy (change-step p r s)
  unfolding change-step insert-step remove-step finished
  change-wordy p r =
      let d = desc_of r.first s in
      let again = finished p r (0 ∷ []) (updating_state p r s) in
      let new = finished p r (1 ∷ []) (inserted_state p r s) in
      let out = finished p r (1 ∷ []) (removed_state p r s) in
      let bs = group_blockers strong p d in
      either Wordy (eqb r.code 3) (insert-step p r d s) (remove-step p r d s)
      (either Wordy (elem r.entry d.members) (guarded bs 0 p r s again) (guarded bs 2 p r s new) (guarded-wordy bs 0 p r again zero_word) (guarded-wordy bs 2 p r new one_word))
      (guarded-wordy bs 0 p r (cond (elem r.entry d.members) out again) (either Wordy (elem r.entry d.members) out again one_word zero_word))

  -- Free records, nodes, descriptors, memberships and undo records are R in all, at most 4,096.
  count_word : (lo hi : ℕ) → Word (length (memberships lo hi (stored s)))
  unfolding stored
  count_word lo hi = omega (arith, memberships-few lo hi (lvs s), S.counted, S.sizes)

  take-wordy : (n p : ℕ) (r : Request) (x : ℕ) → Wordy (take_step n p r x s)
  unfolding take_step take_desc last_take goes_on
  take-wordy n p r x =
      let d = or_none (lowest_from x (stored s)) in
      let l = memberships r.first r.second (stored s) in
      let pass = goes_on p r (take (suc d.key)) (passed_state p d s) in
      let last = last_take n p r l d s in
      guarded-wordy (group_blockers weak p d) 0 p r (cond (ltb d.key r.second) pass last)
      (either Wordy (ltb d.key r.second) pass last tt
      (either Wordy (leb (2 * length l) n) (record { answer = done (length l ∷ []); next = ended p r (located_state p d s); written = l }) (answer (refused 12 (length l)) (ended p r s))
      (count_word r.first r.second) (count_word r.first r.second)))

  -- Tidy names its choice, a stored key.
  lowest-wordy : (p : ℕ) (r : Request) (x : ℕ) → (p ≡ 0 → Word x) → (d : Desc) → Wordy (lowest_step p r x s d)
  unfolding lowest_step tidy-step pin-step make-step finished goes_on
  lowest-wordy p r x k d = go (eqb p 0) refl
    where
      go : (b : Bool) → eqb p 0 ≡ b → Wordy (cond b (tidy-step p r x d s) (cond (eqb d.key x) (pin-step p r x s) (make-step p r x s)))
      go true e =
          let w = k (eqb_is p 0 e) in
          either Wordy (removable (gap_below x 0 (stored s)) d) (finished p r (x ∷ 1 ∷ []) (tidied_state p x s)) (finished p r (x ∷ 0 ∷ []) s) w w
      go false e = either Wordy (eqb d.key x) (pin-step p r x s) (make-step p r x s) tt (guarded-wordy [] 1 p r (goes_on p r (arrived r x) (made_state p x s)) tt)

  stand-wordy : (p : ℕ) (r : Request) (x : ℕ) → (p ≡ 0 → Word x) → (h : ℕ) (t : Tree (suc h)) → Wordy (stand_step p r x s h t)
  unfolding stand_step level-step goes_on
  stand-wordy p r x k zero t = lowest-wordy p r x k (pick x no_desc same t.sons)
  stand-wordy p r x k (suc h) t =
      let u = son-at x h t.sons in
      guarded-wordy (level_blockers p x h t.sons u) (level_need p h u) p r (goes_on p r (at x) (level_state p x s h t.sons u)) tt

  choice-word : (p : ℕ) (r : Request) (x : ℕ) → (session_of p s).hand ≡ some r → Descends p s r x → p ≡ 0 → Word x
  choice-word p r x e D z = go D
    where
      code : r.code ≡ 6
      code = keeper-code r.code (S.checked 0 r (subst (λ q. (session_of q s).hand ≡ some r) z e)).0

      go : Descends p s r x → Word x
      go (to-change c i) = absurd (omega (arith, c.code_3_4, code))
      go (to_first c i) = absurd (omega (arith, c, code))
      go (to-second c i) = absurd (omega (arith, c, code))
      go (to_choice c) = omega (arith, stored-most s (sound-ordered S) x c.stored)

  next-wordy : (n p : ℕ) (r : Request) (g : Stage) → (session_of p s).hand ≡ some r → Stands p s r g → Wordy (next_step n p r s g)
  unfolding next_step enter_step at_step goes_on
  next-wordy n p r start e h = first-wordy p r
  next-wordy n p r (enter x) e h =
      guarded-wordy (root_blockers p s) (root_need p s) p r (goes_on p r (at x) (cond (root_splits p s) (halved_root p x s) (whole_root p s))) tt
  next-wordy n p r (at x) e h =
      latch-cases Wordy (latch_word p) x (answer more s) (stand_step p r x s) (suc s.root.height) s.root.node tt (stand-wordy p r x (choice-word p r x e h))
  next-wordy n p r change e h = change-wordy p r
  next-wordy n p r (take x) e h = take-wordy n p r x

  -- ---- every call

  -- Every number that the answer may tell is a word.
  abbrev Tellable : Outcome → Type 0
  Tellable o = (b : C.Answer) → Tells o.answer b → Worded b

  refusal-word : (n : ℕ) → Tellable (answer (refused n 0) s)
  refusal-word n b e = subst Worded (sym e) zero_word

  ok-word : (t : State) → Tellable (answer ok t)
  ok-word t b e = subst Worded (sym e) tt

  step-word : (o : Outcome) → Wordy o → ((ps : List ℕ) → o.answer ≡ wait ps → (q : ℕ) → elem q ps ≡ true → Word q) → Tellable o
  step-word o w f = go o.answer refl w
    where
      go : (a : Answer) → o.answer ≡ a → WordyAnswer a → (b : C.Answer) → Tells a b → Worded b
      go ok i w b e = subst Worded (sym e) tt
      go more i w b e = subst Worded (sym e) tt
      go (wait ps) i w b e = subst Worded (sym e.2) (f ps i e.0 e.1)
      go (done []) i w b e = subst Worded (sym e) tt
      go (done (n ∷ ns)) i w b e = subst Worded (sym e) w
      go (refused n k) i w b e = subst Worded (sym e) w

  wait-word : (b : ℕ) → Word b → Tellable (answer (wait (b ∷ [])) s)
  wait-word b w c e = subst Worded (sym e.2) (subst Word (sym (eqb_is e.0 b (sym (or-false (eqb e.0 b)) ∙ e.1))) w)

  steps-word : (p n : ℕ) (h : Option Request) → (session_of p s).hand ≡ h → Tellable (steps p n h s)
  unfolding steps
  steps-word p n none e = λ b i. subst Worded (sym i) tt
  steps-word p n (some r) e =
      let party : (q : ℕ) → InTheWay p r s r.stage q → Word q = λ q W. let l = way-party s S p r r.stage q W in omega (arith, l) in
      settled-step Tellable n p r s
      (step-word (next_step n p r s r.stage) (next-wordy n p r r.stage e (S.standing p r e)) (λ ps i q j. party q (((waits-exactly n p r s S e).lists ps i q).0 j)))
      (λ b i. wait-word b (party b ((blockers-exactly S p r e b).0 i)))

  pub call-worded : (c : Call) → Tellable (call c s)
  unfolding call
  call-worded (format m w) = refusing-cases Tellable (format_checks m w) s (answer ok (fresh m (records_for m w))) refusal-word (λ h. ok-word (fresh m (records_for m w)))
  call-worded (begin p) = refusing-cases Tellable (begin_checks p s) s (answer ok (begins p s)) refusal-word (λ h. ok-word (begins p s))
  call-worded (put p c e f g) = refusing-cases Tellable (put_checks p c e f g s) s (answer ok (accepted p c e f g s)) refusal-word (λ h. ok-word (accepted p c e f g s))
  call-worded (step p n) = refusing-cases Tellable (step_checks p s) s (steps p n (session_of p s).hand s) refusal-word (λ h. steps-word p n (session_of p s).hand refl)
  call-worded (commit p) = refusing-cases Tellable (commit_checks p s) s (answer ok (commits p s)) refusal-word (λ h. ok-word (commits p s))
  call-worded (abort p) = refusing-cases Tellable (abort_checks p s) s (answer ok (aborts p s)) refusal-word (λ h. ok-word (aborts p s))
  call-worded (ask p) = refusing-cases Tellable (ask_checks p s) s (answer ok (asks p s)) refusal-word (λ h. ok-word (asks p s))
  call-worded recover = ok-word (recovers s)

-- Demand 2, answers: a step that is done answers, writes and changes as the logical model does with this request. No other call changes a value or
-- a membership but abort and recover, which undo, and format, which starts anew; nothing but a locate that is done writes the lent list.
use Rattle.std.specs.Prelude.{◌≡◌, Bool, true, false, cond, not, ◌&&◌, leb, ltb, eqb}
use Rattle.std.proofs.Math.Path.{refl}
use Rattle.std.proofs.Common.{sym, ◌∙◌, ap, arith}
use mathlib.Core.List.{List, [], ◌∷◌}
use Rattle.std.proofs.Math.Option.{Option, none, some}
use Prim.Native.Nat.{zero, suc, ◌*◌, ◌≤◌, ◌<◌, ℕ}
use Rattle.std.proofs.Math.ListN.{length}
use Rattle.serial.specs.Serial.{true≢false}
use Rattle.serial.specs.Rising.{rising-ext}
use Rattle.serial.specs.Model.{Item, Req, Pair, by_key, get, ans, eff, two_words, Db}
use Rattle.serial.specs.Model as R
use Rattle.serial.specs.Footprints.{Good}
use Rattle.machine.specs.Logic.{eqb_yes, leb-is, leb-not, either}
use Rattle.machine.specs.Holders.{latch_word, elem}
use Rattle.machine.specs.Tree.{pick}
use Rattle.machine.specs.State.{Desc, Tree, Stage, start, enter, take, State, Answer, more, wait, done, refused, Outcome, no_desc, same, or_none, session_of, stored, lowest_from, gap_below, desc_of, set_hand, in_stage, fresh, Request, ok, at, change}
use Rattle.machine.specs.Steps.{ended, goes_on, finished, guarded, read-step, write_step, entry-step, insert-step, remove-step, change-step, memberships, last_take, take_desc, take_step, enter_step, level-step, pin-step, make-step, removable, tidied_state, updating_state, inserted_state, removed_state, located_state, tidy-step, lowest_step, stand_step, at_step, first_step, next_step, answer}
use Rattle.machine.specs.Calls.{Call, format, begin, put, step, commit, abort, ask, recover, call, put_checks, step_checks, begin_checks, commit_checks, abort_checks, ask_checks, format_checks, accepted, begins, commits, aborts, asks, steps, records_for}
use Rattle.machine.specs.View.{items}
use Rattle.machine.specs.Model.{model_is, model, model_good}
use Rattle.machine.specs.Sound.{Sound, Stands, of_hand}
use Rattle.machine.specs.Descents.{guard-cases, latch-cases}
use Rattle.machine.specs.Checks.{refusing-cases, refusing-numbers}
use Rattle.machine.specs.Looks.{fit_of}
use Rattle.machine.specs.Events.{unseen, locks, finishes, unfinished}
use Rattle.machine.specs.Session.{req_of}
use Rattle.machine.specs.Moves.{Moves, quiet, tidied, began, committed, aborted, recovered, stepped, formatted}
use Rattle.machine.specs.Ledger.{is_ok}
use Rattle.machine.specs.Waits.{settled-step}

-- ---- the logical part of a state

-- Values and memberships of t are those of the database d; memberships as a list too, rising by key and then by entry.
pub record Logical (d : Db) (t : State) : Type 0 where
  pub items_are : (i : Item) → items t i ≡ get d i
  pub values_are : (e : ℕ) → (model t).values e ≡ d.values e
  pub members_are : (model t).members ≡ d.members

pub sound-good : {s : State} → Sound s → Good (model s)
sound-good {s} S = model_good 0 4294967296 s (fit_of S).rises (fit_of S).listed

pub sound-is : {s : State} → Sound s → (i : Item) → get (model s) i ≡ items s i
sound-is {s} S i = model_is 0 4294967296 s (fit_of S).rises i

-- Item by item is enough.
pub logical-from : (d : Db) (t : State) → Good d → Sound t → ((i : Item) → items t i ≡ get d i) → Logical d t
logical-from d t g S h = record {
  items_are = h;
  values_are = λ e. h (R.value e);
  members_are = rising-ext by_key (model t).members d.members (sound-good S) g (λ p. sound-is S (R.cell p.0 p.1) ∙ h (R.cell p.0 p.1));
}

-- The logical part stays.
pub record Untouched (s t : State) : Type 0 where
  pub items_same : (i : Item) → items t i ≡ items s i
  pub logical_same : Logical (model s) t

pub untouched : (s t : State) → Sound s → Sound t → ((i : Item) → items t i ≡ items s i) → Untouched s t
untouched s t S T h = record { items_same = h; logical_same = logical-from (model s) t (sound-good S) T (λ i. h i ∙ sym (sound-is S i)) }

-- ---- what a step can answer and write

-- Every step but a locate's last answers with this, and writes nothing.
abbrev pub ordinary : Answer → Bool
ordinary ok = true
ordinary more = true
ordinary (wait ps) = true
ordinary (done ns) = true
ordinary (refused n k) = not (eqb n 12)

module _ (P : Outcome → Type 0) (p : ℕ) (r : Request) (s : State) (plain : (a : Answer) (t : State) → ordinary a ≡ true → P (answer a t)) where
  guard-plain : (bs : List ℕ) (need : ℕ) (o : Outcome) → P o → P (guarded bs need p r s o)
  guard-plain bs need o h = guard-cases P bs need p r s o (λ b l. plain (wait (b ∷ l)) s refl) (plain (refused 11 0) (ended p r s) refl) h

  goes-plain : (g : Stage) (t : State) → P (goes_on p r g t)
  unfolding goes_on
  goes-plain g t = plain more (set_hand p (some (in_stage g r)) t) refl

  finished-plain : (ns : List ℕ) (t : State) → P (finished p r ns t)
  unfolding finished
  finished-plain ns t = plain (done ns) (ended p r t) refl

  pub first_plain : P (first_step p r s)
  unfolding first_step read-step write_step entry-step
  first_plain = either P (eqb r.code 1) (read-step p r s) _ (guard-plain _ 0 _ (finished-plain _ _))
      (either P (eqb r.code 2) (write_step p r s) _ (guard-plain _ 1 _ (finished-plain _ _))
      (either P (leb r.code 4) (entry-step p r s) (finished p r (0 ∷ 0 ∷ []) s) (guard-plain _ 0 _ (goes-plain _ _)) (finished-plain _ _)))

  pub enter-plain : (x : ℕ) → P (enter_step p r x s)
  unfolding enter_step
  enter-plain x = guard-plain _ _ _ (goes-plain _ _)

  lowest-plain : (x : ℕ) (d : Desc) → P (lowest_step p r x s d)
  unfolding lowest_step tidy-step pin-step make-step
  lowest-plain x d = either P (eqb p 0) (tidy-step p r x d s) (cond (eqb d.key x) (pin-step p r x s) (make-step p r x s))
      (either P (removable (gap_below x 0 (stored s)) d) (finished p r (x ∷ 1 ∷ []) (tidied_state p x s)) (finished p r (x ∷ 0 ∷ []) s) (finished-plain _ _) (finished-plain _ _))
      (either P (eqb d.key x) (pin-step p r x s) (make-step p r x s) (goes-plain _ _) (guard-plain [] 1 _ (goes-plain _ _)))

  stand-plain : (x h : ℕ) (t : Tree (suc h)) → P (stand_step p r x s h t)
  unfolding stand_step level-step
  stand-plain x zero t = lowest-plain x (pick x no_desc same t.sons)
  stand-plain x (suc h) t = guard-plain _ _ _ (goes-plain _ _)

  pub at_plain : (x : ℕ) → P (at_step p r x s)
  unfolding at_step
  at_plain x = latch-cases P (latch_word p) x (answer more s) (stand_step p r x s) (suc s.root.height) s.root.node (plain more s refl) (stand-plain x)

  pub change-plain : P (change-step p r s)
  unfolding change-step insert-step remove-step
  change-plain =
      let d = desc_of r.first s in
      either P (eqb r.code 3) (insert-step p r d s) (remove-step p r d s)
      (either P (elem r.entry d.members) _ _ (guard-plain _ 0 _ (finished-plain (0 ∷ []) (updating_state p r s))) (guard-plain _ 2 _ (finished-plain (1 ∷ []) (inserted_state p r s))))
      (guard-plain _ 0 _ (either P (elem r.entry d.members) _ _ (finished-plain (1 ∷ []) (removed_state p r s)) (finished-plain (0 ∷ []) (updating_state p r s))))

  -- A locate's last step, where n words of list are lent.
  abbrev found : List Pair
  found = memberships r.first r.second (stored s)

  take_cases : (n x : ℕ) → ((t : State) → 2 * length found ≤ n → P (record { answer = done (length found ∷ []); next = t; written = found }))
      → ((t : State) → n < 2 * length found → P (answer (refused 12 (length found)) t)) → P (take_step n p r x s)
  unfolding take_step take_desc last_take
  take_cases n x fits short = guard-plain _ 0 _
      (either P (ltb (or_none (lowest_from x (stored s))).key r.second) _ _ (goes-plain _ _) (go (leb (2 * length found) n) refl))
    where
      t : State
      t = ended p r (located_state p (or_none (lowest_from x (stored s))) s)

      go : (b : Bool) → leb (2 * length found) n ≡ b
          → P (cond b (record { answer = done (length found ∷ []); next = t; written = found }) (answer (refused 12 (length found)) (ended p r s)))
      go true e = fits t (leb-is (2 * length found) n e)
      go false e = short (ended p r s) (leb-not (2 * length found) n e)

  -- By the stage: only a locate takes descriptors.
  step-cases : (n : ℕ) (g : Stage) → Stands p s r g → (r.code ≡ 5 → (t : State) → 2 * length found ≤ n → P (record { answer = done (length found ∷ []); next = t; written = found }))
      → (r.code ≡ 5 → (t : State) → n < 2 * length found → P (answer (refused 12 (length found)) t)) → P (next_step n p r s g)
  unfolding next_step
  step-cases n start h fits short = first_plain
  step-cases n (enter x) h fits short = enter-plain x
  step-cases n (at x) h fits short = at_plain x
  step-cases n change h fits short = change-plain
  step-cases n (take x) h fits short = take_cases n x (fits h.code_5) (short h.code_5)

-- A step, refused by its checks or made.
pub call-cases : (P : Outcome → Type 0) (p n : ℕ) (s : State) → Sound s → ((a : Answer) (t : State) → ordinary a ≡ true → P (answer a t))
    → ((r : Request) → (session_of p s).hand ≡ some r → r.code ≡ 5 → (t : State) → 2 * length (memberships r.first r.second (stored s)) ≤ n
    → P (record { answer = done (length (memberships r.first r.second (stored s)) ∷ []); next = t; written = memberships r.first r.second (stored s) }))
    → ((r : Request) → (session_of p s).hand ≡ some r → r.code ≡ 5 → (t : State) → n < 2 * length (memberships r.first r.second (stored s))
    → P (answer (refused 12 (length (memberships r.first r.second (stored s)))) t))
    → P (call (step p n) s)
unfolding call steps
call-cases P p n s S plain fits short =
    refusing-numbers P (step_checks p s) s (steps p n (session_of p s).hand s) (plain (refused 4 0) s refl, (plain (refused 5 0) s refl, (plain (refused 7 0) s refl, tt))) λ k.
    go (session_of p s).hand refl
  where
    go : (h : Option Request) → (session_of p s).hand ≡ h → P (steps p n h s)
    go none e = plain more s refl
    go (some r) e = settled-step P n p r s (step-cases P p r s plain n r.stage (S.standing p r e) (fits r e) (short r e)) (λ b _. plain (wait (b ∷ [])) s refl)

-- A call may write the list: a step of a locate that is done.
abbrev pub may_write : Call → State → Answer → Bool
may_write (format m words) s a = false
may_write (begin p) s a = false
may_write (put p c e f g) s a = false
may_write (step p n) s a = of_hand false (λ r. eqb r.code 5) (session_of p s).hand && not (unfinished a)
may_write (commit p) s a = false
may_write (abort p) s a = false
may_write (ask p) s a = false
may_write recover s a = false

abbrev Blank : Outcome → Type 0
Blank o = o.written ≡ []

pub written-only : (c : Call) (s : State) → Sound s → may_write c s (call c s).answer ≡ false → (call c s).written ≡ []
unfolding call
written-only (format m w) s S e = refusing-cases Blank (format_checks m w) s (answer ok (fresh m (records_for m w))) (λ n. refl) (λ k. refl)
written-only (begin p) s S e = refusing-cases Blank (begin_checks p s) s (answer ok (begins p s)) (λ n. refl) (λ k. refl)
written-only (put p c f g h) s S e = refusing-cases Blank (put_checks p c f g h s) s (answer ok (accepted p c f g h s)) (λ n. refl) (λ k. refl)
written-only (commit p) s S e = refusing-cases Blank (commit_checks p s) s (answer ok (commits p s)) (λ n. refl) (λ k. refl)
written-only (abort p) s S e = refusing-cases Blank (abort_checks p s) s (answer ok (aborts p s)) (λ n. refl) (λ k. refl)
written-only (ask p) s S e = refusing-cases Blank (ask_checks p s) s (answer ok (asks p s)) (λ n. refl) (λ k. refl)
written-only recover s S e = refl
written-only (step p n) s S e = call-cases (λ o. may_write (step p n) s o.answer ≡ false → Blank o) p n s S (λ a t h e. refl) (λ r h c t w e. absurd (locates r h c e)) (λ r h c t w e. refl) e
  where
    locates : (r : Request) → (session_of p s).hand ≡ some r → r.code ≡ 5 → may_write (step p n) s (done []) ≡ false → ⊥
    locates r h c e = true≢false (ap (λ v. of_hand false (λ (z : Request). eqb z.code 5) v && true) h ∙ ap (λ b. b && true) (eqb_yes r.code 5 c)) e

-- What is written fits in the n words that are lent.
pub written-fits : (p n : ℕ) (s : State) → Sound s → 2 * length (call (step p n) s).written ≤ n
written-fits p n s S = call-cases (λ o. 2 * length o.written ≤ n) p n s S (λ a t h. omega arith) (λ r h c t w. w) (λ r h c t w. omega arith)

-- ---- demand 2, answers

-- A request q that is done with these numbers.
pub record Answered (q : Req) (s : State) (o : Outcome) (ns : List ℕ) : Type 0 where
  pub number_is : ns ≡ (ans q (model s)).numbers
  pub words_are : two_words o.written ≡ (ans q (model s)).words
  pub after : Logical (eff q (model s)) o.next

pub record Unanswered (s : State) (o : Outcome) : Type 0 where
  pub nothing_written : o.written ≡ []
  pub stays : Untouched s o.next

abbrev pub AsModel : Req → State → Outcome → Answer → Type 0
AsModel q s o ok = Unanswered s o
AsModel q s o more = Unanswered s o
AsModel q s o (wait ps) = Unanswered s o
AsModel q s o (done ns) = Answered q s o ns
AsModel q s o (refused n k) = Unanswered s o

pub not_done : (q : Req) (s : State) (o : Outcome) (a : Answer) → unfinished a ≡ true → Unanswered s o → AsModel q s o a
not_done q s o ok e u = u
not_done q s o more e u = u
not_done q s o (wait ps) e u = u
not_done q s o (done ns) e u = absurd (true≢false e refl)
not_done q s o (refused n k) e u = u

-- A call may change the logical part: a session's step that is done, an accepted abort, a recover, an accepted format.
abbrev pub may_change : Call → Answer → Bool
may_change (format m words) a = is_ok a
may_change (begin p) a = false
may_change (put p c e f g) a = false
may_change (step zero n) a = false
may_change (step (suc m) n) a = not (unfinished a)
may_change (commit p) a = false
may_change (abort p) a = is_ok a
may_change (ask p) a = false
may_change recover a = is_ok a

pub kept-items : (c : Call) (s : State) (o : Outcome) → may_change c o.answer ≡ false → Moves s o c → (i : Item) → items o.next i ≡ items s i
kept-items c s o e (quiet d u x) = x.db_kept
kept-items c s o e (tidied n x) = x.db_kept
kept-items c s o e (began p u x) = x.db_kept
kept-items c s o e (committed p u x) = x.db_kept
kept-items c s o e (aborted p u x) = absurd (true≢false (ap is_ok u) e)
kept-items c s o e (recovered u R) = absurd (true≢false (ap is_ok u) e)
kept-items c s o e (stepped m n r h (unseen u x)) = x.db_kept
kept-items c s o e (stepped m n r h (locks u x)) = x.db_kept
kept-items c s o e (stepped m n r h (finishes t a u w l f)) = absurd (true≢false (ap (λ z. not (unfinished z)) u) e)
kept-items c s o e (formatted m words u x) = absurd (true≢false (ap is_ok u) e)

pub req-locate : (r : Request) → r.code ≡ 5 → req_of r ≡ R.locate r.first r.second
unfolding req_of
req-locate r e = ap (λ c. cond (eqb c 1) (R.read r.entry) (cond (eqb c 2) (R.write r.entry r.first) (cond (eqb c 3) (R.insert r.entry r.first)
    (cond (eqb c 4) (R.remove r.entry r.first) (R.locate r.first r.second))))) e

-- Refusal 12 brings the number of memberships in the range back, for which the n words that are lent are too few.
pub record TooShort (r : Request) (s : State) (n k : ℕ) : Type 0 where
  pub locates : req_of r ≡ R.locate r.first r.second
  pub count_is : k ≡ length (R.located r.first r.second (model s))
  pub short : n < 2 * k

module _ (s : State) (S : Sound s) (m n : ℕ) (r : Request) (hand : (session_of (suc m) s).hand ≡ some r) where
  abbrev c : Call
  c = step (suc m) n

  abbrev o : Outcome
  o = call c s

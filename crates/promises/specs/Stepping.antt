-- The step of a request in hand by its stage: what it leaves, whom a wait names, that it is the machine's, that a wait changes nothing, and what the code asks.
use Rattle.std.specs.Prelude.{◌≡◌, Bool, true, false, cond, not, ◌&&◌, leb, ltb, length}
use Rattle.std.proofs.Math.Path.{refl, ap}
use Rattle.std.proofs.Common.{sym, subst, ◌∙◌, inl, inr, arith}
use mathlib.Core.List.{List, [], ◌∷◌}
use Prim.Native.Nat.{ℕ, zero, suc, ◌+◌, ◌-◌, ◌*◌, ◌≤◌}
use Rattle.std.proofs.Math.Decide.{ℕ_discrete}
use Rattle.std.proofs.Math.Dec.{eqb}
use borrow.Author.Tests.{eq-eqb, ne_eqb}
use Rattle.locks.specs.Holders.{conflicts}
use Rattle.sessions.specs.declared.Session.{Session}
use Rattle.sessions.specs.Sessions.{session_at}
use Rattle.serial.specs.Serial.{true≢false}
use Rattle.serial.specs.Model.{two_words}
use Rattle.serial.specs.Calls as C
use Rattle.seniority.specs.Seniority.{eldest_in}
use Rattle.outcomes.specs.declared.Answer.{Answer}
use Rattle.outcomes.specs.declared.Answer.TheVariants.{Ok, More, Wait, Done, Tidied, Refused}
use Rattle.outcomes.specs.Said.{said, Stepped, moved}
use Rattle.outcomes.specs.declared.Moved.{Moved}
use Rattle.machine.specs.Logic.{either, eqb_is, eqb-not}
use Rattle.machine.specs.Holders.{width, latch_word, elem}
use Rattle.machine.specs.Tree.{pick}
use Rattle.machine.specs.State.{State, Tree, same, Desc, Request, Stage, start, enter, at, change, take, Outcome, more, desc_of, no_desc, stored, gap_below}
use Rattle.machine.specs.Steps.{answer, guarded, goes_on, finished, first_step, read-step, write_step, entry-step, enter_step, lowest_step, tidy-step, pin-step, make-step, tidied_state, stand_step, level-step, at_step, change-step, insert-step, remove-step, updating_state, inserted_state, removed_state, next_step}
use Rattle.machine.specs.Steps as N
use Rattle.machine.specs.Descents.{guard-cases, latch-cases}
use Rattle.meaning.specs.Reading.{M-of, R-of, stage_of, Numbered}
use Rattle.words.specs.Store.{word_of}
use Rattle.words.specs.Header.{header_word, free_place}
use Rattle.words.specs.Entries.{entry_word}
use Rattle.groups.specs.Descriptor.{descriptor_at, removable}
use Rattle.scans.specs.Scans.{membership_of}
use Rattle.taking.specs.Place.{next_taken}
use Rattle.nodes.specs.Node.{node_at}
use Rattle.nodes.specs.Ops.{son_for}
use Rattle.nodes.specs.Paths.{son_at, son_toward}
use Rattle.descents.specs.Descents.{has_free, in_way, first_in_way}
use Rattle.joins.specs.Joins.{pair_place, down_bound}
use Rattle.layout.specs.Layout.{means, Marked, SomeSon}
use Rattle.layout.specs.Row.{Stands, Moves}
use Rattle.layout.specs.Asked.{request_in}
use Rattle.starting.specs.Starting.{entry_blocker, read_step, read_done_of, write_step_of, write_free, write_done_of, entry_step, entry_done_of, tidied_none, unless_held, waits, refuses, first_step_of, FirstReady}
use Rattle.starting.specs.First.{first-moves, first-ready}
use Rattle.root_entry.specs.RootEntry.{root_in_way, dropped_words, splits_root, has_two, whole_at, enter_whole, halves_at, enter_halves, root_waits, root_refused, enter_full, enter_free, enter_step_of, EnterReady}
use Rattle.root_entry.specs.Enter.{enter-next}
use Rattle.root_entry.specs.Ready.{enter-ready}
use Rattle.walking.specs.Walking.{waits_for, refused_full, halved_step, join_step, right_step, other_count, mend_by, plain_step, split_step, down_step, alone_step, mend_step, pair_step, level_step}
use Rattle.walking.specs.Walking as W
use Rattle.walking.specs.Ready.{LevelReady}
use Rattle.walking.specs.PairMoves.{level-next}
use Rattle.walking.specs.Readies.{level-ready}
use Rattle.arriving.specs.Arriving.{pred_of, pin_step, made_step, full_step, make_step, gone_step, left_step, tidy_step, session_step, lowest_step_of}
use Rattle.arriving.specs.Ready.{LowestReady}
use Rattle.arriving.proofs.Moving.{lowest-moves}
use Rattle.arriving.specs.Readiness.{lowest-ready}
use Rattle.changing.specs.Changing.{change_blocker, keep_step, add_step, refuse_step, room_step, insert_step, remove_step, code_step, change_at, change_step, ChangeReady}
use Rattle.changing.specs.Changing as G
use Rattle.changing.specs.Rows.{in-change}
use Rattle.changing.proofs.Rows.{change-moves}
use Rattle.changing.specs.Ready.{change-ready}
use Rattle.taking.specs.Taking.{in_way_of, found_in, pass_step, done_step, short_step, last_step, free_step, take_step_of, take_written, over, TakeReady}
use Rattle.taking.specs.Taking as K
use Rattle.taking.specs.Moves.{take-moves, take_next}
use Rattle.taking.proofs.Moves.{take-list}
use Rattle.taking.specs.Ready.{take-ready}
use Rattle.members.specs.Members.{unpin_at}
use Rattle.endings.specs.Table.{idled}
use Rattle.finishing.specs.Finishing.{end_request, latch-none, low-none, low-some, high-none, first-pins, pinned-4, pinned-other, end-run}
use Rattle.promises.specs.Relations.{stays}
use Rattle.promises.specs.Assembling.{is_refused, no-refusal}

-- ---- what a step leaves

-- At a node: the lowest, or one above it.
unfoldable pub node_step : List ℕ → ℕ → ℕ → ℕ → Session → Stepped
node_step s m r p x = cond (eqb x.level 1) (lowest_step_of s m r p x) (level_step s m p x)

-- Stages 1 to 4.
unfoldable pub early_step : List ℕ → ℕ → ℕ → ℕ → Session → Stepped
early_step s m r p x =
    cond (eqb x.stage 1) (first_step_of s m p x)
    (cond (eqb x.stage 2) (enter_step_of s m p x)
    (cond (eqb x.stage 3) (node_step s m r p x) (change_step s m r p x)))

-- n words of list are lent.
unfoldable pub stage_step : List ℕ → ℕ → ℕ → ℕ → ℕ → Session → Stepped
stage_step s m r n p x = cond (eqb x.stage 5) (take_step_of s m r n p x) (early_step s m r p x)

-- The words written at the start of the list.
unfoldable pub stage_written : List ℕ → ℕ → ℕ → ℕ → ℕ → Session → List ℕ
stage_written s m r n p x = cond (eqb x.stage 5) (take_written s m r n p x) []

-- ---- whom a wait names

-- The sessions in the way of p's lock on entry e, as a holders word: share is asked by 0, exclusive by 1.
unfoldable pub entry_conflicts : List ℕ → ℕ → ℕ → ℕ → ℕ
entry_conflicts s e asked p = conflicts 0 asked p (entry_word s e 1) (entry_word s e 2)

-- The same at descriptor d: locate is asked by 0, update by 1.
unfoldable pub group_conflicts : List ℕ → ℕ → ℕ → ℕ → ℕ → ℕ
group_conflicts s m d asked p = conflicts 1 asked p (descriptor_at s m d).locate (descriptor_at s m d).update

unfoldable pub first_conflicts : List ℕ → ℕ → Session → ℕ
first_conflicts s p x = cond (eqb x.code 1) (entry_conflicts s x.entry 0 p) (cond (leb x.code 4) (entry_conflicts s x.entry 1 p) 0)

-- Of a step that asks for a long lock: the entry at stage 1, the next descriptor of a scan at stage 5, the pinned descriptor at stage 4.
unfoldable pub conflict_word : List ℕ → ℕ → ℕ → ℕ → Session → ℕ
conflict_word s m r p x =
    cond (eqb x.stage 5) (group_conflicts s m (next_taken s m r x) 0 p) (cond (eqb x.stage 1) (first_conflicts s p x) (group_conflicts s m x.low 1 p))

-- The party that a wait names, where the row named q: of latches q itself, of long locks the session in the way that began first.
unfoldable pub named_by : List ℕ → ℕ → ℕ → List Session → ℕ → Session → ℕ → ℕ
named_by s m r t p x q = cond (eqb x.stage 2) q (cond (eqb x.stage 3) q (eldest_in t (conflict_word s m r p x)))

-- A row's answer with the party that a wait names.
abbrev pub settled_answer : List ℕ → ℕ → ℕ → List Session → ℕ → Session → Answer → Answer
settled_answer s m r t p x Ok = Ok
settled_answer s m r t p x More = More
settled_answer s m r t p x (Wait q) = Wait (named_by s m r t p x q)
settled_answer s m r t p x (Done n) = Done n
settled_answer s m r t p x (Tidied k b) = Tidied k b
settled_answer s m r t p x (Refused n k) = Refused n k

-- ---- what the code asks

pub record NodeReady (s : List ℕ) (m r p : ℕ) (x : Session) : Type 0 where
  pub low : x.level ≡ 1 → LowestReady s m r p x
  pub high : ¬ (x.level ≡ 1) → LevelReady s m p x

pub record EarlyReady (s : List ℕ) (m r p : ℕ) (x : Session) : Type 0 where
  pub first : x.stage ≡ 1 → FirstReady s m p x
  pub enters : x.stage ≡ 2 → EnterReady s m p x
  pub node : x.stage ≡ 3 → NodeReady s m r p x
  pub changes : ¬ (x.stage ≡ 1) → ¬ (x.stage ≡ 2) → ¬ (x.stage ≡ 3) → ChangeReady s m r p x

pub record StageReady (s : List ℕ) (m r p : ℕ) (x : Session) : Type 0 where
  pub takes : x.stage ≡ 5 → TakeReady s m r p x
  pub early : ¬ (x.stage ≡ 5) → EarlyReady s m r p x

-- A wait is named where the step could be made.
abbrev pub Nameable : List ℕ → ℕ → ℕ → ℕ → Session → Answer → Type 0
Nameable s m r p x a = (q : ℕ) → a ≡ Wait q → StageReady s m r p x

-- ---- the runs of the code, as equations

abbrev pub Leaves : List ℕ → Moved → Stepped → Type 0
Leaves s' z y = (s' ≡ y.words) × (z ≡ moved y)

pub node-low : (s : List ℕ) (m r p : ℕ) (x : Session) {s' : List ℕ} {z : Moved} → x.level ≡ 1 → Leaves s' z (lowest_step_of s m r p x) → Leaves s' z (node_step s m r p x)
unfolding node_step
node-low s m r p x e h = rw (eq-eqb x.level 1 e) h

pub node-high : (s : List ℕ) (m r p : ℕ) (x : Session) {s' : List ℕ} {z : Moved} → ¬ (x.level ≡ 1) → Leaves s' z (level_step s m p x) → Leaves s' z (node_step s m r p x)
unfolding node_step
node-high s m r p x e h = rw (ne_eqb x.level 1 e) h

pub early-one : (s : List ℕ) (m r p : ℕ) (x : Session) {s' : List ℕ} {z : Moved} → x.stage ≡ 1 → Leaves s' z (first_step_of s m p x) → Leaves s' z (early_step s m r p x)
unfolding early_step
early-one s m r p x e h = rw (eq-eqb x.stage 1 e) h

pub early-two : (s : List ℕ) (m r p : ℕ) (x : Session) {s' : List ℕ} {z : Moved} → ¬ (x.stage ≡ 1) → x.stage ≡ 2 → Leaves s' z (enter_step_of s m p x) → Leaves s' z (early_step s m r p x)
unfolding early_step
early-two s m r p x a e h = rw (ne_eqb x.stage 1 a, eq-eqb x.stage 2 e) h

pub early-three : (s : List ℕ) (m r p : ℕ) (x : Session) {s' : List ℕ} {z : Moved} → ¬ (x.stage ≡ 1) → ¬ (x.stage ≡ 2) → x.stage ≡ 3 → Leaves s' z (node_step s m r p x)
    → Leaves s' z (early_step s m r p x)
unfolding early_step
early-three s m r p x a b e h = rw (ne_eqb x.stage 1 a, ne_eqb x.stage 2 b, eq-eqb x.stage 3 e) h

pub early-four : (s : List ℕ) (m r p : ℕ) (x : Session) {s' : List ℕ} {z : Moved} → ¬ (x.stage ≡ 1) → ¬ (x.stage ≡ 2) → ¬ (x.stage ≡ 3) → Leaves s' z (change_step s m r p x)
    → Leaves s' z (early_step s m r p x)
unfolding early_step
early-four s m r p x a b c h = rw (ne_eqb x.stage 1 a, ne_eqb x.stage 2 b, ne_eqb x.stage 3 c) h

-- With the list at exit.
abbrev pub LeavesBoth : List ℕ → Moved → List ℕ → Stepped → List ℕ → Type 0
LeavesBoth s' z l' y w = (s' ≡ y.words) × (z ≡ moved y) × (l' ≡ w)

pub stage-take : (s l : List ℕ) (m r p : ℕ) (x : Session) {s' l' : List ℕ} {z : Moved} → x.stage ≡ 5
    → LeavesBoth s' z l' (take_step_of s m r (length l) p x) (over (take_written s m r (length l) p x) l)
    → LeavesBoth s' z l' (stage_step s m r (length l) p x) (over (stage_written s m r (length l) p x) l)
unfolding stage_step stage_written
stage-take s l m r p x e h = rw (eq-eqb x.stage 5 e) h

pub stage-early : (s l : List ℕ) (m r p : ℕ) (x : Session) {s' : List ℕ} {z : Moved} → ¬ (x.stage ≡ 5) → Leaves s' z (early_step s m r p x)
    → LeavesBoth s' z l (stage_step s m r (length l) p x) (over (stage_written s m r (length l) p x) l)
unfolding stage_step stage_written
stage-early s l m r p x e h = rw (ne_eqb x.stage 5 e) (h.0, h.1, refl)

-- ---- only a step that takes writes

abbrev Blank : Outcome → Type 0
Blank o = o.written ≡ []

module _ (p : ℕ) (r : Request) (s : State) where
  guard-blank : (bs : List ℕ) (need : ℕ) (o : Outcome) → Blank o → Blank (guarded bs need p r s o)
  guard-blank bs need o h = guard-cases Blank bs need p r s o (λ b l. refl) refl h

  goes_blank : (g : Stage) (t : State) → Blank (goes_on p r g t)
  unfolding goes_on
  goes_blank g t = refl

  finished-blank : (ns : List ℕ) (t : State) → Blank (finished p r ns t)
  unfolding finished
  finished-blank ns t = refl

  first-blank : Blank (first_step p r s)
  unfolding first_step read-step write_step entry-step
  first-blank = either Blank (eqb r.code 1) (read-step p r s) _ (guard-blank _ 0 _ (finished-blank _ _))
      (either Blank (eqb r.code 2) (write_step p r s) _ (guard-blank _ 1 _ (finished-blank _ _))
      (either Blank (leb r.code 4) (entry-step p r s) (finished p r (0 ∷ 0 ∷ []) s) (guard-blank _ 0 _ (goes_blank _ _)) (finished-blank _ _)))

  enter-blank : (x : ℕ) → Blank (enter_step p r x s)
  unfolding enter_step
  enter-blank x = guard-blank _ _ _ (goes_blank _ _)

  lowest-blank : (x : ℕ) (d : Desc) → Blank (lowest_step p r x s d)
  unfolding lowest_step tidy-step pin-step make-step
  lowest-blank x d = either Blank (eqb p 0) (tidy-step p r x d s) (cond (eqb d.key x) (pin-step p r x s) (make-step p r x s))
      (either Blank (N.removable (gap_below x 0 (stored s)) d) (finished p r (x ∷ 1 ∷ []) (tidied_state p x s)) (finished p r (x ∷ 0 ∷ []) s) (finished-blank _ _) (finished-blank _ _))
      (either Blank (eqb d.key x) (pin-step p r x s) (make-step p r x s) (goes_blank _ _) (guard-blank [] 1 _ (goes_blank _ _)))

  stand-blank : (x h : ℕ) (t : Tree (suc h)) → Blank (stand_step p r x s h t)
  unfolding stand_step level-step
  stand-blank x zero t = lowest-blank x (pick x no_desc same t.sons)
  stand-blank x (suc h) t = guard-blank _ _ _ (goes_blank _ _)

  at-blank : (x : ℕ) → Blank (at_step p r x s)
  unfolding at_step
  at-blank x = latch-cases Blank (latch_word p) x (answer more s) (stand_step p r x s) (suc s.root.height) s.root.node refl (stand-blank x)

  change-blank : Blank (change-step p r s)
  unfolding change-step insert-step remove-step
  change-blank =
      let d = desc_of r.first s in
      either Blank (eqb r.code 3) (insert-step p r d s) (remove-step p r d s)
      (either Blank (elem r.entry d.members) _ _ (guard-blank _ 0 _ (finished-blank (0 ∷ []) (updating_state p r s))) (guard-blank _ 2 _ (finished-blank (1 ∷ []) (inserted_state p r s))))
      (guard-blank _ 0 _ (either Blank (elem r.entry d.members) _ _ (finished-blank (1 ∷ []) (removed_state p r s)) (finished-blank (0 ∷ []) (updating_state p r s))))

  takes : Stage → Bool
  takes start = false
  takes (enter x) = false
  takes (at x) = false
  takes change = false
  takes (take x) = true

  next-blank : (n : ℕ) (g : Stage) → takes g ≡ false → Blank (next_step n p r s g)
  unfolding next_step takes
  next-blank n start e = first-blank
  next-blank n (enter x) e = enter-blank x
  next-blank n (at x) e = at-blank x
  next-blank n change e = change-blank
  next-blank n (take x) e = absurd (true≢false {b = true} refl e)

-- ---- the stage of a session record

pub five-ways : (P : Type 0) (k : ℕ) → ¬ (k ≡ 0) → k ≤ 5 → (k ≡ 1 → P) → (k ≡ 2 → P) → (k ≡ 3 → P) → (k ≡ 4 → P) → (k ≡ 5 → P) → P
five-ways P zero n l a b c d e = absurd (n refl)
five-ways P (suc zero) n l a b c d e = a refl
five-ways P (suc (suc zero)) n l a b c d e = b refl
five-ways P (suc (suc (suc zero))) n l a b c d e = c refl
five-ways P (suc (suc (suc (suc zero)))) n l a b c d e = d refl
five-ways P (suc (suc (suc (suc (suc zero))))) n l a b c d e = e refl
five-ways P (suc (suc (suc (suc (suc (suc k)))))) n l a b c d e = absurd (omega (arith, l))

stage-start : (x : Session) → x.stage ≡ 1 → stage_of x ≡ start
stage-start x e = rw (eq-eqb x.stage 1 e) refl

stage_at : (x : Session) → x.stage ≡ 3 → stage_of x ≡ at x.target
stage_at x e = rw (ne_eqb x.stage 1 (λ z. omega (arith, z, e)), ne_eqb x.stage 2 (λ z. omega (arith, z, e)), eq-eqb x.stage 3 e) refl

not-takes : (p : ℕ) (r : Request) (σ : State) (x : Session) → ¬ (x.stage ≡ 0) → x.stage ≤ 5 → ¬ (x.stage ≡ 5) → takes p r σ (stage_of x) ≡ false
unfolding takes
not-takes p r σ x n l ne = five-ways (takes p r σ (stage_of x) ≡ false) x.stage n l
    (λ e. rw (eq-eqb x.stage 1 e) refl)
    (λ e. rw (ne_eqb x.stage 1 (λ z. omega (arith, z, e)), eq-eqb x.stage 2 e) refl)
    (λ e. rw (ne_eqb x.stage 1 (λ z. omega (arith, z, e)), ne_eqb x.stage 2 (λ z. omega (arith, z, e)), eq-eqb x.stage 3 e) refl)
    (λ e. rw (ne_eqb x.stage 1 (λ z. omega (arith, z, e)), ne_eqb x.stage 2 (λ z. omega (arith, z, e)), ne_eqb x.stage 3 (λ z. omega (arith, z, e)), eq-eqb x.stage 4 e) refl)
    (λ e. absurd (ne e))

-- A node has a level.
marked-least : (k n w h : ℕ) (u : Numbered h) → Marked k n w h u → 1 ≤ k
unfolding Marked
marked-least k n w zero u g = absurd g
marked-least k n w (suc h) u (inl g) = omega (arith, g.0)
marked-least k n w (suc h) u (inr g) = sons u.sons (λ v q. marked-least k n w h v q) g
  where
    sons : (es : List (Numbered h × ℕ)) → ((v : Numbered h) → Marked k n w h v → 1 ≤ k) → SomeSon (Marked k n w h) es → 1 ≤ k
    sons [] f g = absurd g
    sons (e ∷ es) f (inl g) = f e.0 g
    sons (e ∷ es) f (inr g) = sons es f g

-- ---- a wait changes nothing; 11 and 12 end the request and write nothing else

pub record Careful (s : List ℕ) (m : ℕ) (x : Session) (z : Stepped) : Type 0 where
  pub still : stays (said z.answer) ≡ true → (z.words ≡ s) × (z.session ≡ x)
  pub closes : (n k : ℕ) → said z.answer ≡ C.refused n k → C.ends_request n ≡ true → (z.words ≡ end_request s m x) × (z.session ≡ idled x)

only-4 : (k : ℕ) → ¬ (k ≡ 0) → k ≤ 5 → ¬ (k ≡ 1) → ¬ (k ≡ 2) → ¬ (k ≡ 3) → ¬ (k ≡ 5) → k ≡ 4
only-4 k n l a b c e = five-ways (k ≡ 4) k n l (λ q. absurd (a q)) (λ q. absurd (b q)) (λ q. absurd (c q)) (λ q. q) (λ q. absurd (e q))

module _ (s : List ℕ) (m : ℕ) (x : Session) where
  E : Stepped → Type 0
  E = Careful s m x

  -- A step that goes on or is done, one that waits, one that is refused.
  goes : (z : Stepped) → stays (said z.answer) ≡ false → is_refused (said z.answer) ≡ false → E z
  unfolding E
  goes z e f = record { still = λ q. absurd (true≢false q e); closes = no-refusal (said z.answer) f }

  rests : (z : Stepped) → is_refused (said z.answer) ≡ false → z.words ≡ s → z.session ≡ x → E z
  unfolding E
  rests z f a b = record { still = λ q. (a, b); closes = no-refusal (said z.answer) f }

  ends : (z : Stepped) → stays (said z.answer) ≡ false → z.words ≡ end_request s m x → z.session ≡ idled x → E z
  unfolding E
  ends z e a b = record { still = λ q. absurd (true≢false q e); closes = λ n k f y. (a, b) }

  by-test : (b : Bool) (y z : Stepped) → (b ≡ true → E y) → (b ≡ false → E z) → E (cond b y z)
  by-test true y z f g = f refl
  by-test false y z f g = g refl

  -- A request at its first step has no latch and no pin.
  none_1 : x.stage ≡ 1 → ¬ (x.code ≡ 5) → s ≡ end_request s m x
  none_1 e c =
      let a : ¬ (x.stage ≡ 3) = λ z. omega (arith, z, e) in
      let b : ¬ (x.stage ≡ 4) = λ z. omega (arith, z, e) in
      let d : ¬ (x.stage ≡ 5) = λ z. omega (arith, z, e) in
      end-run s m x (latch-none s m x a) (low-none s m x (first-pins x (pinned-other x b d c) refl)) (high-none s m x d)

  -- One that is to change a group has the pin of first.
  pin-4 : x.stage ≡ 4 → unpin_at s m x.low ≡ end_request s m x
  pin-4 e =
      let a : ¬ (x.stage ≡ 3) = λ z. omega (arith, z, e) in
      let d : ¬ (x.stage ≡ 5) = λ z. omega (arith, z, e) in
      end-run s m x (latch-none s m x a) (sym (low-some s m x (first-pins x (pinned-4 x e) refl))) (high-none (unpin_at s m x.low) m x d)

  read-careful : (p : ℕ) → E (read_step s p x)
  unfolding read_step read_done_of unless_held waits
  read-careful p = let q = entry_blocker s x.entry 0 p in either E (eqb q 0) (read_done_of s p x) (waits s x q) (goes (read_done_of s p x) refl refl) (rests (waits s x q) refl refl refl)

  write-careful : x.stage ≡ 1 → ¬ (x.code ≡ 5) → (p : ℕ) → E (write_step_of s m p x)
  unfolding write_step_of write_free write_done_of unless_held waits refuses
  write-careful e c p =
      let q = entry_blocker s x.entry 1 p in
      either E (eqb q 0) (write_free s m p x) (waits s x q)
      (either E (eqb (header_word s free_place) 0) (refuses s x) (write_done_of s m p x) (ends (refuses s x) refl (none_1 e c) refl) (goes (write_done_of s m p x) refl refl)) (rests (waits s x q) refl refl refl)

  entry-careful : (p : ℕ) → E (entry_step s p x)
  unfolding entry_step entry_done_of unless_held waits
  entry-careful p = let q = entry_blocker s x.entry 1 p in either E (eqb q 0) (entry_done_of s p x) (waits s x q) (goes (entry_done_of s p x) refl refl) (rests (waits s x q) refl refl refl)

  first-careful : x.stage ≡ 1 → (p : ℕ) → E (first_step_of s m p x)
  unfolding first_step_of tidied_none
  first-careful e p =
      either E (eqb x.code 1) (read_step s p x) (cond (eqb x.code 2) (write_step_of s m p x) (cond (leb x.code 4) (entry_step s p x) (tidied_none s x))) (read-careful p)
      (by-test (eqb x.code 2) (write_step_of s m p x) (cond (leb x.code 4) (entry_step s p x) (tidied_none s x))
      (λ q. write-careful e (λ z. omega (arith, z, eqb_is x.code 2 q)) p)
      (λ q. either E (leb x.code 4) (entry_step s p x) (tidied_none s x) (entry-careful p) (goes (tidied_none s x) refl refl)))

  enter-careful : (p : ℕ) → E (enter_step_of s m p x)
  unfolding enter_step_of enter_free enter_full root_waits root_refused enter_halves halves_at enter_whole whole_at
  enter-careful p =
      let q = root_in_way s m p in
      let u = dropped_words s m in
      either E (eqb q 0) (enter_free s m p x) (root_waits s x q)
      (either E (splits_root s m p) (enter_full s m p x) (enter_whole u m p x)
      (either E (has_two s m) (enter_halves u m p x) (root_refused s m x) (goes (enter_halves u m p x) refl refl) (ends (root_refused s m x) refl refl refl)) (goes (enter_whole u m p x) refl refl)) (rests (root_waits s x q) refl refl refl)

  mend-careful : (p i : ℕ) (first : Bool) (other down : ℕ) → E (mend_by s m p x i first other down)
  mend-careful p i first other down =
      either E (leb other 5) (join_step s m p x i down) (cond first (W.left_step s m p x i down) (right_step s m p x i down)) (goes (join_step s m p x i down) refl refl)
      (either E first (W.left_step s m p x i down) (right_step s m p x i down) (goes (W.left_step s m p x i down) refl refl) (goes (right_step s m p x i down) refl refl))

  pair-careful : (p : ℕ) → E (pair_step s m p x)
  unfolding pair_step mend_step
  pair-careful p =
      let n = node_at s m x.at in
      let i = pair_place n x.target in
      let first = eqb (son_for n x.target) 0 in
      let b = first_in_way p (node_at s m (son_at s m x.at i)).latch (node_at s m (son_at s m x.at (i + 1))).latch in
      either E (eqb b 0) (mend_step s m p x) (waits_for s x b)
      (mend-careful p i first (other_count s m x.at i first) (down_bound s m (x.level - 1) x.at i)) (rests (waits_for s x b) refl refl refl)

  alone-careful : (p : ℕ) → E (alone_step s m p x)
  unfolding alone_step down_step split_step plain_step
  alone-careful p =
      let a = node_at s m (son_toward s m x.at x.target) in
      let b = in_way p a.latch in
      either E (eqb b 0) (down_step s m p x) (waits_for s x b)
      (either E (not (eqb p 0) && eqb a.count 8) (split_step s m p x) (plain_step s m p x)
      (either E (has_free s m 1) (halved_step s m p x) (refused_full s m x) (goes (halved_step s m p x) refl refl) (ends (refused_full s m x) refl refl refl)) (goes (plain_step s m p x) refl refl)) (rests (waits_for s x b) refl refl refl)

  level-careful : (p : ℕ) → E (level_step s m p x)
  unfolding level_step
  level-careful p = either E (eqb p 0 && eqb (node_at s m (son_toward s m x.at x.target)).count 3) (pair_step s m p x) (alone_step s m p x) (pair-careful p) (alone-careful p)

  tidy-careful : (r : ℕ) → E (tidy_step s m r x)
  unfolding tidy_step gone_step left_step
  tidy-careful r =
      let b = pred_of s m r x.target in
      let d = son_toward s m x.at x.target in
      either E (removable (descriptor_at s m d) (descriptor_at s m b).gap) (gone_step s m b d x) (left_step s m x) (goes (gone_step s m b d x) refl refl) (goes (left_step s m x) refl refl)

  session-careful : (r : ℕ) → E (session_step s m r x)
  unfolding session_step pin_step make_step full_step made_step
  session-careful r =
      either E (eqb (word_of s m (son_toward s m x.at x.target) 1) x.target) (pin_step s m x) (make_step s m r x) (goes (pin_step s m x) refl refl)
      (either E (eqb (header_word s free_place) 0) (full_step s m x) (made_step s m r x) (ends (full_step s m x) refl refl refl) (goes (made_step s m r x) refl refl))

  low-careful : (r p : ℕ) → E (lowest_step_of s m r p x)
  unfolding lowest_step_of
  low-careful r p = either E (eqb p 0) (tidy_step s m r x) (session_step s m r x) (tidy-careful r) (session-careful r)

  code-careful : x.stage ≡ 4 → (p i : ℕ) → E (code_step s m p x x.low i)
  unfolding code_step insert_step room_step add_step refuse_step keep_step remove_step G.take_step_of
  code-careful e p i =
      let d = x.low in
      either E (eqb x.code 3) (insert_step s m p x d i) (remove_step s m p x d i)
      (either E (eqb i 0) (room_step s m p x d) (keep_step s m p x d)
      (either E (G.has_two s m) (add_step s m p x d) (refuse_step s m x d) (goes (add_step s m p x d) refl refl) (ends (refuse_step s m x d) refl (pin-4 e) refl)) (goes (keep_step s m p x d) refl refl))
      (either E (eqb i 0) (keep_step s m p x d) (G.take_step_of s m p x d i) (goes (keep_step s m p x d) refl refl) (goes (G.take_step_of s m p x d i) refl refl))

  change-careful : x.stage ≡ 4 → (r p : ℕ) → E (change_step s m r p x)
  unfolding change_step change_at G.wait_step
  change-careful e r p =
      let d = x.low in
      let q : ℕ = change_blocker s m d p in
      let i = membership_of s m r (descriptor_at s m d).first x.entry in
      either E (eqb q 0) (code_step s m p x d i) (G.wait_step s x q) (code-careful e p i) (rests (G.wait_step s x q) refl refl refl)

  take-careful : (r n p : ℕ) → E (take_step_of s m r n p x)
  unfolding take_step_of K.wait_step free_step pass_step last_step done_step short_step
  take-careful r n p =
      let d = next_taken s m r x in
      let q = in_way_of s m d p in
      let f = found_in s m r x in
      either E (eqb q 0) (free_step s m r n d p x) (K.wait_step s q x)
      (either E (ltb (word_of s m d 1) x.second) (pass_step s m d p x) (last_step s m r n d p x) (goes (pass_step s m d p x) refl refl)
      (either E (leb (2 * f) n) (done_step s m d p x f) (short_step s m x f) (goes (done_step s m d p x f) refl refl) (ends (short_step s m x f) refl refl refl))) (rests (K.wait_step s q x) refl refl refl)

  node-careful : (r p : ℕ) → E (node_step s m r p x)
  unfolding node_step
  node-careful r p = either E (eqb x.level 1) (lowest_step_of s m r p x) (level_step s m p x) (low-careful r p) (level-careful p)

  early-careful : ¬ (x.stage ≡ 0) → x.stage ≤ 5 → ¬ (x.stage ≡ 5) → (r p : ℕ) → E (early_step s m r p x)
  unfolding early_step
  early-careful a l b r p =
      by-test (eqb x.stage 1) (first_step_of s m p x) (cond (eqb x.stage 2) (enter_step_of s m p x) (cond (eqb x.stage 3) (node_step s m r p x) (change_step s m r p x))) (λ e. first-careful (eqb_is x.stage 1 e) p)
      (λ c. by-test (eqb x.stage 2) (enter_step_of s m p x) (cond (eqb x.stage 3) (node_step s m r p x) (change_step s m r p x)) (λ e. enter-careful p)
      (λ d. by-test (eqb x.stage 3) (node_step s m r p x) (change_step s m r p x) (λ e. node-careful r p)
      (λ e. change-careful (only-4 x.stage a l (eqb-not x.stage 1 c) (eqb-not x.stage 2 d) (eqb-not x.stage 3 e) b) r p)))

  all-careful : ¬ (x.stage ≡ 0) → x.stage ≤ 5 → (r n p : ℕ) → E (stage_step s m r n p x)
  unfolding stage_step
  all-careful a l r n p =
      by-test (eqb x.stage 5) (take_step_of s m r n p x) (early_step s m r p x) (λ e. take-careful r n p) (λ e. early-careful a l (eqb-not x.stage 5 e) r p)

  pub stage-careful : ¬ (x.stage ≡ 0) → x.stage ≤ 5 → (r n p : ℕ) → Careful s m x (stage_step s m r n p x)
  unfolding E
  stage-careful a l r n p = all-careful a l r n p

-- ---- the step is the machine's

module _ (s : List ℕ) (t : List Session) (A : Stands s t) (p : ℕ) (l : p ≤ width) (n : ℕ) (in_hand : ¬ ((session_at t p).stage ≡ 0)) where
  abbrev x : Session
  x = session_at t p

  abbrev m : ℕ
  m = M-of s

  abbrev r : ℕ
  r = R-of s

  abbrev σ : State
  σ = means A.lay t

  abbrev out : Outcome
  out = next_step n p (request_in x) σ (request_in x).stage

  abbrev Row : Stepped → Type 0
  Row z = Moves s t p z.words z.session (said z.answer) out

  most : x.stage ≤ 5
  most = (A.holds.hands p l).stage

  two_up : x.stage ≡ 3 → ¬ (x.level ≡ 1) → 2 ≤ x.level
  two_up e ne = omega (arith, ne, marked-least x.level x.at (latch_word p) (suc A.lay.height) A.lay.tree ((A.holds.hands p l).at-node e))

  as-next : (z : Stepped) (g : Stage) (o : Outcome) → (request_in x).stage ≡ g → next_step n p (request_in x) σ g ≡ o → Moves s t p z.words z.session (said z.answer) o → Row z
  as-next z g o e q h = subst (λ w. Moves s t p z.words z.session (said z.answer) w) (sym (ap (next_step n p (request_in x) σ) e ∙ q)) h

  first-row : x.stage ≡ 1 → Row (first_step_of s m p x)
  unfolding request_in next_step
  first-row e = as-next (first_step_of s m p x) start (first_step p (request_in x) σ) (stage-start x e) refl (first-moves s t A p l e)

  node_row : x.stage ≡ 3 → Dec (x.level ≡ 1) → Row (node_step s m r p x)
  unfolding request_in next_step node_step
  node_row e (yes q) = rw (eq-eqb x.level 1 q) (as-next (lowest_step_of s m r p x) (at x.target) (at_step p (request_in x) x.target σ) (stage_at x e) refl (lowest-moves s t A p l e q))
  node_row e (no q) = rw (ne_eqb x.level 1 q) (level-next n s t A p l e (two_up e q))

  change-row : x.stage ≡ 4 → Row (change_step s m r p x)
  unfolding next_step
  change-row e = as-next (change_step s m r p x) change (change-step p (request_in x) σ) (in-change s t A p l e) refl (change-moves s t A p l e)

  take_row : x.stage ≡ 5 → Row (take_step_of s m r n p x)
  take_row e = subst (λ w. Moves s t p (take_step_of s m r n p x).words (take_step_of s m r n p x).session (said (take_step_of s m r n p x).answer) w) (take_next s t A p l e n) (take-moves s t A p l e n)

  pub stage-moves : Row (stage_step s m r n p x)
  unfolding stage_step early_step
  stage-moves = five-ways (Row (stage_step s m r n p x)) x.stage in_hand most
      (λ e. rw (ne_eqb x.stage 5 (λ z. omega (arith, z, e)), eq-eqb x.stage 1 e) (first-row e))
      (λ e. rw (ne_eqb x.stage 5 (λ z. omega (arith, z, e)), ne_eqb x.stage 1 (λ z. omega (arith, z, e)), eq-eqb x.stage 2 e) (enter-next s t p l e A n))
      (λ e. rw (ne_eqb x.stage 5 (λ z. omega (arith, z, e)), ne_eqb x.stage 1 (λ z. omega (arith, z, e)), ne_eqb x.stage 2 (λ z. omega (arith, z, e)), eq-eqb x.stage 3 e) (node_row e (ℕ_discrete x.level 1)))
      (λ e. rw (ne_eqb x.stage 5 (λ z. omega (arith, z, e)), ne_eqb x.stage 1 (λ z. omega (arith, z, e)), ne_eqb x.stage 2 (λ z. omega (arith, z, e)), ne_eqb x.stage 3 (λ z. omega (arith, z, e))) (change-row e))
      (λ e. rw (eq-eqb x.stage 5 e) (take_row e))

  list-by : Dec (x.stage ≡ 5) → stage_written s m r n p x ≡ two_words out.written
  unfolding stage_written
  list-by (yes e) = rw (eq-eqb x.stage 5 e) (take-list s t A p l e n ∙ ap (λ o. two_words o.written) (take_next s t A p l e n))
  list-by (no ne) = rw (ne_eqb x.stage 5 ne) (sym (ap two_words (next-blank p (request_in x) σ n (request_in x).stage (unfold request_in in not-takes p (request_in x) σ x in_hand most ne))))

  -- The words written are the machine's pairs.
  pub stage-list : stage_written s m r n p x ≡ two_words out.written
  stage-list = list-by (ℕ_discrete x.stage 5)

  pub stage-ready : StageReady s m r p x
  stage-ready = record {
    takes = λ e. take-ready s t A p l e;
    early = λ ne. record {
      first = λ e. first-ready s t A p l e;
      enters = λ e. enter-ready s t p l e A;
      node = λ e. record { low = λ q. lowest-ready s t A p l e q; high = λ q. level-ready s t A p l e (two_up e q) };
      changes = λ a b c. five-ways (ChangeReady s m r p x) x.stage in_hand most (λ e. absurd (a e)) (λ e. absurd (b e)) (λ e. absurd (c e)) (λ e. change-ready s t A p l e) (λ e. absurd (ne e));
    };
  }

-- Theorems that rest on theorems of specs/: the rest of specs/Answers.antt.
use Rattle.std.specs.Prelude.{◌≡◌, Bool, true, false, not, ◌&&◌, eqb}
use Rattle.std.proofs.Math.Path.{refl}
use Rattle.std.proofs.Common.{sym, ◌∙◌, subst, ap, arith}
use mathlib.Core.List.{map}
use Rattle.std.proofs.Math.Option.{some, some-injective}
use Prim.Native.Nat.{suc, ◌*◌, ◌<◌, ℕ}
use Rattle.std.proofs.Math.ListN.{length}
use Rattle.serial.specs.Serial.{true≢false, undo}
use Rattle.serial.specs.Model.{Item, get, ans, eff, empty}
use Rattle.serial.specs.Footprints.{store, eff_good, ans-local, eff-local}
use Rattle.serial.specs.LockMachine.{get-empty}
use Rattle.machine.specs.State.{State, refused, Outcome, session_of, stored, Request, ok}
use Rattle.machine.specs.Steps.{memberships}
use Rattle.machine.specs.Calls.{Call, format, step, abort, call, records_for}
use Rattle.machine.specs.View.{log_entry, items}
use Rattle.machine.specs.Model.{memberships-are, model}
use Rattle.machine.specs.Sound.{Sound, of_hand}
use Rattle.machine.specs.Housekeeping.{lvs}
use Rattle.machine.proofs.Keeping.{keeps}
use Rattle.machine.specs.Events.{Does, unseen, locks, finishes, unfinished}
use Rattle.machine.specs.Session.{req_of}
use Rattle.machine.specs.Moves.{Moves, quiet, aborted, stepped, formatted, halted}
use Rattle.machine.proofs.Moves.{moves}
use Rattle.machine.proofs.Safety.{safe-of}
use Rattle.machine.specs.Demand.{fresh-formatted}
use Rattle.machine.specs.Answers.{Logical, sound-good, sound-is, logical-from, Untouched, untouched, ordinary, call-cases, written-only, AsModel, not_done, may_change, kept-items, req-locate, TooShort}

-- ---- demand 2, answers

pub refused-12 : (p n k : ℕ) (s : State) → Sound s → (call (step p n) s).answer ≡ refused 12 k → (r : Request) × ((session_of p s).hand ≡ some r) × TooShort r s n k
unfolding stored
refused-12 p n k s S = call-cases (λ o. o.answer ≡ refused 12 k → (r : Request) × ((session_of p s).hand ≡ some r) × TooShort r s n k) p n s S
    (λ a t h e. absurd (true≢false h (ap ordinary e))) (λ r h c t w e. absurd (true≢false {b = true} refl (ap unfinished (sym e)))) (λ r h c t w e. (r, h, short r c w (number e)))
  where
    number : {j : ℕ} → refused 12 j ≡ refused 12 k → k ≡ j
    number e = cc

    short : (r : Request) → r.code ≡ 5 → n < 2 * length (memberships r.first r.second (lvs s)) → k ≡ length (memberships r.first r.second (lvs s)) → TooShort r s n k
    short r c w e = record {
      locates = req-locate r c;
      count_is = e ∙ ap length (memberships-are r.first r.second (lvs s));
      short = omega (arith, w, e);
    }

module _ (s : State) (S : Sound s) (m n : ℕ) (r : Request) (hand : (session_of (suc m) s).hand ≡ some r) where
  abbrev c : Call
  c = step (suc m) n

  abbrev o : Outcome
  o = call c s

  quiet_step : unfinished o.answer ≡ true → ((i : Item) → items o.next i ≡ items s i) → AsModel (req_of r) s o o.answer
  quiet_step u h = not_done (req_of r) s o o.answer u (record {
    nothing_written = written-only c s S (and-not (of_hand false (λ z. eqb z.code 5) (session_of (suc m) s).hand) (unfinished o.answer) u);
    stays = untouched s o.next S (keeps c s S) h;
  })
    where
      and-not : (a b : Bool) → b ≡ true → (a && not b) ≡ false
      and-not true true e = refl
      and-not false b e = refl
      and-not true false e = absurd (true≢false e refl)

  does-model : Does (suc m) (req_of r) s o → AsModel (req_of r) s o o.answer
  does-model (unseen u x) = quiet_step u x.db_kept
  does-model (locks u x) = quiet_step (ap unfinished u) x.db_kept
  does-model (finishes t a u w l f) = subst (AsModel (req_of r) s o) (sym u) (record {
    number_is = ap (λ z. z.numbers) answers;
    words_are = w ∙ ap (λ z. z.words) answers;
    after = logical-from (eff (req_of r) (model s)) o.next (eff_good (req_of r) (model s) (sound-good S)) (keeps c s S)
        (λ i. f.change i ∙ eff-local (req_of r) f.model (model s) f.model_good (sound-good S) (λ j d. alike j) i (alike i));
  })
    where
      alike : (i : Item) → get f.model i ≡ get (model s) i
      alike i = f.is_model i ∙ l.db_kept i ∙ sym (sound-is S i)

      answers : a ≡ ans (req_of r) (model s)
      answers = f.answer ∙ ans-local (req_of r) f.model (model s) f.model_good (sound-good S) (λ i d. alike i)

  moves-model : Moves s o (step (suc m) n) → AsModel (req_of r) s o o.answer
  moves-model (quiet d u x) = quiet_step u x.db_kept
  moves-model (stepped k l q e d) = does-model (subst (λ z. Does (suc m) (req_of z) s o) (some-injective q r (sym e ∙ hand)) d)

-- A step of a session, whose request in hand is r; n words of list are lent.
pub answers-as-model : (s : State) → Sound s → (m n : ℕ) (r : Request) → (session_of (suc m) s).hand ≡ some r
    → AsModel (req_of r) s (call (step (suc m) n) s) (call (step (suc m) n) s).answer
answers-as-model s S m n r h = moves-model s S m n r h (moves (step (suc m) n) s (safe-of s S))

-- ---- every other call

pub leaves-logical : (c : Call) (s : State) → Sound s → may_change c (call c s).answer ≡ false → Untouched s (call c s).next
leaves-logical c s S e = untouched s (call c s).next S (keeps c s S) (kept-items c s (call c s) e (moves c s (safe-of s S)))

-- An accepted abort undoes the session's undo records, newest first.
pub abort-logical : (p : ℕ) (s : State) → Sound s → (call (abort p) s).answer ≡ ok
    → (i : Item) → items (call (abort p) s).next i ≡ undo store (map log_entry (session_of p s).undos) (items s) i
abort-logical p s S e = go (moves (abort p) s (safe-of s S))
  where
    go : Moves s (call (abort p) s) (abort p) → (i : Item) → items (call (abort p) s).next i ≡ undo store (map log_entry (session_of p s).undos) (items s) i
    go (quiet c u x) = absurd (true≢false u (ap halted e))
    go (aborted q u x) = x.db_undone

-- An accepted format leaves all values 0 and no memberships.
pub format-logical : (m words : ℕ) (s : State) → Sound s → (call (format m words) s).answer ≡ ok → Logical empty (call (format m words) s).next
format-logical m words s S e = logical-from empty (call (format m words) s).next tt (keeps (format m words) s S) (λ i. go (moves (format m words) s (safe-of s S)) i ∙ sym (get-empty i))
  where
    go : Moves s (call (format m words) s) (format m words) → (i : Item) → items (call (format m words) s).next i ≡ 0
    go (quiet c u x) i = absurd (true≢false u (ap halted e))
    go (formatted k w u x) i = ap (λ t. items t i) x ∙ (fresh-formatted m (records_for m words)).no_values i

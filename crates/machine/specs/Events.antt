-- Each step of a session's request is an event of the lock machine, or a lock and a finished request, or nothing that it sees.
use Rattle.std.specs.Prelude.{◌≡◌, Bool, false, ◌||◌, suc, ◌-◌, ◌≤◌, ◌<◌, ℕ, leb, length}
use Rattle.std.proofs.Math.Path.{refl, sym, ap}
use Rattle.std.proofs.Common.{◌∙◌, arith}
use Rattle.std.proofs.Math.Bool.{true}
use mathlib.Core.List.{List, [], ◌∷◌, ◌++◌, map}
use Rattle.std.proofs.Math.Decide.{ℕ_discrete}
use Rattle.serial.specs.Serial.{pick, pick_yes, pick_no}
use Rattle.serial.specs.Model.{Item, Req, Ans, get, eff, ans, just, two_words, Db}
use Rattle.serial.specs.Model as R
use Rattle.serial.specs.Locks.{Kind, Mode, strong, Needs, undo_of}
use Rattle.serial.specs.LockMachine.{Locked, Finished, Unseen}
use Rattle.machine.specs.Logic.{either}
use Rattle.machine.specs.Holders.{width, holds}
use Rattle.machine.specs.State.{Stage, Request, Undo, State, Answer, wait, done, refused, Outcome, entry_of, session_of, with_free, on_entry, on_session, add_undo, ok, more}
use Rattle.machine.specs.State as State
use Rattle.machine.specs.Steps.{rule, exclude_by, ended, guarded, answer}
use Rattle.machine.specs.View.{log_entry, items, holders, view, Same, same_refl, same-unseen, same-items, same-holders, ended_same, entry-same, frame-holders}
use Rattle.machine.specs.Model.{Listed, model_is, model, model_good}
use Rattle.machine.specs.Table.{undo-put, undo-other, session-kept, with_undo}
use Rattle.machine.specs.Groups.{Rises}
use Rattle.machine.specs.Housekeeping.{lvs}
use Rattle.machine.specs.Entries.{Fit, entry-put, entry_other, grant, granted, lock-items, entry-cases, entry_words, exclude-words}

-- The answer finishes no request.
abbrev pub unfinished : Answer → Bool
unfinished ok = true
unfinished more = true
unfinished (wait ps) = true
unfinished (done ns) = false
unfinished (refused n b) = true

pub data Does (p : ℕ) (q : Req) (s : State) (o : Outcome) : Type 0 where
  unseen : unfinished o.answer ≡ true → Unseen (view s) (view o.next) → Does p q s o
  locks : o.answer ≡ more → Locked rule p (view s) (view o.next) → Does p q s o
  finishes : (t : State) (a : Ans) → o.answer ≡ done a.numbers → two_words o.written ≡ a.words → Locked rule p (view s) (view t) → Finished p q a (view t) (view o.next) → Does p q s o

-- A guarded step: where it is done, nobody is in the way.
pub guard-does : (p : ℕ) (q : Req) (bs : List ℕ) (need : ℕ) (r : Request) (s : State) (o : Outcome) → (bs ≡ [] → Does p q s o) → Does p q s (guarded bs need p r s o)
unfolding guarded
guard-does p q [] need r s o d = either (Does p q s) (leb need s.free) o (answer (refused 11 0) (ended p r s)) (d refl)
    (unseen refl (same-unseen s (ended p r s) (ended_same p r s)))
guard-does p q (b ∷ l) need r s o d = unseen refl (same-unseen s s (same_refl s))

-- ---- what comes after the lock

-- A request that changes nothing.
pub finished-quiet : (p : ℕ) (q : Req) (t u : State) → ((d : Db) → eff q d ≡ d) → ((d : Db) → undo_of q d ≡ []) → Rises 0 4294967296 (lvs t) → Listed (lvs t) → Same t u → (session_of p t).begun ≡ true → Needs (holders t) p q
    → Finished p q (ans q (model t)) (view t) (view u)
finished-quiet p q t u e b ri li h w n = record {
  was = w;
  needs = n;
  model = model t;
  model_good = model_good 0 4294967296 t ri li;
  is_model = model_is 0 4294967296 t ri;
  answer = refl;
  change = λ i. same-items t u h i ∙ sym (model_is 0 4294967296 t ri i) ∙ sym (ap (λ d. get d i) (e (model t)));
  log_now = ap (map log_entry) (h.undos_same p) ∙ sym (ap (λ l. l ++ map log_entry (session_of p t).undos) (b (model t)));
  log_others = λ v x. ap (map log_entry) (h.undos_same v);
  holds_same = λ k m v z. same-holders t u h k m v z;
  begun_same = h.begun_same;
}

-- A lock, and then nothing that is seen.
pub locked-then : (p : ℕ) (s t u : State) → Locked rule p (view s) (view t) → Same t u → Locked rule p (view s) (view u)
locked-then p s t u a h = record {
  was = a.was;
  more = λ k m z y. same-holders t u h k m p z ∙ a.more k m z y;
  log_same = ap (map log_entry) (h.undos_same p) ∙ a.log_same;
  others = λ v n. record {
    holds_kept = λ k m z. same-holders t u h k m v z ∙ (a.others v n).holds_kept k m z;
    log_kept = ap (map log_entry) (h.undos_same v) ∙ (a.others v n).log_kept;
  };
  begun_same = λ v. h.begun_same v ∙ a.begun_same v;
  db_kept = λ i. same-items t u h i ∙ a.db_kept i;
  agree = λ k m n v w x y z. a.agree k m n v w x (sym (same-holders t u h k m v x) ∙ y) (sym (same-holders t u h k n w x) ∙ z);
}

abbrev pub asked : ℕ → ℕ → ℕ → ℕ → Stage → Request
asked c e f g st = record { code = c; entry = e; first = f; second = g; stage = st }

-- ---- read, write, and the entry's lock of an insert or a remove

pub or-true : (a b : Bool) → a ≡ true → (a || b) ≡ true
or-true a b e = rw e refl

-- ---- write

module _ (k i v : ℕ) (s : State) (F : Fit s) (h : i < length s.entries) (le : suc k ≤ width) where
  abbrev pub wt : State
  wt = on_entry (suc i) (grant strong (suc k)) s

  abbrev old_value : Undo
  old_value = State.value (suc i) (entry_of (suc i) s).value

  abbrev from : State
  from = with_free (s.free - 1) (on_entry (suc i) (exclude_by (suc k) v) s)

  abbrev pub wu : State
  wu = add_undo (suc k) old_value from

  wu-value : (z : ℕ) → (entry_of z wu).value ≡ pick (ℕ_discrete (suc i) z) v (entry_of z wt).value
  unfolding add_undo on_session
  wu-value z = ap (λ x. x.value) (entry-same (on_entry (suc i) (exclude_by (suc k) v) s) wu refl z)
      ∙ entry-cases i (exclude_by (suc k) v) s h (λ y x. x.value ≡ pick (ℕ_discrete (suc i) y) v (entry_of y wt).value)
      (sym (pick_yes (ℕ_discrete (suc i) (suc i)) v (entry_of (suc i) wt).value refl))
      (λ y n. sym (pick_no (ℕ_discrete (suc i) y) v (entry_of y wt).value n ∙ ap (λ x. x.value) (entry_other i y (grant strong (suc k)) s n))) z

  wu-holders : (l : Kind) (n : Mode) (q z : ℕ) → holders wu l n q z ≡ holders wt l n q z
  unfolding add_undo on_session
  wu-holders l n q z = frame-holders (on_entry (suc i) (exclude_by (suc k) v) s) wu refl refl l n q z ∙ entry_words i (exclude_by (suc k) v) (grant strong (suc k)) s h (exclude-words (suc k) v) l n q z

  wu-items : (x : Item) → items wu x ≡ get (eff (R.write (suc i) v) (model wt)) x
  unfolding on_entry add_undo on_session
  wu-items (R.value z) = wu-value z
  wu-items (R.cell j e) = sym (model_is 0 4294967296 wt F.rises (R.cell j e))

  pub write-finished : (u : State) → Same wu u → Fit wt → (session_of (suc k) wt).begun ≡ true → Finished (suc k) (R.write (suc i) v) (just 0) (view wt) (view u)
  unfolding on_entry session_of add_undo
  write-finished u e G b = record {
    was = b;
    needs = ap (λ x. holds x.exclusive (suc k)) (entry-put i (grant strong (suc k)) s h) ∙ granted strong k (entry_of (suc i) s);
    model = model wt;
    model_good = model_good 0 4294967296 wt G.rises G.listed;
    is_model = model_is 0 4294967296 wt G.rises;
    answer = refl;
    change = λ x. same-items wu u e x ∙ wu-items x;
    log_now = ap (map log_entry) (e.undos_same (suc k) ∙ ap (λ x. x.undos) (undo-put (suc k) old_value from (let q = F.seats in omega arith)))
        ∙ ap (λ y. (R.value (suc i), y) ∷ map log_entry (session_of (suc k) wt).undos) (sym (lock-items strong (suc k) i s h (R.value (suc i))));
    log_others = λ q n. ap (map log_entry) (e.undos_same q ∙ ap (λ x. x.undos) (undo-other (suc k) q old_value from n));
    holds_same = λ l n q z. same-holders wu u e l n q z ∙ wu-holders l n q z;
    begun_same = λ q. e.begun_same q ∙ session-kept (λ x. x.begun) (suc k) (with_undo old_value) from (λ x. refl) q;
  }

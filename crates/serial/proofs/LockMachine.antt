-- Theorems of specs/LockMachine: what it defines is there.
use Rattle.std.specs.Prelude.{List}
use Rattle.std.proofs.Common.{◌∙◌}
use Rattle.serial.specs.Serial.{Event, begin, grow, commit, abort, finish, quiet, Step, Run, stop, next, hist, none_yet, Demand, undo-cong}
use Rattle.serial.proofs.Serial.{serializable}
use Rattle.serial.specs.Model.{get, eff, empty}
use Rattle.serial.specs.Footprints.{store}
use Rattle.serial.specs.Locks.{Table, Strict, changes, touches_same, changes_same, touches-grow, changes-grow, changes-touches, changes-alone, needs-writes, undo_of, undo-of-within, undo-of-undoes}
use Rattle.serial.proofs.Locks.{needs-covered}
use Rattle.serial.specs.LockMachine.{Store, view, Act, stays-held, ended-ends, Acts, Formatted, formatted-fresh, still, more}

-- Each act of the store is a step of the lock machine.
pub act-step : (T : Table) → Strict T → (x y : Store) (e : Event store) → Act T e x y → Step store e (view x) (view y)
act-step T S x y (begin s) a = record
    { was = a.was; now = a.now; begun_others = a.begun_others; held = λ t. stays-held t x y (a.stays t); db_kept = a.db_kept }
act-step T S x y (grow s) a = record {
  was = a.was;
  touches_grows = touches-grow x.holds y.holds s a.more;
  changes_grows = changes-grow x.holds y.holds s a.more;
  log_same = a.log_same;
  others = λ t n. stays-held t x y (a.others t n);
  begun_same = a.begun_same;
  db_kept = a.db_kept;
  locks = record { alone = changes-alone T S y.holds a.agree; owns = changes-touches y.holds };
}
act-step T S x y (commit s) a = record { ends = ended-ends s x y a.ended; db_kept = a.db_kept }
act-step T S x y (abort s) a = record { ends = ended-ends s x y a.ended; db_undone = a.db_undone }
act-step T S x y (finish s r b) a = record {
  was = a.was;
  covered = needs-covered x.holds s r a.model a.model_good a.needs;
  model = a.model;
  model_good = a.model_good;
  is_model = a.is_model;
  answer = a.answer;
  change = a.change;
  extra = undo_of r a.model;
  extra_within = undo-of-within (changes x.holds s) r a.model (needs-writes x.holds s r a.needs);
  extra_undoes = λ i. undo-cong store (undo_of r a.model) y.db (get (eff r a.model)) i (a.change i)
      ∙ undo-of-undoes r a.model a.model_good i ∙ a.is_model i;
  log_now = a.log_now;
  log_others = a.log_others;
  touches_same = λ t i. touches_same y.holds x.holds t (λ k m z. a.holds_same k m t z) i;
  changes_same = λ t i. changes_same y.holds x.holds t (λ k m z. a.holds_same k m t z) i;
  begun_same = a.begun_same;
}
act-step T S x y quiet a = record { held = λ t. stays-held t x y (a.stays t); begun_same = a.begun_same; db_kept = a.db_kept }

pub acts-run : (T : Table) → Strict T → {x y : Store} {es : List (Event store)} → Acts T x es y → Run store (view x) es (view y)
acts-run T S still = stop
acts-run T S (more {x} {y} {z} {e} {es} a q) = next (act-step T S x y e a) (acts-run T S q)

-- Demand 3 of the store's lock machine, for any table that keeps the strong entry lock alone, and update apart from locate.
pub demand-3 : (T : Table) → Strict T → (x y : Store) (es : List (Event store)) → Formatted x → Acts T x es y → Demand store empty (hist store (none_yet store) es) (view y)
demand-3 T S x y es f a = serializable store empty tt (view x) (view y) es (formatted-fresh x f) (acts-run T S a)

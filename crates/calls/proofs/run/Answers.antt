use Rattle.std.proofs.Common.{rules, sym, subst}
use Rattle.outcomes.specs.declared.Ran.{Ran}
use Rattle.outcomes.specs.Said.{said}
use Rattle.promises.specs.Seats.{table_of}
use Rattle.promises.specs.Ways.{way-unsound}
use Rattle.promises.specs.Making.{run-refused}
use Rattle.promises.specs.Runs.{Runs}
use Rattle.calls.proofs.run.Goals as goal

pub returns-then-not-is_sound : goal.returns-then-not-is_sound
returns-then-not-is_sound c =
    subst (λ (r : Ran). Runs c.args.p c.args.bound c.args.store.now c.args.t c.args.list.now (said r.answer) r.steps c.args.list.now c.args.store.now r.table) (sym c.refused.ensures)
    (run-refused _ _ _ _ _ _ _ (way-unsound _ _ _ _ (c.is_sound.ensures (table_of _ _ c.well_formed.1.1.0)) c.if-not-is_sound.true))

pub run-requires : goal.run-requires
run-requires c = (c.is_sound.ensures (table_of _ _ c.well_formed.1.1.0)).0 c.if-not-is_sound.false

pub returns : goal.returns
returns c = c.run.ensures

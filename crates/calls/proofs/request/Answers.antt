use Rattle.std.proofs.Common.{rules, sym, subst}
use Rattle.outcomes.specs.declared.Ran.{Ran}
use Rattle.outcomes.specs.Said.{said}
use Rattle.promises.specs.Seats.{table_of}
use Rattle.promises.specs.Ways.{way-unsound}
use Rattle.promises.specs.Runs.{Requests}
use Rattle.batches.specs.Making.{ask-unsound}
use Rattle.calls.proofs.request.Goals as goal

pub returns-then-not-is_sound : goal.returns-then-not-is_sound
returns-then-not-is_sound c =
    subst (λ (r : Ran). Requests c.args.p c.args.code c.args.entry c.args.first c.args.second c.args.bound c.args.store.now c.args.t c.args.list.now (said r.answer) r.steps c.args.list.now c.args.store.now r.table) (sym c.refused.ensures)
    (ask-unsound _ _ _ _ _ _ _ _ _ (way-unsound _ _ _ _ (c.is_sound.ensures (table_of _ _ c.well_formed.1.1.0)) c.if-not-is_sound.true))

pub request-requires : goal.request-requires
request-requires c = (c.is_sound.ensures (table_of _ _ c.well_formed.1.1.0)).0 c.if-not-is_sound.false

pub returns : goal.returns
returns c = c.request.ensures

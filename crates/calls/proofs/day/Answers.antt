use Rattle.std.proofs.Common.{rules, sym, subst}
use Rattle.outcomes.specs.declared.DayServed.{DayServed}
use Rattle.promises.specs.Seats.{table_of}
use Rattle.day_calls.specs.Calling.{handed, Days}
use Rattle.day_calls.specs.Ways.{way-sound, way-unsound}
use Rattle.calls.proofs.day.Goals as goal

pub returns-then-not-is_sound : goal.returns-then-not-is_sound
returns-then-not-is_sound c =
    let h = handed c.args.bytes.now c.args.driver c.args.start c.args.entry c.args.place in
    subst (λ (r : DayServed). Days c.args.p h c.args.store.now c.args.t r.answer c.args.store.now r.table) (sym c.refused.ensures)
    (way-unsound _ _ _ _ _ (c.is_sound.ensures (table_of _ _ c.well_formed.1.0)) c.if-not-is_sound.true)

pub day-requires : goal.day-requires
day-requires c = (c.is_sound.ensures (table_of _ _ c.well_formed.1.0)).0 c.if-not-is_sound.false

pub returns : goal.returns
returns c = way-sound _ _ _ _ _ _ _ _ (c.is_sound.ensures (table_of _ _ c.well_formed.1.0)) c.if-not-is_sound.false c.day.ensures

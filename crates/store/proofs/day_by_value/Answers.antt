use Rattle.promises.specs.Seats.{table_of}
use Rattle.store.specs.Days.{day-kept}
use borrow.Author.Rules.{rules}
use Rattle.store.proofs.day_by_value.Goals as goal

pub returns : goal.returns
returns c =
    let args = c.args in
    day-kept args.k _ _ _ c.day-served.result.answer _ _ _ (table_of _ _ c.well_formed.1.1.0) c.seat_of.ensures c.day-served.ensures

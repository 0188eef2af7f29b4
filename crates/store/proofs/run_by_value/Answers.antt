use Rattle.promises.specs.Seats.{table_of}
use Rattle.store.specs.Stints.{ran-kept}
use borrow.Author.Rules.{rules}
use Rattle.store.proofs.run_by_value.Goals as goal

pub returns : goal.returns
returns c =
    let ran = c.run-ran in
    ran-kept _ _ _ _ ran.result.answer ran.result.steps _ _ _ _ (table_of _ _ c.well_formed.1.1.0) c.seat_of.ensures ran.ensures

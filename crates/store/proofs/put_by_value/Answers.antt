use Rattle.promises.specs.Seats.{table_of}
use Rattle.store.specs.OneRecord.{seat-kept}
use borrow.Author.Rules.{rules}
use Rattle.store.proofs.put_by_value.Goals as goal

pub returns : goal.returns
returns c = seat-kept _ _ _ _ _ _ _ _ _ (table_of _ _ c.well_formed.1.0) (λ o. o) c.seat_of.ensures c.put-served.ensures

use borrow.Author.Rules.{rules}
use Rattle.promises.specs.Seats.{table_of}
use Rattle.looking.specs.Told.{FreeTold}
use Rattle.entry_store.specs.Exported.{looked-table}
use Rattle.entry_store.proofs.free_by_value.Goals as goal

pub returns : goal.returns
returns c = looked-table FreeTold _ _ c.free-a.result (table_of _ _ c.well_formed.1.0) c.pack.ensures c.free-a.ensures

use borrow.Author.Rules.{rules}
use Rattle.promises.specs.Seats.{table_of}
use Rattle.looking.specs.Told.{HoldersTold}
use Rattle.entry_store.specs.Exported.{looked-table}
use Rattle.entry_store.proofs.holders_by_value.Goals as goal

pub returns : goal.returns
returns c = looked-table (HoldersTold _) _ _ c.holders-a.result (table_of _ _ c.well_formed.1.0) c.pack.ensures c.holders-a.ensures

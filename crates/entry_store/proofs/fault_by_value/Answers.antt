use borrow.Author.Rules.{rules}
use Rattle.promises.specs.Seats.{table_of}
use Rattle.entry_store.specs.Exported.{names_table}
use Rattle.entry_store.proofs.fault_by_value.Goals as goal

pub returns-in-Ok : goal.returns-in-Ok
returns-in-Ok c = names_table _ _ (table_of _ _ c.well_formed.1.0) _ (search rules)

pub returns-in-Err : goal.returns-in-Err
returns-in-Err c = names_table _ _ (table_of _ _ c.well_formed.1.0) _ (search rules)

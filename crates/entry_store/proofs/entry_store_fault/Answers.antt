use Rattle.entry_store.specs.Exported.{names-length}
use Rattle.entry_store.proofs.entry_store_fault.Goals as goal

pub returns-then-table-ne-PARTIES : goal.returns-then-table-ne-PARTIES
returns-then-table-ne-PARTIES c = names-length _ _ c.if-table-ne-PARTIES.true

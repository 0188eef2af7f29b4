use Rattle.entry_store.specs.Exported.{looked-length}
use Rattle.entry_store.proofs.entry_store_free.Goals as goal

pub returns-then-table-ne-PARTIES : goal.returns-then-table-ne-PARTIES
returns-then-table-ne-PARTIES c = looked-length _ _ _ c.if-table-ne-PARTIES.true

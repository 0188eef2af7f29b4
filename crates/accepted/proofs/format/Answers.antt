use Rattle.promises.specs.Ways.{format-most, format-can, format-run}
use borrow.Author.Rules.{rules}
use Rattle.accepted.proofs.format.Goals as goal

pub records_for-r-requires : goal.records_for-r-requires
records_for-r-requires c = format-most _ _ c.requires

pub fresh_store-requires : goal.fresh_store-requires
fresh_store-requires c = format-can _ c.requires c.records_for-r.ensures

pub returns : goal.returns
returns c = format-run _ _ _ c.requires c.records_for-r.ensures c.fresh_store.ensures c.fresh_table-after.ensures

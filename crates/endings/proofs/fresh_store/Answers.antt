use Rattle.endings.proofs.Runs.{fresh-run}
use Rattle.endings.proofs.fresh_store.Goals as goal

pub returns : goal.returns
returns c = fresh-run _ _ _ c.fresh_header.ensures c.fresh_entries.ensures c.lone.ensures c.write.ensures c.zero_descriptor.ensures c.write-2.ensures c.fresh_free.ensures

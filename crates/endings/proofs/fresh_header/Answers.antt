use Rattle.endings.proofs.Runs.{header-run}
use Rattle.endings.proofs.fresh_header.Goals as goal

pub returns : goal.returns
returns c = header-run _ _ _ c.set_entries.ensures c.set_records.ensures c.set_root.ensures c.set_height.ensures c.set_first.ensures c.set_free.ensures

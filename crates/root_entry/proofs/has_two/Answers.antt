use Rattle.root_entry.specs.Runs.{one-run, two_run}
use Rattle.root_entry.proofs.has_two.Goals as goal

pub returns-then-drops_root : goal.returns-then-drops_root
returns-then-drops_root c = one-run _ _ c.drops_root.ensures c.if-drops_root.true c.has_free.ensures

pub returns-else-drops_root : goal.returns-else-drops_root
returns-else-drops_root c = two_run _ _ c.drops_root.ensures c.if-drops_root.false c.has_free-else-drops_root.ensures

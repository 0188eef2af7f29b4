use Rattle.root_entry.specs.Runs.{son-run, root-run}
use Rattle.root_entry.proofs.entered_node.Goals as goal

pub returns-then-drops_root : goal.returns-then-drops_root
returns-then-drops_root c = son-run _ _ c.root-root.ensures c.drops_root.ensures c.if-drops_root.true c.node_son.ensures

pub returns-else-drops_root : goal.returns-else-drops_root
returns-else-drops_root c = root-run _ _ c.root-root.ensures c.drops_root.ensures c.if-drops_root.false

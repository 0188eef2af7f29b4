use Rattle.root_entry.specs.Runs.{way-run}
use Rattle.root_entry.proofs.root_in_way.Goals as goal

pub returns : goal.returns
returns c = way-run _ _ _ c.root-root.ensures c.entered_node-node.ensures c.node_latch-first.ensures c.node_latch-second.ensures c.first_in_way.ensures

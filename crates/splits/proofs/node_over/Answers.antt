use native.Mathlib.Omega.{arith}
use Rattle.splits.specs.Runs.{over-run}
use Rattle.nodes.specs.Ops.{lone_node}
use Rattle.splits.proofs.node_over.Goals as goal

pub insert_behind-requires : goal.insert_behind-requires
unfolding lone_node
insert_behind-requires c = rw c.lone.ensures (omega arith, omega arith)

pub returns : goal.returns
returns c = over-run _ _ _ c.lone.ensures c.insert_behind.ensures

use Rattle.std.proofs.Common.{arith}
use borrow.Author.Tests.{lt-leb}
use Rattle.root_entry.specs.Runs.{low_run, high-run}
use Rattle.root_entry.proofs.drops_root.Goals as goal

pub returns-then-height-ge2 : goal.returns-then-height-ge2
returns-then-height-ge2 c = high-run _ _ c.root-root.ensures c.height-height.ensures (omega (arith, c.if-height-ge2.true)) c.node_count.ensures

pub returns-else-height-ge2 : goal.returns-else-height-ge2
returns-else-height-ge2 c = rw (lt-leb 2 c.height-height.result (omega (arith, c.if-height-ge2.false))) (low_run _ _ c.height-height.ensures (omega (arith, c.if-height-ge2.false)))

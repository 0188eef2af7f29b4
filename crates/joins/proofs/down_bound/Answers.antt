use borrow.Author.Tests.{ne_eqb}
use Rattle.joins.specs.Joins.{down_bound}
use Rattle.joins.specs.Runs.{down-lowest, down-lowest-same}
use Rattle.joins.proofs.down_bound.Goals as goal

-- The proof of `down_bound`.
pub last_key-requires : goal.last_key-requires
last_key-requires c = down-lowest c.if-level-eq1.true c.requires

pub returns-then-level-eq1 : goal.returns-then-level-eq1
returns-then-level-eq1 c = down-lowest-same _ _ _ _ _ c.if-level-eq1.true c.last_key.ensures

pub returns : goal.returns
unfolding down_bound
returns c = rw (ne_eqb _ _ c.if-level-eq1.false) c.node_bound.ensures

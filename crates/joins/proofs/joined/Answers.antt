use Rattle.joins.specs.Runs.{joined-run}
use Rattle.joins.proofs.joined.Goals as goal

pub join_nodes-requires : goal.join_nodes-requires
join_nodes-requires c =
    rw (c.load-left.ensures, c.load-right.ensures) (c.requires.some_left, c.requires.some_right, c.requires.room)

pub returns : goal.returns
returns c = joined-run _ _ _ _ _ c.load-left.ensures c.load-right.ensures c.join_nodes.ensures

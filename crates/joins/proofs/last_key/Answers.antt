use mathlib.Core.Path.{refl}
use native.Mathlib.Omega.{arith}
use lib.Dec.{lit<}
use Rattle.nodes.specs.Paths.{has-at}
use Rattle.joins.specs.Runs.{down-count, last-same, last-key-run}
use Rattle.joins.proofs.last_key.Goals as goal

pub overflow_sub-count : goal.overflow_sub-count
overflow_sub-count c = (down-count _ c.requires c.node_son-l.ensures c.node_count-count.ensures).0

pub node_son-last-requires : goal.node_son-last-requires
node_son-last-requires c = (has-at c.requires.left (omega arith) c.node_son-l.ensures, omega (arith, (down-count _ c.requires c.node_son-l.ensures c.node_count-count.ensures).1))

pub word-requires : goal.word-requires
word-requires c = (has-at (c.requires.last refl) (omega arith) (last-same _ _ _ _ c.node_son-l.ensures c.node_count-count.ensures c.node_son-last.ensures), lit< tt)

pub returns : goal.returns
returns c =
    last-key-run _ _ _ _ c.node_son-l.ensures c.node_count-count.ensures c.node_son-last.ensures c.word.ensures

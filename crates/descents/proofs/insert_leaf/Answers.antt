use native.Mathlib.Omega.{arith}
use lib.Dec.{lit<}
use Rattle.nodes.specs.Paths.{has-at, path-place, son-same}
use Rattle.descents.specs.Runs.{insert-leaf-run}
use Rattle.descents.proofs.insert_leaf.Goals as goal

pub find_son-i-requires : goal.find_son-i-requires
find_son-i-requires c = rw c.load-p.ensures (c.requires.least, omega (arith, c.requires.room))

pub node_son-d-requires : goal.node_son-d-requires
node_son-d-requires c = (c.requires.node, path-place _ _ c.load-p.ensures c.find_son-i.ensures c.requires.least (omega (arith, c.requires.room)))

pub word-k-requires : goal.word-k-requires
word-k-requires c = (has-at c.requires.son (omega arith) (son-same _ _ _ _ c.load-p.ensures c.find_son-i.ensures c.node_son-d.ensures), lit< tt)

pub put_beside-wider-requires : goal.put_beside-wider-requires
put_beside-wider-requires c = (rw c.load-p.ensures c.requires.room, omega (arith, path-place _ _ c.load-p.ensures c.find_son-i.ensures c.requires.least (omega (arith, c.requires.room))))

pub returns : goal.returns
returns c =
    insert-leaf-run _ _ _ _ _ c.load-p.ensures c.find_son-i.ensures c.node_son-d.ensures c.word-k.ensures
    c.put_beside-wider.ensures c.with_latch.ensures c.write.ensures

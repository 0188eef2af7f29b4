use mathlib.Core.Path.{refl}
use native.Mathlib.Omega.{arith}
use Rattle.nodes.specs.Paths.{has-at}
use Rattle.joins.specs.Runs.{join-run}
use Rattle.joins.proofs.join_sons.Goals as goal

pub joined-one-requires : goal.joined-one-requires
joined-one-requires c =
    rw (c.node_son-l.ensures, c.node_son-q.ensures) c.requires.one

pub write-requires : goal.write-requires
write-requires c = has-at c.requires.one.left (omega arith) c.node_son-l.ensures

pub remove_behind-fewer-requires : goal.remove_behind-fewer-requires
remove_behind-fewer-requires c =
    (rw c.load-p.ensures c.requires.some, c.requires.place)

pub write-requires-2 : goal.write-requires-2
write-requires-2 c = has-at c.requires.node (omega arith) refl

pub push_free-requires : goal.push_free-requires
push_free-requires c = has-at c.requires.one.right (omega arith) c.node_son-q.ensures

pub returns : goal.returns
returns c =
    join-run _ _ _ _ _ _ c.load-p.ensures c.node_son-l.ensures c.node_son-q.ensures c.joined-one.ensures
    c.with_latch.ensures c.write.ensures c.remove_behind-fewer.ensures c.with_latch-2.ensures c.write-2.ensures
    c.push_free.ensures

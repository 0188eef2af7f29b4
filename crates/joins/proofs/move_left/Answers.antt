use mathlib.Core.Path.{refl}
use native.Mathlib.Omega.{arith}
use Rattle.nodes.specs.Paths.{has-at}
use Rattle.joins.specs.Runs.{left-run}
use Rattle.joins.proofs.move_left.Goals as goal

pub moved_left-n-requires : goal.moved_left-n-requires
moved_left-n-requires c =
    rw (c.node_son-l.ensures, c.node_son-q.ensures) c.requires.go

pub write-requires : goal.write-requires
write-requires c = has-at c.requires.go.left (omega arith) c.node_son-l.ensures

pub write-requires-2 : goal.write-requires-2
write-requires-2 c = has-at c.requires.go.right (omega arith) c.node_son-q.ensures

pub set_bound-other-requires : goal.set_bound-other-requires
set_bound-other-requires c =
    c.requires.place

pub write-requires-3 : goal.write-requires-3
write-requires-3 c = has-at c.requires.node (omega arith) refl

pub returns : goal.returns
returns c =
    left-run _ _ _ _ _ _ c.load-p.ensures c.node_son-l.ensures c.node_son-q.ensures c.moved_left-n.ensures
    c.with_latch.ensures c.write.ensures c.write-2.ensures c.set_bound-other.ensures c.with_latch-2.ensures
    c.write-3.ensures

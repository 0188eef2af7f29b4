use native.Mathlib.Omega.{arith}
use Rattle.nodes.specs.Paths.{has-at}
use Rattle.walking.specs.Runs.{place-low, left-run, right-run, down_run, mend-ready, mend-run}
use Rattle.walking.proofs.mend_step.Goals as goal

pub pair_place-i-requires : goal.pair_place-i-requires
pair_place-i-requires c =
    rw c.load-n.ensures (c.requires.walker.toward.least, c.requires.walker.toward.most)

pub is_first-first-requires : goal.is_first-first-requires
is_first-first-requires c =
    rw c.load-n.ensures (c.requires.walker.toward.least, c.requires.walker.toward.most)

pub node_son-l-requires : goal.node_son-l-requires
node_son-l-requires c = (c.requires.walker.toward.node, omega (arith, place-low _ _ _ _ c.requires c.load-n.ensures c.pair_place-i.ensures))

pub overflow_add-i : goal.overflow_add-i
overflow_add-i c = omega (arith, place-low _ _ _ _ c.requires c.load-n.ensures c.pair_place-i.ensures)

pub node_son-q-requires : goal.node_son-q-requires
node_son-q-requires c = (c.requires.walker.toward.node, omega (arith, place-low _ _ _ _ c.requires c.load-n.ensures c.pair_place-i.ensures))

pub node_count-a-requires : goal.node_count-a-requires
node_count-a-requires c = has-at c.requires.left (omega arith) (left-run _ _ _ _ c.load-n.ensures c.pair_place-i.ensures c.node_son-l.ensures)

pub node_count-b-requires : goal.node_count-b-requires
node_count-b-requires c = has-at c.requires.right (omega arith) (right-run _ _ _ _ c.load-n.ensures c.pair_place-i.ensures c.node_son-q.ensures)

pub overflow_sub-x : goal.overflow_sub-x
overflow_sub-x c = omega (arith, c.requires.walker.level)

pub down_bound-down-requires : goal.down_bound-down-requires
down_bound-down-requires c =
    down_run _ _ _ _ c.requires c.load-n.ensures c.pair_place-i.ensures

pub mend_by-requires : goal.mend_by-requires
mend_by-requires c =
    mend-ready _ _ _ _ c.requires c.load-n.ensures c.pair_place-i.ensures c.is_first-first.ensures c.node_son-l.ensures
    c.node_son-q.ensures c.node_count-a.ensures c.node_count-b.ensures c.either-other.ensures

pub returns : goal.returns
returns c =
    mend-run _ _ _ _ c.load-n.ensures c.pair_place-i.ensures c.is_first-first.ensures c.node_son-l.ensures
    c.node_son-q.ensures c.node_count-a.ensures c.node_count-b.ensures c.either-other.ensures c.down_bound-down.ensures
    c.mend_by.ensures

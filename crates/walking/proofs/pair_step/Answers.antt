use mathlib.Core.Path.{refl}
use native.Mathlib.Omega.{arith}
use borrow.Author.Tests.{eq-eqb, ne_eqb}
use Rattle.nodes.specs.Paths.{has-at}
use Rattle.walking.specs.Runs.{place-low, left-run, right-run, ways-run}
use Rattle.walking.specs.Walking.{pair_step}
use Rattle.walking.proofs.pair_step.Goals as goal

pub pair_place-i-requires : goal.pair_place-i-requires
pair_place-i-requires c =
    rw c.load-n.ensures (c.requires.walker.toward.least, c.requires.walker.toward.most)

pub node_son-l-requires : goal.node_son-l-requires
node_son-l-requires c = (c.requires.walker.toward.node, omega (arith, place-low _ _ _ _ c.requires c.load-n.ensures c.pair_place-i.ensures))

pub overflow_add-i : goal.overflow_add-i
overflow_add-i c = omega (arith, place-low _ _ _ _ c.requires c.load-n.ensures c.pair_place-i.ensures)

pub node_son-q-requires : goal.node_son-q-requires
node_son-q-requires c = (c.requires.walker.toward.node, omega (arith, place-low _ _ _ _ c.requires c.load-n.ensures c.pair_place-i.ensures))

pub node_latch-v-requires : goal.node_latch-v-requires
node_latch-v-requires c = has-at c.requires.left (omega arith) (left-run _ _ _ _ c.load-n.ensures c.pair_place-i.ensures c.node_son-l.ensures)

pub node_latch-w-requires : goal.node_latch-w-requires
node_latch-w-requires c = has-at c.requires.right (omega arith) (right-run _ _ _ _ c.load-n.ensures c.pair_place-i.ensures c.node_son-q.ensures)

pub returns-then-b-eq0 : goal.returns-then-b-eq0
unfolding pair_step
returns-then-b-eq0 c =
    rw
    (ways-run _ _ _ _ _ c.load-n.ensures c.pair_place-i.ensures c.node_son-l.ensures c.node_son-q.ensures c.node_latch-v.ensures c.node_latch-w.ensures c.first_in_way-b.ensures, eq-eqb _ _ c.if-b-eq0.true)
    c.mend_step.ensures

pub returns : goal.returns
unfolding pair_step
returns c =
    rw
    (ways-run _ _ _ _ _ c.load-n.ensures c.pair_place-i.ensures c.node_son-l.ensures c.node_son-q.ensures c.node_latch-v.ensures c.node_latch-w.ensures c.first_in_way-b.ensures, ne_eqb _ _ c.if-b-eq0.false)
    (refl, c.wait_for.ensures)

use mathlib.Core.Path.{refl}
use borrow.Author.Tests.{eq-eqb, ne_eqb}
use Rattle.walking.specs.Runs.{way-run}
use Rattle.walking.specs.Walking.{alone_step}
use Rattle.walking.proofs.alone_step.Goals as goal

pub returns-then-b-eq0 : goal.returns-then-b-eq0
unfolding alone_step
returns-then-b-eq0 c =
    rw (way-run _ _ _ _ _ c.son_toward-son.ensures c.node_latch.ensures c.in_way-b.ensures, eq-eqb _ _ c.if-b-eq0.true)
    c.down_step.ensures

pub returns : goal.returns
unfolding alone_step
returns c =
    rw (way-run _ _ _ _ _ c.son_toward-son.ensures c.node_latch.ensures c.in_way-b.ensures, ne_eqb _ _ c.if-b-eq0.false)
    (refl, c.wait_for.ensures)

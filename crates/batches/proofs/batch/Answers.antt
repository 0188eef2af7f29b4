use borrow.Author.Tests.{not-true, not-false}
use mathlib.Core.Path.{◌≡◌}
use Rattle.std.proofs.Common.{subst}
use native.Mathlib.Omega.{arith}
use Rattle.batches.specs.Making.{Batching, batch-none, batch-next, in-served, batch-ends, batch-over}
use Rattle.batches.proofs.batch.Goals as goal

pub loop-i-init : goal.loop-i-init
loop-i-init c = batch-none _ _ _ _ _ c.requires.0

pub ended-requires : goal.ended-requires
ended-requires c = omega (arith, c.count_of-count.ensures, c.requires.1.1)

pub returns-then-not-at : goal.returns-then-not-at
returns-then-not-at c = in-served _ _ _ _ _ _ c.loop-i.invariant c.ended.ensures (batch-ends _ _ _ _ _ _ c.loop-i.invariant (not-true _ c.if-not-at.true))

pub turn-at-requires : goal.turn-at-requires
turn-at-requires c = (
  c.loop-i.invariant.sound,
  c.loop-i.invariant.within,
  omega (arith, c.loop-i-test.true, c.count_of-count.ensures),
  omega (arith, c.loop-i-test.true, c.count_of-count.ensures, c.requires.1.0),
)

pub loop-i-preserved : goal.loop-i-preserved
loop-i-preserved c =
    batch-next _ _ _ _ _ c.loop-i.invariant (not-false _ c.if-not-at.false) (omega (arith, c.loop-i-test.true, c.count_of-count.ensures, c.requires.1.0)) c.turn-at.ensures

pub ended-requires-2 : goal.ended-requires-2
ended-requires-2 c = omega (arith, c.count_of-count.ensures, c.requires.1.1)

pub returns : goal.returns
returns c =
    let e : c.loop-i.i ≡ c.count_of-count.result = omega (arith, c.count_of-count.ensures) in
    let B = subst (λ i. Batching c.args.asks.now c.args.store.now c.args.t c.args.list.now c.args.answers.now c.loop-i.store c.loop-i.at.table c.loop-i.list c.loop-i.answers c.loop-i.at.from i c.loop-i.at.on) e c.loop-i.invariant in
    in-served _ _ _ _ _ _ B c.ended-2.ensures (batch-over _ _ _ _ _ _ B (omega (arith, c.count_of-count.ensures)))

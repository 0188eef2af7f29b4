use Rattle.std.proofs.Common.{refl, arith}
use Rattle.calendar.proofs.Loops.{find-more, find-stop, find-end}
use Rattle.calendar.proofs.find.Goals as goal

pub loop-at-init : goal.loop-at-init
loop-at-init g c = (omega arith, λ len h. record { finds = refl })

pub returns-then-rest-span-clause-found : goal.returns-then-rest-span-clause-found
returns-then-rest-span-clause-found g c = λ len h. find-stop (c.loop-at.invariant.1 len h) (h _ _ c.loop-at-test.true c.length-span.ensures) c.if-rest-span.true

pub loop-at-preserved : goal.loop-at-preserved
loop-at-preserved g c = (omega arith, λ len h. find-more (c.loop-at.invariant.1 len h) (omega arith) (h _ _ c.loop-at-test.true c.length-span.ensures) c.if-rest-span.false)

pub returns-clause-found : goal.returns-clause-found
returns-clause-found g c = λ len h. find-end (c.loop-at.invariant.1 len h) (omega arith)

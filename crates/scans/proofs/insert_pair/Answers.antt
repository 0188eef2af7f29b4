use mathlib.Core.Path.{refl}
use native.Mathlib.Omega.{arith}
use Rattle.scans.proofs.Pairs.{insert-start, insert-more, insert-end}
use Rattle.scans.proofs.insert_pair.Goals as goal

pub loop-i-init : goal.loop-i-init
loop-i-init c = insert-start _ _ _ _

pub loop-i-preserved : goal.loop-i-preserved
loop-i-preserved c = insert-more c.loop-i.invariant c.loop-i-test.true (omega arith) refl c.settle-carry.ensures

pub returns : goal.returns
returns c = insert-end c.loop-i.invariant (omega arith) (omega arith)

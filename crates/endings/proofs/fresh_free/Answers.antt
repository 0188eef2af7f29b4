use native.Mathlib.Omega.{arith}
use Rattle.endings.proofs.Turns.{freed-none, freed-more, freed-end}
use Rattle.endings.proofs.fresh_free.Goals as goal

pub loop-i-init : goal.loop-i-init
loop-i-init c = (omega arith, freed-none (omega arith))

pub loop-i-preserved : goal.loop-i-preserved
loop-i-preserved c = (omega arith, freed-more c.loop-i.invariant.1 (omega arith) (omega arith) c.push_free.ensures)

pub returns : goal.returns
returns c = freed-end c.loop-i.invariant.1 (omega arith)

use native.Mathlib.Omega.{arith}
use Rattle.endings.proofs.Turns.{cleared-none, cleared_more, cleared-end}
use Rattle.endings.proofs.fresh_entries.Goals as goal

pub loop-e-init : goal.loop-e-init
loop-e-init c = cleared-none

pub loop-e-preserved : goal.loop-e-preserved
loop-e-preserved c = cleared_more c.loop-e.invariant c.fresh_entry.ensures (omega arith) (omega arith)

pub returns : goal.returns
returns c = cleared-end c.loop-e.invariant (omega arith)

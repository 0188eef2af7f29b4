use native.Mathlib.Omega.{arith}
use Rattle.endings.proofs.Turns.{left-none, left-more, left_end}
use Rattle.endings.proofs.leave_entries.Goals as goal

pub loop-e-init : goal.loop-e-init
loop-e-init c = left-none

pub loop-e-preserved : goal.loop-e-preserved
loop-e-preserved c = left-more c.loop-e.invariant c.leave_entry.ensures (omega arith) (omega arith)

pub returns : goal.returns
returns c = left_end c.loop-e.invariant (omega arith)

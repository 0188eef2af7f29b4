use Prim.Native.Nat.{◌-◌, ◌≤◌}
use native.Mathlib.Omega.{arith}
use borrow.Author.Rules.{rules}
use Rattle.sessions.specs.Sessions.{parties}
use Rattle.parties.specs.Parties.{standing_at_nodes}
use Rattle.parties.proofs.Turns.{Counting, count-more, count-end, one-le}
use Rattle.parties.proofs.standing_at_nodes.Goals as goal

pub loop-p-init : goal.loop-p-init
unfolding standing_at_nodes
loop-p-init c = (search rules, record { is = omega arith })

pub overflow_add-n : goal.overflow_add-n
overflow_add-n c = omega (arith, one-le _ c.one_at_node-n.ensures)

pub loop-p-preserved : goal.loop-p-preserved
loop-p-preserved c = (omega (arith, one-le _ c.one_at_node-n.ensures), count-more c.loop-p.invariant.1 (omega arith) c.one_at_node-n.ensures (omega arith))

pub returns : goal.returns
returns c = count-end c.loop-p.invariant.1 (omega arith)

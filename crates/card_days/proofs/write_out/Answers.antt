use Rattle.std.proofs.Common.{arith, rules, length-set}
use Rattle.card_days.specs.Loops.{write-start, write_step, write-end}
use Rattle.card_days.proofs.write_out.Goals as goal

pub loop-i-init : goal.loop-i-init
loop-i-init c = (search rules, write-start _ _ _ _)

pub loop-i-preserved : goal.loop-i-preserved
loop-i-preserved c = (
  simp (length-set, length-set) (omega arith),
  write_step _ _ _ _ _ _ (search rules) (search rules) _ _ _ c.out_word-w.ensures c.low_byte.ensures c.low_byte-in-loop-i.ensures c.loop-i.invariant.1,
)

pub returns : goal.returns
returns c = write-end _ _ _ _ _ _ (search rules) c.loop-i.invariant.1

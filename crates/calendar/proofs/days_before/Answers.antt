use Rattle.std.proofs.Common.{zero-add, arith}
use Rattle.calendar.specs.Calendar.{days_before}
use Rattle.calendar.specs.Dates.{month-most}
use Rattle.calendar.proofs.Loops.{sum_more, sum-all}
use Rattle.calendar.proofs.days_before.Goals as goal

pub loop-m-init : goal.loop-m-init
unfolding days_before
loop-m-init c = (omega arith, record { sums = zero-add _ })

pub overflow_add-n : goal.overflow_add-n
overflow_add-n c = omega (arith, month-most c.args.year c.loop-m.m)

pub loop-m-preserved : goal.loop-m-preserved
loop-m-preserved c =
    let y = c.args.year in let m = c.loop-m.m in
    (omega (arith, month-most y m), sum_more c.loop-m.invariant.1 (omega arith) c.month_days-n.ensures)

pub returns : goal.returns
returns c = (sum-all c.loop-m.invariant.1 (omega arith), omega arith)

use Rattle.arriving.specs.Runs.{pred-run, follow-at}
use Rattle.arriving.proofs.pred_of.Goals as goal

pub overflow_sub-key : goal.overflow_sub-key
overflow_sub-key c = c.requires.least

pub last_upto-requires : goal.last_upto-requires
last_upto-requires c = follow-at c.requires c.first-first.ensures

pub returns : goal.returns
returns c = pred-run _ _ _ _ c.first-first.ensures c.last_upto.ensures

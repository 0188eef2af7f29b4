use Rattle.splits.specs.Runs.{halves_run}
use Rattle.splits.proofs.put_halves.Goals as goal

pub returns : goal.returns
returns c =
    halves_run _ _ _ _ _ _ _ c.half_of-lw.ensures c.half_of-rw.ensures c.with_latch-left.ensures c.with_latch-right.ensures
    c.write.ensures c.write-2.ensures

use Rattle.reshaping.proofs.Laws.{inserted, inserted_none}
use Rattle.reshaping.proofs.insert_in.Goals as goal

pub returns-then-at-a : goal.returns-then-at-a
returns-then-at-a c = inserted _ _ _ c.if-at-a.true c.copy_within.ensures.after

pub returns-else-at-a : goal.returns-else-at-a
returns-else-at-a c = inserted_none _ _ _ c.if-at-a.false

use Rattle.changing.specs.Runs.{insert-none, insert-there}
use Rattle.changing.proofs.insert_step.Goals as goal

-- The proof of insert_step.
pub room_step-requires : goal.room_step-requires
room_step-requires c = c.requires.room c.if-i-eq0.true

pub returns-then-i-eq0 : goal.returns-then-i-eq0
returns-then-i-eq0 c = insert-none _ _ _ _ _ _ _ _ c.if-i-eq0.true c.room_step.ensures

pub returns : goal.returns
returns c = insert-there _ _ _ _ _ _ _ _ c.if-i-eq0.false c.keep_step.ensures

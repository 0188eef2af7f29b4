use Rattle.taking.specs.Runs.{wait-take, free-take, next-ready}
use Rattle.taking.proofs.take_at.Goals as goal

-- The proof of `take_at`.
pub in_way_of-b-requires : goal.in_way_of-b-requires
in_way_of-b-requires c = (next-ready _ _ _ _ _ c.requires.0 c.requires.1).done.hold

pub returns-then-b-ne0 : goal.returns-then-b-ne0
returns-then-b-ne0 c = wait-take _ _ _ _ _ _ c.requires.1 c.in_way_of-b.ensures c.if-b-ne0.true

pub free_step-requires : goal.free_step-requires
free_step-requires c = next-ready _ _ _ _ _ c.requires.0 c.requires.1

pub returns : goal.returns
returns c = free-take _ _ _ _ _ _ _ c.requires.1 c.in_way_of-b.ensures c.if-b-ne0.false c.free_step.ensures

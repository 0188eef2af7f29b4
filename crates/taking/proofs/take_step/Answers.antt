use Rattle.taking.proofs.take_step.Goals as goal

pub take_at-requires : goal.take_at-requires
take_at-requires c = (c.requires, c.next_taken-d.ensures)

pub returns : goal.returns
returns c = c.take_at.ensures

use Rattle.changing.specs.Runs.{walk-as, code-as, wait-run, change-run}
use Rattle.changing.proofs.change_step.Goals as goal

pub returns-then-q-ne0 : goal.returns-then-q-ne0
returns-then-q-ne0 c = wait-run _ _ _ _ _ c.change_blocker-q.ensures c.if-q-ne0.true

pub find_member-i-requires : goal.find_member-i-requires
find_member-i-requires c = walk-as _ _ _ _ c.descriptor_first-first.ensures c.requires.walk

pub code_step-requires : goal.code_step-requires
code_step-requires c = code-as _ _ _ _ _ _ c.descriptor_first-first.ensures c.find_member-i.ensures c.requires.code

pub returns : goal.returns
returns c = change-run _ _ _ _ _ _ _ c.change_blocker-q.ensures c.if-q-ne0.false c.descriptor_first-first.ensures c.find_member-i.ensures c.code_step.ensures

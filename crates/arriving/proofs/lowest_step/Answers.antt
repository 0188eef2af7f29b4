use Rattle.arriving.specs.Runs.{lowest-keeper, lowest-session}
use Rattle.arriving.proofs.lowest_step.Goals as goal

-- The proof of `lowest_step`.
pub tidy_step-requires : goal.tidy_step-requires
tidy_step-requires c = c.requires.keeper c.if-p-eq0.true

pub returns-then-p-eq0 : goal.returns-then-p-eq0
returns-then-p-eq0 c = lowest-keeper _ _ _ _ _ _ c.if-p-eq0.true c.tidy_step.ensures

pub session_step-requires : goal.session_step-requires
session_step-requires c = c.requires.session c.if-p-eq0.false

pub returns : goal.returns
returns c = lowest-session _ _ _ _ _ _ c.if-p-eq0.false c.session_step.ensures

use Rattle.running.specs.Making.{limit-one, limit-bound, limit-most}
use Rattle.running.proofs.limit_of.Goals as goal

pub returns-then-bound-eq0 : goal.returns-then-bound-eq0
returns-then-bound-eq0 c = limit-one _ c.if-bound-eq0.true

pub returns-then-bound-lt-MOST_STEPS : goal.returns-then-bound-lt-MOST_STEPS
returns-then-bound-lt-MOST_STEPS c = limit-bound _ c.if-bound-eq0.false c.if-bound-lt-MOST_STEPS.true

pub returns : goal.returns
returns c = limit-most _ c.if-bound-lt-MOST_STEPS.false

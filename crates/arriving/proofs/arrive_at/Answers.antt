use mathlib.Core.Path.{◌∙◌}
use Rattle.arriving.specs.Runs.{arrive-change, arrive-take, arrive-second}
use Rattle.arriving.proofs.arrive_at.Goals as goal

pub returns-then-x : goal.returns-then-x
returns-then-x c = c.to_change.ensures ∙ arrive-change _ _ c.if-x.true

pub returns-then-x-2 : goal.returns-then-x-2
returns-then-x-2 c = c.to_take.ensures ∙ arrive-take _ _ c.if-x.false c.if-x-2.true

pub returns : goal.returns
returns c = c.to_second.ensures ∙ arrive-second _ _ c.if-x.false c.if-x-2.false

use Rattle.std.proofs.Common.{refl, rules}
use Rattle.card_days.specs.Loops.{check-no, check-more, check-end}
use Rattle.card_days.proofs.are_of_day.Goals as goal

pub loop-i-init : goal.loop-i-init
loop-i-init c = record { is = refl }

pub returns-then-not-is_of_day : goal.returns-then-not-is_of_day
returns-then-not-is_of_day c = check-no _ _ _ _ c.loop-i.invariant (search rules) (search rules)

pub loop-i-preserved : goal.loop-i-preserved
loop-i-preserved c = check-more _ _ _ _ c.loop-i.invariant (search rules) (search rules)

pub returns : goal.returns
returns c = check-end _ _ _ _ c.loop-i.invariant (search rules)

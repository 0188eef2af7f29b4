use Rattle.std.proofs.Common.{subst, arith, rules}
use Rattle.card_days.specs.Loops.{Walking, survey-short, survey-start, survey-more, survey-end}
use Rattle.card_days.proofs.survey.Goals as goal

pub returns-then-bytes-lt2 : goal.returns-then-bytes-lt2
returns-then-bytes-lt2 c = survey-short _ _ _ (search rules) (search rules)

pub loop-i-init : goal.loop-i-init
loop-i-init c = survey-start _ _ _ _ (search rules) c.word_at.ensures c.start-walk.ensures

pub loop-i-preserved : goal.loop-i-preserved
loop-i-preserved c = subst (Walking _ _ _) (omega arith) (survey-more _ _ _ _ _ _ (omega arith) c.word_at-in-loop-i.ensures c.loop-i.invariant c.pass-walk.ensures)

pub returns : goal.returns
returns c = survey-end _ _ _ _ _ (omega arith) c.loop-i.invariant c.end_stretch.ensures

use mathlib.Core.Path.{sym, ◌∙◌}
use native.Mathlib.Omega.{arith}
use Rattle.marks.specs.Steps.{met-not, met-new, new_in}
use Rattle.marks.proofs.meet.Goals as goal

pub returns-then-not-is_new : goal.returns-then-not-is_new
returns-then-not-is_new c = met-not _ _ _ _ _ (sym c.is_new.ensures ∙ c.if-not-is_new.true)

pub bounds-seen-i : goal.bounds-seen-i
bounds-seen-i c = let n = new_in _ _ _ _ (sym c.is_new.ensures ∙ c.if-not-is_new.false) in omega arith

pub overflow_sub-result : goal.overflow_sub-result
overflow_sub-result c = let n = new_in _ _ _ _ (sym c.is_new.ensures ∙ c.if-not-is_new.false) in omega arith

pub returns : goal.returns
returns c = met-new _ _ _ _ _ (sym c.is_new.ensures ∙ c.if-not-is_new.false)

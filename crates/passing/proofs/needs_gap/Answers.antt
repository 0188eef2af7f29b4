use mathlib.Core.Path.{◌∙◌, sym}
use borrow.Author.Tests.{eq-eqb, ne_eqb, not-false, not-true}
use borrow.Author.Rules.{rules}
use Rattle.passing.specs.Asked.{needs_gap}
use Rattle.passing.proofs.needs_gap.Goals as goal

pub returns-then-not-has_passed : goal.returns-then-not-has_passed
unfolding needs_gap
returns-then-not-has_passed c = simp (sym c.has_passed.ensures ∙ c.if-not-has_passed.true)

pub returns-then-n-after : goal.returns-then-n-after
unfolding needs_gap
returns-then-n-after c = simp (sym c.has_passed.ensures ∙ c.if-not-has_passed.false, ne_eqb _ _ c.if-n-after.true, sym c.after.ensures)

pub returns : goal.returns
unfolding needs_gap
returns c = simp (sym c.has_passed.ensures ∙ c.if-not-has_passed.false, eq-eqb _ _ c.if-n-after.false, sym c.has_passed-2.ensures, sym c.after.ensures)

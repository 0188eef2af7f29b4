use mathlib.Core.Path.{sym, ◌∙◌}
use Rattle.seniority.specs.Seniority.{is_numbered}
use Rattle.seniority.proofs.is_numbered.Goals as goal

pub returns-then-is_begun : goal.returns-then-is_begun
unfolding is_numbered
returns-then-is_begun c = simp (sym c.is_begun.ensures ∙ c.if-is_begun.true)

pub returns-else-is_begun : goal.returns-else-is_begun
unfolding is_numbered
returns-else-is_begun c = simp (c.if-is_begun.false, sym c.is_begun.ensures ∙ c.if-is_begun.false)

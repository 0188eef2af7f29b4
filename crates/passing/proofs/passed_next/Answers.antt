use mathlib.Core.Path.{sym, ◌∙◌}
use borrow.Author.Rules.{rules}
use Rattle.passing.proofs.Passing.{covers-same, covers_at}
use Rattle.passing.proofs.passed_next.Goals as goal

pub returns-then-is_covered : goal.returns-then-is_covered
returns-then-is_covered c = covers-same c.requires (sym c.is_covered.ensures ∙ c.if-is_covered.true)

pub returns : goal.returns
returns c = covers_at _ _ (search rules) c.passed_at.ensures

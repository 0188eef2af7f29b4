use mathlib.Core.Path.{sym, ◌∙◌}
use borrow.Author.Rules.{rules}
use Rattle.passing.proofs.Passing.{gap-wide, gap-none}
use Rattle.passing.proofs.gap_mask.Goals as goal

pub returns-then-n-after : goal.returns-then-n-after
returns-then-n-after c = gap-wide c.requires (λ e. c.if-n-after.true (e ∙ sym c.after.ensures))

pub returns-then-n-so : goal.returns-then-n-so
returns-then-n-so c = gap-none c.requires (c.if-n-after.false ∙ c.after.ensures) c.if-n-so.true

use borrow.Author.Tests.{eq-eqb, ne_eqb}
use Rattle.walking.proofs.splits.Goals as goal

pub returns-then-p-ne0 : goal.returns-then-p-ne0
returns-then-p-ne0 c = simp (ne_eqb _ _ c.if-p-ne0.true)

pub returns-else-p-ne0 : goal.returns-else-p-ne0
returns-else-p-ne0 c = simp (eq-eqb _ _ c.if-p-ne0.false)

use mathlib.Core.Path.{sym}
use borrow.Author.Rules.{rules}
use Rattle.holders.proofs.lone_unless.Goals as goal

-- The proof of `lone_unless`.
pub returns-then-agrees : goal.returns-then-agrees
returns-then-agrees c = simp (c.if-agrees.true)

pub returns : goal.returns
returns c = simp (c.if-agrees.false, sym c.lone.ensures)

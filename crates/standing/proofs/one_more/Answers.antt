use borrow.Author.Tests.{eq-eqb, ne_eqb}
use borrow.Author.Rules.{rules}
use Rattle.standing.specs.Standing.{one_more_of}
use Rattle.standing.proofs.one_more.Goals as goal

-- The proof of `one_more`.
pub returns-then-x-eq255 : goal.returns-then-x-eq255
unfolding one_more_of
returns-then-x-eq255 c = simp (eq-eqb _ _ c.if-x-eq255.true)

pub returns : goal.returns
unfolding one_more_of
returns c = simp (ne_eqb _ _ c.if-x-eq255.false)

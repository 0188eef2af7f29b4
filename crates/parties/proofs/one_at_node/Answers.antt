use borrow.Author.Tests.{eq-eqb, ne_eqb}
use Rattle.parties.specs.Parties.{one_at_node}
use Rattle.parties.proofs.one_at_node.Goals as goal

-- The proof of `one_at_node`.
pub returns-then-s : goal.returns-then-s
unfolding one_at_node
returns-then-s c = simp (eq-eqb _ _ c.if-s.true)

pub returns : goal.returns
unfolding one_at_node
returns c = simp (ne_eqb _ _ c.if-s.false)

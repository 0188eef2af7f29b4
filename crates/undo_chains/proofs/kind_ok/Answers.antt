use borrow.Author.Tests.{eq-eqb, ne_eqb}
use Rattle.undo_chains.specs.UndoChains.{kind_ok}
use Rattle.undo_chains.proofs.kind_ok.Goals as goal

-- The proof of `kind_ok`.
pub returns-then-kind-eq0 : goal.returns-then-kind-eq0
unfolding kind_ok
returns-then-kind-eq0 c = simp (eq-eqb _ _ c.if-kind-eq0.true)

pub returns : goal.returns
unfolding kind_ok
returns c = simp (ne_eqb _ _ c.if-kind-eq0.false)

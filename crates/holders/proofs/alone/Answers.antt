use mathlib.Core.Path.{sym}
use borrow.Author.Tests.{eq-eqb, ne_eqb}
use borrow.Author.Rules.{rules}
use Rattle.holders.specs.Holders.{alone}
use Rattle.holders.proofs.alone.Goals as goal

-- The proof of `alone`.
pub returns-then-a-eq0 : goal.returns-then-a-eq0
unfolding alone
returns-then-a-eq0 c = simp (eq-eqb _ _ c.if-a-eq0.true)

pub returns-then-b-eq0 : goal.returns-then-b-eq0
unfolding alone
returns-then-b-eq0 c = simp (ne_eqb _ _ c.if-a-eq0.false, eq-eqb _ _ c.if-b-eq0.true)

pub returns : goal.returns
unfolding alone
returns c = simp (ne_eqb _ _ c.if-a-eq0.false, ne_eqb _ _ c.if-b-eq0.false, sym c.lone.ensures)

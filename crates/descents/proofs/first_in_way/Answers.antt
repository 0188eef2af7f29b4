use mathlib.Core.Path.{sym}
use borrow.Author.Tests.{eq-eqb, ne_eqb}
use Rattle.descents.specs.Descents.{first_in_way}
use Rattle.descents.proofs.first_in_way.Goals as goal

pub returns-then-first-eq0 : goal.returns-then-first-eq0
unfolding first_in_way
returns-then-first-eq0 c = simp (eq-eqb _ _ c.if-first-eq0.true, sym c.in_way.ensures, sym c.in_way-first.ensures)

pub returns-else-first-eq0 : goal.returns-else-first-eq0
unfolding first_in_way
returns-else-first-eq0 c = simp (ne_eqb _ _ c.if-first-eq0.false, sym c.in_way-first.ensures)

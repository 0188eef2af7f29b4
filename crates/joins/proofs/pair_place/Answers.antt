use mathlib.Core.Path.{sym}
use borrow.Author.Tests.{eq-eqb, ne_eqb}
use Rattle.joins.specs.Joins.{pair_place}
use Rattle.joins.proofs.pair_place.Goals as goal

pub returns-then-i-eq0 : goal.returns-then-i-eq0
unfolding pair_place
returns-then-i-eq0 c = simp (eq-eqb _ _ c.if-i-eq0.true, sym c.find_son-i.ensures)

pub returns : goal.returns
unfolding pair_place
returns c = simp (ne_eqb _ _ c.if-i-eq0.false, sym c.find_son-i.ensures)

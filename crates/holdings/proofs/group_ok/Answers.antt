use mathlib.Core.Path.{◌∙◌, sym}
use borrow.Author.Tests.{eq-eqb, ne_eqb, not-false, not-true}
use borrow.Author.Rules.{rules}
use Rattle.holdings.specs.Holdings.{group_ok}
use Rattle.holdings.proofs.group_ok.Goals as goal

pub returns-then-not-holders_ok : goal.returns-then-not-holders_ok
unfolding group_ok
returns-then-not-holders_ok c = simp (sym c.holders_ok.ensures ∙ c.if-not-holders_ok.true)

pub returns-then-not-within : goal.returns-then-not-within
unfolding group_ok
returns-then-not-within c = simp (sym c.holders_ok.ensures ∙ c.if-not-holders_ok.false, sym c.within.ensures ∙ c.if-not-within.true)

pub returns-then-d-pins : goal.returns-then-d-pins
unfolding group_ok
returns-then-d-pins c = simp (sym c.holders_ok.ensures ∙ c.if-not-holders_ok.false, sym c.within.ensures ∙ c.if-not-within.false, ne_eqb _ _ c.if-d-pins.true, sym c.holders_ok.ensures)

pub returns-then-not-within-2 : goal.returns-then-not-within-2
unfolding group_ok
returns-then-not-within-2 c = simp (sym c.holders_ok.ensures ∙ c.if-not-holders_ok.false, sym c.within.ensures ∙ c.if-not-within.false, eq-eqb _ _ c.if-d-pins.false, sym c.within-2.ensures ∙ c.if-not-within-2.true, sym c.within.ensures, sym c.holders_ok.ensures)

pub returns : goal.returns
unfolding group_ok
returns c = simp (sym c.holders_ok.ensures ∙ c.if-not-holders_ok.false, sym c.within.ensures ∙ c.if-not-within.false, eq-eqb _ _ c.if-d-pins.false, sym c.within-2.ensures ∙ c.if-not-within-2.false, sym c.within-3.ensures, sym c.within.ensures, sym c.holders_ok.ensures)

use mathlib.Core.Path.{◌∙◌, sym}
use borrow.Author.Tests.{not-false, not-true}
use borrow.Author.Rules.{rules}
use Rattle.holders.specs.Holders.{holders_ok}
use Rattle.holders.proofs.holders_ok.Goals as goal

pub returns-then-not-within : goal.returns-then-not-within
unfolding holders_ok
returns-then-not-within c = simp (sym c.within.ensures ∙ c.if-not-within.true)

pub returns-then-not-within-2 : goal.returns-then-not-within-2
unfolding holders_ok
returns-then-not-within-2 c = simp (sym c.within.ensures ∙ c.if-not-within.false, sym c.within-2.ensures ∙ c.if-not-within-2.true)

pub returns : goal.returns
unfolding holders_ok
returns c = simp (sym c.within.ensures ∙ c.if-not-within.false, sym c.within-2.ensures ∙ c.if-not-within-2.false, sym c.agree.ensures)

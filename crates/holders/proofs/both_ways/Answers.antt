use mathlib.Core.Path.{◌∙◌, sym}
use borrow.Author.Tests.{not-false, not-true}
use borrow.Author.Rules.{rules}
use Rattle.holders.proofs.both_ways.Goals as goal

pub returns-then-not-agrees : goal.returns-then-not-agrees
returns-then-not-agrees c = simp (sym c.agrees.ensures ∙ c.if-not-agrees.true)

pub returns : goal.returns
returns c = simp (sym c.agrees.ensures ∙ c.if-not-agrees.false, sym c.agrees-2.ensures)

use mathlib.Core.Path.{◌∙◌, sym}
use borrow.Author.Tests.{not-false, not-true}
use borrow.Author.Rules.{rules}
use Rattle.holders.specs.Holders.{agree}
use Rattle.holders.proofs.agree.Goals as goal

pub returns-then-not-lone_unless : goal.returns-then-not-lone_unless
unfolding agree
returns-then-not-lone_unless c = simp (sym c.lone_unless.ensures ∙ c.if-not-lone_unless.true, sym c.agrees-w.ensures)

pub returns-then-not-lone_unless-2 : goal.returns-then-not-lone_unless-2
unfolding agree
returns-then-not-lone_unless-2 c = simp (sym c.lone_unless.ensures ∙ c.if-not-lone_unless.false, sym c.lone_unless-2.ensures ∙ c.if-not-lone_unless-2.true, sym c.agrees-s.ensures, sym c.lone_unless.ensures, sym c.agrees-w.ensures)

pub returns-then-both_ways : goal.returns-then-both_ways
unfolding agree
returns-then-both_ways c = simp (sym c.lone_unless.ensures ∙ c.if-not-lone_unless.false, sym c.lone_unless-2.ensures ∙ c.if-not-lone_unless-2.false, sym c.both_ways.ensures ∙ c.if-both_ways.true, sym c.agrees-s.ensures, sym c.lone_unless.ensures, sym c.agrees-w.ensures)

pub returns : goal.returns
unfolding agree
returns c = simp (sym c.lone_unless.ensures ∙ c.if-not-lone_unless.false, sym c.lone_unless-2.ensures ∙ c.if-not-lone_unless-2.false, sym c.both_ways.ensures ∙ c.if-both_ways.false, sym c.alone.ensures, sym c.lone_unless-2.ensures, sym c.agrees-s.ensures, sym c.lone_unless.ensures, sym c.agrees-w.ensures)

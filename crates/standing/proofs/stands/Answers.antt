use mathlib.Core.Path.{◌∙◌, sym}
use borrow.Author.Tests.{le-leb, lt-leb, ne_eqb, not-false, not-true, eq-eqb}
use borrow.Author.Rules.{rules}
use Rattle.marks.specs.Trail.{turned, turned-to}
use Rattle.standing.specs.Standing.{stands_at}
use Rattle.standing.proofs.stands.Goals as goal

pub returns-then-not-latch_ok : goal.returns-then-not-latch_ok
unfolding stands_at
returns-then-not-latch_ok c = turned (simp (sym c.latch_ok.ensures ∙ c.if-not-latch_ok.true))

pub returns-then-s : goal.returns-then-s
unfolding stands_at
returns-then-s c = turned (simp (sym c.latch_ok.ensures ∙ c.if-not-latch_ok.false, le-leb _ _ c.if-s.true))

pub returns-then-s-2 : goal.returns-then-s-2
unfolding stands_at
returns-then-s-2 c = turned-to c.change_stands.ensures (simp (sym c.latch_ok.ensures ∙ c.if-not-latch_ok.false, lt-leb _ _ c.if-s.false, le-leb _ _ c.if-s-2.true))

pub returns-then-s-3 : goal.returns-then-s-3
unfolding stands_at
returns-then-s-3 c = turned-to c.locate_stands.ensures (simp (sym c.latch_ok.ensures ∙ c.if-not-latch_ok.false, lt-leb _ _ c.if-s.false, lt-leb _ _ c.if-s-2.false, eq-eqb _ _ c.if-s-3.true))

pub returns : goal.returns
unfolding stands_at
returns c = turned (simp (sym c.latch_ok.ensures ∙ c.if-not-latch_ok.false, lt-leb _ _ c.if-s.false, lt-leb _ _ c.if-s-2.false, ne_eqb _ _ c.if-s-3.false, sym c.tidy_stands.ensures, sym c.latch_ok.ensures))

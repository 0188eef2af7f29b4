use borrow.Author.Tests.{eq-eqb, ne_eqb, not-true, not-false}
use borrow.Author.Rules.{rules}
use Rattle.marks.specs.Trail.{turned, turned_as, turned-to}
use Rattle.standing.specs.Standing.{locate_stands}
use Rattle.standing.proofs.Turns.{locate-both}
use Rattle.standing.proofs.locate_stands.Goals as goal

pub returns-then-s-2 : goal.returns-then-s-2
unfolding locate_stands
returns-then-s-2 c = turned (simp (ne_eqb _ _ c.if-s.true, eq-eqb _ _ c.if-s-2.true))

pub returns-then-s : goal.returns-then-s
unfolding locate_stands
returns-then-s c = turned-to c.count_pin.ensures (simp (ne_eqb _ _ c.if-s.true, ne_eqb _ _ c.if-s-2.false))

pub returns-then-not-count_pin : goal.returns-then-not-count_pin
unfolding locate_stands
returns-then-not-count_pin c = turned (simp (eq-eqb _ _ c.if-s.false, turned_as c.count_pin-2.ensures c.if-not-count_pin.true))

pub returns-then-s-3 : goal.returns-then-s-3
unfolding locate_stands
returns-then-s-3 c = turned (simp (eq-eqb _ _ c.if-s.false, turned_as c.count_pin-2.ensures c.if-not-count_pin.false, eq-eqb _ _ c.if-s-3.true))

pub returns : goal.returns
returns c = turned-to c.count_pin-3.ensures (locate-both _ _ _ _ _ _ c.if-s.false (turned_as c.count_pin-2.ensures c.if-not-count_pin.false) c.if-s-3.false)

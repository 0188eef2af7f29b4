use mathlib.Core.Path.{refl}
use native.Mathlib.Omega.{arith}
use borrow.Author.Rules.{rules}
use Rattle.marks.specs.Steps.{has_one}
use Rattle.lists.proofs.Turns.{undo-end, undo-out, undo-past, undo-bad, undo-more}
use Rattle.lists.proofs.undo_group.Goals as goal

pub loop-i-init : goal.loop-i-init
loop-i-init c = (refl, search rules, record { is = refl })

pub returns-then-more-eq0 : goal.returns-then-more-eq0
returns-then-more-eq0 c = undo-out c.loop-i.invariant.2 c.loop-i-test.true c.if-more-eq0.true

pub returns-then-r-i : goal.returns-then-r-i
returns-then-r-i c = undo-past c.loop-i.invariant.2 c.loop-i-test.true c.if-more-eq0.false c.if-r-i.true

pub undo_one-requires : goal.undo_one-requires
undo_one-requires c = let z = c.loop-i-test.true in let h = c.if-r-i.false in (has_one c.args.records.inside (omega arith, h), search rules, c.requires.1)

pub returns-then-not-undo_one : goal.returns-then-not-undo_one
returns-then-not-undo_one c = undo-bad c.loop-i.invariant.2 c.loop-i-test.true c.if-more-eq0.false c.if-r-i.false c.undo_one.ensures c.if-not-undo_one.true

pub loop-i-preserved : goal.loop-i-preserved
loop-i-preserved c = (search rules, omega arith, undo-more c.loop-i.invariant.2 c.loop-i-test.true c.if-more-eq0.false c.if-r-i.false c.undo_one.ensures c.if-not-undo_one.false c.filed-i.ensures)

pub returns : goal.returns
returns c = undo-end c.loop-i.invariant.2 c.loop-i-test.false

use mathlib.Core.Path.{refl}
use native.Mathlib.Omega.{arith}
use native.Mathlib.Numerals.{unary_clauses}
use borrow.Author.Rules.{rules}
use Rattle.marks.specs.Steps.{has_one}
use Rattle.standing.specs.Standing.{descend_from}
use Rattle.standing.proofs.Turns.{Sinking, sink-none, sink-past, sink-more, sink-end}
use Rattle.standing.proofs.descend.Goals as goal

pub loop-level-init : goal.loop-level-init
loop-level-init c = record { is = simp unary_clauses refl }

pub returns-then-at-eq0 : goal.returns-then-at-eq0
returns-then-at-eq0 c = sink-none c.loop-level.invariant (omega arith) c.if-at-eq0.true

pub returns-then-r-at : goal.returns-then-r-at
returns-then-r-at c = sink-past c.loop-level.invariant (omega arith) c.if-at-eq0.false c.if-r-at.true

pub load-n-requires : goal.load-n-requires
load-n-requires c = let n = c.if-at-eq0.false in let h = c.if-r-at.false in has_one c.args.records.inside (omega arith, h)

pub loop-level-preserved : goal.loop-level-preserved
loop-level-preserved c = sink-more c.loop-level.invariant (omega arith) c.if-at-eq0.false c.if-r-at.false c.load-n.ensures c.son_on-at.ensures (omega arith)

pub returns : goal.returns
returns c = sink-end c.loop-level.invariant (omega arith)

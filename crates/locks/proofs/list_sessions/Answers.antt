use native.Mathlib.Omega.{arith}
use Rattle.locks.proofs.Lowest.{turn, walk_start, walk_more, walk_end, walk_full}
use borrow.Author.Rules.{rules}
use Rattle.locks.proofs.list_sessions.Goals as goal

pub loop-n-init : goal.loop-n-init
loop-n-init c = walk_start _ (search rules)

pub returns-then-rest-eq0 : goal.returns-then-rest-eq0
returns-then-rest-eq0 c = walk_end c.loop-n.invariant c.if-rest-eq0.true

pub overflow_add-list : goal.overflow_add-list
overflow_add-list c = let t = turn c.loop-n.rest c.if-rest-eq0.false c.loop-n.invariant.fits in record { fits = omega (arith, t.within) }

pub overflow_shl-low : goal.overflow_shl-low
overflow_shl-low c = let t = turn c.loop-n.rest c.if-rest-eq0.false c.loop-n.invariant.fits in t.within

pub overflow_sub-rest : goal.overflow_sub-rest
overflow_sub-rest c = let t = turn c.loop-n.rest c.if-rest-eq0.false c.loop-n.invariant.fits in t.below

pub loop-n-preserved : goal.loop-n-preserved
loop-n-preserved c = walk_more c.loop-n.invariant c.if-rest-eq0.false

pub returns : goal.returns
returns c = walk_full c.loop-n.invariant (omega arith)

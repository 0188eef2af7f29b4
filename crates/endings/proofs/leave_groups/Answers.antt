use native.Mathlib.Omega.{arith}
use borrow.Author.Rules.{rules}
use Rattle.endings.proofs.Turns.{leaving-start, leaving-has, leaving-more, leaving-end, leaving-over}
use Rattle.endings.proofs.leave_groups.Goals as goal

pub loop-turn-init : goal.loop-turn-init
loop-turn-init c = leaving-start c.requires.0 (omega arith)

pub returns-then-d-eq0 : goal.returns-then-d-eq0
returns-then-d-eq0 c = leaving-end c.loop-turn.invariant c.if-d-eq0.true

pub word-next-requires : goal.word-next-requires
word-next-requires c = ((leaving-has c.loop-turn.invariant c.if-d-eq0.false).0, search rules)

pub leave_group-requires : goal.leave_group-requires
leave_group-requires c = ((leaving-has c.loop-turn.invariant c.if-d-eq0.false).0, c.requires.1)

pub loop-turn-preserved : goal.loop-turn-preserved
loop-turn-preserved c = leaving-more c.loop-turn.invariant c.if-d-eq0.false c.word-next.ensures c.leave_group.ensures (omega arith)

pub returns : goal.returns
returns c = leaving-over c.loop-turn.invariant (omega arith)

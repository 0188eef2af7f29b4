use native.Mathlib.Omega.{arith}
use Rattle.promises.specs.Naming.{take-holds, change-holds, conflict-take, conflict-first, conflict-change}
use borrow.Author.Rules.{rules}
use Rattle.stepping.proofs.conflict_word.Goals as goal

pub next_taken-d-requires : goal.next_taken-d-requires
next_taken-d-requires c = (c.requires.0.takes c.if-x.true).find

pub group_conflicts-requires : goal.group_conflicts-requires
group_conflicts-requires c = (take-holds _ _ _ _ _ c.requires.0 c.if-x.true c.next_taken-d.ensures, omega arith)

pub returns-then-x : goal.returns-then-x
returns-then-x c = conflict-take _ _ _ _ _ c.if-x.true c.next_taken-d.ensures c.group_conflicts.ensures

pub first_conflicts-requires : goal.first_conflicts-requires
first_conflicts-requires c = ((c.requires.0.early c.if-x.false).first c.if-x-2.true).held

pub returns-then-x-2 : goal.returns-then-x-2
returns-then-x-2 c = conflict-first _ _ _ _ _ c.if-x.false c.if-x-2.true c.first_conflicts.ensures

pub group_conflicts-requires-2 : goal.group_conflicts-requires-2
group_conflicts-requires-2 c = (change-holds _ _ _ _ _ c.requires.0 c.if-x.false c.if-x-2.false c.requires.1 c.requires.2, omega arith)

pub returns : goal.returns
returns c = conflict-change _ _ _ _ _ c.if-x.false c.if-x-2.false c.group_conflicts-2.ensures

use native.Mathlib.Omega.{arith}
use Rattle.promises.specs.Naming.{first-conflicts-read, first-conflicts-write, first-conflicts-none}
use borrow.Author.Rules.{rules}
use Rattle.stepping.proofs.first_conflicts.Goals as goal

pub entry_conflicts-requires : goal.entry_conflicts-requires
entry_conflicts-requires c = (c.requires (omega (arith, c.if-x.true)), omega arith)

pub returns-then-x : goal.returns-then-x
returns-then-x c = first-conflicts-read _ _ _ c.if-x.true c.entry_conflicts.ensures

pub entry_conflicts-requires-then-x-2 : goal.entry_conflicts-requires-then-x-2
entry_conflicts-requires-then-x-2 c = (c.requires c.if-x-2.true, omega arith)

pub returns-then-x-2 : goal.returns-then-x-2
returns-then-x-2 c = first-conflicts-write _ _ _ c.if-x.false c.if-x-2.true c.entry_conflicts-then-x-2.ensures

pub returns : goal.returns
returns c = first-conflicts-none _ _ _ c.if-x.false c.if-x-2.false

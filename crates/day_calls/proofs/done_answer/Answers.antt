use borrow.Author.Tests.{lt-ltb, le-ltb}
use borrow.Author.Rules.{rules}
use Rattle.day_calls.proofs.done_answer.Goals as goal

pub returns-then-next-n : goal.returns-then-next-n
returns-then-next-n c = simp (lt-ltb _ _ c.if-next-n.true)

pub returns : goal.returns
returns c = simp (le-ltb _ _ c.if-next-n.false)

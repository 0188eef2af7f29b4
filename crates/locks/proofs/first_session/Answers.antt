use native.Mathlib.Omega.{arith}
use Rattle.locks.proofs.Lowest.{turn, first-none, first_some}
use borrow.Author.Rules.{rules}
use Rattle.locks.proofs.first_session.Goals as goal

-- The proof of `first_session`.
pub returns-then-word-eq0 : goal.returns-then-word-eq0
returns-then-word-eq0 c = first-none _ c.if-word-eq0.true

pub overflow_add-result : goal.overflow_add-result
overflow_add-result c = let t = turn c.args.word c.if-word-eq0.false (search rules) in record { fits = omega (arith, t.within) }

pub returns : goal.returns
returns c = first_some _ c.if-word-eq0.false (search rules)

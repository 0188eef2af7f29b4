use lib.Bits.{and_le_l}
use Rattle.locks.proofs.Own.{left-own}
use borrow.Author.Rules.{rules}
use Rattle.locks.proofs.without_session.Goals as goal

pub overflow_sub-result : goal.overflow_sub-result
overflow_sub-result c = and_le_l _ _

pub returns : goal.returns
returns c = left-own c.args.word c.args.s (search rules) (search rules)

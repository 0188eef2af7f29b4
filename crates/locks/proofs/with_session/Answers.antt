use Rattle.locks.proofs.Own.{held-own}
use borrow.Author.Rules.{rules}
use Rattle.locks.proofs.with_session.Goals as goal

pub returns : goal.returns
returns c = held-own c.args.word c.args.s (search rules) (search rules)

use Rattle.locks.proofs.Own.{holds-own}
use borrow.Author.Rules.{rules}
use Rattle.locks.proofs.holds_session.Goals as goal

pub returns : goal.returns
returns c = holds-own c.args.word c.args.s (search rules) (search rules)

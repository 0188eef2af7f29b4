use borrow.Author.Rules.{rules}
use Rattle.store.proofs.begin_by_value.Goals as goal

pub returns : goal.returns
returns c = c.begin.ensures

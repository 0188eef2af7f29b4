use Rattle.batches.specs.Making.{behind-end, behind-place}
use borrow.Author.Rules.{rules}
use Rattle.batches.proofs.place_behind.Goals as goal

pub returns-then-len-from : goal.returns-then-len-from
returns-then-len-from c = behind-end _ _ _ c.if-len-from.true

pub returns : goal.returns
returns c = behind-place _ _ _ c.if-len-from.false

use borrow.Author.Rules.{rules}
use Rattle.running.proofs.place_of.Goals as goal

pub returns : goal.returns
returns c = (c.requires.1 c.if-from-eq0.false).1

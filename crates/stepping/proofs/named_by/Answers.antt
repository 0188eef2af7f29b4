use Rattle.promises.specs.Naming.{named-enter, named-at, named-long}
use borrow.Author.Rules.{rules}
use Rattle.stepping.proofs.named_by.Goals as goal

pub returns-then-x : goal.returns-then-x
returns-then-x c = named-enter _ _ _ _ _ _ _ c.if-x.true

pub returns-then-x-2 : goal.returns-then-x-2
returns-then-x-2 c = named-at _ _ _ _ _ _ _ c.if-x.false c.if-x-2.true

pub conflict_word-word-requires : goal.conflict_word-word-requires
conflict_word-word-requires c = (c.requires, c.if-x.false, c.if-x-2.false)

pub returns : goal.returns
returns c = named-long _ _ _ _ _ _ _ c.if-x.false c.if-x-2.false c.conflict_word-word.ensures c.eldest.ensures

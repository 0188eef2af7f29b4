use lib.Dec.{lit<}
use Rattle.leaving.specs.Words.{choice-none, choice-some}
use Rattle.leaving.proofs.choose.Goals as goal

-- The proof of `choose`.
pub returns-then-n-eq0 : goal.returns-then-n-eq0
returns-then-n-eq0 c = choice-none _ _ c.if-n-eq0.true

pub word-requires : goal.word-requires
word-requires c = (c.requires.has c.if-n-eq0.false, lit< tt)

pub returns : goal.returns
returns c = choice-some _ _ c.if-n-eq0.false c.word.ensures

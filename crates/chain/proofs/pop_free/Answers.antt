use lib.Dec.{lit<}
use Rattle.chain.specs.Free.{first-has, none-run, pop-run}
use Rattle.chain.proofs.pop_free.Goals as goal

pub returns-then-head-eq0 : goal.returns-then-head-eq0
returns-then-head-eq0 c = none-run _ c.free-head.ensures c.if-head-eq0.true

pub word-next-requires : goal.word-next-requires
word-next-requires c = (first-has c.requires c.free-head.ensures c.if-head-eq0.false, lit< tt)

pub returns : goal.returns
returns c =
    (c.free-head.ensures, pop-run _ _ c.free-head.ensures c.if-head-eq0.false c.word-next.ensures c.set_free.ensures)

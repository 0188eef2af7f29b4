use mathlib.Core.Path.{ap as by_ap, ◌∙◌}
use mathlib.Core.Bool.{not as negated}
use borrow.Author.Tests.{eq-eqb}
use Rattle.chain.specs.Free.{first-has}
use lib.Dec.{lit<}
use Rattle.changing.specs.Runs.{two_none, two-last}
use Rattle.changing.proofs.has_two.Goals as goal

pub word-requires : goal.word-requires
word-requires c = (first-has c.requires c.free-a.ensures c.if-a-ne0.true, lit< tt)

pub returns-then-a-ne0 : goal.returns-then-a-ne0
returns-then-a-ne0 c = two-last _ _ c.free-a.ensures c.if-a-ne0.true c.word.ensures

pub returns-else-a-ne0 : goal.returns-else-a-ne0
returns-else-a-ne0 c = by_ap negated (eq-eqb _ _ c.if-a-ne0.false) ∙ two_none _ _ c.free-a.ensures c.if-a-ne0.false

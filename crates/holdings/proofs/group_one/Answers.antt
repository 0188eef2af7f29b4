use mathlib.Core.Bool.{false}
use mathlib.Core.Path.{refl, sym, ◌∙◌}
use borrow.Author.Tests.{not-true, not-false}
use borrow.Author.Rules.{rules}
use Rattle.marks.specs.Trail.{ended-as, to-ends}
use Rattle.holdings.specs.Holdings.{group_one}
use Rattle.holdings.proofs.Turns.{descriptor-in}
use Rattle.holdings.proofs.group_one.Goals as goal

pub returns-then-not-descriptor_ok : goal.returns-then-not-descriptor_ok
unfolding group_one
returns-then-not-descriptor_ok c = ended-as {b = false} {n = c.args.left} (simp (sym c.descriptor_ok.ensures ∙ c.if-not-descriptor_ok.true))

pub walk_lists-requires : goal.walk_lists-requires
walk_lists-requires c = let k = descriptor-in _ _ _ _ _ _ _ (sym c.descriptor_ok.ensures ∙ c.if-not-descriptor_ok.false) in (c.requires.0, c.requires.2, k.0, k.1)

pub returns : goal.returns
unfolding group_one
returns c = to-ends c.walk_lists.ensures (simp (sym c.descriptor_ok.ensures ∙ c.if-not-descriptor_ok.false))

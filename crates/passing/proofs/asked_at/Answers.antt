use mathlib.Core.Path.{refl}
use borrow.Author.Rules.{rules}
use Rattle.passing.specs.Asked.{asked_at}
use Rattle.passing.proofs.Passing.{mask_at}
use Rattle.passing.proofs.asked_at.Goals as goal

pub returns : goal.returns
unfolding asked_at
returns c = rw (mask_at c.requires, c.gap_mask-gap.ensures) refl

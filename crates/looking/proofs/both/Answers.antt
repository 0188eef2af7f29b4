use mathlib.Core.Path.{refl}
use Rattle.looking.specs.Halves.{halves}
use borrow.Author.Rules.{rules}
use Rattle.looking.proofs.both.Goals as goal

pub returns : goal.returns
unfolding halves
returns c = refl

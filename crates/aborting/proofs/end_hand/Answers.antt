use mathlib.Core.Path.{◌∙◌}
use Rattle.aborting.specs.Words.{hand-none, hand-some}
use borrow.Author.Rules.{rules}
use Rattle.aborting.proofs.end_hand.Goals as goal

-- The proof of end_hand.
pub returns-then-x : goal.returns-then-x
returns-then-x c = hand-none _ _ _ c.if-x.true

pub end_request-requires : goal.end_request-requires
end_request-requires c = c.requires c.if-x.false

pub returns : goal.returns
returns c = c.end_request.ensures.0 ∙ hand-some _ _ _ c.if-x.false

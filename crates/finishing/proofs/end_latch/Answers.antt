use mathlib.Core.Path.{sym, ◌∙◌}
use Rattle.finishing.specs.Finishing.{latch-none, latch-some}
use Rattle.finishing.proofs.end_latch.Goals as goal

pub set_latch-requires : goal.set_latch-requires
set_latch-requires c = c.requires c.if-x.true

pub returns-then-x : goal.returns-then-x
returns-then-x c = c.set_latch.ensures ∙ sym (latch-some _ _ _ c.if-x.true)

pub returns-else-x : goal.returns-else-x
returns-else-x c = latch-none _ _ _ c.if-x.false

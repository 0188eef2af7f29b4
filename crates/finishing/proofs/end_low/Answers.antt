use mathlib.Core.Path.{sym, ◌∙◌}
use Rattle.finishing.specs.Finishing.{first-pins, low-none, low-some}
use Rattle.finishing.proofs.end_low.Goals as goal

pub unpin_at-requires : goal.unpin_at-requires
unpin_at-requires c = c.requires (first-pins _ c.has_pinned.ensures c.if-has_pinned.true)

pub returns-then-has_pinned : goal.returns-then-has_pinned
returns-then-has_pinned c = c.unpin_at.ensures ∙ sym (low-some _ _ _ (first-pins _ c.has_pinned.ensures c.if-has_pinned.true))

pub returns-else-has_pinned : goal.returns-else-has_pinned
returns-else-has_pinned c = low-none _ _ _ (first-pins _ c.has_pinned.ensures c.if-has_pinned.false)

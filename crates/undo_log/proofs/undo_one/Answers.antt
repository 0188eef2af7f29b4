use mathlib.Core.Path.{sym, ◌∙◌}
use borrow.Author.Rules.{rules}
use Rattle.undo_log.specs.Undoing.{one_value, one-added, one-taken}
use Rattle.undo_log.proofs.undo_one.Goals as goal

pub returns-in-1 : goal.returns-in-1
returns-in-1 c = c.undo_value.ensures ∙ sym (one_value _ _ _ (sym c.undo_kind.ensures ∙ c.in-1.is))

pub returns-in-2 : goal.returns-in-2
returns-in-2 c = c.undo_added.ensures ∙ sym (one-added c.args.store.now c.args.m c.args.i (search rules) (sym c.undo_kind.ensures ∙ c.in-2.is))

pub returns-in_default : goal.returns-in_default
returns-in_default c = c.undo_taken.ensures ∙ sym (one-taken c.args.store.now c.args.m c.args.i (search rules) (search rules))

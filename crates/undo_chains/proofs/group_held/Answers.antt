use mathlib.Core.Path.{◌∙◌, sym}
use borrow.Author.Tests.{eq-eqb, ne_eqb}
use Rattle.marks.specs.Steps.{has_one, met-in}
use Rattle.undo_chains.specs.UndoChains.{group_held}
use Rattle.undo_chains.proofs.group_held.Goals as goal

pub returns-then-not-is_met : goal.returns-then-not-is_met
unfolding group_held
returns-then-not-is_met c = simp (sym c.is_met.ensures ∙ c.if-not-is_met.true)

pub descriptor_key-requires : goal.descriptor_key-requires
descriptor_key-requires c = has_one c.args.records.inside (met-in _ _ _ _ (sym c.is_met.ensures ∙ c.if-not-is_met.false))

pub returns-then-descriptor_key-eq0 : goal.returns-then-descriptor_key-eq0
unfolding group_held
returns-then-descriptor_key-eq0 c = simp (sym c.is_met.ensures ∙ c.if-not-is_met.false, eq-eqb _ _ c.if-descriptor_key-eq0.true, sym c.descriptor_key.ensures)

pub descriptor_update-update-requires : goal.descriptor_update-update-requires
descriptor_update-update-requires c = has_one c.args.records.inside (met-in _ _ _ _ (sym c.is_met.ensures ∙ c.if-not-is_met.false))

pub returns : goal.returns
unfolding group_held
returns c = simp (sym c.is_met.ensures ∙ c.if-not-is_met.false, ne_eqb _ _ c.if-descriptor_key-eq0.false, sym c.holds_session.ensures, sym c.descriptor_update-update.ensures, sym c.descriptor_key.ensures, sym c.is_met.ensures)

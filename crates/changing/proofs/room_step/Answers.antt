use mathlib.Core.Path.{sym, ◌∙◌}
use Rattle.changing.specs.Runs.{room-yes, room-no}
use Rattle.changing.proofs.room_step.Goals as goal

pub add_step-requires : goal.add_step-requires
add_step-requires c = c.requires.adds (sym c.has_two-two.ensures ∙ c.if-two.true)

pub returns-then-two : goal.returns-then-two
returns-then-two c = room-yes _ _ _ _ _ _ _ c.has_two-two.ensures c.if-two.true c.add_step.ensures

pub returns : goal.returns
returns c = room-no _ _ _ _ _ _ _ c.has_two-two.ensures c.if-two.false c.refuse_step.ensures

use mathlib.Core.Path.{ap, ◌∙◌}
use lib.Dec.{eqb}
use Rattle.sound.specs.Sound.{Checked, is_sound}
use Rattle.sound.proofs.Turns.{is-none}
use Rattle.sound.proofs.is_sound.Goals as goal

pub returns : goal.returns
unfolding is_sound
returns c = c.is_ok.ensures.value ∙ is-none _ ∙ ap (λ (x : Checked). eqb x.fault 0) c.first_fault.ensures

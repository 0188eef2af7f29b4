use mathlib.Core.Path.{sym, ◌∙◌}
use borrow.Author.Rules.{rules}
use Rattle.soundness.specs.Exactly.{test-sound, sound-test}
use Rattle.soundness.proofs.is_sound.Goals as goal

pub returns : goal.returns
returns c = λ T. (λ e. test-sound _ _ T (sym c.is_sound.ensures ∙ e), λ D. c.is_sound.ensures ∙ sound-test _ _ T D)

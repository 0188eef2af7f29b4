use mathlib.Core.Path.{refl}
use Rattle.words.specs.Entries.{entry_word}
use Rattle.words.proofs.entry_word.Goals as goal

pub returns : goal.returns
unfolding entry_word
returns c = rw c.entry_place-at.ensures refl

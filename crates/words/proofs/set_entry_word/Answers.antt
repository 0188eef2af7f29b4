use mathlib.Core.Path.{refl}
use Rattle.words.specs.Entries.{put_entry_word}
use Rattle.words.proofs.set_entry_word.Goals as goal

pub returns : goal.returns
unfolding put_entry_word
returns c = rw c.entry_place-at.ensures refl

use Rattle.words.specs.Store.{word-lent}
use Rattle.words.proofs.set_word.Goals as goal

pub returns : goal.returns
returns c = word-lent _ _ _ _ _ c.requires.1 c.requires.0 c.base-at.ensures c.save_word.ensures

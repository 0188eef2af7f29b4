use Rattle.words.specs.Store.{lent-part}
use Rattle.words.proofs.record_words.Goals as goal

pub returns : goal.returns
returns c = lent-part c.base-at.ensures c.requires

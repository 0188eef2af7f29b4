use Rattle.words.specs.Store.{lent_back}
use Rattle.words.proofs.set_record_words.Goals as goal

pub returns : goal.returns
returns c = lent_back _ _ _ c.base-at.ensures c.save_words.ensures

use Rattle.reshaping.proofs.Laws.{insert-run}
use Rattle.reshaping.proofs.insert_son.Goals as goal

pub returns : goal.returns
returns c = insert-run _ _ _ _ _ c.insert_in.ensures c.insert_in-2.ensures

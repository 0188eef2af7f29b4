use Rattle.reshaping.proofs.Laws.{drop-run}
use Rattle.reshaping.proofs.drop_son.Goals as goal

pub returns : goal.returns
returns c = drop-run _ _ _ c.remove_in.ensures c.remove_in-2.ensures

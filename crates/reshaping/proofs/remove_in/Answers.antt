use Rattle.reshaping.proofs.Laws.{removed}
use Rattle.reshaping.proofs.remove_in.Goals as goal

pub returns : goal.returns
returns c = removed _ _ c.requires c.copy_within.ensures.after

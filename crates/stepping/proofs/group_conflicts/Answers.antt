use Rattle.promises.specs.Naming.{group-conflicts-run}
use borrow.Author.Rules.{rules}
use Rattle.stepping.proofs.group_conflicts.Goals as goal

pub returns : goal.returns
returns c = group-conflicts-run _ _ _ _ _ c.descriptor_locate-locate.ensures c.descriptor_update-update.ensures c.conflicting.ensures

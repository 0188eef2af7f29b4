use Rattle.promises.specs.Naming.{entry-conflicts-run}
use borrow.Author.Rules.{rules}
use Rattle.stepping.proofs.entry_conflicts.Goals as goal

pub returns : goal.returns
returns c = entry-conflicts-run _ _ _ _ c.entry_word-weak.ensures c.entry_word-strong.ensures c.conflicting.ensures

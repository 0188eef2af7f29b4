use Rattle.promises.specs.Ways.{recover-can, recover-run}
use borrow.Author.Rules.{rules}
use Rattle.accepted.proofs.recover.Goals as goal

pub recover_words-after-requires : goal.recover_words-after-requires
recover_words-after-requires c = recover-can _ _ c.requires c.entries-m.ensures c.records-r.ensures

pub returns : goal.returns
returns c = recover-run _ _ c.requires c.entries-m.ensures c.records-r.ensures c.recover_words-after.ensures

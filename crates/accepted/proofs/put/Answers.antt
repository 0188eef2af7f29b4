use Rattle.promises.specs.Ways.{any-party, put-can, put-run}
use borrow.Author.Rules.{rules}
use Rattle.accepted.proofs.put.Goals as goal

pub put_request-y-requires : goal.put_request-y-requires
put_request-y-requires c = put-can _ _ _ c.requires.0 c.entries-m.ensures c.records-r.ensures

pub settle-after-requires : goal.settle-after-requires
settle-after-requires c = any-party _ _ c.requires.1

pub returns : goal.returns
returns c = put-run _ _ _ _ _ _ _ c.requires.0 c.requires.1 c.entries-m.ensures c.records-r.ensures c.seat-x.ensures c.put_request-y.ensures c.settle-after.ensures

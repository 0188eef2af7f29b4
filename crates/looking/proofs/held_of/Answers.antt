use Rattle.looking.specs.Looking.{key-follow, key-found, held-run}
use borrow.Author.Rules.{rules}
use Rattle.looking.proofs.held_of.Goals as goal

pub last_upto-d-requires : goal.last_upto-d-requires
last_upto-d-requires c = key-follow _ c.entries-m.ensures c.records-r.ensures c.requires c.first-first.ensures

pub held_at-requires : goal.held_at-requires
held_at-requires c = key-found _ c.entries-m.ensures c.records-r.ensures _ c.requires c.first-first.ensures c.last_upto-d.ensures

pub returns : goal.returns
returns c = held-run _ c.entries-m.ensures c.records-r.ensures _ c.first-first.ensures c.last_upto-d.ensures c.held_at.ensures

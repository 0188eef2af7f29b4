use native.Mathlib.Omega.{arith}
use Rattle.looking.specs.Looking.{free_walk, count-few, count-run}
use borrow.Author.Rules.{rules}
use Rattle.looking.proofs.free_count.Goals as goal

pub count_members-requires : goal.count_members-requires
count_members-requires c = free_walk _ c.entries-m.ensures c.records-r.ensures c.requires c.free-first.ensures

pub overflow_cast-result : goal.overflow_cast-result
overflow_cast-result c = let h = count-few _ c.entries-m.ensures c.records-r.ensures c.requires c.free-first.ensures c.count_members.ensures in omega arith

pub returns : goal.returns
returns c = count-run _ c.entries-m.ensures c.records-r.ensures c.free-first.ensures c.count_members.ensures

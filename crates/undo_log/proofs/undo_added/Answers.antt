use Rattle.words.specs.Store.{has_kept}
use native.Mathlib.Omega.{arith}
use Rattle.undo_log.specs.Undoing.{added-run, added-member}
use Rattle.undo_log.proofs.undo_added.Goals as goal

pub take_member-requires : goal.take_member-requires
take_member-requires c = added-member c.requires c.load-u.ensures

pub push_free-requires : goal.push_free-requires
push_free-requires c = has_kept (added-member c.requires c.load-u.ensures).own (omega arith)

pub returns : goal.returns
returns c = added-run _ _ _ c.load-u.ensures c.take_member.ensures c.push_free.ensures c.push_free-2.ensures

use Rattle.undo_log.specs.Undoing.{taken-run, taken-group}
use Rattle.undo_log.proofs.undo_taken.Goals as goal

pub put_member-requires : goal.put_member-requires
put_member-requires c = taken-group c.requires c.load-u.ensures

pub returns : goal.returns
returns c = taken-run _ _ _ c.load-u.ensures c.put_member.ensures

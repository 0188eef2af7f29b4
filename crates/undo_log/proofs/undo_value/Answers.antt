use lib.Dec.{lit<}
use Rattle.undo_log.specs.Undoing.{value-run, value-entry}
use Rattle.undo_log.proofs.undo_value.Goals as goal

pub set_entry_word-requires : goal.set_entry_word-requires
set_entry_word-requires c = value-entry c.requires c.load-u.ensures

pub returns : goal.returns
returns c = value-run _ _ _ c.load-u.ensures c.set_entry_word.ensures c.push_free.ensures

use mathlib.Core.Path.{◌≡◌}
use lib.ListN.{length}
use Rattle.undos.specs.Undo.{undo_at}
use Rattle.marks.specs.Marks.{undo_mark}
use Rattle.marks.specs.Trail.{Going}
use Rattle.undo_chains.specs.UndoChains.{undos_from, undo_turn}
use Rattle.undo_chains.proofs.walk_undos.Given as goal

abbrev pub invariant-loop-i : goal.invariant-loop-i
invariant-loop-i l = (length l.seen ≡ length l.initial.seen) × (length l.files ≡ length l.initial.files) × Going _ (undos_from l.records.store.now l.records.m l.records.r l.p l.initial.seen l.initial.files l.first l.left) (λ j. (undo_at l.records.store.now l.records.m j).next) l.records.r undo_mark (undo_turn l.records.store.now l.records.m l.records.r l.p) l.seen l.files l.i l.more

abbrev pub decreases-loop-i : goal.decreases-loop-i
decreases-loop-i l = l.more

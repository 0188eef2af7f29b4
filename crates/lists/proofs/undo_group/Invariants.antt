use mathlib.Core.Path.{◌≡◌}
use Prim.Native.Nat.{◌≤◌}
use lib.ListN.{length}
use Rattle.lists.specs.Lists.{undo_from}
use Rattle.lists.proofs.Turns.{Undoing}
use Rattle.lists.proofs.undo_group.Given as goal

abbrev pub invariant-loop-i : goal.invariant-loop-i
invariant-loop-i l = (length l.lists ≡ length l.initial.lists) × (l.more ≤ l.records.r) × Undoing (undo_from l.records.store.now l.files l.records.m l.records.r l.d l.initial.lists l.first l.records.r) l.records.store.now l.files l.records.m l.records.r l.d l.lists l.i l.more

abbrev pub decreases-loop-i : goal.decreases-loop-i
decreases-loop-i l = l.more

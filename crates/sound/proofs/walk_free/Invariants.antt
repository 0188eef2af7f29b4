use mathlib.Core.Path.{◌≡◌}
use Prim.Native.Nat.{ℕ}
use lib.ListN.{length}
use Rattle.marks.specs.Trail.{Going}
use Rattle.marks.specs.Marks.{free_mark}
use Rattle.words.specs.Store.{word_of}
use Rattle.sound.specs.Sound.{free_from, free_turn}
use Rattle.sound.proofs.walk_free.Given as goal

abbrev pub invariant-loop-i : goal.invariant-loop-i
invariant-loop-i l = (length l.seen ≡ length l.initial.seen) × Going ℕ (free_from l.records.store.now l.records.m l.records.r l.initial.seen l.first l.left) (λ j. word_of l.records.store.now l.records.m j 0) l.records.r free_mark free_turn l.seen 0 l.i l.more

abbrev pub decreases-loop-i : goal.decreases-loop-i
decreases-loop-i l = l.more

use Prim.Native.Nat.{◌-◌}
use Rattle.undo_log.specs.Freeing.{FreedTo, free_chain}
use Rattle.undo_log.proofs.free_chain.Given as goal

abbrev pub invariant-loop-turn : goal.invariant-loop-turn
invariant-loop-turn l = FreedTo (free_chain l.initial.store l.m l.r l.i) l.store l.m (l.r - l._turn) l.at

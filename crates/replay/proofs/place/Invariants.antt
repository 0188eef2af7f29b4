use Rattle.replay.specs.Members.{Placing}
use Rattle.replay.proofs.place.Given as goal

abbrev pub invariant-loop-i : goal.invariant-loop-i
invariant-loop-i l = Placing l.keys l.entries l.count (l.key, l.entry) l.i

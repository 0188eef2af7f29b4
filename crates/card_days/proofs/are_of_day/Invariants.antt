use Rattle.card_days.specs.Loops.{Checking}
use Rattle.card_days.proofs.are_of_day.Given as goal

abbrev pub invariant-loop-i : goal.invariant-loop-i
invariant-loop-i l = Checking l.k0 l.pairs l.values l.i

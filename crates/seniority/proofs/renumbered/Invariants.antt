use Rattle.seniority.proofs.Turns.{Ranking}
use Rattle.seniority.proofs.renumbered.Given as goal

abbrev pub invariant-loop-p : goal.invariant-loop-p
invariant-loop-p l = Ranking l.t l.after l.p

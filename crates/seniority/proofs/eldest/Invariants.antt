use Rattle.seniority.specs.Seniority.{eldest_in}
use Rattle.seniority.proofs.Turns.{Finding}
use Rattle.seniority.proofs.eldest.Given as goal

abbrev pub invariant-loop-rest : goal.invariant-loop-rest
invariant-loop-rest l = Finding (eldest_in l.t l.word) l.t l.best l.rest

abbrev pub decreases-loop-rest : goal.decreases-loop-rest
decreases-loop-rest l = l.rest
